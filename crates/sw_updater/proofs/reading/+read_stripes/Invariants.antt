use Rattle.sw_updater.proofs.reading.+read_stripes.Given as goal

-- how many stripes are left
abbrev pub decreases-read_stripes : goal.decreases-read_stripes
decreases-read_stripes g l = l.count

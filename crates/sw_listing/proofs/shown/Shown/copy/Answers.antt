use Rattle.sw_listing.proofs.shown.Shown.copy.Goals as goal

pub new-requires : goal.new-requires
new-requires c = rw c.in_ok-copy-in-Subdir.ensures c.in-Subdir.rolled.is_text

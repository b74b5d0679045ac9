use Rattle.sw_updater.proofs.Over.{done-updates-end-records}
use Rattle.sw_updater.proofs.laws.done_updates_end_records.Goals as goal

pub returns : goal.returns
returns c = done-updates-end-records

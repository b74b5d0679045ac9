use Rattle.sw_sharded_listing.proofs.Leaving.{reads-leave-all}
use Rattle.sw_sharded_listing.proofs.laws.reads_leave_all.Goals as goal

pub returns : goal.returns
returns c = reads-leave-all

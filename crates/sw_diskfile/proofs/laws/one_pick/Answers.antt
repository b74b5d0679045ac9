use Rattle.sw_diskfile.proofs.Greatest.{one_pick}
use Rattle.sw_diskfile.proofs.laws.one_pick.Goals as goal

pub returns : goal.returns
returns c = one_pick

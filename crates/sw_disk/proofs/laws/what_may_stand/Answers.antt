use Rattle.sw_disk.proofs.Lives.{outlives}
use Rattle.sw_disk.proofs.laws.what_may_stand.Goals as goal

pub returns : goal.returns
returns c = λ s t steps ordered goes. outlives s ordered steps t goes

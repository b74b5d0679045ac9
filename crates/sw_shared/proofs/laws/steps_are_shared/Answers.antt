use Rattle.sw_shared.proofs.Sharing.{shares-steps}
use Rattle.sw_shared.proofs.laws.steps_are_shared.Goals as goal

pub returns : goal.returns
returns g c = shares-steps _ _ _ _ _

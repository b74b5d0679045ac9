use Rattle.sw_object_steps.proofs.Refusals.{transfer_is_refused}
use Rattle.sw_object_steps.proofs.laws.transfer_is_refused.Goals as goal

pub returns : goal.returns
returns c = transfer_is_refused

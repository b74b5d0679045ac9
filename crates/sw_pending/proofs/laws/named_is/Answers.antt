use Rattle.sw_pending.proofs.Naming.{named_is}
use Rattle.sw_pending.proofs.laws.named_is.Goals as goal

pub returns : goal.returns
returns c = named_is

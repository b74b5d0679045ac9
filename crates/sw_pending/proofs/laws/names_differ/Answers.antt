use Rattle.sw_pending.proofs.Naming.{names_differ}
use Rattle.sw_pending.proofs.laws.names_differ.Goals as goal

pub returns : goal.returns
returns c = names_differ

use Rattle.sw_pending_laws.proofs.Steady.{steady-step}
use Rattle.sw_pending_laws.proofs.laws.changes_keep_steady.Goals as goal

pub returns : goal.returns
returns c = steady-step

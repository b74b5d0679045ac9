use Rattle.sw_pending_laws.proofs.Plain.{plain-step}
use Rattle.sw_pending_laws.proofs.laws.plain_changes_come_from_clients.Goals as goal

pub returns : goal.returns
returns c = plain-step

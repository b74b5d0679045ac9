use Rattle.sw_object_server.proofs.OneOutcome.{has_one_date}
use Rattle.sw_object_server.proofs.laws.has_one_date.Goals as goal

pub returns : goal.returns
returns c = has_one_date

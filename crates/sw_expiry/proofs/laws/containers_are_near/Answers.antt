use Rattle.sw_expiry.proofs.QueueLaws.{containers-near}
use Rattle.sw_expiry.proofs.laws.containers_are_near.Goals as goal

pub returns : goal.returns
returns c = containers-near

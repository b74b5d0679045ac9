use Rattle.sw_machine.proofs.Runs.{were-sent}
use Rattle.sw_machine.proofs.laws.messages_were_sent.Goals as goal

pub returns : goal.returns
returns c = were-sent

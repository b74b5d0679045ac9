use Rattle.sw_machine.proofs.Runs.{sends}
use Rattle.sw_machine.proofs.laws.run_sends.Goals as goal

pub returns : goal.returns
returns c = sends

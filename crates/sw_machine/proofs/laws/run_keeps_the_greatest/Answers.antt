use Rattle.sw_machine.proofs.Runs.{keeps-the-greatest}
use Rattle.sw_machine.proofs.laws.run_keeps_the_greatest.Goals as goal

pub returns : goal.returns
returns c = keeps-the-greatest

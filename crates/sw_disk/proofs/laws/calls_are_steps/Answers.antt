use Rattle.sw_disk.proofs.Lives.{answers-are-steps, moments-are-steps}
use Rattle.sw_disk.proofs.laws.calls_are_steps.Goals as goal

pub returns-clause-moments : goal.returns-clause-moments
returns-clause-moments c = moments-are-steps

pub returns-clause-answers : goal.returns-clause-answers
returns-clause-answers c = answers-are-steps

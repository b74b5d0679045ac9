use Rattle.sw_pending.proofs.Marks.{marks_are_once}
use Rattle.sw_pending.proofs.laws.marks_are_once.Goals as goal

pub returns : goal.returns
returns c = marks_are_once

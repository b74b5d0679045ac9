use Rattle.sw_pending.proofs.Marks.{marks_add}
use Rattle.sw_pending.proofs.laws.marks_add.Goals as goal

pub returns : goal.returns
returns c = marks_add

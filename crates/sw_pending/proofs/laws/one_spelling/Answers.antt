use Rattle.sw_pending.proofs.Exact.{one_spelling}
use Rattle.sw_pending.proofs.laws.one_spelling.Goals as goal

pub returns : goal.returns
returns c = one_spelling

use Rattle.sw_cleave.proofs.Going as proofs
use Rattle.sw_cleave.proofs.laws.done_passes_go_on.Goals as goal

pub returns : goal.returns
returns c = proofs.done-passes-go-on

use Rattle.sw_fields.proofs.KeptItems.{keeps_the_last}
use Rattle.sw_fields.proofs.laws.keeps_the_last.Goals as goal

pub returns : goal.returns
returns c = keeps_the_last

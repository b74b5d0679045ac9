use Rattle.sw_rows.proofs.Merging.{keeps-the-greatest}
use Rattle.sw_rows.proofs.laws.keeps_the_greatest.Goals as goal

pub returns : goal.returns
returns c = keeps-the-greatest

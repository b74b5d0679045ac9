use Rattle.sw_rows.proofs.Merging.{numbers-rise}
use Rattle.sw_rows.proofs.laws.numbers_rise.Goals as goal

pub returns : goal.returns
returns c = numbers-rise

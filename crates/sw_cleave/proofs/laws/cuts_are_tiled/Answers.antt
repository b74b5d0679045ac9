use Rattle.sw_cleave.proofs.Tiling as proofs
use Rattle.sw_cleave.proofs.laws.cuts_are_tiled.Goals as goal

pub returns : goal.returns
returns c = proofs.cuts-are-tiled

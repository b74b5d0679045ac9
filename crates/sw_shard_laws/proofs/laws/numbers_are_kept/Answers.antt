use Rattle.sw_shard_laws.proofs.Points.{numbers-kept}
use Rattle.sw_shard_laws.proofs.laws.numbers_are_kept.Goals as goal

pub returns : goal.returns
returns c = numbers-kept

use Rattle.sw_sharded_listing.proofs.Whole.{parts-are-in-turn}
use Rattle.sw_sharded_listing.proofs.laws.parts_are_in_turn.Goals as goal

pub returns : goal.returns
returns c = parts-are-in-turn

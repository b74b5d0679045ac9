use Rattle.sw_shared.proofs.Turning.{seen-joins}
use Rattle.sw_shared.proofs.laws.what_was_seen_is_joined.Goals as goal

pub returns : goal.returns
returns g c = seen-joins g.V.Volume.tells g.V.Volume.holds g.V.Volume.faults

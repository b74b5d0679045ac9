use Rattle.sw_shared.proofs.Turning.{seen-stays}
use Rattle.sw_shared.proofs.laws.what_was_seen_stays.Goals as goal

pub returns : goal.returns
returns g c = seen-stays g.V.Volume.tells g.V.Volume.holds g.V.Volume.faults

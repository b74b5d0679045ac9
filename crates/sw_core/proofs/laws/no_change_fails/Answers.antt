use Rattle.sw_core.specs.Worlds.{keeper_seen}
use Rattle.sw_core.proofs.Sound.{no-change-fails}
use Rattle.sw_core.proofs.laws.no_change_fails.Goals as goal

pub returns : goal.returns
returns g c = let v = g.V.Volume in
    let k = g.K.Keeper in
    no-change-fails v.tells v.holds v.faults (keeper_seen k.tells k.holds k.faults)

use Rattle.sw_core.specs.Worlds.{keeper_seen}
use Rattle.sw_core.proofs.Anew.{restarts}
use Rattle.sw_core.proofs.laws.lifting_restarts.Goals as goal

pub returns : goal.returns
returns g c = λ old mid new device given up sets.
    let v = g.V.Volume in
    let k = g.K.Keeper in
    restarts v.tells v.holds v.faults (keeper_seen k.tells k.holds k.faults) old mid new device given up.whole up.is_device up sets

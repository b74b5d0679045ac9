use Rattle.sw_cluster.proofs.Lasting.{serving-leaves-sound, sessions-leave-sound}
use Rattle.sw_core.specs.Worlds.{keeper_seen}
use Rattle.sw_cluster.proofs.laws.commands_stay_sound.Goals as goal

pub returns-clause-sessions : goal.returns-clause-sessions
returns-clause-sessions g c = λ ring.
    let v = g.S.V.Volume in let k = g.S.K.Keeper in
    sessions-leave-sound v.tells v.holds v.faults (keeper_seen k.tells k.holds k.faults) g.S.Stores.first ring

pub returns-clause-serving : goal.returns-clause-serving
returns-clause-serving g c = λ ring.
    let v = g.S.V.Volume in let k = g.S.K.Keeper in
    serving-leaves-sound v.tells v.holds v.faults (keeper_seen k.tells k.holds k.faults) g.S.Stores.first ring

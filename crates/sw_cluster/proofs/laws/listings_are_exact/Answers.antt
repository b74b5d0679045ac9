use Rattle.sw_cluster.proofs.Shown.{serving-shows, session-shows}
use Rattle.sw_core.specs.Worlds.{keeper_seen}
use Rattle.sw_cluster.proofs.laws.listings_are_exact.Goals as goal

pub returns-clause-sessions : goal.returns-clause-sessions
returns-clause-sessions g c = λ ring.
    let v = g.S.V.Volume in let k = g.S.K.Keeper in
    session-shows v.tells v.holds v.faults (keeper_seen k.tells k.holds k.faults) ring g.S.Stores.first

pub returns-clause-serving : goal.returns-clause-serving
returns-clause-serving g c = λ ring.
    let v = g.S.V.Volume in let k = g.S.K.Keeper in
    serving-shows v.tells v.holds v.faults (keeper_seen k.tells k.holds k.faults) ring g.S.Stores.first

use Rattle.sw_cluster.proofs.Composing.{objects-compose, tables-compose}
use Rattle.sw_core.specs.Worlds.{keeper_seen}
use Rattle.sw_cluster.proofs.laws.commands_compose.Goals as goal

pub returns-clause-objects : goal.returns-clause-objects
returns-clause-objects g c = λ ring.
    let v = g.S.V.Volume in let k = g.S.K.Keeper in
    objects-compose v.tells v.holds v.faults (keeper_seen k.tells k.holds k.faults) g.S.Stores.first ring

pub returns-clause-tables : goal.returns-clause-tables
returns-clause-tables g c = λ ring.
    let v = g.S.V.Volume in let k = g.S.K.Keeper in
    tables-compose v.tells v.holds v.faults (keeper_seen k.tells k.holds k.faults) g.S.Stores.first ring

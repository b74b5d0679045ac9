use Rattle.sw_cluster.proofs.Composing.{runs-lead, serving-leads}
use Rattle.sw_core.specs.Worlds.{keeper_seen}
use Rattle.sw_cluster.proofs.laws.commands_lead.Goals as goal

pub returns-clause-sessions : goal.returns-clause-sessions
returns-clause-sessions g c = λ ring.
    let v = g.S.V.Volume in let k = g.S.K.Keeper in
    runs-lead v.tells v.holds v.faults (keeper_seen k.tells k.holds k.faults) g.S.Stores.first ring

pub returns-clause-serving : goal.returns-clause-serving
returns-clause-serving g c = λ ring.
    let v = g.S.V.Volume in let k = g.S.K.Keeper in
    serving-leads v.tells v.holds v.faults (keeper_seen k.tells k.holds k.faults) g.S.Stores.first ring

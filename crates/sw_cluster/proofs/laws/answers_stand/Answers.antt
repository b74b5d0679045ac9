use Rattle.sw_cluster.proofs.Answered.{answers-stand}
use Rattle.sw_cluster.proofs.AnsweredRuns.{session-answers-stand}
use Rattle.sw_core.specs.Worlds.{keeper_seen}
use Rattle.sw_cluster.proofs.laws.answers_stand.Goals as goal

pub returns-clause-sessions : goal.returns-clause-sessions
returns-clause-sessions g c = λ ring.
    let v = g.S.V.Volume in let k = g.S.K.Keeper in
    session-answers-stand v.tells v.holds v.faults (keeper_seen k.tells k.holds k.faults) ring c.asks_for_one.ensures c.asks_for_one-2.ensures g.S.Stores.first

pub returns-clause-serving : goal.returns-clause-serving
returns-clause-serving g c = λ ring.
    let v = g.S.V.Volume in let k = g.S.K.Keeper in
    answers-stand v.tells v.holds v.faults (keeper_seen k.tells k.holds k.faults) ring c.asks_for_one.ensures c.asks_for_one-2.ensures g.S.Stores.first

use Rattle.std.proofs.Common.{inl, inr}
use Rattle.sw_cluster.proofs.Connecting.{answers-containers}
use Rattle.sw_cluster.proofs.connection.DoorServer.contain.Goals as goal

pub returns-in-Ok-clause-answers : goal.returns-in-Ok-clause-answers
returns-in-Ok-clause-answers g c =
    answers-containers g.D.Door.sight c.args.self.now.ring.now c.args.self.now.door.now c.answer.new.door c.args.request.now c.args._now c.in-Ok.response
    c.requires.nodes c.requires.no_replicas c.requires.containers (inl c.in-Ok.ensures.ok)

pub returns-in-Err-clause-answers : goal.returns-in-Err-clause-answers
returns-in-Err-clause-answers g c =
    answers-containers g.D.Door.sight c.args.self.now.ring.now c.args.self.now.door.now c.answer.new.door c.args.request.now c.args._now c.bare.result
    c.requires.nodes c.requires.no_replicas c.requires.containers (inr (c.bare.ensures, c.in-Err.ensures.err))

use Rattle.std.proofs.Common.{sym, subst}
use Rattle.sw_ring.specs.declared.ring.Ring.{Ring}
use Rattle.sw_cluster.proofs.Connecting.{ready-on}
use Rattle.sw_nodes.specs.Nodes.{AreNodesOf}
use Rattle.sw_cluster.proofs.connection.DoorServerServer.answer.Goals as goal

pub returns-in-Ok-false-clause-ready : goal.returns-in-Ok-false-clause-ready
returns-in-Ok-false-clause-ready g c =
    subst (λ (r : Ring). AreNodesOf r (g.D.Door.sight c.compare.new.self.door.now).nodes) (sym c.compare.ensures.same.0)
    (ready-on g.D.Door.sight c.args.self.now.ring.now c.args.self.now.door.now c.compare.new.self.door.now c.args.request c.args.now c.compare.result
    c.requires.ready c.compare.ensures.answers)

pub returns-in-Ok-false-2-clause-ready : goal.returns-in-Ok-false-2-clause-ready
returns-in-Ok-false-2-clause-ready g c =
    subst (λ (r : Ring). AreNodesOf r (g.D.Door.sight c.contain.new.self.door.now).nodes) (sym c.contain.ensures.same.0)
    (ready-on g.D.Door.sight c.args.self.now.ring.now c.args.self.now.door.now c.contain.new.self.door.now c.args.request c.args.now c.contain.result
    c.requires.ready c.contain.ensures.answers)

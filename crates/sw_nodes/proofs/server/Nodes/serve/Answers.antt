use Rattle.sw_core.specs.Worlds.{keeper_seen}
use Rattle.sw_nodes.proofs.Serving.{answered_on, gave_up, left_on, served}
use Rattle.sw_nodes.proofs.server.Nodes.serve.Goals as goal

pub returns-in-Ok-clause-ready : goal.returns-in-Ok-clause-ready
returns-in-Ok-clause-ready g c =
    answered_on g.S.V.Volume.tells g.S.V.Volume.holds g.S.V.Volume.faults (keeper_seen g.S.K.Keeper.tells g.S.K.Keeper.holds g.S.K.Keeper.faults) g.S.Stores.out
    c.args.self.now.ring.now c.args.self.now.network.door
    c.answer.new.door c.args.self.now.stores.now c.args.request c.args.now c.in-Ok.response c.requires.ready c.in-Ok.ensures.ok

pub returns-in-Ok-clause-served : goal.returns-in-Ok-clause-served
returns-in-Ok-clause-served g c =
    served g.S.V.Volume.tells g.S.V.Volume.holds g.S.V.Volume.faults (keeper_seen g.S.K.Keeper.tells g.S.K.Keeper.holds g.S.K.Keeper.faults) g.S.Stores.faults
    g.S.Stores.calls g.S.Stores.out c.args.self.now.ring.now
    c.args.self.now.network.door c.answer.new.door c.args.self.now.stores c.args.request c.args.now c.in-Ok.response c.requires.nodes c.requires.no_replicas
    c.requires.objects c.requires.ready
    c.in-Ok.ensures.ok

pub returns-in-Err-clause-ready : goal.returns-in-Err-clause-ready
returns-in-Err-clause-ready g c =
    left_on g.S.V.Volume.tells g.S.V.Volume.holds g.S.V.Volume.faults (keeper_seen g.S.K.Keeper.tells g.S.K.Keeper.holds g.S.K.Keeper.faults) g.S.Stores.out
    c.args.self.now.ring.now c.args.self.now.network.door
    c.answer.new.door c.args.self.now.stores.now c.args.request c.args.now c.requires.ready c.in-Err.ensures.err

pub returns-in-Err-clause-served : goal.returns-in-Err-clause-served
returns-in-Err-clause-served g c =
    gave_up g.S.V.Volume.tells g.S.V.Volume.holds g.S.V.Volume.faults (keeper_seen g.S.K.Keeper.tells g.S.K.Keeper.holds g.S.K.Keeper.faults) g.S.Stores.faults
    g.S.Stores.calls g.S.Stores.out c.args.self.now.ring.now
    c.args.self.now.network.door c.answer.new.door c.args.self.now.stores c.args.request c.args.now c.bare.result c.requires.nodes c.requires.no_replicas
    c.requires.objects c.requires.ready c.bare.ensures
    c.in-Err.ensures.err

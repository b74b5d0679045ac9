use Rattle.sw_core.specs.Worlds.{keeper_seen}
use Rattle.sw_nodes.proofs.Replicating.{unanswered}
use Rattle.sw_nodes.proofs.server.NodesServer.answer.Goals as goal

pub returns-in-Err-clause-served : goal.returns-in-Err-clause-served
returns-in-Err-clause-served g c =
    unanswered g.S.V.Volume.tells g.S.V.Volume.holds g.S.V.Volume.faults (keeper_seen g.S.K.Keeper.tells g.S.K.Keeper.holds g.S.K.Keeper.faults)
    g.S.Stores.faults g.S.Stores.calls g.S.Stores.out c.args.self.now.ring.now
    c.args.self.now.network.door c.args.self.now.stores c.args.request c.args.now c.bare.result c.requires.ready c.bare.ensures

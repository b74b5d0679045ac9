use Rattle.sw_core.specs.Worlds.{keeper_seen}
use Rattle.sw_nodes.proofs.Contained.{places-fit}
use Rattle.sw_nodes.proofs.Updating.{ring-nodes}
use Rattle.sw_nodes.proofs.server.Nodes.push_rows.Goals as goal

pub push_rows_over-requires-clause-fits : goal.push_rows_over-requires-clause-fits
push_rows_over-requires-clause-fits g c = places-fit g.S.Stores.out c.args.self.now.ring.now c.args.self.now.network.door c.args.self.now.stores.now
    c.requires.ready c.args.asked.now.place c.requires.placed.3

pub push_rows_over-requires-clause-ring : goal.push_rows_over-requires-clause-ring
push_rows_over-requires-clause-ring g c =
    ring-nodes g.S.V.Volume.tells g.S.V.Volume.holds g.S.V.Volume.faults (keeper_seen g.S.K.Keeper.tells g.S.K.Keeper.holds g.S.K.Keeper.faults) g.S.Stores.out
    c.args.self.now.ring.now c.args.self.now.network.door c.args.self.now.stores.now c.requires.ready

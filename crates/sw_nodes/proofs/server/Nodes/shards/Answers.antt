use Rattle.sw_nodes.proofs.Contained.{places-fit}
use Rattle.sw_nodes.proofs.server.Nodes.shards.Goals as goal

pub sharding-read-requires-clause-fits : goal.sharding-read-requires-clause-fits
sharding-read-requires-clause-fits g c = places-fit g.S.Stores.out c.args.self.now.ring.now c.args.self.now.network.door c.args.self.now.stores.now
    c.requires.ready c.args.asked.now.place c.requires.placed.1

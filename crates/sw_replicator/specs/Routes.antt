-- Where a push goes. (This project's own.)
use Rattle.std.specs.Prelude.{◌<◌, ◌^◌}
use Rattle.sw_peer.specs.Sights.{Nodes}
use Rattle.sw_replicator.specs.declared.route.Route.{Route}

-- both devices are nodes, and the partition is one
pub record Leads (nodes : Nodes) (route : Route) : Type 0 where
  pub from : route.from < nodes.devices
  pub to : route.to < nodes.devices
  pub part : route.part < 2 ^ nodes.power

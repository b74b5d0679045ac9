use Rattle.sw_container_server.proofs.AtKeepers.{asks_at_keepers}
use Rattle.sw_container_server.proofs.laws.asks_at_keepers.Goals as goal

pub returns : goal.returns
returns c = asks_at_keepers

use Rattle.sw_container_server.proofs.OneAsking.{asks_for_one}
use Rattle.sw_container_server.proofs.laws.asks_for_one.Goals as goal

pub returns : goal.returns
returns c = asks_for_one

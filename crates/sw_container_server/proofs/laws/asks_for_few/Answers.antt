use Rattle.sw_container_server.proofs.Few.{asks_for_few}
use Rattle.sw_container_server.proofs.laws.asks_for_few.Goals as goal

pub returns : goal.returns
returns c = asks_for_few

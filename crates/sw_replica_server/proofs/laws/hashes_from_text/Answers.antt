use Rattle.sw_replica_server.proofs.Telling.{hashes_from_text}
use Rattle.sw_replica_server.proofs.laws.hashes_from_text.Goals as goal

pub returns : goal.returns
returns c = hashes_from_text

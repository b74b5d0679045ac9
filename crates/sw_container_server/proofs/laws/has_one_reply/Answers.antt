use Rattle.sw_container_server.proofs.OneReply.{has_one_reply}
use Rattle.sw_container_server.proofs.laws.has_one_reply.Goals as goal

pub returns : goal.returns
returns c = has_one_reply

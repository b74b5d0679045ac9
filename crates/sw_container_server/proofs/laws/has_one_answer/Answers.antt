use Rattle.sw_container_server.proofs.OneAnswer.{has_one_answer}
use Rattle.sw_container_server.proofs.laws.has_one_answer.Goals as goal

pub returns : goal.returns
returns g c = has_one_answer g.D.Door.sight

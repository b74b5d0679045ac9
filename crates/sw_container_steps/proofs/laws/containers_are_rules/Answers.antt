use Rattle.sw_container_steps.proofs.Ruling.{are-rules}
use Rattle.sw_container_steps.proofs.laws.containers_are_rules.Goals as goal

pub returns : goal.returns
returns c = are-rules

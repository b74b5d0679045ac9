use Rattle.sw_object_steps.proofs.Ruling.{are-rules}
use Rattle.sw_object_steps.proofs.laws.objects_are_rules.Goals as goal

pub returns : goal.returns
returns c = are-rules

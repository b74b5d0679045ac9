-- What is promised of the rules of objects. (This project's own.)
use Rattle.sw_object_steps.specs.Rules.{obj_rules}
use Rattle.sw_step.specs.Rules.{AreRules}

abbrev pub ObjectsAreRules : Type 0
ObjectsAreRules = AreRules obj_rules

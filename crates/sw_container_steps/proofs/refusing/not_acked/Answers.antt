use Rattle.std.proofs.Common.{rules, tests, ◌∙◌, not}
use Rattle.std.proofs.lemmas.Iterator.{YieldsList-from_slice}
use Rattle.std.proofs.lemmas.Iterator.Search.{find_from_yields_List}
use Rattle.sw_container_steps.specs.Steps.{has_point}
use Rattle.sw_container_steps.proofs.refusing.not_acked.Goals as goal

pub returns : goal.returns
returns c =
    c.copied.ensures
    ∙ find_from_yields_List (λ device. not (has_point c.args.points.now c.args.range c.args.rowid device)) _ _ c.find.result c.find.ensures.ran
    (YieldsList-from_slice c.args.devices.now cc) (λ x b q k. search (rules, tests))

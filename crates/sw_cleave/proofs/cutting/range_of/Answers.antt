use Rattle.std.proofs.Common.{◌∙◌, ap, Err}
use Rattle.sw_hashpath.specs.declared.name_error.NameError.{NameError}
use Rattle.sw_cleave.proofs.cutting.range_of.Goals as goal

pub returns-in-Err-Bad : goal.returns-in-Err-Bad
returns-in-Err-Bad c =
    let bad = c.in-Err-Bad.field-0-0 in
    (bad, (c.shard_name.ensures.bad bad).0 (c.in-Err-Bad.is ∙ ap (λ (e : NameError). Err e) c.in-Err-Bad.field-0-is))

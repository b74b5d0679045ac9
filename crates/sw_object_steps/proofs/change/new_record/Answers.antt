use Rattle.std.proofs.Common.{◌∙◌, ap, Some}
use Rattle.sw_hashpath.specs.declared.name.Name.{Name}
use Rattle.sw_pending.specs.Records.{new_record}
use Rattle.sw_object_steps.proofs.change.new_record.Goals as goal

pub returns : goal.returns
returns c = ap Some (c.new.ensures ∙ ap (λ (n : Name). new_record n c.args.time) c.in_ok-copy.ensures)

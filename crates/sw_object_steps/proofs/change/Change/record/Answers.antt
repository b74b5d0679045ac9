use Rattle.std.proofs.Common.{◌≡◌, List, [], ◌∷◌, ap, Option, Some, Result, Ok, Err, IfOk}
use Rattle.std.specs.Option.{option_to_list}
use Rattle.sw_outside.specs.declared.errors.NoMemory.{NoMemory}
use Rattle.sw_pending.specs.Records.{new_record}
use Rattle.sw_pending.specs.declared.filed.Filed.{Filed}
use Rattle.sw_object_steps.proofs.change.Change.record.Goals as goal

one-filed : (r : Result (Option Filed) NoMemory) (filed : Filed) → IfOk r (λ o. o ≡ Some filed) → IfOk r (λ o. option_to_list o ≡ filed ∷ [])
one-filed (Ok o) filed is = ap option_to_list is
one-filed (Err wanting) filed is = tt

pub returns-in-Put-clause-filed : goal.returns-in-Put-clause-filed
returns-in-Put-clause-filed c = rw (c.in-Put.is) (one-filed c.new_record.result (new_record c.args.name.now c.in-Put.time) c.new_record.ensures)

pub returns-in-Delete-clause-filed : goal.returns-in-Delete-clause-filed
returns-in-Delete-clause-filed c =
    rw (c.in-Delete.is) (one-filed c.new_record-in-Delete.result (new_record c.args.name.now c.in-Delete.time) c.new_record-in-Delete.ensures)

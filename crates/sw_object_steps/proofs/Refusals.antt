-- What is refused, and what that says of what stands.
use Rattle.std.proofs.Common.{◌≡◌, Bool, true, false, Some, None, if◌then◌else◌, refl, sym, ◌∙◌}
use Rattle.sw_state.proofs.StateTests.{new_changes}
use Rattle.sw_state.specs.Writes.{tag_of}
use Rattle.sw_object_steps.proofs.Answering.{allowed-new, outline-new, refused-held}
use Rattle.sw_object_steps.specs.OutlineLaws.{AllowedChanges, OutlineTells, TransferIsRefused}
use Rattle.sw_object_steps.specs.Outlines.{is_new_to, outline_of}
use Rattle.sw_object_steps.specs.Steps.{latest_time, write_of}
use Rattle.sw_object_steps.specs.declared.answer.Answer.{Answer}
use Rattle.sw_object_steps.specs.declared.answer.Answer.TheVariants as answers

pub outline_tells : OutlineTells
outline_tells s time tag = outline-new s time tag

pub allowed_changes : AllowedChanges
allowed_changes s change writes allowed same = apart (sym ((new_changes s (write_of change)).1 same) ∙ allowed-new s change writes allowed)
  where
    apart : false ≡ true → ⊥
    apart is = cc

pub transfer_is_refused : TransferIsRefused
transfer_is_refused s w = (
  (λ refused. refused-held s w refused.0 refused.1),
  (λ same. by (is_new_to (outline_of s) w.time (tag_of w.kind)) (outline-new s w.time (tag_of w.kind) ∙ (new_changes s w).1 same)),
)
  where
    by : (b : Bool) → b ≡ false → (answer : Answer) × ((if b then None else Some (answers.Conflict (latest_time (outline_of s) (tag_of w.kind)))) ≡ Some answer)
    by true is = absurd (apart is)
      where
        apart : true ≡ false → ⊥
        apart same = cc
    by false is = (answers.Conflict (latest_time (outline_of s) (tag_of w.kind)), refl)

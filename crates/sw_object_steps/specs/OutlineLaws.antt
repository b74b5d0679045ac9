-- What is promised of outlines and refusals. (This project's own.)
use Rattle.std.specs.Prelude.{◌≡◌, ◌≢◌, ◌↔◌, ℕ, true, Some, None}
use Rattle.sw_state.specs.States.{is_new, joined}
use Rattle.sw_state.specs.declared.state.State.{State}
use Rattle.sw_state.specs.declared.write.Write.{Write}
use Rattle.sw_timestamp.specs.declared.tag.Tag.{Tag}
use Rattle.sw_object_steps.specs.Outlines.{is_new_to, outline_of}
use Rattle.sw_object_steps.specs.Recorded.{is_write}
use Rattle.sw_object_steps.specs.Steps.{refusal_of, write_of}
use Rattle.sw_object_steps.specs.declared.answer.Answer.{Answer}
use Rattle.sw_object_steps.specs.declared.change.Change.{Change}
use Rattle.sw_object_steps.specs.declared.change.Change.TheVariants.{Receive}

-- the names of a state's files tell whether a write changes it
abbrev pub OutlineTells : Type 0
OutlineTells = (s : State) (time : ℕ) (tag : Tag) → is_new_to (outline_of s) time tag ≡ is_new s time tag

-- a write that isn't refused changes what stands
abbrev pub AllowedChanges : Type 0
AllowedChanges = (s : State) (change : Change) → is_write change ≡ true → refusal_of s change ≡ None → joined s (write_of change) ≢ s

-- a transfer is refused exactly where its write would change nothing
abbrev pub TransferIsRefused : Type 0
TransferIsRefused = (s : State) (w : Write) → ((answer : Answer) × (refusal_of s (Receive w) ≡ Some answer)) ↔ (joined s w ≡ s)

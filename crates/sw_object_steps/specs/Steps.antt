-- What a step makes of what stands, and what it is answered. (OpenStack Swift's object server. The answers at equal times, that a
-- deletion may ask for the second of expiry, and what a transfer is answered are this project's own.)
--
-- All of it is told by an outline and the second of expiry, so a directory of file names and a whole state share it.
use Rattle.std.specs.Prelude.{ℕ, Bool, true, false, not, ◌&&◌, max, nat_lt, if◌then◌else◌, Option, None, Some}
use Rattle.std.specs.Option.{option_map_or}
use Rattle.sw_state.specs.Metas.{Meta}
use Rattle.sw_state.specs.Writes.{tag_of}
use Rattle.sw_state.specs.declared.base.Base.{Base}
use Rattle.sw_state.specs.declared.base.Base.TheVariants as bases
use Rattle.sw_state.specs.declared.state.State.{State}
use Rattle.sw_state.specs.declared.write.Kind.TheVariants as kinds
use Rattle.sw_state.specs.declared.write.Write.{Write}
use Rattle.sw_timestamp.specs.declared.tag.Tag.{Tag}
use Rattle.sw_timestamp.specs.declared.tag.Tag.TheVariants as tags
use Rattle.sw_object_steps.specs.Outlines.{has_object, is_new_to, outline_of, shown_time, standing_expiry, standing_time, tombstone_time}
use Rattle.sw_object_steps.specs.declared.answer.Answer.{Answer}
use Rattle.sw_object_steps.specs.declared.answer.Answer.TheVariants as answers
use Rattle.sw_object_steps.specs.declared.change.Change.{Change}
use Rattle.sw_object_steps.specs.declared.change.Change.TheVariants.{Put, Post, Delete, Receive, MarkRecord, DropRecord}
use Rattle.sw_object_steps.specs.declared.change.StepKind.{StepKind}
use Rattle.sw_object_steps.specs.declared.change.StepKind.TheVariants as step_kinds
use Rattle.sw_object_steps.specs.declared.got.Got.{Got}
use Rattle.sw_object_steps.specs.declared.got.Got.TheVariants as gots
use Rattle.sw_object_steps.specs.declared.outline.Outline.{Outline}

-- the write that the step adds where it isn't refused. One at a record adds none, and nothing asks for it
abbrev pub write_of : Change → Write
write_of (Put time content none_match) = record { time = time; kind = kinds.Put content }
write_of (Post time heads) = record { time = time; kind = kinds.Meta heads }
write_of (Delete time if_delete_at) = record { time = time; kind = kinds.Del }
write_of (Receive write) = write
write_of (MarkRecord filed device) = record { time = filed.time; kind = kinds.Del }
write_of (DropRecord filed all) = record { time = filed.time; kind = kinds.Del }

abbrev pub time_in : Change → ℕ
time_in change = (write_of change).time

abbrev pub tag_in : Change → Tag
tag_in change = tag_of (write_of change).kind

abbrev pub step_kind : Change → StepKind
step_kind (Put time content none_match) = step_kinds.Put
step_kind (Post time heads) = step_kinds.Post
step_kind (Delete time if_delete_at) = step_kinds.Delete
step_kind (Receive write) = step_kinds.Receive
step_kind (MarkRecord filed device) = step_kinds.MarkRecord
step_kind (DropRecord filed all) = step_kinds.DropRecord

-- ---- refusals

-- a step at this time over what stands since that time
abbrev pub conflict : Option ℕ → ℕ → Option Answer
conflict None time = None
conflict (Some standing) time = if nat_lt standing time then None else Some (answers.Conflict standing)

abbrev pub put_refusal : Outline → ℕ → Bool → Option Answer
put_refusal o time none_match = if none_match && has_object o then Some answers.Exists else conflict (standing_time o) time

abbrev pub post_refusal : Outline → ℕ → Option Answer
post_refusal o time = if has_object o then conflict (shown_time o) time else Some (answers.NotFound (tombstone_time o))

-- a second tombstone at or before the first
abbrev pub burial_refusal : Option ℕ → ℕ → Option Answer
burial_refusal None time = None
burial_refusal (Some buried) time = if nat_lt buried time then None else Some (answers.NotFound (Some buried))

abbrev pub plain_deletion_refusal : Outline → ℕ → Option Answer
plain_deletion_refusal o time =
    if has_object o then conflict (standing_time o) time else burial_refusal (tombstone_time o) time

-- whether the object expires at this second
abbrev pub expires_at : Option ℕ → ℕ → Bool
expires_at None second = false
expires_at (Some expiry) second = not (nat_lt expiry second) && not (nat_lt second expiry)

abbrev pub expiry_refusal : Option ℕ → ℕ → Option Answer
expiry_refusal expiry second = if expires_at expiry second then None else Some (answers.Mismatch expiry)

-- a deletion of what expires at this second: first whether anything stands, then the time, then the second
abbrev pub expiring_deletion_refusal : Option ℕ → Option ℕ → ℕ → ℕ → Option Answer
expiring_deletion_refusal None expiry time second = Some (answers.NotFound None)
expiring_deletion_refusal (Some standing) expiry time second =
    if nat_lt standing time then expiry_refusal expiry second else Some (answers.Conflict standing)

abbrev pub deletion_refusal : Outline → Option ℕ → ℕ → Option ℕ → Option Answer
deletion_refusal o expiry time None = plain_deletion_refusal o time
deletion_refusal o expiry time (Some second) = expiring_deletion_refusal (standing_time o) expiry time second

-- the later of what stands: of data or tombstone alone, or of these and the metadata
abbrev pub latest_time : Outline → Tag → ℕ
latest_time o tags.Put = option_map_or (λ t. t) (standing_time o) 0
latest_time o tags.Del = option_map_or (λ t. t) (standing_time o) 0
latest_time o tags.Meta = max (option_map_or (λ t. t) (standing_time o) 0) (option_map_or (λ t. t) o.meta 0)

-- a write that would change nothing
abbrev pub transfer_refusal : Outline → ℕ → Tag → Option Answer
transfer_refusal o time tag = if is_new_to o time tag then None else Some (answers.Conflict (latest_time o tag))

-- how what stands refuses the step; none where the step is made
abbrev pub refusal_by : Outline → Option ℕ → Change → Option Answer
refusal_by o expiry (Put time content none_match) = put_refusal o time none_match
refusal_by o expiry (Post time heads) = post_refusal o time
refusal_by o expiry (Delete time if_delete_at) = deletion_refusal o expiry time if_delete_at
refusal_by o expiry (Receive write) = transfer_refusal o write.time (tag_of write.kind)
refusal_by o expiry (MarkRecord filed device) = None
refusal_by o expiry (DropRecord filed all) = None

abbrev pub refusal_of : State → Change → Option Answer
refusal_of s change = refusal_by (outline_of s) (standing_expiry s) change

abbrev pub asks_expiry_after : Option ℕ → Option ℕ → ℕ → Bool
asks_expiry_after None if_delete_at time = false
asks_expiry_after (Some standing) None time = false
asks_expiry_after (Some standing) (Some second) time = nat_lt standing time

-- whether the step has to read what stands: only there the second of expiry decides
abbrev pub asks_expiry : Outline → Change → Bool
asks_expiry o (Put time content none_match) = false
asks_expiry o (Post time heads) = false
asks_expiry o (Delete time if_delete_at) = asks_expiry_after (standing_time o) if_delete_at time
asks_expiry o (Receive write) = false
asks_expiry o (MarkRecord filed device) = false
asks_expiry o (DropRecord filed all) = false

-- ---- answers

abbrev pub deletion_answer : Bool → ℕ → Answer
deletion_answer true front = answers.Done front
deletion_answer false front = answers.Buried front

-- what a write that is made is answered, with this front
abbrev pub made_answer : Outline → Change → ℕ → Answer
made_answer o (Put time content none_match) front = answers.Done front
made_answer o (Post time heads) front = answers.Done front
made_answer o (Delete time if_delete_at) front = deletion_answer (has_object o) front
made_answer o (Receive write) front = answers.Done front
made_answer o (MarkRecord filed device) front = answers.Done front
made_answer o (DropRecord filed all) front = answers.Done front

-- whether the answer says that the write was entered
abbrev pub is_entered : Answer → Bool
is_entered (answers.Done front) = true
is_entered (answers.Buried front) = true
is_entered answer = false

-- how many entries a step adds for its own write, by its answer: they come last. One at a record has none
abbrev pub own_by : Answer → ℕ
own_by answer = if is_entered answer then 1 else 0

-- whether the answer says that the device's state has the write
abbrev pub is_held : Change → Answer → Bool
is_held change (answers.Done front) = true
is_held change (answers.Buried front) = true
is_held (Receive write) (answers.Conflict time) = true
is_held change answer = false

-- what stands as a read shows it
abbrev pub got_beside : Option Base → Option Meta → ℕ → Got
got_beside None meta front = gots.NotFound None
got_beside (Some (bases.Del time)) meta front = gots.NotFound (Some time)
got_beside (Some (bases.Put time content)) None front = gots.Found time content content.heads front
got_beside (Some (bases.Put time content)) (Some meta) front = gots.Found (max time meta.0) content meta.1 front

-- what a read of a state gets, with this front
abbrev pub got_of : State → ℕ → Got
got_of s front = got_beside s.base s.meta front

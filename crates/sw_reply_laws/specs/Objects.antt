-- What a reply to a write of an object says of what stands. (The statuses are those of OpenStack Swift's object server; the rest is this project's own.)
use Rattle.std.specs.Prelude.{◌≡◌, ℕ, ◌≤◌, ◌==◌, ◌||◌, Bool, true, [], ◌∷◌, Option, None, Some, ◌⊎◌}
use Rattle.std.specs.Option.{option_map}
use Rattle.sw_message.specs.declared.response.Response.{Response}
use Rattle.sw_object_server.specs.Replies.{at_time}
use Rattle.sw_state.specs.Bases.{base_time}
use Rattle.sw_state.specs.States.{IsAtLeast, state_of}
use Rattle.sw_state.specs.Writes.{tag_of}
use Rattle.sw_state.specs.declared.state.State.{State}
use Rattle.sw_state.specs.declared.write.Write.{Write}
use Rattle.sw_timestamp.specs.declared.tag.Tag.{Tag}
use Rattle.sw_timestamp.specs.declared.tag.Tag.TheVariants as tags

-- whether a status tells that a write was made: it created something, was accepted, or has nothing to tell
abbrev pub tells_made : ℕ → Bool
tells_made status = (status == 201) || ((status == 202) || (status == 204))

-- or that it wasn't, since what stands is as late
abbrev pub tells_of_write : ℕ → Bool
tells_of_write status = tells_made status || (status == 409)

-- a time is there, and it is this one or later
abbrev pub IsSince : Option ℕ → ℕ → Type 0
IsSince None time = ⊥
IsSince (Some since) time = time ≤ since

-- data or a tombstone stands of this time or later
abbrev pub HasBaseSince : State → ℕ → Type 0
HasBaseSince s time = IsSince (option_map base_time s.base) time

-- metadata does
abbrev pub HasMetaSince : State → ℕ → Type 0
HasMetaSince s time = IsSince (option_map (λ m. m.0) s.meta) time

-- what stands is of this time or later: for a write of metadata, that may be metadata
abbrev pub IsAsLate : State → Tag → ℕ → Type 0
IsAsLate s tags.Put time = HasBaseSince s time
IsAsLate s tags.Del time = HasBaseSince s time
IsAsLate s tags.Meta time = HasBaseSince s time ⊎ HasMetaSince s time

-- What stands bears out a reply to a write. Where the reply tells that the write was made, what stands has it: joining it would change nothing. Where it is
-- a 409, it shows a time that isn't earlier than the write's, and what stands is of that time or later
pub record BearsOut (response : Response) (w : Write) (s : State) : Type 0 where
  pub made : tells_made response.status ≡ true → IsAtLeast s (state_of (w ∷ []))
  pub late : response.status ≡ 409 → (time : ℕ) × (response ≡ at_time 409 time) × (w.time ≤ time) × IsAsLate s (tag_of w.kind) time

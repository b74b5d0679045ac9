-- What is known of a device after a write was sent to it. (This project's own.)
use Rattle.std.specs.Prelude.{◌≡◌, ℕ, Bool, true, false, Result, Ok, Err}
use Rattle.sw_hashpath.specs.declared.name.Name.{Name}
use Rattle.sw_object_steps.specs.Journals.{Hash}
use Rattle.sw_object_steps.specs.Rules.{ObjHistory, obj_rules}
use Rattle.sw_object_steps.specs.declared.answer.Answer.{Answer}
use Rattle.sw_object_steps.specs.declared.answer.Answer.TheVariants as answers
use Rattle.sw_object_steps.specs.declared.change.Change.TheVariants.{Receive}
use Rattle.sw_peer.specs.Sights.{Calls, IsMade, Sight}
use Rattle.sw_peer.specs.declared.link.Link.TheVariants.{Sent}
use Rattle.sw_peer.specs.declared.link.Lost.{Lost}
use Rattle.sw_state.specs.States.{joined}
use Rattle.sw_state.specs.declared.state.State.{State}
use Rattle.sw_state.specs.declared.write.Write.{Write}
use Rattle.sw_step.specs.Rules.{stands}

abbrev pub is_acknowledgement : Answer → Bool
is_acknowledgement (answers.Done front) = true
is_acknowledgement (answers.Conflict time) = true
is_acknowledgement answer = false

-- whether an answer came that says that the device has the write
abbrev pub acknowledges : Result Answer Lost → Bool
acknowledges (Ok answer) = is_acknowledgement answer
acknowledges (Err lost) = false

-- the write was sent in one message, and this says whether what was heard acknowledges it
abbrev pub IsSent : Sight → ℕ → Name → Write → Bool → Sight → Type 0
IsSent old device name w acknowledged new =
    (heard : Result Answer Lost) × Calls (IsMade Sent device name (Receive w)) old Sent heard new × (acknowledged ≡ acknowledges heard)

-- the state that a hash stands for by the entries of a lock. Doubts that are not settled don't count
abbrev pub state_by : ObjHistory → Hash → State
state_by h hash = (stands obj_rules h hash).state

-- what is known of the device has the write
abbrev pub Acknowledged : Sight → ℕ → Hash → Write → Type 0
Acknowledged s device hash w = (s.objects.seen (s.nodes.lock device hash)).told ≡ true
    → joined (state_by (s.objects.seen (s.nodes.lock device hash)) hash) w ≡ state_by (s.objects.seen (s.nodes.lock device hash)) hash

-- where the door is alone the device holds what it held, and the write
abbrev pub HeldBy : Sight → Sight → ℕ → Hash → Write → Type 0
HeldBy old new device hash w = new.alone ≡ true → (new.objects.seen (new.nodes.lock device hash)).told ≡ true
    → new.objects.holds device hash ≡ record (old.objects.holds device hash) { state = joined (old.objects.holds device hash).state w }

-- What a step of the value under a lock is to who had seen less of it: a step all the same. (This project's own.)
use Rattle.std.specs.Prelude.{◌≡◌, ℕ, Bool, true}
use Rattle.sw_hashpath.specs.declared.secrets.Secrets.{Secrets}
use Rattle.sw_history.specs.Halves.{GrowsOf}
use Rattle.sw_object_steps.specs.Histories.{ReadsObject}
use Rattle.sw_object_steps.specs.Journals.{Hash}
use Rattle.sw_object_steps.specs.Rules.{ObjHistory}
use Rattle.sw_object_steps.specs.Values.{ObjValue}
use Rattle.sw_object_steps.specs.declared.got.Got.{Got}
use Rattle.sw_shared.specs.Turning.{HasSeen, ObjView}
use Rattle.sw_step.specs.Journals.{StepHistory}
use Rattle.sw_step.specs.Rules.{RulesOf}
use Rattle.sw_step.specs.Steps.{StepChanges}
use Rattle.sw_turn.specs.Known.{later}
use Rattle.sw_volume.specs.Tree.{Folders}

-- A step from h, which the lock has, is one from what was seen of it before, which has grown into h. What the keys held is told where the one who saw it is
-- alone, and then that was all that the lock has.
abbrev pub SharedSteps : Type 0 → Type 0 → Type 0 → Type 0 → Type 0 → Type 0
SharedSteps K V E C A = (r : RulesOf K V E C A) (alone : Bool) (seen h : StepHistory K V E) (held s : K → V) (key : K) (change : C) (answer : A)
    (g : StepHistory K V E) (t : V) → GrowsOf seen h → (alone ≡ true → (seen ≡ h) × (held ≡ s)) → StepChanges r true h s key change answer g t
    → StepChanges r alone seen held key change answer g t

-- the same of a read of a name under an object lock
abbrev pub SharedReads : Type 0
SharedReads = (alone : Bool) (seen h : ObjHistory) (hash : Hash) (got : Got) (g : ObjHistory) (t : Hash → ObjValue) → GrowsOf seen h
    → (alone ≡ true → seen ≡ h) → ReadsObject true h hash got g t → ReadsObject alone seen hash got g t

-- ---- what passes have seen

module _ {V : Type 0} (tells : V → Bool) (files : V → Folders) (faults : V → ℕ) where
  -- what a pass has seen it has seen still where it knows the same: also where it owns other numbers, as after numbers were given away
  abbrev pub SeenStays : Type 0
  SeenStays = (secrets : Secrets) (power : ℕ) (v w : ObjView V) → HasSeen tells files faults secrets power v → w.known ≡ v.known
      → HasSeen tells files faults secrets power w

  -- and a pass that was joined of two has seen what the later of them had
  abbrev pub SeenJoins : Type 0
  SeenJoins = (secrets : Secrets) (power : ℕ) (u v w : ObjView V) → HasSeen tells files faults secrets power u → HasSeen tells files faults secrets power v
      → w.known ≡ later u.known v.known → HasSeen tells files faults secrets power w

-- One kind of lock at all devices, with what became known at each: what steps, reads and restarts make of it, whatever the locks keep. (This project's own.)
use Rattle.std.specs.Prelude.{◌≡◌, ◌≢◌, ℕ, Bool, true, ◌&&◌, List, [], ◌∷◌, ◌++◌, map, nat_eq, if◌then◌else◌}
use Rattle.sw_history.specs.Halves.{Half, HalfMoves, HalfRestarts}
use Rattle.sw_step.specs.Rules.{CanStand, RulesOf}
use Rattle.sw_step.specs.Steps.{Look, StepChanges, StepReads, added_by}

-- N what a step makes known
pub record Side (K V E N : Type 0) : Type 0 where
  pub half : Half K V E (List E)
  pub known : List (ℕ × N)  -- all that reached the devices, in order, each with its device. Of a step that stopped: what was made of it

-- the side at which nothing has happened but what is known of the locks
abbrev pub side_of : {K V E N : Type 0} → Half K V E (List E) → Side K V E N
side_of half = record { half = half; known = [] }

-- of what became known that of one key at one device, as X of it
abbrev pub known_at : {K N X : Type 0} → (K → K → Bool) → (N → K) → (N → X) → ℕ → K → List (ℕ × N) → List X
known_at is_key key_in part device key [] = []
known_at is_key key_in part device key (x ∷ xs) =
    if nat_eq x.0 device && is_key (key_in x.1) key then part x.1 ∷ known_at is_key key_in part device key xs
    else known_at is_key key_in part device key xs

-- the same key of the same device
abbrev pub IsKeyAt : {K : Type 0} → ℕ → K → ℕ → K → Type 0
IsKeyAt device key d other = (d ≡ device) × (other ≡ key)

-- whether the lock of a key at a device tells its contents, where `lock` tells which that is
abbrev pub TellsAt : {K V E N : Type 0} → (ℕ → K → ℕ) → Side K V E N → ℕ → K → Type 0
TellsAt lock m device key = (m.half.seen (lock device key)).told ≡ true

-- each lock of a device begins anew with what stands there
pub record SideRestarts {K V E N : Type 0} (lock : ℕ → K → ℕ) (m : Side K V E N) (device : ℕ) (after : Side K V E N) : Type 0 where
  pub half : HalfRestarts lock true device m.half after.half
  pub known : after.known ≡ m.known

-- A step tells of all keys under its lock, which holds `held` of them: where nobody else changes the device, that is what the device holds
abbrev pub IsHeld : {K V : Type 0} → (K → ℕ) → ℕ → (K → V) → (K → V) → Type 0
IsHeld {K} lock l held holds = (key : K) → lock key ≡ l → held key ≡ holds key

module _ {K V E C A N : Type 0} (r : RulesOf K V E C A) (lock : ℕ → K → ℕ) where
  -- a step that may change something: it was answered so, added these entries, and made known what `news` tells of what was made of it
  pub record SideMakes (m : Side K V E N) (device : ℕ) (key : K) (change : C) (answer : A) (added : List E) (news : List E → List N) (after : Side K V E N)
      : Type 0 where
    pub moves : HalfMoves lock true (IsKeyAt device key) m.half after.half
    pub held : K → V
    pub is_held : IsHeld (lock device) (lock device key) held (m.half.holds device)
    pub step : StepChanges r true (m.half.seen (lock device key)) held key change answer (after.half.seen (lock device key)) (after.half.holds device key)
    pub added_is : added ≡ added_by r step
    pub known : after.known ≡ m.known ++ map (λ n. (device, n)) (news step.made)

  -- A read of the keys `at` under one lock: it settles those of their doubts that it touches, and `reading` tells which answers are right. It got this, and
  -- added these entries
  pub record SideReads {B : Type 0} (m : Side K V E N) (device l : ℕ) (at : K → Bool) (touched : List E → Bool) (look : B → Look)
      (reading : (K → V) → ℕ → B → Type 0) (got : B) (added : List E) (after : Side K V E N) : Type 0 where
    pub held : K → V
    pub is_held : IsHeld (lock device) l held (after.half.holds device)
    pub step : StepReads r true (m.half.seen l) at touched look reading got (after.half.seen l) held
    pub added_is : added ≡ step.follows.entries.0
    pub elsewhere : (other : ℕ) → other ≢ l → after.half.seen other ≡ m.half.seen other
    pub holds : (d : ℕ) (key : K) → after.half.holds d key ≡ m.half.holds d key
    pub known : after.known ≡ m.known

  -- a device holds under a key what the entries tell, with those of its doubts that were made
  abbrev pub CanStandAt : Side K V E N → ℕ → K → Type 0
  CanStandAt m device key = CanStand r (m.half.seen (lock device key)) key (m.half.holds device key)

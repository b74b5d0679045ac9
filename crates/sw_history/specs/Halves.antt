-- What is known of a lock, whatever it keeps: a value V under each key K, by entries E and doubts D. The locks of objects and those of
-- containers are two uses of it. (This project's own.)
use Rattle.std.specs.Prelude.{◌≡◌, ◌≢◌, ℕ, ◌≤◌, Bool, true, false, List, [], ◌++◌}

pub record JournalOf (E D : Type 0) : Type 0 where
  pub entries : List E
  pub doubts : List D  -- what steps that failed may have made: of each it isn't known whether it was
  pub max_entries : ℕ
  pub max_bytes : ℕ  -- of the bodies in them. Containers have none, and 0 here

pub record HistoryOf (K V E D : Type 0) : Type 0 where
  pub told : Bool  -- whether the volume or keeper tells its contents, and is in order
  pub opening : K → V  -- what each key stood for as the journal began; means nothing where it isn't told
  pub journal : JournalOf E D
  pub faults : ℕ  -- how many calls of the lock's volume or keeper have failed

-- all locks of a kind, and what the devices hold
pub record Half (K V E D : Type 0) : Type 0 where
  pub seen : ℕ → HistoryOf K V E D  -- what is known of each lock
  pub holds : ℕ → K → V  -- what each key stands for at each device, doubts that were made included; where the door is alone

module _ {K V E D : Type 0} where
  -- a later history of the same lock
  pub record GrowsOf (h g : HistoryOf K V E D) : Type 0 where
    pub told : g.told ≡ h.told
    pub opening : (key : K) → g.opening key ≡ h.opening key
    pub entries : (more : List E) × (g.journal.entries ≡ h.journal.entries ++ more)
    pub max_entries : g.journal.max_entries ≡ h.journal.max_entries
    pub max_bytes : g.journal.max_bytes ≡ h.journal.max_bytes
    pub faults : h.faults ≤ g.faults

  -- steps at these keys of these devices
  pub record HalfMoves (lock : ℕ → K → ℕ) (alone : Bool) (at : ℕ → K → Type 0) (old new : Half K V E D) : Type 0 where
    pub grows : (l : ℕ) → GrowsOf (old.seen l) (new.seen l)
    pub elsewhere : (l : ℕ) → ((d : ℕ) (key : K) → at d key → l ≢ lock d key) → new.seen l ≡ old.seen l
    pub others : alone ≡ true → (d : ℕ) (key : K) → (at d key → ⊥) → new.holds d key ≡ old.holds d key

  -- A device was restarted: each of its locks begins anew with what stands there, doubts that were made included. Where a lock told its contents, it
  -- tells them still, and what stands is what stood; a lock that told none may tell them from now on
  pub record HalfRestarts (lock : ℕ → K → ℕ) (alone : Bool) (device : ℕ) (old new : Half K V E D) : Type 0 where
    pub others : (d : ℕ) (key : K) → d ≢ device → new.seen (lock d key) ≡ old.seen (lock d key)
    pub told : (key : K) → (old.seen (lock device key)).told ≡ true → (new.seen (lock device key)).told ≡ true
    pub opening : alone ≡ true → (key : K) → (old.seen (lock device key)).told ≡ true → (new.seen (lock device key)).opening key ≡ old.holds device key
    pub entries : (key : K) → (new.seen (lock device key)).journal.entries ≡ []
    pub doubts : (key : K) → (new.seen (lock device key)).journal.doubts ≡ []
    pub max_entries : (key : K) → (new.seen (lock device key)).journal.max_entries ≡ (old.seen (lock device key)).journal.max_entries
    pub max_bytes : (key : K) → (new.seen (lock device key)).journal.max_bytes ≡ (old.seen (lock device key)).journal.max_bytes
    pub faults : (key : K) → (old.seen (lock device key)).faults ≤ (new.seen (lock device key)).faults
    pub holds : alone ≡ true → (key : K) → (old.seen (lock device key)).told ≡ true → new.holds device key ≡ old.holds device key
    pub elsewhere : alone ≡ true → (d : ℕ) (key : K) → d ≢ device → new.holds d key ≡ old.holds d key

-- nothing changes, and the answer says no more
pub record Leaves {E D : Type 0} (j : JournalOf E D) (made : Bool) (after : JournalOf E D) : Type 0 where
  pub not_made : made ≡ false
  pub same : after ≡ j

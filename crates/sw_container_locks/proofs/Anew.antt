-- Locks that begin anew over the keepers that they have, and what the user of a door knows of them then.
use Rattle.std.proofs.Common.{◌≡◌, ◌≢◌, ℕ, zero, suc, ◌+◌, ◌<◌, ◌≤◌, Bool, true, List, [], ◌∷◌, length, refl, sym, ◌∙◌, ap, subst, arith, Option, Some, ◌⊎◌}
use Rattle.std.proofs.Common.{inl, inr, slice_set, length-set}
use Rattle.std.specs.List.{slice_get}
use Rattle.std.proofs.lemmas.Bool.{cases_lt}
use Rattle.std.proofs.lemmas.Option.{slice_get_within}
use Rattle.sw_container_db.specs.ContDirs.{ContKept}
use Rattle.sw_hashpath.specs.declared.place.Place.{Place}
use Rattle.sw_history.specs.Halves.{HalfRestarts}
use Rattle.sw_keeper.specs.declared.tables.Tables.{Tables}
use Rattle.sw_container_locks.proofs.Lists.{at-set_other, at-set_same, some-same}
use Rattle.sw_container_locks.proofs.Placed.{held, held-told, seen, was-told}
use Rattle.sw_container_locks.specs.Halves.{half_of}
use Rattle.sw_container_locks.specs.Laws.{HasLocks}
use Rattle.sw_container_locks.specs.Restarting.{AreRestarted, IsRestarted, RestartMoves}
use Rattle.sw_container_locks.specs.Slots.{AreLocks, IsLock, IsOpen, begun}
use Rattle.sw_container_locks.specs.declared.cont_slot.ContSlot.{ContSlot}
use Rattle.sw_container_locks.specs.declared.cont_slot.ContSlot.TheVariants as slots

-- an index within a list has something
there-is : {X : Type 0} (xs : List X) (i : ℕ) → i < length xs → (x : X) × (slice_get xs i ≡ Some x)
there-is [] i within = absurd (omega arith)
there-is (x ∷ xs) zero within = (x, refl)
there-is (x ∷ xs) (suc i) within = there-is xs i (omega arith)

open-same : {K : Type 0} (a b : ContKept K) → slots.Open a ≡ slots.Open b → a ≡ b
open-same a b same = cc

not-lifted : {K : Type 0} (k : ContKept K) → slots.Lifted ≡ slots.Open k → ⊥
not-lifted k is = cc

not-empty : {K : Type 0} (k : ContKept K) → slots.Empty ≡ slots.Open k → ⊥
not-empty k is = cc

module _ {K : Type 0} (tells : K → Bool) where
  -- ---- one after the other

  pub none-restarted : (first : ℕ) (all : List (ContSlot K)) → AreLocks tells all → AreRestarted tells first first all all
  none-restarted first all are = record { locks = are; within = λ l u from to is. absurd (omega arith); outside = λ l out. refl; count = refl }

  pub one-restarted : (first at : ℕ) (old now : List (ContSlot K)) (x y : ContSlot K) → first ≤ at → at < length now → AreRestarted tells first at old now
      → slice_get now at ≡ Some x → IsRestarted x y → AreRestarted tells first (at + 1) old (slice_set now at y)
  one-restarted first at old now x y low below all there is = record {
    locks = all.locks;
    within = λ l u from to was. within l u from to was (cases_lt l at);
    outside = λ l out. at-set_other now at l y (apart l out) ∙ all.outside l (further l out);
    count = length-set now at y ∙ all.count;
  }
    where
      apart : (l : ℕ) → (l < first) ⊎ (at + 1 ≤ l) → l ≢ at
      apart l (inl less) same = absurd (omega arith)
      apart l (inr high) same = absurd (omega arith)

      further : (l : ℕ) → (l < first) ⊎ (at + 1 ≤ l) → (l < first) ⊎ (at ≤ l)
      further l (inl less) = inl less
      further l (inr high) = inr (omega arith)

      within : (l : ℕ) (u : ContSlot K) → first ≤ l → l < at + 1 → slice_get old l ≡ Some u → (l < at) ⊎ (at ≤ l)
          → (v : ContSlot K) × (slice_get (slice_set now at y) l ≡ Some v) × IsRestarted u v
      within l u from to was (inl less) =
          let before = all.within l u from less was in
          (before.0, at-set_other now at l y (λ same. absurd (omega (arith, less, same))) ∙ before.1, before.2)
      within l u from to was (inr high) =
          let same : l ≡ at = omega (arith, to, high) in
          let stood : slice_get old at ≡ Some x = sym (all.outside at (inr (omega arith))) ∙ there in
          let equal : x ≡ u = some-same x u (sym stood ∙ (ap (slice_get old) (sym same) ∙ was)) in
          (y, ap (slice_get (slice_set now at y)) same ∙ at-set_same now at y below, subst (λ (s : ContSlot K). IsRestarted s y) equal is)

  -- what stands at one of them is a lock between two steps
  pub restarted-locks : (first past : ℕ) (old new : List (ContSlot K)) → AreRestarted tells first past old new → AreLocks tells new
  restarted-locks first past old new all l k is = by (cases_lt l first) (cases_lt l past)
    where
      below : l < length old
      below = subst (λ (n : ℕ). l < n) all.count (slice_get_within new l (slots.Open k) is)

      out : (l < first) ⊎ (past ≤ l) → IsLock tells k
      out away = all.locks l k (sym (all.outside l away) ∙ is)

      stood : (x : ContSlot K) × (slice_get old l ≡ Some x)
      stood = there-is old l below

      lock-of : (x y : ContSlot K) → IsRestarted x y → y ≡ slots.Open k → IsLock tells k
      lock-of (slots.Open j) y anew same =
          let equal : begun j.keeper ≡ k = open-same (begun j.keeper) k (sym anew ∙ same) in
          subst (λ (u : ContKept K). IsLock tells u) equal (record { fresh = refl; max_entries = refl; max_bytes = refl; told = refl })
      lock-of slots.Lifted y anew same = absurd (not-lifted k (sym anew ∙ same))
      lock-of slots.Empty y anew same = absurd (not-empty k (sym anew ∙ same))

      by : (l < first) ⊎ (first ≤ l) → (l < past) ⊎ (past ≤ l) → IsLock tells k
      by (inl low) _ = out (inl low)
      by (inr from) (inr high) = out (inr high)
      by (inr from) (inl to) =
          let now = all.within l stood.0 from to stood.1 in
          lock-of stood.0 now.0 now.2 (some-same now.0 (slots.Open k) (sym now.1 ∙ is))

-- ---- a device

module _ {K : Type 0} (tells : K → Bool) (holds : K → Place → Option Tables) (faults : K → ℕ) (lock : ℕ → Place → ℕ) (device first past : ℕ)
    (old new : List (ContSlot K)) (of_device : HasLocks lock device first past) (are_open : (l : ℕ) → first ≤ l → l < past → IsOpen old l)
    (all : AreRestarted tells first past old new) where
  abbrev there : (place : Place) → (k : ContKept K) × (slice_get old (lock device place) ≡ Some (slots.Open k))
  there place = are_open (lock device place) (of_device.own place).0 (of_device.own place).1

  is_lock : (place : Place) → IsLock tells (there place).0
  is_lock place = all.locks (lock device place) (there place).0 (there place).1

  here : (place : Place) → slice_get new (lock device place) ≡ Some (slots.Open (begun (there place).0.keeper))
  here place =
      let now = all.within (lock device place) (slots.Open (there place).0) (of_device.own place).0 (of_device.own place).1 (there place).1 in
      now.1 ∙ ap Some now.2

  apart : (d : ℕ) (place : Place) → d ≢ device → slice_get new (lock d place) ≡ slice_get old (lock d place)
  apart d place away = all.outside (lock d place) (of_device.others d place away)

  old-told : (place : Place) → (seen tells holds faults (slice_get old (lock device place))).told ≡ true → tells (there place).0.keeper ≡ true
  old-told place told =
      was-told tells holds faults (there place).0 (is_lock place) (sym (ap (λ (o : Option (ContSlot K)). (seen tells holds faults o).told) (there place).1) ∙
      told)

  old-held : (place : Place)
      → held tells holds faults (slice_get old (lock device place)) place ≡ held tells holds faults (Some (slots.Open (there place).0)) place
  old-held place = ap (λ (o : Option (ContSlot K)). held tells holds faults o place) (there place).1

  pub restarted : HalfRestarts lock true device (half_of tells holds faults lock old) (half_of tells holds faults lock new)
  restarted = record {
    others = λ d place away. ap (seen tells holds faults) (apart d place away);
    told = λ place told. rw (here place) (old-told place told);
    opening = λ alone place told. rw (here place)
        (held-told tells holds faults (there place).0 place (old-told place told) ∙ sym (old-held place));
    entries = λ place. rw (here place) refl;
    doubts = λ place. rw (here place) refl;
    max_entries = λ place. rw (here place, (there place).1) (sym (is_lock place).max_entries);
    max_bytes = λ place. rw (here place, (there place).1) (sym (is_lock place).max_bytes);
    faults = λ place. rw (here place, (there place).1) (omega arith);
    holds = λ alone place told. ap (λ (o : Option (ContSlot K)). held tells holds faults o place) (here place) ∙ sym (old-held place);
    elsewhere = λ alone d place away. ap (λ (o : Option (ContSlot K)). held tells holds faults o place) (apart d place away);
  }

pub restart-moves : {K : Type 0} (tells : K → Bool) (holds : K → Place → Option Tables) (faults : K → ℕ) → RestartMoves tells holds faults
restart-moves tells holds faults lock device first past old new of_device are_open all =
    restarted tells holds faults lock device first past old new of_device are_open all

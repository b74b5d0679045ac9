-- Why every open lock stays one: begun, after a step, lifted and set down.
use Rattle.std.proofs.Common.{◌≡◌, ◌≢◌, ℕ, ◌+◌, ◌-◌, ◌<◌, ◌≤◌, Bool, true, false, ◌==◌, List, [], ◌++◌, length, get_or, refl, sym, ◌∙◌, ap}
use Rattle.std.proofs.Common.{subst, arith, rules, IsTrue, ◌↔◌, Option, None, Some, ◌⊎◌, inl, inr, slice_set, length-set}
use Rattle.std.specs.List.{slice_get}
use Rattle.std.specs.Option.{option_map}
use Rattle.std.specs.declared.alloc.Global.{Global}
use Rattle.std.specs.declared.vec.Vec.{Vec}
use Rattle.std.proofs.lemmas.Bool.{cases_lt}
use Rattle.std.proofs.lemmas.Option.{slice_get-map, slice_get_within}
use borrow.Author.Tests.{eqb-true, eqb-false}
use Rattle.sw_container_db.specs.ContDirs.{ContKept}
use Rattle.sw_container_db.specs.Stepping.{IsSameDir}
use Rattle.sw_container_steps.specs.declared.cont_entry.ContEntry.{ContEntry}
use Rattle.sw_hashpath.specs.declared.place.Place.{Place}
use Rattle.sw_keeper.specs.declared.tables.Tables.{Tables}
use Rattle.sw_container_locks.proofs.Lists.{at-set_other, at-set_same, found, none-some, some-same, there-is}
use Rattle.sw_container_locks.specs.Making.{taken}
use Rattle.sw_container_locks.specs.Slots.{AreLifted, AreLocks, AreSetDown, HasRoom, IsLock, IsOpen, begun, opened}
use Rattle.sw_container_locks.specs.declared.cont_slot.ContSlot.{ContSlot}
use Rattle.sw_container_locks.specs.declared.cont_slot.ContSlot.TheVariants as slots

-- what a step entered, where nothing was left of the steps before
pub entered-alone : (before added now : List ContEntry) → before ≡ [] → now ≡ before ++ added → now ≡ added
entered-alone before added now none is = is ∙ ap (λ (es : List ContEntry). es ++ added) none

module _ {K : Type 0} where
  pub open-same : (a b : ContKept K) → slots.Open a ≡ slots.Open b → a ≡ b
  open-same a b same = cc

  lifted-open : (k : ContKept K) → Some slots.Lifted ≡ Some (slots.Open k) → ⊥
  lifted-open k same = cc

  -- the open lock that was found
  pub at-open : (all : List (ContSlot K)) (l : ℕ) (x : ContSlot K) (k : ContKept K) → IsOpen all l → x ≡ get_or all l x → x ≡ slots.Open k
      → slice_get all l ≡ Some (slots.Open k)
  at-open all l x k is read at = found all l x (slice_get_within all l (slots.Open is.0) is.1) read ∙ ap Some at

  -- whether a lock was found open
  pub open-test : (all : List (ContSlot K)) (l : ℕ) (x : ContSlot K) (b : Bool) → l < length all → x ≡ get_or all l x
      → (b ≡ true → (k : ContKept K) × (x ≡ slots.Open k)) → (b ≡ false → (k : ContKept K) → x ≢ slots.Open k) → IsTrue b ↔ IsOpen all l
  open-test all l x true within read there out = (λ is. let k = there refl in (k.0, found all l x within read ∙ ap Some k.1), λ is. search rules)
  open-test all l x false within read there out =
      (λ is. search rules, λ is. absurd (out refl is.0 (some-same x (slots.Open is.0) (sym (found all l x within read) ∙ is.1))))

  pub past-test : (all : List (ContSlot K)) (l : ℕ) → length all ≤ l → IsOpen all l → ⊥
  past-test all l past is = let within = slice_get_within all l (slots.Open is.0) is.1 in absurd (omega arith)

  pub same-room : (old new : List (ContSlot K)) (room : Vec K Global) → length new ≡ length old → HasRoom old room → HasRoom new room
  same-room old new room same has = record { none = has.none; wide = rw same has.wide }

  pub set-room : (all : List (ContSlot K)) (l : ℕ) (x : ContSlot K) (room : Vec K Global) → HasRoom all room → HasRoom (slice_set all l x) room
  set-room all l x room has = same-room all (slice_set all l x) room (length-set all l x) has

-- is out, or isn't
lifted-cases : {K : Type 0} (o : Option (ContSlot K)) → (o ≡ Some slots.Lifted) ⊎ (o ≢ Some slots.Lifted)
lifted-cases (Some slots.Lifted) = inl refl
lifted-cases (Some (slots.Open k)) = inr (λ same. cc)
lifted-cases (Some slots.Empty) = inr (λ same. cc)
lifted-cases None = inr (λ same. cc)

module _ {K : Type 0} (tells : K → Bool) where
  begun-lock : (keeper : K) → IsLock tells (begun keeper)
  begun-lock keeper = record { fresh = refl; max_entries = refl; max_bytes = refl; told = refl }

  -- it is the one that begins over this keeper
  is-begun : (k : ContKept K) (keeper : K) → Some (slots.Open (begun keeper)) ≡ Some (slots.Open k) → IsLock tells k
  is-begun k keeper same =
      subst (λ (x : ContKept K). IsLock tells x) (open-same (begun keeper) k (some-same (slots.Open (begun keeper)) (slots.Open k) same)) (begun-lock keeper)

  pub opened-locks : (keepers : List K) → AreLocks tells (opened keepers)
  opened-locks keepers l k is = by (slice_get keepers l) (sym (slice_get-map (λ (keeper : K). slots.Open (begun keeper)) keepers l) ∙ is)
    where
      by : (o : Option K) → option_map (λ (keeper : K). slots.Open (begun keeper)) o ≡ Some (slots.Open k) → IsLock tells k
      by None none = none-some (slots.Open k) none
      by (Some keeper) same = is-begun k keeper same

  -- one lock has made a step, and the others none
  pub stepped-locks : (all : List (ContSlot K)) (l : ℕ) (k n : ContKept K) → slice_get all l ≡ Some (slots.Open k) → IsLock tells n → AreLocks tells all
      → AreLocks tells (slice_set all l (slots.Open n))
  stepped-locks all l k n there is locks = λ m j at. by m j at (m == l) refl
    where
      by : (m : ℕ) (j : ContKept K) → slice_get (slice_set all l (slots.Open n)) m ≡ Some (slots.Open j) → (b : Bool) → (m == l) ≡ b → IsLock tells j
      by m j at true same =
          let here : m ≡ l = eqb-true m l same in
          let now : Some (slots.Open n) ≡ Some (slots.Open j) =
          sym (at-set_same all l (slots.Open n) (slice_get_within all l (slots.Open k) there))
          ∙ (ap (slice_get (slice_set all l (slots.Open n))) (sym here) ∙ at) in
          subst (λ (x : ContKept K). IsLock tells x) (open-same n j (some-same (slots.Open n) (slots.Open j) now)) is
      by m j at false apart =
          let away : m ≢ l = λ same. eqb-false m l apart same in
          locks m j (sym (at-set_other all l m (slots.Open n) away) ∙ at)

  pub lifted-locks : (first past : ℕ) (old new : List (ContSlot K)) (given : List K) → ((l : ℕ) → first ≤ l → l < past → IsOpen old l)
      → AreLifted first past old new given → AreLocks tells old → AreLocks tells new
  lifted-locks first past old new given are_open up locks = λ l k is. by l k is (cases_lt l first) (cases_lt l past)
    where
      by : (l : ℕ) (k : ContKept K) → slice_get new l ≡ Some (slots.Open k) → (l < first) ⊎ (first ≤ l) → (l < past) ⊎ (past ≤ l) → IsLock tells k
      by l k is (inl low) _ = locks l k (sym (up.outside l (inl low)) ∙ is)
      by l k is (inr from) (inr high) = locks l k (sym (up.outside l (inr high)) ∙ is)
      by l k is (inr from) (inl to) =
          let there = are_open l from to in
          absurd (lifted-open k (sym (up.within l there.0 from to there.1) ∙ is))

  pub set-down-locks : (first : ℕ) (keepers : List K) (old new : List (ContSlot K)) → AreSetDown first keepers old new → AreLocks tells old → AreLocks tells new
  set-down-locks first keepers old new down locks =
      λ l k is. by l k is (lifted-cases (slice_get old l)) (cases_lt l first) (cases_lt l (first + length keepers))
    where
      begins : (l : ℕ) (k : ContKept K) → slice_get new l ≡ Some (slots.Open k) → slice_get old l ≡ Some slots.Lifted → first ≤ l → l < first + length keepers
          → IsLock tells k
      begins l k is out from to =
          let place : first + (l - first) ≡ l = omega (arith, from) in
          let keeper = there-is keepers (l - first) (omega (arith, from, to)) in
          is-begun k keeper.0 (sym (down.within (l - first) keeper.0 keeper.1 (ap (slice_get old) place ∙ out)) ∙ (ap (slice_get new) place ∙ is))

      by : (l : ℕ) (k : ContKept K) → slice_get new l ≡ Some (slots.Open k) → (slice_get old l ≡ Some slots.Lifted) ⊎ (slice_get old l ≢ Some slots.Lifted)
          → (l < first) ⊎ (first ≤ l) → (l < first + length keepers) ⊎ (first + length keepers ≤ l) → IsLock tells k
      by l k is (inr other) _ _ = locks l k (sym (down.stays l other) ∙ is)
      by l k is (inl out) (inl low) _ = locks l k (sym (down.outside l (inl low)) ∙ is)
      by l k is (inl out) (inr from) (inr high) = locks l k (sym (down.outside l (inr high)) ∙ is)
      by l k is (inl out) (inr from) (inl to) = begins l k is out from to

  -- a lock after a step, when what that entered has been taken out
  pub taken-lock : (holds : K → Place → Option Tables) (faults : K → ℕ) (k n : ContKept K) → IsSameDir tells holds faults k n
      → n.journal.max_entries ≡ k.journal.max_entries → n.journal.max_bytes ≡ k.journal.max_bytes → IsLock tells k → IsLock tells (taken n)
  taken-lock holds faults k n same entries bytes is = record {
    fresh = refl;
    max_entries = entries ∙ is.max_entries;
    max_bytes = bytes ∙ is.max_bytes;
    told = same.told ∙ (is.told ∙ sym (ap tells same.began));
  }

-- Directories of a range of locks that were looked at, and the paths that they gave.
use Rattle.std.proofs.Common.{◌≡◌, ◌≢◌, Bool, ℕ, ◌+◌, ◌<◌, ◌≤◌, ◌↔◌, ◌==◌, true, false, List, [], length, get_or, refl, sym, ◌∙◌, ap, subst, arith, Some}
use Rattle.std.proofs.Common.{Result, Ok, Err, ◌⊎◌, inl, inr, slice_set, length-set}
use Rattle.std.specs.Cmp.Lexicographic.{slice_cmp}
use Rattle.std.specs.List.{Contains, slice_get}
use Rattle.std.specs.List.Sorted.{IsStrictlySortedBy}
use Rattle.std.specs.Ordering.{nat_cmp}
use Rattle.std.proofs.lemmas.Bool.{cases_lt}
use Rattle.std.proofs.lemmas.List.{set-get_or}
use borrow.Author.Tests.{eqb-true, eqb-false}
use Rattle.sw_core.proofs.Slots.{at-set_other, at-set_same}
use Rattle.sw_core.specs.Listing.{AllTell, AreCalm, AreLookedAt, IsLookedAt, IsPathAmong, is_failed}
use Rattle.sw_core.specs.Worlds.{seen_of}
use Rattle.sw_core.specs.declared.slot.Slot.{Slot}
use Rattle.sw_core.specs.declared.slot.Slot.TheVariants as slots
use Rattle.sw_hashdir.proofs.Walking.{adds_nothing, adds_then, none_of}
use Rattle.sw_hashdir.specs.Walks.{Adds, IsPathBelow}
use Rattle.sw_objdir.proofs.Looking.{looks-refl}
use Rattle.sw_objdir.specs.Directories.{Kept}
use Rattle.sw_outside.specs.Faults.{HasRisen}
use Rattle.sw_volume.specs.Tree.{Folders, contents}
use Rattle.sw_volume.specs.Volume.{ListsAll, OnFailed, OnNoMemory}
use Rattle.sw_volume.specs.declared.errors.VolumeError.{VolumeError}
use Rattle.sw_volume.specs.declared.errors.VolumeError.TheVariants.{Failed, NoMemory}

-- what was added to nothing, in order
pub listed-all : (P : List ℕ → Type 0) (found paths : List (List ℕ)) → paths ≡ found → IsStrictlySortedBy (slice_cmp nat_cmp) paths → Adds [] found P →
    ListsAll paths P
listed-all P found paths all sorted adds = record {
  ascending = sorted;
  exact = λ path. (
    λ is. elim ((adds path).0 (subst (λ (ps : List (List ℕ)). Contains ps path) all is)) [ inl before ↦ absurd (none_of path before) | inr p ↦ p ],
    λ p. subst (λ (ps : List (List ℕ)). Contains ps path) (sym all) ((adds path).1 (inr p)),
  );
}

pub risen-where : {T U : Type 0} (r : Result T VolumeError) (s : Result U VolumeError) (e : VolumeError) (P : Type 0) → r ≡ Err e → s ≡ Err e →
    is_failed s ≡ true → OnFailed r P → P
risen-where (Ok x) s e P is said failed risen = cc
risen-where (Err Failed) s e P is said failed risen = risen
risen-where (Err NoMemory) s e P is said failed risen =
    let which : e ≡ NoMemory = cc in
    let said_so : is_failed s ≡ false = rw (said, which) refl in
    let never : true ≡ false = sym failed ∙ said_so in
    cc

pub calm-where : {T U : Type 0} (r : Result T VolumeError) (s : Result U VolumeError) (e : VolumeError) (P : Type 0) → r ≡ Err e → s ≡ Err e
    → is_failed s ≡ false → OnNoMemory r P → P
calm-where (Ok x) s e P is said calm same = cc
calm-where (Err NoMemory) s e P is said calm same = same
calm-where (Err Failed) s e P is said calm same =
    let which : e ≡ Failed = cc in
    let said_so : is_failed s ≡ true = rw (said, which) refl in
    let never : true ≡ false = sym said_so ∙ calm in
    cc

both-open : {V : Type 0} (j k : Kept V) → Some (slots.Open j) ≡ Some (slots.Open k) → j ≡ k
both-open j k same = cc

module _ {V : Type 0} (tells : V → Bool) (files : V → Folders) (faults : V → ℕ) (first : ℕ) where
  -- ---- what changed

  pub none-looked : (slots : List (Slot V)) → AreLookedAt tells files faults first first slots slots
  none-looked slots = record {
    within = λ l k is. (k, is, record { looks = looks-refl tells files faults k; journal = refl; held = λ hash. refl });
    outside = λ l out. refl;
    count = refl;
  }

  pub wider-looked : (place past : ℕ) (old now : List (Slot V)) → place ≤ past → AreLookedAt tells files faults first place old now
      → AreLookedAt tells files faults first past old now
  wider-looked place past old now up all = record { within = all.within; outside = λ l out. all.outside l (further l out); count = all.count }
    where
      further : (l : ℕ) → (l < first) ⊎ (past ≤ l) → (l < first) ⊎ (place ≤ l)
      further l (inl low) = inl low
      further l (inr high) = inr (omega arith)

  pub one-looked : (place past : ℕ) (old now : List (Slot V)) (k n : Kept V) → first ≤ place → place < past → place < length now
      → AreLookedAt tells files faults first place old now → slice_get now place ≡ Some (slots.Open k) → IsLookedAt tells files faults k n
      → AreLookedAt tells files faults first past old (slice_set now place (slots.Open n))
  one-looked place past old now k n from to below all there looked = record {
    within = λ l j was. within l j was (l == place) refl;
    outside = λ l out. at-set_other now place l (slots.Open n) (apart l out) ∙ all.outside l (further l out);
    count = length-set now place (slots.Open n) ∙ all.count;
  }
    where
      apart : (l : ℕ) → (l < first) ⊎ (past ≤ l) → l ≢ place
      apart l (inl low) same = absurd (omega arith)
      apart l (inr high) same = absurd (omega arith)

      further : (l : ℕ) → (l < first) ⊎ (past ≤ l) → (l < first) ⊎ (place ≤ l)
      further l (inl low) = inl low
      further l (inr high) = inr (omega arith)

      within : (l : ℕ) (j : Kept V) → slice_get old l ≡ Some (slots.Open j) → (b : Bool) → (l == place) ≡ b
          → (m : Kept V) × (slice_get (slice_set now place (slots.Open n)) l ≡ Some (slots.Open m)) × IsLookedAt tells files faults j m
      within l j was true is =
          let here : l ≡ place = eqb-true l place is in
          let same : k ≡ j = both-open k j (sym there ∙ (ap (slice_get now) (sym here) ∙ (all.outside l (inr (omega arith)) ∙ was))) in (
            n,
            ap (slice_get (slice_set now place (slots.Open n))) here ∙ at-set_same now place (slots.Open n) below,
            subst (λ (d : Kept V). IsLookedAt tells files faults d n) same looked,
          )
      within l j was false is =
          let away : l ≢ place = λ same. absurd (eqb-false l place is same) in
          let more = all.within l j was in
          (more.0, at-set_other now place l (slots.Open n) away ∙ more.1, more.2)

  pub none-open : (place : ℕ) (old now : List (Slot V)) (x : Slot V) → AreLookedAt tells files faults first place old now → x ≡ get_or now place x
      → AreLookedAt tells files faults first (place + 1) old (slice_set now place x)
  none-open place old now x all there =
      subst (λ (xs : List (Slot V)). AreLookedAt tells files faults first (place + 1) old xs)
      (sym (ap (λ y. slice_set now place y) there ∙ set-get_or now place x))
      (wider-looked place (place + 1) old now (omega arith) all)

  pub stood-there : (place : ℕ) (old now : List (Slot V)) (x : Slot V) → AreLookedAt tells files faults first place old now → slice_get now place ≡ Some x
      → slice_get old place ≡ Some x
  stood-there place old now x all there = sym (all.outside place (inr (omega arith))) ∙ there

  -- the one that was looked at counted a fault
  pub one-risen : (place : ℕ) (old now : List (Slot V)) (k n : Kept V) → place < length now
      → AreLookedAt tells files faults first place old now → slice_get now place ≡ Some (slots.Open k) → HasRisen (faults k.volume) (faults n.volume)
      → (l : ℕ) × HasRisen (seen_of tells files faults (slice_get old l)).faults
      (seen_of tells files faults (slice_get (slice_set now place (slots.Open n)) l)).faults
  one-risen place old now k n below all there risen =
      let was : slice_get old place ≡ Some (slots.Open k) = sym (all.outside place (inr (omega arith))) ∙ there in
      (place, rw (was, at-set_same now place (slots.Open n) below) risen)

  -- the one that was looked at counted none
  pub one-calm : (place : ℕ) (old now : List (Slot V)) (k n : Kept V) → place < length now → slice_get now place ≡ Some (slots.Open k)
      → faults n.volume ≡ faults k.volume → AreCalm tells files faults old now → AreCalm tells files faults old (slice_set now place (slots.Open n))
  one-calm place old now k n below there same calm l = by (l == place) refl
    where
      count : List (Slot V) → ℕ → ℕ
      count xs i = (seen_of tells files faults (slice_get xs i)).faults

      by : (b : Bool) → (l == place) ≡ b
          → (seen_of tells files faults (slice_get (slice_set now place (slots.Open n)) l)).faults ≡ (seen_of tells files faults (slice_get old l)).faults
      by true is =
          let here : l ≡ place = eqb-true l place is in
          subst (λ (i : ℕ). count (slice_set now place (slots.Open n)) i ≡ count old i) (sym here)
          (ap (λ (x : _). (seen_of tells files faults x).faults) (at-set_same now place (slots.Open n) below) ∙ (same
          ∙ (ap (λ (x : _). (seen_of tells files faults x).faults) (sym there) ∙ calm place)))
      by false is =
          let away : l ≢ place = λ here. absurd (eqb-false l place is here) in
          ap (λ (x : _). (seen_of tells files faults x).faults) (at-set_other now place l (slots.Open n) away) ∙ calm l

  pub same-calm : (place : ℕ) (old now : List (Slot V)) (x : Slot V) → AreCalm tells files faults old now → x ≡ get_or now place x
      → AreCalm tells files faults old (slice_set now place x)
  same-calm place old now x calm there =
      subst (λ (xs : List (Slot V)). AreCalm tells files faults old xs) (sym (ap (λ y. slice_set now place y) there ∙ set-get_or now place x)) calm

  -- ---- what was found

  pub none-found : (old : List (Slot V)) → Adds [] [] (IsPathAmong files first first old)
  none-found old = adds_nothing [] (IsPathAmong files first first old) (λ p is. absurd (let from = is.2 in let to = is.3 in omega arith))

  pub fewer-tell : (place past : ℕ) (old : List (Slot V)) → place ≤ past → AllTell tells first past old → AllTell tells first place old
  fewer-tell place past old up all = λ l k from to was. all l k from (omega arith) was

  among-more : (place : ℕ) (old : List (Slot V)) (Q : List ℕ → Type 0) → first ≤ place
      → ((p : List ℕ) → Q p ↔ ((k : Kept V) × (slice_get old place ≡ Some (slots.Open k)) × IsPathBelow (contents (files k.volume)) p))
      → (p : List ℕ) → IsPathAmong files first (place + 1) old p ↔ (IsPathAmong files first place old p ⊎ Q p)
  among-more place old Q from here p = (
    λ is. to is (cases_lt is.0 place),
    λ either. elim either [
      | inl is ↦ (is.0, is.1, is.2, (let low = is.3 in omega arith), is.4, is.5)
      | inr q ↦ let at = (here p).0 q in (place, at.0, from, omega arith, at.1, at.2)
    ],
  )
    where
      to : (is : IsPathAmong files first (place + 1) old p) → (is.0 < place) ⊎ (place ≤ is.0) → IsPathAmong files first place old p ⊎ Q p
      to is (inl low) = inl (is.0, is.1, is.2, low, is.4, is.5)
      to is (inr high) =
          let below = is.3 in
          let same : is.0 ≡ place = omega arith in
          inr ((here p).1 (is.1, ap (slice_get old) (sym same) ∙ is.4, is.5))

  pub one-found : (place : ℕ) (old : List (Slot V)) (k : Kept V) (found new : List (List ℕ)) → first ≤ place → slice_get old place ≡ Some (slots.Open k)
      → (AllTell tells first place old → Adds [] found (IsPathAmong files first place old))
      → (tells k.volume ≡ true → Adds found new (IsPathBelow (contents (files k.volume))))
      → AllTell tells first (place + 1) old → Adds [] new (IsPathAmong files first (place + 1) old)
  one-found place old k found new from there before adds all =
      adds_then [] found new (IsPathAmong files first place old) (IsPathBelow (contents (files k.volume))) (IsPathAmong files first (place + 1) old)
      (before (fewer-tell place (place + 1) old (omega arith) all)) (adds (all place k from (omega arith) there))
      (among-more place old (IsPathBelow (contents (files k.volume))) from (λ p. (
        λ q. (k, there, q),
        λ at. subst (λ (d : Kept V). IsPathBelow (contents (files d.volume)) p) (both-open at.0 k (sym at.1 ∙ there)) at.2,
      )))

  pub none-there : (place : ℕ) (old : List (Slot V)) (found : List (List ℕ)) → first ≤ place → ((k : Kept V) → slice_get old place ≡ Some (slots.Open k) → ⊥)
      → (AllTell tells first place old → Adds [] found (IsPathAmong files first place old))
      → AllTell tells first (place + 1) old → Adds [] found (IsPathAmong files first (place + 1) old)
  none-there place old found from none before all =
      adds_then [] found found (IsPathAmong files first place old) (λ p. ⊥) (IsPathAmong files first (place + 1) old)
      (before (fewer-tell place (place + 1) old (omega arith) all)) (adds_nothing found (λ p. ⊥) (λ p no. no))
      (among-more place old (λ p. ⊥) from (λ p. (λ q. absurd q, λ at. none at.0 at.1)))

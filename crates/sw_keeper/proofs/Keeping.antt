-- What a keeper in memory holds after a batch.
use Rattle.std.proofs.Common.{◌≡◌, ◌≢◌, ℕ, ◌≤◌, get_or, set, Result, Ok, Err, true, false, List, [], ◌∷◌, Option, None, Some, refl, sym, ◌∙◌, ap, subst}
use Rattle.std.specs.List.Sorted.{IsStrictlySortedBy}
use Rattle.std.specs.Map.{keys_of}
use Rattle.std.specs.Option.{IsSome}
use Rattle.std.specs.Prelude.{insert, OnErr, OnOk}
use Rattle.std.proofs.lemmas.List.{set-get_or}
use Rattle.std.specs.Ordering.{is_eq}
use Rattle.std.proofs.lemmas.Bool.{false_from_ne_true}
use Rattle.std.proofs.lemmas.Cmp.{eq_by_cmp_equiv, tied_itself}
use Rattle.std.proofs.lemmas.Map.Views.{Contains-keys_from_lookup, IsSome-lookup_from_Contains}
use Rattle.std.specs.declared.cmp.Ordering.TheVariants.{Equal}
use Rattle.sw_hashpath.specs.declared.place.Place.{Place}
use Rattle.sw_outside.specs.Counts.{raised}
use Rattle.sw_outside.specs.Faults.{HasRisen}
use Rattle.sw_keeper.specs.declared.keeper_error.KeeperError.{KeeperError}
use Rattle.sw_keeper.specs.declared.keeper_error.KeeperError.TheVariants.{Failed}
use Rattle.sw_keeper.specs.declared.tables.Tables.{Tables}
use Rattle.sw_keeper.specs.Changes.{all_changed, begun, changed, IsBatch}
use Rattle.sw_keeper.specs.Keeping.{Changes, HasCause, ListsPlaces}
use Rattle.sw_keeper.specs.MemState.{with_batch, with_tables}
use Rattle.sw_keeper.specs.Places.{at, is_place_at, place_cmp}
use Rattle.sw_keeper.specs.declared.batch.Change.{Change}
use Rattle.sw_keeper.specs.declared.batch.Change.TheVariants.{Times, PutRow, CutRow, SetRanges, SetCursor, SetPoint, SetSync, Empty}
use Rattle.sw_keeper.proofs.Placing.{absent, at-insert, held, index_of, insert-new, lt-cases, place_same, place_total, set-found, sorted-insert}

pub nothing_sorted : IsStrictlySortedBy place_cmp []
unfolding IsStrictlySortedBy
nothing_sorted = tt

-- after a batch the place is held
pub held_after : (o : Option Tables) (changes : List Change) → IsBatch o changes → IsSome (all_changed o changes)
held_after o [] is = is
held_after o (change ∷ changes) is = held_after (changed o change) changes is.1

-- a batch begins at a place that isn't held as it does at one with no rows
pub begins : (changes : List Change) → IsBatch None changes → IsBatch (Some (begun 0 None)) changes ×
    (all_changed (Some (begun 0 None)) changes ≡ all_changed None changes)
begins [] is = let no : ⊥ = cc in absurd no
begins (Times put_time delete_time ∷ changes) is = ((tt, is.1), refl)
begins (PutRow row rowid ∷ changes) is = absurd is.0
begins (CutRow rowid ∷ changes) is = absurd is.0
begins (SetRanges ranges ∷ changes) is = absurd is.0
begins (SetCursor cursor ∷ changes) is = absurd is.0
begins (SetPoint range device rowid ∷ changes) is = absurd is.0
begins (SetSync device rowid ∷ changes) is = absurd is.0
begins (Empty ∷ changes) is = absurd is.0

apart : (p place : Place) → p ≢ place → is_eq (place_cmp p place) ≡ false
apart p place differs = false_from_ne_true (is_eq (place_cmp p place)) (λ same. differs (place_same p place (lt-cases (place_cmp p place) same)))

changes_with : (es : List (Place × Tables)) (place : Place) (batch : List Change) (o : Option Tables) → IsSome o → all_changed (at es place) batch ≡ o →
    Changes (at es) (at (with_tables es place o)) place batch
changes_with es place batch None some is = cc
changes_with es place batch (Some t) some is =
    let here : place_cmp place place ≡ Equal = tied_itself place_total place in
    record {
      there = at-insert es place t place ∙ rw here (sym is);
      elsewhere = λ p differs. at-insert es place t p ∙ rw (apart p place differs) refl;
    }

pub changes-batch : (es : List (Place × Tables)) (place : Place) (batch : List Change) → IsBatch (at es place) batch →
    Changes (at es) (at (with_batch es place batch)) place batch
changes-batch es place batch is = changes_with es place batch (all_changed (at es place) batch) (held_after (at es place) batch is) refl

sorted_with : (es : List (Place × Tables)) (place : Place) (o : Option Tables) → IsStrictlySortedBy place_cmp (keys_of es) →
    IsStrictlySortedBy place_cmp (keys_of (with_tables es place o))
sorted_with es place None sorted = sorted
sorted_with es place (Some t) sorted = sorted-insert es place t sorted

pub sorted-batch : (es : List (Place × Tables)) (place : Place) (batch : List Change) → IsStrictlySortedBy place_cmp (keys_of es) →
    IsStrictlySortedBy place_cmp (keys_of (with_batch es place batch))
sorted-batch es place batch sorted = sorted_with es place (all_changed (at es place) batch) sorted

pub lists-places : (es : List (Place × Tables)) (places : List Place) → places ≡ keys_of es → IsStrictlySortedBy place_cmp (keys_of es) →
    ListsPlaces places (λ place. IsSome (at es place))
lists-places es places is sorted = rw is record {
  ascending = sorted;
  exact = λ p. (
    λ h. IsSome-lookup_from_Contains (eq_by_cmp_equiv place_total) p es h,
    λ s. Contains-keys_from_lookup (λ x y same. place_same x y (lt-cases (place_cmp x y) same)) p es s,
  );
}

-- a batch at a place that is found
pub found_batch : {E : Type 0} (r : Result (Unit {0}) E) (es : List (Place × Tables)) (place : Place) (batch : List Change) (d w : Place × Tables) (i : ℕ)
    → i ≡ index_of es place → is_place_at es i place ≡ true → d ≡ get_or es i d
    → OnOk r (w.0 ≡ d.0) → OnOk r (Some w.1 ≡ all_changed (Some d.1) batch) → OnErr r (w ≡ d)
    → OnOk r (set es i w ≡ with_batch es place batch) × OnErr r (set es i w ≡ es)
found_batch (Ok u) es place batch d w i index found is named made err =
    let there : is_place_at es (index_of es place) place ≡ true = rw (← index) found in
    let is_d : d ≡ get_or es (index_of es place) d = rw (← index) is in
    let h = held es place d there in
    let before : at es place ≡ Some d.1 = h.0 ∙ ap (λ (e : Place × Tables). Some e.1) (sym is_d) in
    let same : d.0 ≡ place = ap (λ (e : Place × Tables). e.0) is_d ∙ h.1 in
    let after : all_changed (at es place) batch ≡ Some w.1 = ap (λ (o : Option Tables). all_changed o batch) before ∙ sym made in
    (rw index (set-found es w place (named ∙ same) there) ∙ ap (λ (o : Option Tables). with_tables es place o) (sym after), tt)
found_batch (Err e) es place batch d w i index found is named made err =
    (tt, ap (λ (x : Place × Tables). set es i x) (err ∙ is) ∙ set-get_or es i d)

pub found_fits : (es : List (Place × Tables)) (place : Place) (batch : List Change) (d : Place × Tables) (i : ℕ)
    → i ≡ index_of es place → is_place_at es i place ≡ true → d ≡ get_or es i d → IsBatch (at es place) batch → IsBatch (Some d.1) batch
found_fits es place batch d i index found is fits =
    let there : is_place_at es (index_of es place) place ≡ true = rw (← index) found in
    let is_d : d ≡ get_or es (index_of es place) d = rw (← index) is in
    let before : at es place ≡ Some d.1 = (held es place d there).0 ∙ ap (λ (e : Place × Tables). Some e.1) (sym is_d) in
    rw before at fits

pub found_tables : (es : List (Place × Tables)) (place : Place) (d : Place × Tables) (i : ℕ)
    → i ≡ index_of es place → is_place_at es i place ≡ true → d ≡ get_or es i d → Some d.1 ≡ at es place
found_tables es place d i index found is =
    let there : is_place_at es (index_of es place) place ≡ true = rw (← index) found in
    let is_d : d ≡ get_or es (index_of es place) d = rw (← index) is in
    ap (λ (e : Place × Tables). Some e.1) is_d ∙ sym (held es place d there).0

-- what holds anyway holds where memory ran out
pub told_anyway : {T E P : Type 0} (r : Result T E) → P → OnErr r P
told_anyway (Ok x) p = tt
told_anyway (Err e) p = p

some_there : (o : Option Tables) (t : Tables) → Some t ≡ o → IsSome o
some_there o t is = subst (λ (x : Option Tables). IsSome x) is refl

pub found_some : (es : List (Place × Tables)) (place : Place) (d : Place × Tables) (i : ℕ)
    → i ≡ index_of es place → is_place_at es i place ≡ true → d ≡ get_or es i d → IsSome (at es place)
found_some es place d i index found is = some_there (at es place) d.1 (found_tables es place d i index found is)

pub absent_tables : (es : List (Place × Tables)) (place : Place) (i : ℕ) → IsStrictlySortedBy place_cmp (keys_of es)
    → i ≡ index_of es place → is_place_at es i place ≡ false → at es place ≡ None
absent_tables es place i sorted index found =
    let there : is_place_at es (index_of es place) place ≡ false = rw (← index) found in
    absent es place sorted there

-- a batch at a place that isn't held
pub new_fits : (es : List (Place × Tables)) (place : Place) (batch : List Change) (i : ℕ) → IsStrictlySortedBy place_cmp (keys_of es)
    → i ≡ index_of es place → is_place_at es i place ≡ false → IsBatch (at es place) batch → IsBatch (Some (begun 0 None)) batch
new_fits es place batch i sorted index found fits = (begins batch (rw (absent_tables es place i sorted index found) at fits)).0

pub new_batch : (es : List (Place × Tables)) (place : Place) (batch : List Change) (start w : Place × Tables) (i : ℕ) →
    IsStrictlySortedBy place_cmp (keys_of es)
    → i ≡ index_of es place → is_place_at es i place ≡ false → IsBatch (at es place) batch
    → start ≡ (place, begun 0 None) → w.0 ≡ start.0 → Some w.1 ≡ all_changed (Some start.1) batch
    → insert es i w ≡ with_batch es place batch
new_batch es place batch start w i sorted index found fits is named made =
    let there : is_place_at es (index_of es place) place ≡ false = rw (← index) found in
    let none : at es place ≡ None = absent es place sorted there in
    let first : w.0 ≡ place = named ∙ ap (λ (e : Place × Tables). e.0) is in
    let from : all_changed (Some start.1) batch ≡ all_changed None batch =
    ap (λ (e : Place × Tables). all_changed (Some e.1) batch) is ∙ (begins batch (rw none at fits)).1 in
    let after : all_changed (at es place) batch ≡ Some w.1 = ap (λ (o : Option Tables). all_changed o batch) none ∙ sym (made ∙ from) in
    rw index (ap (λ (p : Place). insert es (index_of es place) (p, w.1)) first ∙ insert-new es w.1 place there)
    ∙ ap (λ (o : Option Tables). with_tables es place o) (sym after)

-- a call that failed counted one fault
pub cause_failed : {T : Type 0} (before now : ℕ) (e : KeeperError) → e ≡ Failed → now ≡ raised before → before ≤ now → HasRisen before now →
    HasCause {T = T} before now (Err e)
cause_failed before now e is once later risen = rw is record { once = once; memory = tt; kept = tt; later = later; risen = risen }

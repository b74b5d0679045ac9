-- Ranges of locks whose volumes are taken out and put in.
use Rattle.std.proofs.Common.{◌≡◌, ◌≢◌, Bool, ℕ, zero, suc, ◌+◌, ◌<◌, ◌≤◌, List, [], ◌∷◌, ◌++◌, length, refl, sym, ◌∙◌, ap, subst, arith, Some, ◌⊎◌, inl, inr}
use Rattle.std.proofs.Common.{slice_set, length-set}
use Rattle.std.specs.List.{flat_map, slice_get}
use Rattle.std.proofs.lemmas.Grind.{flat_map-append}
use Rattle.std.proofs.lemmas.List.{append-nil}
use Rattle.std.proofs.lemmas.Option.{slice_get-get_or, slice_get_within, slice_get_past}
use Rattle.std.proofs.lemmas.List.{get_or-set_same, get_or-set_other}
use Rattle.std.proofs.lemmas.Bool.{cases_lt}
use Rattle.sw_core.specs.Limits.{journal_entries}
use Rattle.sw_core.specs.Worlds.{AreLifted, AreSetDown, IsSetDown, TellsOn, volume_in}
use Rattle.sw_core.specs.declared.slot.Slot.{Slot}
use Rattle.sw_core.specs.declared.slot.Slot.TheVariants as slots
use Rattle.sw_hashpath.specs.declared.secrets.Secrets.{Secrets}
use Rattle.sw_objdir.specs.Directories.{Kept, started}
use Rattle.sw_volume.specs.Tree.{Folders}

-- ---- lists

pub at-set_same : {X : Type 0} (xs : List X) (i : ℕ) (x : X) → i < length xs → slice_get (slice_set xs i x) i ≡ Some x
at-set_same xs i x h =
    let within : i < length (slice_set xs i x) = rw length-set h in
    slice_get-get_or (slice_set xs i x) i x within ∙ ap Some (get_or-set_same xs i x x h)

pub at-set_other : {X : Type 0} (xs : List X) (i j : ℕ) (x : X) → j ≢ i → slice_get (slice_set xs i x) j ≡ slice_get xs j
at-set_other xs i j x away = elim (cases_lt j (length xs)) [
  | inl within ↦
      let same : j < length (slice_set xs i x) = rw length-set within in
      slice_get-get_or (slice_set xs i x) j x same ∙ (ap Some (get_or-set_other xs i j x x away) ∙ sym (slice_get-get_or xs j x within))
  | inr past ↦
      let same : length (slice_set xs i x) ≤ j = rw length-set past in
      slice_get_past (slice_set xs i x) j same ∙ sym (slice_get_past xs j past)
]

pub same-some : {X : Type 0} (a b : X) → Some a ≡ Some b → a ≡ b
same-some a b same = cc

-- an item of a list that grew by one
at-push_cases : {X : Type 0} (xs : List X) (x : X) (i : ℕ) (y : X) → slice_get (xs ++ x ∷ []) i ≡ Some y →
    (slice_get xs i ≡ Some y) ⊎ ((i ≡ length xs) × (x ≡ y))
at-push_cases [] x zero y is = inr (refl, same-some x y is)
at-push_cases [] x (suc i) y is = cc
at-push_cases (z ∷ xs) x zero y is = inl is
at-push_cases (z ∷ xs) x (suc i) y is = elim (at-push_cases xs x i y is) [ inl before ↦ inl before | inr last ↦ inr (ap suc last.0, last.1) ]

at-push_before : {X : Type 0} (xs : List X) (x : X) (i : ℕ) → i < length xs → slice_get (xs ++ x ∷ []) i ≡ slice_get xs i
at-push_before [] x i below = absurd (omega arith)
at-push_before (z ∷ xs) x zero below = refl
at-push_before (z ∷ xs) x (suc i) below = at-push_before xs x i (omega arith)

at-push_last : {X : Type 0} (xs : List X) (x : X) (i : ℕ) → i ≡ length xs → slice_get (xs ++ x ∷ []) i ≡ Some x
at-push_last [] x zero e = refl
at-push_last [] x (suc i) e = absurd (omega arith)
at-push_last (z ∷ xs) x zero e = absurd (omega arith)
at-push_last (z ∷ xs) x (suc i) e = at-push_last xs x i (omega arith)

pub length-push : {X : Type 0} (xs : List X) (x : X) → length (xs ++ x ∷ []) ≡ length xs + 1
length-push [] x = refl
length-push (z ∷ xs) x = let more = length-push xs x in omega arith

module _ {V : Type 0} where
  -- ---- volumes put in

  pub none-down : (power max_bytes first : ℕ) (slots : List (Slot V)) → AreSetDown power max_bytes first [] slots slots
  none-down power max_bytes first slots = record { within = λ i v secrets none there. cc; outside = λ l out. refl; count = refl }

  lifted-down : (power max_bytes : ℕ) (v : V) (x y : Slot V) (secrets : Secrets) → x ≡ slots.Lifted secrets → IsSetDown power max_bytes v x y
      → y ≡ slots.Open (started v secrets power journal_entries max_bytes)
  lifted-down power max_bytes v (slots.Lifted s) y secrets e is = let same : s ≡ secrets = cc in rw (← same) is
  lifted-down power max_bytes v (slots.Open k) y secrets e is = cc
  lifted-down power max_bytes v slots.Empty y secrets e is = cc

  pub one-down : (power max_bytes first place : ℕ) (given : List V) (v : V) (old now : List (Slot V)) (x y : Slot V) → place ≡ first + length given
      → place < length now
      → AreSetDown power max_bytes first given old now → slice_get now place ≡ Some x → IsSetDown power max_bytes v x y →
      AreSetDown power max_bytes first (given ++ v ∷ []) old (slice_set now place y)
  one-down power max_bytes first place given v old now x y here below all there is = record {
    within = λ i w secrets gives out. within i w secrets out (at-push_cases given v i w gives);
    outside = λ l out. at-set_other now place l y (apart l out) ∙ all.outside l (further l out);
    count = length-set now place y ∙ all.count;
  }
    where
      apart : (l : ℕ) → (l < first) ⊎ (first + length (given ++ v ∷ []) ≤ l) → l ≢ place
      apart l (inl low) same = absurd (omega arith)
      apart l (inr high) same = absurd (omega (arith, length-push given v))

      further : (l : ℕ) → (l < first) ⊎ (first + length (given ++ v ∷ []) ≤ l) → (l < first) ⊎ (first + length given ≤ l)
      further l (inl low) = inl low
      further l (inr high) = inr (omega (arith, length-push given v))

      within : (i : ℕ) (w : V) (secrets : Secrets) → slice_get old (first + i) ≡ Some (slots.Lifted secrets) →
          (slice_get given i ≡ Some w) ⊎ ((i ≡ length given) × (v ≡ w))
          → slice_get (slice_set now place y) (first + i) ≡ Some (slots.Open (started w secrets power journal_entries max_bytes))
      within i w secrets out (inl before) =
          let low : i < length given = slice_get_within given i w before in
          at-set_other now place (first + i) y (λ same. absurd (omega arith)) ∙ all.within i w secrets before out
      within i w secrets out (inr last) =
          let same : first + i ≡ place = omega arith in
          let was : slice_get now (first + i) ≡ slice_get old (first + i) = all.outside (first + i) (inr (omega arith)) in
          let lifted : x ≡ slots.Lifted secrets = same-some x (slots.Lifted secrets) (sym there ∙ (ap (slice_get now) (sym same) ∙ (was ∙ out))) in
          ap (slice_get (slice_set now place y)) same
          ∙ (at-set_same now place y below ∙ ap Some (lifted-down power max_bytes v x y secrets lifted is ∙ ap
          (λ u. slots.Open (started u secrets power journal_entries max_bytes)) last.1))

  -- ---- directories taken out

  pub none-lifted : (first : ℕ) (slots : List (Slot V)) → AreLifted first first slots slots []
  none-lifted first slots = record {
    within = λ l k from to is. absurd (omega arith);
    gives = λ i k to is. absurd (omega arith);
    outside = λ l out. refl;
    count = refl;
    amount = omega arith;
  }

  pub one-lifted : (first place : ℕ) (given : List V) (old now : List (Slot V)) (k : Kept V) (y : Slot V) → place < length now
      → AreLifted first place old now given → slice_get now place ≡ Some (slots.Open k) → y ≡ slots.Lifted k.secrets
      → AreLifted first (place + 1) old (slice_set now place y) (given ++ k.volume ∷ [])
  one-lifted first place given old now k y below all there is = record {
    within = λ l j from to was. within l j from to was (cases_lt l place);
    gives = λ i j to was. gives i j to was (cases_lt (first + i) place);
    outside = λ l out. at-set_other now place l y (apart l out) ∙ all.outside l (further l out);
    count = length-set now place y ∙ all.count;
    amount = omega (arith, all.amount, length-push given k.volume);
  }
    where
      apart : (l : ℕ) → (l < first) ⊎ (place + 1 ≤ l) → l ≢ place
      apart l (inl low) same = absurd (omega (arith, all.amount))
      apart l (inr high) same = absurd (omega arith)

      further : (l : ℕ) → (l < first) ⊎ (place + 1 ≤ l) → (l < first) ⊎ (place ≤ l)
      further l (inl low) = inl low
      further l (inr high) = inr (omega arith)

      -- what stands here is what stood here
      stood : (l : ℕ) (j : Kept V) → l ≡ place → slice_get old l ≡ Some (slots.Open j) → k ≡ j
      stood l j same was =
          let both : Some (slots.Open k) ≡ Some (slots.Open j) = sym there ∙ (ap (slice_get now) (sym same) ∙ (all.outside l (inr (omega arith)) ∙ was)) in
          cc

      within : (l : ℕ) (j : Kept V) → first ≤ l → l < place + 1 → slice_get old l ≡ Some (slots.Open j) → (l < place) ⊎ (place ≤ l)
          → slice_get (slice_set now place y) l ≡ Some (slots.Lifted j.secrets)
      within l j from to was (inl low) = at-set_other now place l y (λ same. absurd (omega arith)) ∙ all.within l j from low was
      within l j from to was (inr high) =
          let same : l ≡ place = omega arith in
          ap (slice_get (slice_set now place y)) same
          ∙ (at-set_same now place y below ∙ ap Some (is ∙ ap (λ (d : Kept V). slots.Lifted d.secrets) (stood l j same was)))

      gives : (i : ℕ) (j : Kept V) → first + i < place + 1 → slice_get old (first + i) ≡ Some (slots.Open j) → (first + i < place) ⊎ (place ≤ first + i)
          → slice_get (given ++ k.volume ∷ []) i ≡ Some j.volume
      gives i j to was (inl low) = at-push_before given k.volume i (omega (arith, all.amount)) ∙ all.gives i j low was
      gives i j to was (inr high) =
          at-push_last given k.volume i (omega (arith, all.amount)) ∙ ap (λ (d : Kept V). Some d.volume) (stood (first + i) j (omega arith) was)

  -- what stands at the next lock is what stood there
  pub open-now : (first place : ℕ) (given : List V) (old now : List (Slot V)) (x : Slot V) (k : Kept V) → AreLifted first place old now given
      → slice_get now place ≡ Some x → slice_get old place ≡ Some (slots.Open k) → x ≡ slots.Open k
  open-now first place given old now x k all there was = same-some x (slots.Open k) (sym there ∙ (all.outside place (inr (omega arith)) ∙ was))

  -- ---- volumes that are there

  pub gives-more : (given : List (Slot V)) (x : Slot V) (vs : List V) → vs ≡ volume_in x → flat_map volume_in given ++ vs ≡ flat_map volume_in (given ++ x ∷ [])
  gives-more given x vs e = ap (λ (us : List V). flat_map volume_in given ++ us) (e ∙ sym (append-nil (volume_in x))) ∙ sym
      (flat_map-append volume_in given (x ∷ []))

  pub gives-few : (given : List (Slot V)) → length (flat_map volume_in given) ≤ length given
  gives-few [] = omega arith
  gives-few (slots.Open k ∷ rest) = let few = gives-few rest in omega arith
  gives-few (slots.Lifted secrets ∷ rest) = let few = gives-few rest in omega arith
  gives-few (slots.Empty ∷ rest) = let few = gives-few rest in omega arith

module _ {V : Type 0} (tells : V → Bool) (files : V → Folders) (faults : V → ℕ) where
  abbrev pub AllTellOn : ℕ → ℕ → List (Slot V) → Type 0
  AllTellOn first past old = (l : ℕ) (k : Kept V) → first ≤ l → l < past → slice_get old l ≡ Some (slots.Open k) → TellsOn tells files faults k

  pub one-tells : (first place : ℕ) (old : List (Slot V)) (k : Kept V) → slice_get old place ≡ Some (slots.Open k) → AllTellOn first place old →
      TellsOn tells files faults k
      → AllTellOn first (place + 1) old
  one-tells first place old k there all told = λ l j from to was. at l j from to was (cases_lt l place)
    where
      at : (l : ℕ) (j : Kept V) → first ≤ l → l < place + 1 → slice_get old l ≡ Some (slots.Open j) → (l < place) ⊎ (place ≤ l) → TellsOn tells files faults j
      at l j from to was (inl low) = all l j from low was
      at l j from to was (inr high) =
          let here : l ≡ place = omega arith in
          let both : Some (slots.Open k) ≡ Some (slots.Open j) = sym there ∙ (ap (slice_get old) (sym here) ∙ was) in
          let same : k ≡ j = cc in
          subst (λ (d : Kept V). TellsOn tells files faults d) same told

-- Ranges of locks whose keepers are taken out and put in.
use Rattle.std.proofs.Common.{◌≡◌, ◌≢◌, ℕ, ◌+◌, ◌<◌, ◌≤◌, List, [], ◌∷◌, ◌++◌, length, refl, sym, ◌∙◌, ap, arith, Some, ◌⊎◌, inl, inr, slice_set, length-set}
use Rattle.std.specs.List.{flat_map, slice_get}
use Rattle.std.proofs.lemmas.Bool.{cases_lt}
use Rattle.std.proofs.lemmas.Grind.{flat_map-append}
use Rattle.std.proofs.lemmas.List.{append-nil}
use Rattle.std.proofs.lemmas.Option.{slice_get_within}
use Rattle.sw_container_db.specs.ContDirs.{ContKept}
use Rattle.sw_container_locks.proofs.Lists.{at-push_before, at-push_cases, at-push_last, at-set_other, at-set_same, length-push, some-same}
use Rattle.sw_container_locks.specs.Slots.{AreLifted, AreSetDown, IsSetDown, begun, keeper_in, keepers_of}
use Rattle.sw_container_locks.specs.declared.cont_slot.ContSlot.{ContSlot}
use Rattle.sw_container_locks.specs.declared.cont_slot.ContSlot.TheVariants as slots

module _ {K : Type 0} where
  -- ---- keepers put in

  pub none-down : (first : ℕ) (all : List (ContSlot K)) → AreSetDown first [] all all
  none-down first all = record { within = λ i keeper none there. cc; stays = λ l is. refl; outside = λ l out. refl; count = refl }

  lifted-down : (keeper : K) (x y : ContSlot K) → x ≡ slots.Lifted → IsSetDown keeper x y → y ≡ slots.Open (begun keeper)
  lifted-down keeper slots.Lifted y e is = is
  lifted-down keeper (slots.Open k) y e is = cc
  lifted-down keeper slots.Empty y e is = cc

  other-stays : (keeper : K) (x y : ContSlot K) → Some x ≢ Some slots.Lifted → IsSetDown keeper x y → y ≡ x
  other-stays keeper slots.Lifted y e is = absurd (e refl)
  other-stays keeper (slots.Open k) y e is = is
  other-stays keeper slots.Empty y e is = is

  pub one-down : (first at : ℕ) (given : List K) (keeper : K) (old now : List (ContSlot K)) (x y : ContSlot K) → at ≡ first + length given → at < length now
      → AreSetDown first given old now → slice_get now at ≡ Some x → IsSetDown keeper x y → AreSetDown first (given ++ keeper ∷ []) old (slice_set now at y)
  one-down first at given keeper old now x y here below all there is = record {
    within = λ i other gives out. within i other out (at-push_cases given keeper i other gives);
    stays = λ l apart_from. stays l apart_from (cases_lt l at) (cases_lt at l);
    outside = λ l out. at-set_other now at l y (apart l out) ∙ all.outside l (further l out);
    count = length-set now at y ∙ all.count;
  }
    where
      apart : (l : ℕ) → (l < first) ⊎ (first + length (given ++ keeper ∷ []) ≤ l) → l ≢ at
      apart l (inl low) same = absurd (omega arith)
      apart l (inr high) same = absurd (omega (arith, length-push given keeper))

      further : (l : ℕ) → (l < first) ⊎ (first + length (given ++ keeper ∷ []) ≤ l) → (l < first) ⊎ (first + length given ≤ l)
      further l (inl low) = inl low
      further l (inr high) = inr (omega (arith, length-push given keeper))

      stood : slice_get old at ≡ Some x
      stood = sym (all.outside at (inr (omega arith))) ∙ there

      within : (i : ℕ) (other : K) → slice_get old (first + i) ≡ Some slots.Lifted → (slice_get given i ≡ Some other) ⊎ ((i ≡ length given) × (keeper ≡ other))
          → slice_get (slice_set now at y) (first + i) ≡ Some (slots.Open (begun other))
      within i other out (inl before) =
          let low : i < length given = slice_get_within given i other before in
          at-set_other now at (first + i) y (λ same. absurd (omega arith)) ∙ all.within i other before out
      within i other out (inr last) =
          let same : first + i ≡ at = omega arith in
          let lifted : x ≡ slots.Lifted = some-same x slots.Lifted (sym stood ∙ (ap (slice_get old) (sym same) ∙ out)) in
          ap (slice_get (slice_set now at y)) same
          ∙ (at-set_same now at y below ∙ ap Some (lifted-down keeper x y lifted is ∙ ap (λ (u : K). slots.Open (begun u)) last.1))

      stays : (l : ℕ) → slice_get old l ≢ Some slots.Lifted → (l < at) ⊎ (at ≤ l) → (at < l) ⊎ (l ≤ at) → slice_get (slice_set now at y) l ≡ slice_get old l
      stays l other (inl low) _ = at-set_other now at l y (λ same. absurd (omega (arith, low, same))) ∙ all.stays l other
      stays l other (inr from) (inl high) = at-set_other now at l y (λ same. absurd (omega (arith, high, same))) ∙ all.stays l other
      stays l other (inr from) (inr to) =
          let same : l ≡ at = omega (arith, from, to) in
          let was : slice_get old l ≡ Some x = ap (slice_get old) same ∙ stood in
          ap (slice_get (slice_set now at y)) same
          ∙ (at-set_same now at y below ∙ (ap Some (other-stays keeper x y (λ lifted. other (was ∙ lifted)) is) ∙ sym was))

  -- ---- locks taken out

  pub none-lifted : (first : ℕ) (all : List (ContSlot K)) → AreLifted first first all all []
  none-lifted first all = record {
    within = λ l k from to is. absurd (omega arith);
    gives = λ i k to is. absurd (omega arith);
    outside = λ l out. refl;
    count = refl;
    amount = omega arith;
  }

  pub one-lifted : (first at : ℕ) (given : List K) (old now : List (ContSlot K)) (k : ContKept K) → at < length now
      → AreLifted first at old now given → slice_get now at ≡ Some (slots.Open k)
      → AreLifted first (at + 1) old (slice_set now at slots.Lifted) (given ++ k.keeper ∷ [])
  one-lifted first at given old now k below all there = record {
    within = λ l j from to was. within l j from to was (cases_lt l at);
    gives = λ i j to was. gives i j to was (cases_lt (first + i) at);
    outside = λ l out. at-set_other now at l slots.Lifted (apart l out) ∙ all.outside l (further l out);
    count = length-set now at slots.Lifted ∙ all.count;
    amount = omega (arith, all.amount, length-push given k.keeper);
  }
    where
      apart : (l : ℕ) → (l < first) ⊎ (at + 1 ≤ l) → l ≢ at
      apart l (inl low) same = absurd (omega (arith, all.amount))
      apart l (inr high) same = absurd (omega arith)

      further : (l : ℕ) → (l < first) ⊎ (at + 1 ≤ l) → (l < first) ⊎ (at ≤ l)
      further l (inl low) = inl low
      further l (inr high) = inr (omega arith)

      -- what stands here is what stood here
      stood : (l : ℕ) (j : ContKept K) → l ≡ at → slice_get old l ≡ Some (slots.Open j) → k ≡ j
      stood l j same was =
          let both : Some (slots.Open k) ≡ Some (slots.Open j) = sym there ∙ (ap (slice_get now) (sym same) ∙ (all.outside l (inr (omega arith)) ∙ was)) in
          cc

      within : (l : ℕ) (j : ContKept K) → first ≤ l → l < at + 1 → slice_get old l ≡ Some (slots.Open j) → (l < at) ⊎ (at ≤ l)
          → slice_get (slice_set now at slots.Lifted) l ≡ Some slots.Lifted
      within l j from to was (inl low) = at-set_other now at l slots.Lifted (λ same. absurd (omega arith)) ∙ all.within l j from low was
      within l j from to was (inr high) =
          let same : l ≡ at = omega arith in
          ap (slice_get (slice_set now at slots.Lifted)) same ∙ at-set_same now at slots.Lifted below

      gives : (i : ℕ) (j : ContKept K) → first + i < at + 1 → slice_get old (first + i) ≡ Some (slots.Open j) → (first + i < at) ⊎ (at ≤ first + i)
          → slice_get (given ++ k.keeper ∷ []) i ≡ Some j.keeper
      gives i j to was (inl low) = at-push_before given k.keeper i (omega (arith, all.amount)) ∙ all.gives i j low was
      gives i j to was (inr high) =
          at-push_last given k.keeper i (omega (arith, all.amount)) ∙ ap (λ (d : ContKept K). Some d.keeper) (stood (first + i) j (omega arith) was)

  -- what stands at the next lock is what stood there
  pub open-now : (first at : ℕ) (given : List K) (old now : List (ContSlot K)) (x : ContSlot K) (k : ContKept K) → AreLifted first at old now given
      → slice_get now at ≡ Some x → slice_get old at ≡ Some (slots.Open k) → x ≡ slots.Open k
  open-now first at given old now x k all there was = some-same x (slots.Open k) (sym there ∙ (all.outside at (inr (omega arith)) ∙ was))

  -- ---- keepers that are there

  pub gives-more : (given : List (ContSlot K)) (x : ContSlot K) (ks : List K) → ks ≡ keeper_in x → keepers_of given ++ ks ≡ keepers_of (given ++ x ∷ [])
  gives-more given x ks e = ap (λ (us : List K). keepers_of given ++ us) (e ∙ sym (append-nil (keeper_in x))) ∙ sym (flat_map-append keeper_in given (x ∷ []))

  pub gives-few : (given : List (ContSlot K)) → length (flat_map keeper_in given) ≤ length given
  gives-few [] = omega arith
  gives-few (slots.Open k ∷ rest) = let few = gives-few rest in omega arith
  gives-few (slots.Lifted ∷ rest) = let few = gives-few rest in omega arith
  gives-few (slots.Empty ∷ rest) = let few = gives-few rest in omega arith

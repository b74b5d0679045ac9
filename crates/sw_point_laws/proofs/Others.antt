-- One table of a ledger, and all the others.
use Rattle.std.proofs.Common.{◌≡◌, ℕ, Bool, true, false, cond, ◌&&◌, nat_eq, Some, ◌⊎◌}
use Rattle.std.proofs.Common.{if◌then◌else◌, inl, inr, refl, sym, ap, subst}
use Rattle.std.proofs.lemmas.Bool.{and_parts, eq-eqb, eqb-true}
use Rattle.sw_container_steps.proofs.Placing.{place-same, place-self}
use Rattle.sw_container_steps.specs.Entries.{is_same_place}
use Rattle.sw_hashpath.specs.declared.place.Place.{Place}
use Rattle.sw_shard_laws.specs.Ledger.{Ledger, Table}

-- the table of this container at this device
module _ (d : ℕ) (p : Place) where
  abbrev is_here : ℕ → Place → Bool
  is_here e q = nat_eq e d && is_same_place q p

  here-itself : is_here d p ≡ true
  here-itself = let one : nat_eq d d ≡ true = eq-eqb d d refl in let two : is_same_place p p ≡ true = place-self p in rw (one, two) refl

  is-here : (e : ℕ) (q : Place) → is_here e q ≡ true → (e ≡ d) × (q ≡ p)
  is-here e q is = let parts = and_parts (nat_eq e d) (is_same_place q p) is in (eqb-true e d parts.0, place-same q p parts.1)

  -- another one is this one, or isn't
  pub here-or-not : (e : ℕ) (q : Place) → ((e ≡ d) × (q ≡ p)) ⊎ ((e ≡ d) × (q ≡ p) → ⊥)
  here-or-not e q = by (is_here e q) refl
    where
      apart : is_here e q ≡ false → (e ≡ d) × (q ≡ p) → ⊥
      apart isnt same =
          let is : is_here e q ≡ true =
          subst (λ (f : ℕ). is_here f q ≡ true) (sym same.0) (subst (λ (r : Place). is_here d r ≡ true) (sym same.1) here-itself) in
          cc

      by : (b : Bool) → is_here e q ≡ b → ((e ≡ d) × (q ≡ p)) ⊎ ((e ≡ d) × (q ≡ p) → ⊥)
      by true is = inl (is-here e q is)
      by false is = inr (apart is)

  -- all other tables are as they were
  abbrev pub Others : Ledger → Ledger → Type 0
  Others l after = (e : ℕ) (q : Place) → (after e q ≡ l e q) ⊎ ((e ≡ d) × (q ≡ p))

  -- so it is the same ledger, where this one is too
  pub same-ledger : (l after : Ledger) → Others l after → after d p ≡ l d p → after ≡ l
  same-ledger l after others here = λ i e q. each e q i
    where
      each : (e : ℕ) (q : Place) → after e q ≡ l e q
      each e q = by (others e q)
        where
          by : (after e q ≡ l e q) ⊎ ((e ≡ d) × (q ≡ p)) → after e q ≡ l e q
          by (inl same) = same
          by (inr is) =
              subst (λ (f : ℕ). after f q ≡ l f q) (sym is.0) (subst (λ (r : Place). after d r ≡ l d r) (sym is.1) here)

  -- ---- a table that is set

  abbrev pub with_table : Ledger → Table → Ledger
  with_table l t e q = if is_here e q then Some t else l e q

  pub with-here : (l : Ledger) (t : Table) → with_table l t d p ≡ Some t
  with-here l t = ap (λ (b : Bool). cond b (Some t) (l d p)) here-itself

  pub with-others : (l : Ledger) (t : Table) → Others l (with_table l t)
  with-others l t e q = by (is_here e q) refl
    where
      by : (b : Bool) → is_here e q ≡ b → (cond b (Some t) (l e q) ≡ l e q) ⊎ ((e ≡ d) × (q ≡ p))
      by true is = inr (is-here e q is)
      by false is = inl refl

  pub others-on : (l : Ledger) (t : Table) (after : Ledger) → Others l after → Others (with_table l t) after
  others-on l t after others e q = by (is_here e q) refl (others e q)
    where
      by : (b : Bool) → is_here e q ≡ b → (after e q ≡ l e q) ⊎ ((e ≡ d) × (q ≡ p)) → (after e q ≡ cond b (Some t) (l e q)) ⊎ ((e ≡ d) × (q ≡ p))
      by true is old = inr (is-here e q is)
      by false is old = old

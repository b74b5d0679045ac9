-- The puts and deletions of an account as what reached devices, by a ledger.
use Rattle.std.proofs.Common.{◌≡◌, ℕ, true, List, [], ◌∷◌, Option, None, Some, ◌⊎◌, inl, inr, refl, sym, ◌∙◌, ap, subst}
use Rattle.std.specs.List.{Contains}
use Rattle.sw_listing_laws.proofs.Accounts.{IsKnown}
use Rattle.sw_listing_laws.proofs.Standing.{Stands, covers-not-above, reach}
use Rattle.sw_listing_laws.specs.Plain.{Cluster, IsNamed}
use Rattle.sw_machine.specs.Machine.{KnownWrite, writes_among}
use Rattle.sw_object_steps.specs.Journals.{Hash}
use Rattle.sw_pending_laws.proofs.Among.{behind, front-or-behind, in-front, none-among}
use Rattle.sw_pending_laws.specs.Ledger.{Reach, covers}
use Rattle.sw_state.proofs.StateOf.{is_base}
use Rattle.sw_state.specs.Bases.{base_at}
use Rattle.sw_state.specs.States.{IsBaseOf, base_of}
use Rattle.sw_state.specs.declared.base.Base.{Base}
use Rattle.sw_state.specs.declared.write.Write.{Write}
use Rattle.sw_account_laws.proofs.Among.{IsAmong, among-known, known-among}

abbrev with_reach : ℕ → Hash → Option Base → List Reach → List Reach
with_reach d hash None others = others
with_reach d hash (Some b) others = reach d hash b ∷ others

abbrev pub reaches_of : List (ℕ × KnownWrite) → List Reach
reaches_of [] = []
reaches_of (x ∷ xs) = with_reach x.0 x.1.name.hash (base_at x.1.write.time x.1.write.kind) (reaches_of xs)

-- ---- they are what is known

reaches : (xs : List (ℕ × KnownWrite)) (d : ℕ) (n : KnownWrite) (b : Base) → Contains xs (d, n) → base_at n.write.time n.write.kind ≡ Some b
    → Contains (reaches_of xs) (reach d n.name.hash b)
reaches [] d n b there is = absurd (none-among {X = ℕ × KnownWrite} (d, n) there)
reaches (x ∷ xs) d n b there is = by (front-or-behind {X = ℕ × KnownWrite} x xs (d, n) there) (λ old. reaches xs d n b old is)
  where
    new : (o : Option Base) → o ≡ Some b → Contains (with_reach d n.name.hash o (reaches_of xs)) (reach d n.name.hash b)
    new None never = cc
    new (Some y) some =
        let same : y ≡ b = cc in
        subst (λ (z : Base). Contains (reach d n.name.hash z ∷ reaches_of xs) (reach d n.name.hash b)) (sym same)
        (in-front (reach d n.name.hash b) (reaches_of xs))

    late : (o : Option Base) → Contains (reaches_of xs) (reach d n.name.hash b)
        → Contains (with_reach x.0 x.1.name.hash o (reaches_of xs)) (reach d n.name.hash b)
    late None old = old
    late (Some y) old = behind (reach x.0 x.1.name.hash y) (reaches_of xs) (reach d n.name.hash b) old

    by : ◌≡◌ {A = ℕ × KnownWrite} (d, n) x ⊎ Contains xs (d, n) → (Contains xs (d, n) → Contains (reaches_of xs) (reach d n.name.hash b))
        → Contains (reaches_of (x ∷ xs)) (reach d n.name.hash b)
    by (inl same) rest =
        subst (λ (y : ℕ × KnownWrite). Contains (reaches_of (y ∷ xs)) (reach d n.name.hash b)) same (new (base_at n.write.time n.write.kind) is)
    by (inr old) rest = late (base_at x.1.write.time x.1.write.kind) (rest old)

-- where a reach comes from
record ComesFrom (xs : List (ℕ × KnownWrite)) (a : Reach) : Type 0 where
  n : KnownWrite
  there : Contains xs (a.device, n)
  hash_is : n.name.hash ≡ a.hash
  base_is : base_at n.write.time n.write.kind ≡ Some a.base

comes : (xs : List (ℕ × KnownWrite)) (a : Reach) → Contains (reaches_of xs) a → ComesFrom xs a
comes [] a there = absurd (none-among a there)
comes (x ∷ xs) a there = at (base_at x.1.write.time x.1.write.kind) refl there (λ old. comes xs a old)
  where
    later : ComesFrom xs a → ComesFrom (x ∷ xs) a
    later old = record { n = old.n; there = behind {X = ℕ × KnownWrite} x xs (a.device, old.n) old.there; hash_is = old.hash_is; base_is = old.base_is }

    by : (b : Base) → base_at x.1.write.time x.1.write.kind ≡ Some b → (a ≡ reach x.0 x.1.name.hash b) ⊎ Contains (reaches_of xs) a
        → (Contains (reaches_of xs) a → ComesFrom xs a) → ComesFrom (x ∷ xs) a
    by b is (inl same) rest = record {
      n = x.1;
      there = subst (λ (d : ℕ). Contains (x ∷ xs) (d, x.1)) (ap (λ (y : Reach). y.device) (sym same)) (in-front {X = ℕ × KnownWrite} x xs);
      hash_is = ap (λ (y : Reach). y.hash) (sym same);
      base_is = is ∙ ap (λ (y : Reach). Some y.base) (sym same);
    }
    by b is (inr old) rest = later (rest old)

    at : (o : Option Base) → base_at x.1.write.time x.1.write.kind ≡ o → Contains (with_reach x.0 x.1.name.hash o (reaches_of xs)) a
        → (Contains (reaches_of xs) a → ComesFrom xs a) → ComesFrom (x ∷ xs) a
    at None is there rest = later (rest there)
    at (Some b) is there rest = by b is (front-or-behind (reach x.0 x.1.name.hash b) (reaches_of xs) a there) rest

module _ (c : Cluster) (known : List (ℕ × KnownWrite)) (named : (d : ℕ) (n : KnownWrite) → Contains known (d, n) → IsNamed c n.name) where
  pub are-known : IsKnown c known (reaches_of known)
  are-known = record {
    named = named;
    reaches = λ d n b there is. reaches known d n b there is;
    comes = λ a there. let from = comes known a there in (from.n, from.there, from.hash_is, from.base_is);
  }

-- ---- what stands of them

module _ (c : Cluster) (known : List (ℕ × KnownWrite)) (reached : List Reach) (is : IsKnown c known reached) (d : ℕ) (hash : Hash) where
  abbrev ws : List Write
  ws = writes_among known d hash

  -- a put or deletion that reached the device is one of the writes
  there-among : (b : Base) → Contains reached (reach d hash b) → (w : Write) × Contains ws w × (base_at w.time w.kind ≡ Some b)
  there-among b there =
      let from = is.comes (reach d hash b) there in
      (from.0.write, subst (λ (h : Hash). Contains (writes_among known d h) from.0.write) from.2 (known-among known d from.0 from.1), from.3)

  pub base-stands : Stands reached d hash (base_of ws)
  base-stands = by (base_of ws) (is_base ws)
    where
      by : (o : Option Base) → IsBaseOf ws o → Stands reached d hash o
      by None none = λ b there.
          let w = there-among b there in
          let never : None ≡ Some b = sym (none w.0 w.1) ∙ w.2 in cc
      by (Some top) one = (reached-top (among-known known d hash one.0.0 one.0.1), covers-all)
        where
          reached-top : IsAmong known d hash one.0.0 → Contains reached (reach d hash top)
          reached-top from =
              subst (λ (h : Hash). Contains reached (reach d h top)) from.hash_is
              (is.reaches d from.n top from.there
              (subst (λ (w : Write). base_at w.time w.kind ≡ Some top) (sym from.write_is) one.0.2))

          covers-all : (b : Base) → Contains reached (reach d hash b) → covers top b ≡ true
          covers-all b there =
              let w = there-among b there in covers-not-above b top (one.1 w.0 b w.1 w.2)

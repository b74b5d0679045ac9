-- The objects after what turned one value of one device.
use Rattle.std.proofs.Common.{◌≡◌, ℕ, List, [], ◌∷◌, ◌++◌, None, Some, ◌⊎◌, inl, inr, sym, ◌∙◌, ap, subst}
use Rattle.std.specs.List.{Contains}
use Rattle.std.proofs.lemmas.List.{append-nil}
use Rattle.std.proofs.lemmas.List.Elements.{Contains-append_left, Contains-push, Contains-push_cases}
use Rattle.sw_hashpath.specs.declared.name.Name.{Name}
use Rattle.sw_machine.specs.Machine.{KnownWrite, ObjSide}
use Rattle.sw_machine.specs.Sides.{TellsAt}
use Rattle.sw_object_steps.specs.Journals.{Hash}
use Rattle.sw_object_steps.specs.Values.{ObjValue, Records}
use Rattle.sw_pending_laws.proofs.Among.{behind, front-or-behind, in-front}
use Rattle.sw_pending_laws.specs.Ledger.{Reach}
use Rattle.sw_state.specs.Bases.{base_at}
use Rattle.sw_state.specs.declared.base.Base.{Base}
use Rattle.sw_state.specs.declared.write.Write.{Write}
use Rattle.sw_listing_laws.proofs.Accounts.{Fits, IsKnown, ObjAccounts}
use Rattle.sw_listing_laws.proofs.Setting.{same-or-apart}
use Rattle.sw_listing_laws.proofs.Standing.{reach, stands-apart}
use Rattle.sw_listing_laws.specs.Plain.{Cluster, IsNamed}

module _ (c : Cluster) where
  -- ---- what became known

  pub known-same : (known after : List (ℕ × KnownWrite)) (reached : List Reach) → after ≡ known ++ [] → IsKnown c known reached → IsKnown c after reached
  known-same known after reached same is = subst (λ (xs : List (ℕ × KnownWrite)). IsKnown c xs reached) (sym (same ∙ append-nil known)) is

  module _ (known : List (ℕ × KnownWrite)) (reached : List Reach) (is : IsKnown c known reached) (device : ℕ) (name : Name) (w : Write)
      (named : IsNamed c name) where
    abbrev n : KnownWrite
    n = record { name = name; write = w }

    -- it is the new one
    abbrev IsNew : ℕ → KnownWrite → Type 0
    IsNew d x = ◌≡◌ {A = ℕ × KnownWrite} (device, n) (d, x)

    names : (d : ℕ) (x : KnownWrite) → Contains known (d, x) ⊎ IsNew d x → IsNamed c x.name
    names d x (inl old) = is.named d x old
    names d x (inr new) = subst (λ (y : ℕ × KnownWrite). IsNamed c y.1.name) new named

    -- a put or deletion did
    pub known-more : (b : Base) → base_at w.time w.kind ≡ Some b → IsKnown c (known ++ (device, n) ∷ []) (reach device name.hash b ∷ reached)
    known-more b base_is = record {
      named = λ d x there. names d x (Contains-push_cases known (device, n) (d, x) there);
      reaches = λ d x y there at. reaches d x y at (Contains-push_cases known (device, n) (d, x) there);
      comes = λ a there. comes a (front-or-behind (reach device name.hash b) reached a there);
    }
      where
        some : (x y : Base) → Some x ≡ Some y → x ≡ y
        some x y same = cc

        reaches : (d : ℕ) (x : KnownWrite) (y : Base) → base_at x.write.time x.write.kind ≡ Some y → Contains known (d, x) ⊎ IsNew d x
            → Contains (reach device name.hash b ∷ reached) (reach d x.name.hash y)
        reaches d x y at (inl old) = behind (reach device name.hash b) reached (reach d x.name.hash y) (is.reaches d x y old at)
        reaches d x y at (inr new) =
            let same : b ≡ y =
            some b y (sym base_is ∙ (ap (λ (z : ℕ × KnownWrite). base_at z.1.write.time z.1.write.kind) new ∙ at)) in
            let whole : reach device name.hash b ≡ reach d x.name.hash y = λ i. reach (new i).0 (new i).1.name.hash (same i) in
            subst (λ (a : Reach). Contains (reach device name.hash b ∷ reached) a) whole (in-front (reach device name.hash b) reached)

        comes : (a : Reach) → (a ≡ reach device name.hash b) ⊎ Contains reached a
            → (x : KnownWrite) × Contains (known ++ (device, n) ∷ []) (a.device, x) × (x.name.hash ≡ a.hash)
            × (base_at x.write.time x.write.kind ≡ Some a.base)
        comes a (inl new) = (
          n,
          subst (λ (d : ℕ). Contains (known ++ (device, n) ∷ []) (d, n)) (sym (ap (λ (x : Reach). x.device) new)) (Contains-push known (device, n)),
          sym (ap (λ (x : Reach). x.hash) new),
          base_is ∙ ap (λ (x : Reach). Some x.base) (sym new),
        )
        comes a (inr old) =
            let was = is.comes a old in
            (was.0, Contains-append_left known ((device, n) ∷ []) (a.device, was.0) was.1, was.2, was.3)

    -- what is neither did
    pub known-beside : base_at w.time w.kind ≡ None → IsKnown c (known ++ (device, n) ∷ []) reached
    known-beside none = record {
      named = λ d x there. names d x (Contains-push_cases known (device, n) (d, x) there);
      reaches = λ d x y there at. reaches d x y at (Contains-push_cases known (device, n) (d, x) there);
      comes = λ a there.
          let was = is.comes a there in
          (was.0, Contains-append_left known ((device, n) ∷ []) (a.device, was.0) was.1, was.2, was.3);
    }
      where
        reaches : (d : ℕ) (x : KnownWrite) (y : Base) → base_at x.write.time x.write.kind ≡ Some y → Contains known (d, x) ⊎ IsNew d x
            → Contains reached (reach d x.name.hash y)
        reaches d x y at (inl old) = is.reaches d x y old at
        reaches d x y at (inr new) =
            let some : Some y ≡ None = sym at ∙ (ap (λ (z : ℕ × KnownWrite). base_at z.1.write.time z.1.write.kind) (sym new) ∙ none) in cc

  -- ---- what is held

  -- one more that reached another device, or under another hash
  pub fits-reach : (records : ℕ → Records) (reached : List Reach) (a : Reach) (d : ℕ) (h : Hash) → ((d ≡ a.device) × (h ≡ a.hash) → ⊥) → (v : ObjValue)
      → Fits c records reached d h v → Fits c records (a ∷ reached) d h v
  fits-reach records reached a d h away v fits =
      record { filed = fits.filed; named = fits.named; stands = stands-apart reached d h a away v.state.base fits.stands }

  module _ (m : ObjSide) (records : ℕ → Records) (reached : List Reach) (accounts : ObjAccounts c m records reached) (device : ℕ) (hash : Hash)
      (after : ObjSide) (tell : (d : ℕ) (h : Hash) → TellsAt c.nodes.lock after d h)
      (others : (d : ℕ) (h : Hash) → ((d ≡ device) × (h ≡ hash) → ⊥) → after.half.holds d h ≡ m.half.holds d h) where
    pub turned : (new : ℕ → Records) (now : List Reach) → IsKnown c after.known now → Fits c new now device hash (after.half.holds device hash)
        → ((d : ℕ) (h : Hash) → ((d ≡ device) × (h ≡ hash) → ⊥) → (v : ObjValue) → Fits c records reached d h v → Fits c new now d h v)
        → ObjAccounts c after new now
    turned new now known here elsewhere = record { tell = tell; fits = λ d h. by d h (same-or-apart d device h hash); known = known }
      where
        by : (d : ℕ) (h : Hash) → ((d ≡ device) × (h ≡ hash)) ⊎ ((d ≡ device) × (h ≡ hash) → ⊥) → Fits c new now d h (after.half.holds d h)
        by d h (inl is) =
            subst (λ (x : ℕ). Fits c new now x h (after.half.holds x h)) (sym is.0)
            (subst (λ (x : Hash). Fits c new now device x (after.half.holds device x)) (sym is.1) here)
        by d h (inr away) =
            subst (λ (v : ObjValue). Fits c new now d h v) (sym (others d h away)) (elsewhere d h away (m.half.holds d h) (accounts.fits d h))

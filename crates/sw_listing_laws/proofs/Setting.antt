-- A ledger in which the record of one key at one device was set, and what it has of every device and hash then.
use Rattle.std.proofs.Common.{◌≡◌, ℕ, Bool, true, false, cond, ◌&&◌, nat_eq, List, Option, Some, ◌⊎◌, inl, inr, refl, sym, ◌∙◌, ap, subst}
use Rattle.std.proofs.Common.{if◌then◌else◌}
use Rattle.std.proofs.lemmas.Bool.{eq-eqb, eqb-true}
use Rattle.sw_object_steps.proofs.Hashes.{hash-same, hash-self}
use Rattle.sw_object_steps.proofs.Recording.{same-key, same-self}
use Rattle.sw_object_steps.specs.Journals.{Hash}
use Rattle.sw_object_steps.specs.Values.{ObjValue, Records, is_same_key, set_record}
use Rattle.sw_pending.specs.declared.filed.Filed.{Filed}
use Rattle.sw_pending.specs.declared.key.RecordKey.{RecordKey}
use Rattle.sw_pending_laws.specs.Ledger.{IsSet, Reach}
use Rattle.std.specs.Str.{bytes_eq}
use Rattle.sw_listing_laws.proofs.Accounts.{Fits}
use Rattle.sw_listing_laws.specs.Plain.{Cluster}

-- a device and a hash are these, or they aren't
pub same-or-apart : (d device : ℕ) (h hash : Hash) → ((d ≡ device) × (h ≡ hash)) ⊎ ((d ≡ device) × (h ≡ hash) → ⊥)
same-or-apart d device h hash = by (nat_eq d device) refl (bytes_eq h hash) refl
  where
    by : (p : Bool) → nat_eq d device ≡ p → (q : Bool) → bytes_eq h hash ≡ q → ((d ≡ device) × (h ≡ hash)) ⊎ ((d ≡ device) × (h ≡ hash) → ⊥)
    by true one true two = inl (eqb-true d device one, hash-same h hash two)
    by true one false two = inr (λ is. let also : bytes_eq h hash ≡ true = subst (λ (x : Hash). bytes_eq h x ≡ true) is.1 (hash-self h) in cc)
    by false one q two = inr (λ is. let also : nat_eq d device ≡ true = eq-eqb d device is.0 in cc)

abbrev pub set_at : (ℕ → Records) → ℕ → RecordKey → Option Filed → ℕ → Records
set_at records device key o d k = if nat_eq d device && is_same_key key k then o else records d k

abbrev pub set_value : ObjValue → RecordKey → Option Filed → ObjValue
set_value v key o = record v { records = set_record v.records key o }

module _ (records : ℕ → Records) (device : ℕ) (key : RecordKey) (o : Option Filed) where
  pub set-here : set_at records device key o device key ≡ o
  set-here = let one : nat_eq device device ≡ true = eq-eqb device device refl in let two : is_same_key key key ≡ true = same-self key in rw (one, two) refl

  pub set-is : IsSet device key o records (set_at records device key o)
  set-is = record { here = set-here; each = λ d k. by d k (nat_eq d device) refl (is_same_key key k) refl }
    where
      by : (d : ℕ) (k : RecordKey) (p : Bool) → nat_eq d device ≡ p → (q : Bool) → is_same_key key k ≡ q
          → (cond (p && q) o (records d k) ≡ records d k) ⊎ ((d ≡ device) × (k ≡ key) × (cond (p && q) o (records d k) ≡ o))
      by d k true one true two = inr (eqb-true d device one, sym (same-key key k two), refl)
      by d k true one false two = inl refl
      by d k false one q two = inl refl

  module _ (c : Cluster) (reached : List Reach) (hash : Hash) (at : key.hash ≡ hash) where
    -- at its own device and hash
    pub fits-set : (v : ObjValue) → ((f : Filed) → o ≡ Some f → f.name ≡ c.names hash) → Fits c records reached device hash v
        → Fits c (set_at records device key o) reached device hash (set_value v key o)
    fits-set v names fits = record {
      filed = λ k here.
          let one : nat_eq device device ≡ true = eq-eqb device device refl in
          rw one (ap (λ (x : Option Filed). cond (is_same_key key k) o x) (fits.filed k here));
      named = λ k f here is. by (is_same_key key k) k f here is;
      stands = fits.stands;
    }
      where
        by : (b : Bool) (k : RecordKey) (f : Filed) → k.hash ≡ hash → cond b o (v.records k) ≡ Some f → f.name ≡ c.names hash
        by true k f here is = names f is
        by false k f here is = fits.named k f here is

    -- and at any other
    pub fits-apart : (d : ℕ) (h : Hash) → ((d ≡ device) × (h ≡ hash) → ⊥) → (v : ObjValue) → Fits c records reached d h v
        → Fits c (set_at records device key o) reached d h v
    fits-apart d h away v fits = record {
      filed = λ k here. same k here (nat_eq d device) refl (is_same_key key k) refl;
      named = fits.named;
      stands = fits.stands;
    }
      where
        same : (k : RecordKey) → k.hash ≡ h → (p : Bool) → nat_eq d device ≡ p → (q : Bool) → is_same_key key k ≡ q
            → cond (p && q) o (records d k) ≡ v.records k
        same k here true one true two =
            absurd (away (eqb-true d device one, sym here ∙ (ap (λ (x : RecordKey). x.hash) (sym (same-key key k two)) ∙ at)))
        same k here true one false two = fits.filed k here
        same k here false one q two = fits.filed k here

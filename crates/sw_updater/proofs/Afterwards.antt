-- How a record goes on after a drop.
use Rattle.std.proofs.Common.{◌≡◌, ◌⊎◌, ℕ, Bool, true, false, List, ap, inl, inr, refl, subst, Option, Result, Ok, Err, IsErr}
use Rattle.std.specs.Result.{is_ok}
use Rattle.sw_hashpath.specs.declared.place.Place.{Place}
use Rattle.sw_object_steps.specs.declared.dir_fault.DirFault.{DirFault}
use Rattle.sw_outside.specs.declared.errors.NoMemory.{NoMemory}
use Rattle.sw_pass.specs.Outcomes.{Keeps, fault_hindrance}
use Rattle.sw_pass.specs.declared.hindrance.Hindrance.{Hindrance}
use Rattle.sw_pass.specs.declared.outcome.Outcome.{Outcome}
use Rattle.sw_peer.specs.Sights.{Sight}
use Rattle.sw_pending.specs.declared.filed.Filed.{Filed}
use Rattle.sw_redirect.specs.Sending.{Course, course}
use Rattle.sw_ring.specs.declared.ring.Ring.{Ring}
use Rattle.sw_updater.specs.Updating.{IsAfterDrop}

pub ended : {A : Type 0} (r : Result A NoMemory) → IsErr r → is_ok r ≡ false
ended (Ok x) err = cc
ended (Err wanting) err = refl

-- what stands wasn't read
pub unread : (fault : DirFault) (h : Option Hindrance) (t : Sight) (missed : Bool) (o p : Outcome) (on : Bool) → h ≡ fault_hindrance fault → missed ≡ true
    → Keeps h o p on → (course t missed ≡ course t true) × Keeps (fault_hindrance fault) o p on
unread fault h t missed o p on same is keeps = (ap (course t) is, subst (λ (x : Option Hindrance). Keeps x o p on) same keeps)

pub unchanged : (c : Course) (o : Outcome) → (c ≡ c) × (o ≡ o) × (true ≡ true)
unchanged c o = (refl, refl, refl)

module _ (device : ℕ) (filed : Filed) (ring : Ring) (place : Place) (all : List ℕ) where
  -- it went, or something was missed for it
  pub nothing-more : (went missed : Bool) (c : Course) (o : Outcome) → (went ≡ true) ⊎ (missed ≡ true)
      → IsAfterDrop device filed ring place all went missed c o c o true
  nothing-more true missed c o is = (refl, refl, refl)
  nothing-more false true c o is = (refl, refl, refl)
  nothing-more false false c o (inl is) = cc
  nothing-more false false c o (inr is) = cc

  pub once-more : (went missed : Bool) (c : Course) (o : Outcome) (d : Course) (p : Outcome) (on : Bool) → went ≡ false → missed ≡ false
      → IsAfterDrop device filed ring place all false false c o d p on → IsAfterDrop device filed ring place all went missed c o d p on
  once-more true missed c o d p on is not after = cc
  once-more false true c o d p on is not after = cc
  once-more false false c o d p on is not after = after

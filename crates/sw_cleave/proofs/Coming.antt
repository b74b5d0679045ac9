-- What parts of a pass came to.
use Rattle.std.proofs.Common.{◌≡◌, ◌≢◌, ℕ, Bool, true, false, subst, inr, refl, Option, Result, Ok, Err, IsErr}
use Rattle.std.specs.Result.{is_ok}
use Rattle.sw_cleave.specs.Cleaving.{IsClosedBy, leaves}
use Rattle.sw_cleave.specs.Counting.{ComesTo}
use Rattle.sw_cleave.specs.Creating.{made_told}
use Rattle.sw_cleave.specs.declared.counting.Came.{Came}
use Rattle.sw_container_steps.specs.declared.cont_answer.ContAnswer.{ContAnswer}
use Rattle.sw_container_steps.specs.declared.cont_answer.ContAnswer.TheVariants as conts
use Rattle.sw_outside.specs.declared.errors.NoMemory.{NoMemory}
use Rattle.sw_pass.specs.Outcomes.{Keeps, cont_hindrance, is_acknowledged}
use Rattle.sw_pass.specs.declared.hindrance.Hindrance.{Hindrance}
use Rattle.sw_pass.specs.declared.outcome.Outcome.{Outcome}

-- memory was wanted in it
pub comes-ended : (part : Came → Bool → Type 0) (r : Result Came NoMemory) → IsErr r → (came : Came) → part came false → ComesTo part r
comes-ended part (Ok x) err came is = cc
comes-ended part (Err wanting) err came is = (came, is)

-- a part of a whole
pub comes-then : (part whole : Came → Bool → Type 0) → ((came : Came) (on : Bool) → part came on → whole came on) → (r : Result Came NoMemory)
    → ComesTo part r → ComesTo whole r
comes-then part whole step (Ok came) is = step came true is
comes-then part whole step (Err wanting) is = (is.0, step is.0 false is.1)

pub ended : {A : Type 0} (r : Result A NoMemory) → IsErr r → is_ok r ≡ false
ended (Ok x) err = cc
ended (Err wanting) err = refl

pub keeps-of : (h k : Option Hindrance) (o p : Outcome) (on : Bool) → h ≡ k → Keeps h o p on → Keeps k o p on
keeps-of h k o p on same is = subst (λ (x : Option Hindrance). Keeps x o p on) same is

-- the same from counts that are alike
pub keeps-from : (h k : Option Hindrance) (o q p : Outcome) (on : Bool) → h ≡ k → o ≡ q → Keeps h o p on → Keeps k q p on
keeps-from h k o q p on same alike is = subst (λ (x : Outcome). Keeps k x p on) alike (keeps-of h k o p on same is)

-- a range that wasn't closed, though no row came later
pub unclosed : (open_ranges : ℕ) (answer : ContAnswer) (o p : Outcome) (on : Bool) → ((rowid : ℕ) → answer ≢ conts.Later rowid)
    → is_acknowledged answer ≡ false → Keeps (cont_hindrance answer) o p on → IsClosedBy open_ranges answer o p (leaves open_ranges) on
unclosed open_ranges (conts.Later rowid) o p on not unheard keeps = absurd (not rowid refl)
unclosed open_ranges answer o p on not unheard keeps = inr (unheard, refl, keeps)

-- memory was wanted as something was created
pub told-ended : (part : Bool → Bool → Type 0) (r : Result Bool NoMemory) → IsErr r → part false false → part (made_told r) (is_ok r)
told-ended part (Ok made) err is = cc
told-ended part (Err wanting) err is = is

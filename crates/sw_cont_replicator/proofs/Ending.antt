-- Parts of a push that ended without memory.
use Rattle.std.proofs.Common.{◌≡◌, Bool, false, refl, Option, Result, Ok, Err, IsErr}
use Rattle.std.specs.Result.{is_ok}
use Rattle.sw_cont_replicator.specs.Pushing.{point_told}
use Rattle.sw_outside.specs.declared.errors.NoMemory.{NoMemory}
use Rattle.sw_pass.specs.Outcomes.{Hinders}
use Rattle.sw_pass.specs.declared.hindrance.Hindrance.{Hindrance}
use Rattle.sw_pass.specs.declared.outcome.Outcome.{Outcome}

pub ended-untold : (r : Result Bool NoMemory) → IsErr r → point_told r ≡ false
ended-untold (Ok kept) err = cc
ended-untold (Err wanting) err = refl

pub ended-told : (r : Result Bool NoMemory) → IsErr r → (h : Option Hindrance) (o p : Outcome) → Hinders h o p false → Hinders h o p (is_ok r)
ended-told (Ok kept) err h o p hinders = cc
ended-told (Err wanting) err h o p hinders = hinders

pub ended-off : {B : Type 0} (r : Result B NoMemory) → IsErr r → is_ok r ≡ false
ended-off (Ok kept) err = cc
ended-off (Err wanting) err = refl

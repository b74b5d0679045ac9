-- What holds of a result that is refused.
use Rattle.std.proofs.Common.{◌≡◌, false, Result, Ok, Err, Option, None, Some, IfErr, IfNone}
use Rattle.std.specs.Result.{is_ok}

pub if_err : {A E : Type 0} (r : Result A E) {P : Type 0} → P → IfErr r (λ _. P)
if_err (Ok x) holds = tt
if_err (Err e) holds = holds

pub if_none : {A : Type 0} (r : Option A) {P : Type 0} → P → IfNone r P
if_none (Some x) holds = tt
if_none None holds = holds

pub where_err : {A E : Type 0} (r : Result A E) {P : Type 0} → false ≡ is_ok r → IfErr r (λ _. P) → P
where_err (Ok x) failed holds = cc
where_err (Err e) failed holds = holds

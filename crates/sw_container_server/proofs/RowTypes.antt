-- The media type of a row is a text.
use Rattle.std.proofs.Common.{◌≡◌, ℕ, List, length, Bool, true, false, Option, Some, None, refl, subst}
use Rattle.std.proofs.lemmas.Option.{same_Some}
use Rattle.std.specs.Prelude.{◌&&◌, nat_lt, if◌then◌else◌}
use Rattle.std.specs.Option.{option_and_then}
use Rattle.std.specs.Str.{is_utf8}
use Rattle.sw_fields.specs.Fields.{checked_type, is_type}

and-right : (a b : Bool) → (a && b) ≡ true → b ≡ true
and-right true b is = is
and-right false b is = cc

type-in : (v t : List ℕ) (b : Bool) → is_type v ≡ b → (if b then Some v else None) ≡ Some t → is_utf8 t ≡ true
type-in v t true is e = subst (λ (x : List ℕ). is_utf8 x ≡ true) (same_Some v t e) (and-right (nat_lt 0 (length v)) (is_utf8 v) is)
type-in v t false is e = cc

pub type-text : (value : Option (List ℕ)) (t : List ℕ) → option_and_then checked_type value ≡ Some t → is_utf8 t ≡ true
type-text None t e = cc
type-text (Some v) t e = type-in v t (is_type v) refl e

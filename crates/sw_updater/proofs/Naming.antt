-- A container whose object has a good name has one itself.
use Rattle.std.proofs.Common.{◌≡◌, ℕ, Bool, true, false, List, [], ◌∷◌, Option, Some, None, refl}
use Rattle.std.specs.Prelude.{not, ◌||◌, if◌then◌else◌}
use Rattle.std.specs.List.{list_any}
use Rattle.sw_hashpath.specs.BadNames.{bad_name, has_slash, is_empty, is_over, is_text, is_too_long, names, object_limit, place_names}
use Rattle.sw_hashpath.specs.declared.bad_name.BadName.{BadName}
use Rattle.sw_hashpath.specs.declared.bad_name.BadName.TheVariants.{Empty, Slash, TooLong, NotText}

first-none : (b : Bool) (bad : BadName) (o : Option BadName) → (if b then Some bad else o) ≡ None → b ≡ false
first-none true bad o is = cc
first-none false bad o is = refl

later-none : (b : Bool) (bad : BadName) (o : Option BadName) → (if b then Some bad else o) ≡ None → o ≡ None
later-none true bad o is = cc
later-none false bad o is = is

neither : (b : Bool) (bad : BadName) (o : Option BadName) → b ≡ false → o ≡ None → (if b then Some bad else o) ≡ None
neither true bad o is none = cc
neither false bad o is none = none

-- what holds of none of three names holds of none of the first two
fewer : (x y z : Bool) → (x || (y || (z || false))) ≡ false → (x || (y || false)) ≡ false
fewer true y z is = is
fewer false true z is = is
fewer false false z is = refl

front : (x y : Bool) → (x || y) ≡ false → (x || false) ≡ false
front true y is = is
front false y is = refl

pub container-good : (account container object : List ℕ) → bad_name account (Some container) (Some object) ≡ None
    → bad_name account (Some container) None ≡ None
unfolding bad_name
container-good a c o good =
    let all = names a (Some c) (Some o) in
    let unempty = later-none (list_any is_empty all) Empty _ good in
    let unslashed = later-none (list_any has_slash (place_names a (Some c))) Slash _ unempty in
    let short = later-none (is_too_long a (Some c) (Some o)) TooLong _ unslashed in
    neither (list_any is_empty (names a (Some c) None)) Empty _ (fewer (is_empty a) (is_empty c) (is_empty o) (first-none (list_any is_empty all) Empty _ good))
    (neither (list_any has_slash (place_names a (Some c))) Slash _ (first-none (list_any has_slash (place_names a (Some c))) Slash _ unempty)
    (neither (is_too_long a (Some c) None) TooLong _
    (front (list_any (is_over 256) (place_names a (Some c))) (list_any (is_over (object_limit a)) (o ∷ []))
    (first-none (is_too_long a (Some c) (Some o)) TooLong _ unslashed))
    (neither (list_any (λ name. not (is_text name)) (names a (Some c) None)) NotText None
    (fewer (not (is_text a)) (not (is_text c)) (not (is_text o)) (first-none (list_any (λ name. not (is_text name)) all) NotText None short)) refl)))

-- What a row needs of an object's name: that it is a text.
use Rattle.std.proofs.Common.{◌≡◌, ℕ, Bool, true, false, List, [], ◌∷◌, Option, Some, None, refl}
use Rattle.std.specs.Prelude.{not, ◌==◌, ◌&&◌, ◌||◌, if◌then◌else◌}
use Rattle.std.specs.List.{list_any}
use Rattle.std.specs.Str.{is_utf8}
use Rattle.sw_hashdir.specs.Steps.{IsHashed}
use Rattle.sw_hashpath.specs.BadNames.{bad_name, has_slash, is_empty, is_text, is_too_long, names, place_names}
use Rattle.sw_hashpath.specs.declared.bad_name.BadName.{BadName}
use Rattle.sw_hashpath.specs.declared.bad_name.BadName.TheVariants.{Empty, Slash, TooLong, NotText}
use Rattle.sw_hashpath.specs.declared.name.Name.{Name}
use Rattle.sw_hashpath.specs.declared.secrets.Secrets.{Secrets}

or-right : (a b : Bool) → (a || b) ≡ false → b ≡ false
or-right true b is = absurd cc
or-right false b is = is

or-left : (a b : Bool) → (a || b) ≡ false → a ≡ false
or-left true b is = absurd cc
or-left false b is = refl

not-false : (a : Bool) → not a ≡ false → a ≡ true
not-false true is = refl
not-false false is = cc

and-left : (a b : Bool) → (a && b) ≡ true → a ≡ true
and-left true b is = refl
and-left false b is = cc

rest-none : (b : Bool) (bad : BadName) (o : Option BadName) → (if b then Some bad else o) ≡ None → o ≡ None
rest-none true bad o is = absurd cc
rest-none false bad o is = is

fault-none : (b : Bool) (bad : BadName) (o : Option BadName) → (if b then Some bad else o) ≡ None → b ≡ false
fault-none true bad o is = absurd cc
fault-none false bad o is = refl

third : (p : List ℕ → Bool) (a c o : List ℕ) → list_any p (a ∷ c ∷ o ∷ []) ≡ false → p o ≡ false
third p a c o none = or-left (p o) (list_any p []) (or-right (p c) (list_any p (o ∷ [])) (or-right (p a) (list_any p (c ∷ o ∷ [])) none))

good-text : (a c o : List ℕ) → bad_name a (Some c) (Some o) ≡ None → is_utf8 o ≡ true
unfolding bad_name
good-text a c o good =
    let empty = rest-none (list_any is_empty (names a (Some c) (Some o))) Empty _ good in
    let slash = rest-none (list_any has_slash (place_names a (Some c))) Slash _ empty in
    let long = rest-none (is_too_long a (Some c) (Some o)) TooLong _ slash in
    let text = fault-none (list_any (λ name. not (is_text name)) (names a (Some c) (Some o))) NotText _ long in
    and-left (is_utf8 o) (not (list_any (λ b. b == 0) o)) (not-false (is_text o) (third (λ name. not (is_text name)) a c o text))

pub name-text : (secrets : Secrets) (name : Name) → IsHashed secrets name → is_utf8 name.object ≡ true
name-text secrets name is = good-text name.account name.container name.object is.good

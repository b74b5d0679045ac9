-- What good names of a target say of its place and its row.
use Rattle.std.proofs.Common.{◌≡◌, ℕ, Bool, true, false, List, [], ◌∷◌, Option, Some, None, is_some, refl, sym, ap, ◌∙◌, subst, true≢false}
use Rattle.std.specs.Prelude.{not, ◌==◌, ◌&&◌, ◌||◌, is_none, IsSome, if◌then◌else◌}
use Rattle.std.specs.List.{list_any}
use Rattle.std.specs.Str.{is_utf8}
use Rattle.sw_hashpath.specs.BadNames.{bad_name, has_slash, is_empty, is_over, is_text, is_too_long, names, object_limit, place_names}
use Rattle.sw_hashpath.specs.declared.bad_name.BadName.{BadName}
use Rattle.sw_hashpath.specs.declared.bad_name.BadName.TheVariants.{Empty, Slash, TooLong, NotText}
use Rattle.sw_hashpath.specs.declared.place.Place.{Place}
use Rattle.sw_ring.specs.declared.ring.Ring.{Ring}
use Rattle.sw_container_server.specs.Places.{IsHashed, has_good_object, name_fault, place_in}
use Rattle.sw_container_server.specs.Targets.{names_row}
use Rattle.sw_container_server.specs.declared.target.Target.{Target}
use Rattle.sw_container_server.specs.declared.verb.Verb.{Verb}
use Rattle.sw_container_server.specs.declared.verb.Verb.TheVariants as verbs

-- ---- tests of names

or-false : (a b : Bool) → (a || b) ≡ false → (a ≡ false) × (b ≡ false)
or-false true b is = absurd cc
or-false false b is = (refl, is)

or-from : (a b : Bool) → a ≡ false → b ≡ false → (a || b) ≡ false
or-from a b p q = rw p q

not-false : (a : Bool) → not a ≡ false → a ≡ true
not-false true is = refl
not-false false is = cc

and-true : (a b : Bool) → (a && b) ≡ true → a ≡ true
and-true true b is = refl
and-true false b is = cc

fault-none : (b : Bool) (bad : BadName) (o : Option BadName) → (if b then Some bad else o) ≡ None → (b ≡ false) × (o ≡ None)
fault-none true bad o is = absurd cc
fault-none false bad o is = (refl, is)

no-fault : (a b c d : Bool) → a ≡ false → b ≡ false → c ≡ false → d ≡ false
    → (if a then Some Empty else if b then Some Slash else if c then Some TooLong else if d then Some NotText else None) ≡ None
no-fault a b c d p q s t = rw (p, q, s, t) refl

abbrev no_text : List ℕ → Bool
no_text name = not (is_text name)

-- what holds of three names holds of the first two
two-of-three : (p : List ℕ → Bool) (a c o : List ℕ) → list_any p (a ∷ c ∷ o ∷ []) ≡ false
    → (list_any p (a ∷ c ∷ []) ≡ false) × (p o ≡ false)
two-of-three p a c o none =
    let first = or-false (p a) (list_any p (c ∷ o ∷ [])) none in
    let second = or-false (p c) (list_any p (o ∷ [])) first.1 in
    let third = or-false (p o) (list_any p []) second.1 in
    (or-from (p a) (list_any p (c ∷ [])) first.0 (or-from (p c) (list_any p []) second.0 refl), third.0)

-- ---- names that are good

record AreGood (a c o : List ℕ) : Type 0 where
  place : bad_name a (Some c) None ≡ None
  text : is_utf8 o ≡ true

good-parts : (a c o : List ℕ) → bad_name a (Some c) (Some o) ≡ None → AreGood a c o
unfolding bad_name
good-parts a c o good =
    let empty = fault-none (list_any is_empty (names a (Some c) (Some o))) Empty _ good in
    let slash = fault-none (list_any has_slash (place_names a (Some c))) Slash _ empty.1 in
    let long = fault-none (is_too_long a (Some c) (Some o)) TooLong _ slash.1 in
    let text = fault-none (list_any no_text (names a (Some c) (Some o))) NotText _ long.1 in
    let over = or-false (list_any (is_over 256) (place_names a (Some c))) (list_any (is_over (object_limit a)) (o ∷ [])) long.0 in
    let texts = two-of-three no_text a c o text.0 in
    record {
      place = no-fault (list_any is_empty (names a (Some c) None)) (list_any has_slash (place_names a (Some c))) (is_too_long a (Some c) None)
          (list_any no_text (names a (Some c) None)) (two-of-three is_empty a c o empty.0).0 slash.0
          (or-from (list_any (is_over 256) (place_names a (Some c))) false over.0 refl) texts.0;
      text = and-true (is_utf8 o) (not (list_any (λ b. b == 0) o)) (not-false (is_text o) texts.1);
    }

-- ---- names of a target

none-is : {A : Type 0} (o : Option A) → is_none o ≡ true → o ≡ None
none-is None is = refl
none-is (Some a) is = cc

some-is : {A : Type 0} (o : Option A) → is_none o ≡ false → IsSome o
some-is None is = cc
some-is (Some a) is = refl

-- the names of its place are good, and so is that of its row
pub good-names : (verb : Verb) (t : Target) → bad_name t.account (Some t.container) None ≡ None → has_good_object verb t ≡ true → name_fault verb t ≡ None
good-names verbs.Put t place object = place
good-names verbs.Delete t place object = place
good-names verbs.Get t place object = place
good-names verbs.Head t place object = place
good-names verbs.PutRow t place object = none-is (bad_name t.account (Some t.container) (Some t.object)) object
good-names verbs.DeleteRow t place object = none-is (bad_name t.account (Some t.container) (Some t.object)) object

-- something is wrong with the name of its row
pub bad-object : (verb : Verb) (t : Target) → has_good_object verb t ≡ false → IsSome (name_fault verb t)
bad-object verbs.Put t object = cc
bad-object verbs.Delete t object = cc
bad-object verbs.Get t object = cc
bad-object verbs.Head t object = cc
bad-object verbs.PutRow t object = some-is (bad_name t.account (Some t.container) (Some t.object)) object
bad-object verbs.DeleteRow t object = some-is (bad_name t.account (Some t.container) (Some t.object)) object

-- something is wrong with the names of its place
bad-row : (a c o : List ℕ) (bad : BadName) (fault : Option BadName) → bad_name a (Some c) None ≡ Some bad → bad_name a (Some c) (Some o) ≡ fault → IsSome fault
bad-row a c o bad (Some other) is row = refl
bad-row a c o bad None is row = absurd (true≢false (ap is_some (sym is ∙ (good-parts a c o row).place)))

pub bad-place : (verb : Verb) (t : Target) (bad : BadName) → bad_name t.account (Some t.container) None ≡ Some bad → IsSome (name_fault verb t)
bad-place verbs.Put t bad is = ap is_some is
bad-place verbs.Delete t bad is = ap is_some is
bad-place verbs.Get t bad is = ap is_some is
bad-place verbs.Head t bad is = ap is_some is
bad-place verbs.PutRow t bad is = bad-row t.account t.container t.object bad (bad_name t.account (Some t.container) (Some t.object)) is refl
bad-place verbs.DeleteRow t bad is = bad-row t.account t.container t.object bad (bad_name t.account (Some t.container) (Some t.object)) is refl

-- the name of a row is a text
pub object-text : (verb : Verb) (t : Target) → name_fault verb t ≡ None → names_row verb ≡ true → is_utf8 t.object ≡ true
object-text verbs.Put t good row = cc
object-text verbs.Delete t good row = cc
object-text verbs.Get t good row = cc
object-text verbs.Head t good row = cc
object-text verbs.PutRow t good row = (good-parts t.account t.container t.object good).text
object-text verbs.DeleteRow t good row = (good-parts t.account t.container t.object good).text

good-place : (verb : Verb) (t : Target) → name_fault verb t ≡ None → bad_name t.account (Some t.container) None ≡ None
good-place verbs.Put t good = good
good-place verbs.Delete t good = good
good-place verbs.Get t good = good
good-place verbs.Head t good = good
good-place verbs.PutRow t good = (good-parts t.account t.container t.object good).place
good-place verbs.DeleteRow t good = (good-parts t.account t.container t.object good).place

-- the place is a good one
pub hashed : (ring : Ring) (verb : Verb) (t : Target) (place : Place) → name_fault verb t ≡ None → place ≡ place_in ring t → IsHashed ring place
hashed ring verb t place good is = subst (λ (p : Place). IsHashed ring p) (sym is) (refl, good-place verb t good)

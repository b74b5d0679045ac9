-- What is so of good names.
use Rattle.std.proofs.Common.{◌≡◌, ℕ, Bool, true, false, not, ◌==◌, ◌||◌, cond, List, Option, None, Some, refl}
use Rattle.std.specs.List.{list_any}
use Rattle.std.specs.Str.{is_utf8}
use Rattle.std.proofs.lemmas.Bool.{and_parts, not-false, not-true, or_parts}
use Rattle.sw_hashpath.specs.BadNames.{bad_name, has_slash, is_text}
use Rattle.sw_hashpath.specs.declared.bad_name.BadName.{BadName}

next : (b : Bool) (bad : BadName) (o : Option BadName) → cond b (Some bad) o ≡ None → (b ≡ false) × (o ≡ None)
next true bad o none = cc
next false bad o none = (refl, none)

-- a text is UTF-8, and has no zero byte
pub record IsText (name : List ℕ) : Type 0 where
  pub utf8 : is_utf8 name ≡ true
  pub no_zero : list_any (λ b. b == 0) name ≡ false

text-parts : (name : List ℕ) → is_text name ≡ true → IsText name
text-parts name is =
    let parts = and_parts (is_utf8 name) (not (list_any (λ b. b == 0) name)) is in
    record { utf8 = parts.0; no_zero = not-true (list_any (λ b. b == 0) name) parts.1 }

pub record AreGood (account container object : List ℕ) : Type 0 where
  pub account_slash : has_slash account ≡ false
  pub container_slash : has_slash container ≡ false
  pub account_text : IsText account
  pub container_text : IsText container
  pub object_text : IsText object

pub good-parts : (a c o : List ℕ) → bad_name a (Some c) (Some o) ≡ None → AreGood a c o
unfolding bad_name
good-parts a c o good =
    let empty = next _ _ _ good in
    let slash = next _ _ _ empty.1 in
    let long = next _ _ _ slash.1 in
    let text = next _ _ _ long.1 in
    let slashes = or_parts (has_slash a) (has_slash c || false) slash.0 in
    let texts = or_parts (not (is_text a)) (not (is_text c) || (not (is_text o) || false)) text.0 in
    let last = or_parts (not (is_text c)) (not (is_text o) || false) texts.1 in
    record {
      account_slash = slashes.0;
      container_slash = (or_parts (has_slash c) false slashes.1).0;
      account_text = text-parts a (not-false (is_text a) texts.0);
      container_text = text-parts c (not-false (is_text c) last.0);
      object_text = text-parts o (not-false (is_text o) (or_parts (not (is_text o)) false last.1).0);
    }

-- Where an item is put.
use Rattle.std.proofs.Common.{◌≡◌, ℕ, ◌+◌, ◌<◌, zero, suc, Bool, true, false, cond, ◌&&◌, List, [], ◌∷◌, ◌++◌, length, take, drop, set, refl, ◌∙◌, ap, arith}
use Rattle.std.proofs.Common.{subst}
use Rattle.std.specs.List.{list_all, filter, prefix_len}
use Rattle.std.specs.Str.{bytes_eq}
use Rattle.std.specs.Prelude.{insert}
use Rattle.std.proofs.lemmas.Slice.Eq.{bytes_eq-Decides}
use Rattle.sw_state.specs.HeadNames.{are_heads, is_before, is_name, is_name_at, with_head}
use Rattle.sw_state.specs.declared.head.Head.{Head}
use Rattle.sw_state.proofs.HeadOrder.{all_after-trans}
use Rattle.sw_state.proofs.NameOrder.{before-asym, before-itself, before-other, before-trans, both}

-- what comes before a name, and what comes after it
abbrev pub below : List ℕ → Head → Bool
below name x = is_before x.name name

abbrev pub above : List ℕ → Head → Bool
above name x = is_before name x.name

filter-all : (p : Head → Bool) (hs : List Head) → list_all p hs ≡ true → filter p hs ≡ hs
filter-all p [] all = refl
filter-all p (h ∷ hs) all =
    let parts = both (p h) (list_all p hs) all in
    rw (parts.0) (ap (λ (t : List Head). h ∷ t) (filter-all p hs parts.1))

-- nothing after an item that isn't below a name is below it
pub none_below : (name : List ℕ) (h : Head) (hs : List Head) → below name h ≡ false → list_all (above h.name) hs ≡ true → filter (below name) hs ≡ []
none_below name h [] not_below all = refl
none_below name h (x ∷ xs) not_below all =
    let parts = both (is_before h.name x.name) (list_all (above h.name) xs) all in
    let none : below name x ≡ false = not_below_later name h x not_below parts.0 (below name x) refl in
    rw none (none_below name h xs not_below parts.1)
  where
    not_below_later : (name : List ℕ) (h x : Head) → below name h ≡ false → is_before h.name x.name ≡ true → (b : Bool) → below name x ≡ b →
        below name x ≡ false
    not_below_later name h x not_below later true is = absurd (let so : is_before h.name name ≡ true = before-trans h.name x.name name later is in cc)
    not_below_later name h x not_below later false is = is

-- the items below a name stand in front
front_at : (name : List ℕ) (h : Head) (hs : List Head) (b : Bool) → below name h ≡ b → list_all (above h.name) hs ≡ true →
    filter (below name) hs ≡ take (prefix_len (below name) hs) hs
    → cond b (h ∷ filter (below name) hs) (filter (below name) hs) ≡ take (cond b (1 + prefix_len (below name) hs) 0) (h ∷ hs)
front_at name h hs true is all front =
    let next : 1 + prefix_len (below name) hs ≡ suc (prefix_len (below name) hs) = omega arith in
    rw next (ap (λ (t : List Head). h ∷ t) front)
front_at name h hs false is all front = none_below name h hs is all

pub front : (name : List ℕ) (hs : List Head) → are_heads hs ≡ true → filter (below name) hs ≡ take (prefix_len (below name) hs) hs
front name [] heads = refl
front name (h ∷ hs) heads =
    let parts = both (is_name h.name) (list_all (above h.name) hs && are_heads hs) heads in
    let later = both (list_all (above h.name) hs) (are_heads hs) parts.1 in
    front_at name h hs (below name h) refl later.0 (front name hs later.1)

-- the items above a name follow: after the item that has it, or after those below it
same_name : (a b : List ℕ) → bytes_eq a b ≡ true → a ≡ b
same_name a b same = (bytes_eq-Decides a b).0 same

same_at : (name : List ℕ) (h : Head) (hs : List Head) (b : Bool) → below name h ≡ b → list_all (above h.name) hs ≡ true
    → (is_name_at hs (prefix_len (below name) hs) name ≡ true → filter (above name) hs ≡ drop (1 + prefix_len (below name) hs) hs)
    → is_name_at (h ∷ hs) (cond b (1 + prefix_len (below name) hs) 0) name ≡ true
    → cond (above name h) (h ∷ filter (above name) hs) (filter (above name) hs) ≡ drop (1 + cond b (1 + prefix_len (below name) hs) 0) (h ∷ hs)
same_at name h hs true is all rest found =
    let next : 1 + prefix_len (below name) hs ≡ suc (prefix_len (below name) hs) = omega arith in
    let after : 1 + suc (prefix_len (below name) hs) ≡ suc (1 + prefix_len (below name) hs) = omega arith in
    rw (before-asym h.name name is, next, after) (rest (rw next at found))
same_at name h hs false is all rest found =
    let same : h.name ≡ name = same_name h.name name found in
    let apart : above name h ≡ false = ap (λ (n : List ℕ). is_before name n) same ∙ before-itself name in
    let P : List ℕ → Type 0 = λ n. list_all (above n) hs ≡ true in
    rw apart (filter-all (above name) hs (subst P same all))

pub rest_same : (name : List ℕ) (hs : List Head) → are_heads hs ≡ true → is_name_at hs (prefix_len (below name) hs) name ≡ true →
    filter (above name) hs ≡ drop (1 + prefix_len (below name) hs) hs
rest_same name [] heads found = refl
rest_same name (h ∷ hs) heads found =
    let parts = both (is_name h.name) (list_all (above h.name) hs && are_heads hs) heads in
    let later = both (list_all (above h.name) hs) (are_heads hs) parts.1 in
    same_at name h hs (below name h) refl later.0 (rest_same name hs later.1) found

other_at : (name : List ℕ) (h : Head) (hs : List Head) (b : Bool) → below name h ≡ b → list_all (above h.name) hs ≡ true
    → (is_name_at hs (prefix_len (below name) hs) name ≡ false → filter (above name) hs ≡ drop (prefix_len (below name) hs) hs)
    → is_name_at (h ∷ hs) (cond b (1 + prefix_len (below name) hs) 0) name ≡ false
    → cond (above name h) (h ∷ filter (above name) hs) (filter (above name) hs) ≡ drop (cond b (1 + prefix_len (below name) hs) 0) (h ∷ hs)
other_at name h hs true is all rest found =
    let next : 1 + prefix_len (below name) hs ≡ suc (prefix_len (below name) hs) = omega arith in
    rw (before-asym h.name name is, next) (rest (rw next at found))
other_at name h hs false is all rest found =
    let after : above name h ≡ true = before-other h.name name is found in
    rw (after, filter-all (above name) hs (all_after-trans name h.name hs after all)) refl

pub rest_other : (name : List ℕ) (hs : List Head) → are_heads hs ≡ true → is_name_at hs (prefix_len (below name) hs) name ≡ false →
    filter (above name) hs ≡ drop (prefix_len (below name) hs) hs
rest_other name [] heads found = refl
rest_other name (h ∷ hs) heads found =
    let parts = both (is_name h.name) (list_all (above h.name) hs && are_heads hs) heads in
    let later = both (list_all (above h.name) hs) (are_heads hs) parts.1 in
    other_at name h hs (below name h) refl later.0 (rest_other name hs later.1) found

set_parts : (hs : List Head) (n : ℕ) (h : Head) → n < length hs → set hs n h ≡ take n hs ++ h ∷ drop (1 + n) hs
set_parts [] n h inside = absurd (omega arith)
set_parts (x ∷ xs) zero h inside = refl
set_parts (x ∷ xs) (suc n) h inside =
    let next : 1 + suc n ≡ suc (1 + n) = omega arith in
    rw (next, set_parts xs n h (omega arith)) refl

-- so a put in the place of an item of that name, or between the others, gives the list with the item
pub put_over : (hs : List Head) (h : Head) (at : ℕ) → are_heads hs ≡ true → at ≡ prefix_len (below h.name) hs → at < length hs →
    is_name_at hs at h.name ≡ true → set hs at h ≡ with_head hs h
put_over hs h at heads place inside found =
    let here : is_name_at hs (prefix_len (below h.name) hs) h.name ≡ true = rw place at found in
    set_parts hs at h inside ∙ rw (place, front h.name hs heads, rest_same h.name hs heads here) refl

pub put_between : (hs : List Head) (h : Head) (at : ℕ) → are_heads hs ≡ true → at ≡ prefix_len (below h.name) hs → is_name_at hs at h.name ≡ false →
    insert hs at h ≡ with_head hs h
put_between hs h at heads place found =
    let here : is_name_at hs (prefix_len (below h.name) hs) h.name ≡ false = rw place at found in
    rw (place, front h.name hs heads, rest_other h.name hs heads here) refl

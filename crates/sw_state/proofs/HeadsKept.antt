-- A list with an item in its place keeps the rule of lists.
use Rattle.std.proofs.Common.{◌≡◌, Bool, true, false, cond, ◌&&◌, List, [], ◌∷◌, ◌++◌, refl, ◌∙◌, ap}
use Rattle.std.specs.List.{list_all, filter}
use Rattle.std.specs.Prelude.{Result, Ok, Err, OnOk, OnErr}
use Rattle.std.proofs.lemmas.List.Folds.{list_all-append}
use Rattle.sw_state.specs.HeadNames.{are_heads, is_before, is_name, with_head}
use Rattle.sw_state.specs.declared.head.Head.{Head}
use Rattle.sw_state.proofs.NameOrder.{before-asym, both, both_from}
use Rattle.sw_state.proofs.PutHead.{above, below, none_below}

list_all-filter_at : (p q : Head → Bool) (h : Head) (hs : List Head) (b : Bool) → p h ≡ true → list_all p (filter q hs) ≡ true →
    list_all p (cond b (h ∷ filter q hs) (filter q hs)) ≡ true
list_all-filter_at p q h hs true is rest = both_from (p h) (list_all p (filter q hs)) is rest
list_all-filter_at p q h hs false is rest = rest

list_all-filter : (p q : Head → Bool) (hs : List Head) → list_all p hs ≡ true → list_all p (filter q hs) ≡ true
list_all-filter p q [] all = refl
list_all-filter p q (h ∷ hs) all =
    let parts = both (p h) (list_all p hs) all in
    list_all-filter_at p q h hs (q h) parts.0 (list_all-filter p q hs parts.1)

list_all-own_at : (q : Head → Bool) (h : Head) (hs : List Head) (b : Bool) → q h ≡ b → list_all q (filter q hs) ≡ true →
    list_all q (cond b (h ∷ filter q hs) (filter q hs)) ≡ true
list_all-own_at q h hs true is rest = both_from (q h) (list_all q (filter q hs)) is rest
list_all-own_at q h hs false is rest = rest

list_all-own : (q : Head → Bool) (hs : List Head) → list_all q (filter q hs) ≡ true
list_all-own q [] = refl
list_all-own q (h ∷ hs) = list_all-own_at q h hs (q h) refl (list_all-own q hs)

are_heads-filter_at : (q : Head → Bool) (h : Head) (hs : List Head) (b : Bool) → is_name h.name ≡ true → list_all (above h.name) hs ≡ true →
    are_heads (filter q hs) ≡ true → are_heads (cond b (h ∷ filter q hs) (filter q hs)) ≡ true
are_heads-filter_at q h hs true name all rest =
    both_from (is_name h.name) (list_all (above h.name) (filter q hs) && are_heads (filter q hs)) name
    (both_from (list_all (above h.name) (filter q hs)) (are_heads (filter q hs)) (list_all-filter (above h.name) q hs all) rest)
are_heads-filter_at q h hs false name all rest = rest

are_heads-filter : (q : Head → Bool) (hs : List Head) → are_heads hs ≡ true → are_heads (filter q hs) ≡ true
are_heads-filter q [] heads = refl
are_heads-filter q (h ∷ hs) heads =
    let parts = both (is_name h.name) (list_all (above h.name) hs && are_heads hs) heads in
    let later = both (list_all (above h.name) hs) (are_heads hs) parts.1 in
    are_heads-filter_at q h hs (q h) parts.0 later.0 (are_heads-filter q hs later.1)

-- the new item in front
first : (h : Head) (hs : List Head) → is_name h.name ≡ true → are_heads hs ≡ true → are_heads (h ∷ filter (above h.name) hs) ≡ true
first h hs name heads =
    both_from (is_name h.name) (list_all (above h.name) (filter (above h.name) hs) && are_heads (filter (above h.name) hs)) name
    (both_from (list_all (above h.name) (filter (above h.name) hs)) (are_heads (filter (above h.name) hs)) (list_all-own (above h.name) hs)
    (are_heads-filter (above h.name) hs heads))

kept_at : (h x : Head) (xs : List Head) (b : Bool) → below h.name x ≡ b → is_name h.name ≡ true → is_name x.name ≡ true → list_all (above x.name) xs ≡ true →
    are_heads xs ≡ true
    → are_heads (filter (below h.name) xs ++ h ∷ filter (above h.name) xs) ≡ true
    → are_heads (cond b (x ∷ filter (below h.name) xs) (filter (below h.name) xs) ++ h ∷ cond (above h.name x) (x ∷ filter (above h.name) xs)
    (filter (above h.name) xs)) ≡ true
kept_at h x xs true is name own all heads rest =
    let others : list_all (above x.name) (filter (below h.name) xs ++ h ∷ filter (above h.name) xs) ≡ true =
    list_all-append (above x.name) (filter (below h.name) xs) (h ∷ filter (above h.name) xs)
    ∙ both_from (list_all (above x.name) (filter (below h.name) xs)) (is_before x.name h.name && list_all (above x.name) (filter (above h.name) xs))
    (list_all-filter (above x.name) (below h.name) xs all)
    (both_from (is_before x.name h.name) (list_all (above x.name) (filter (above h.name) xs)) is (list_all-filter (above x.name) (above h.name) xs all)) in
    rw (before-asym x.name h.name is) (both_from (is_name x.name) (list_all (above x.name) (filter (below h.name) xs ++ h ∷ filter (above h.name) xs) &&
    are_heads (filter (below h.name) xs ++ h ∷ filter (above h.name) xs)) own
    (both_from (list_all (above x.name) (filter (below h.name) xs ++ h ∷ filter (above h.name) xs))
    (are_heads (filter (below h.name) xs ++ h ∷ filter (above h.name) xs)) others rest))
kept_at h x xs false is name own all heads rest =
    rw (none_below h.name x xs is all) (first h (x ∷ xs) name (both_from (is_name x.name) (list_all (above x.name) xs && are_heads xs) own
    (both_from (list_all (above x.name) xs) (are_heads xs) all heads)))

pub are_heads-with_head : (h : Head) (hs : List Head) → is_name h.name ≡ true → are_heads hs ≡ true → are_heads (with_head hs h) ≡ true
are_heads-with_head h [] name heads = both_from (is_name h.name) true name refl
are_heads-with_head h (x ∷ xs) name heads =
    let parts = both (is_name x.name) (list_all (above x.name) xs && are_heads xs) heads in
    let later = both (list_all (above x.name) xs) (are_heads xs) parts.1 in
    kept_at h x xs (below h.name x) refl name parts.0 later.0 later.1 (are_heads-with_head h xs name later.1)

-- whether it was put or memory ran out
pub are_heads-put : {E : Type 0} (r : Result (Unit {0}) E) (h : Head) (old new : List Head) → is_name h.name ≡ true → are_heads old ≡ true →
    OnOk r (new ≡ with_head old h) → OnErr r (new ≡ old) → are_heads new ≡ true
are_heads-put (Ok x) h old new name heads ok err = ap are_heads ok ∙ are_heads-with_head h old name heads
are_heads-put (Err e) h old new name heads ok err = ap are_heads err ∙ heads

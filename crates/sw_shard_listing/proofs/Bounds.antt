-- What a query that is moved asks for.
use Rattle.std.proofs.Common.{◌≡◌, ℕ, Bool, true, false, cond, not, List, [], ◌∷◌, refl, sym, ◌∙◌, ap, subst, arith, ◌⊎◌, inl, inr}
use Rattle.std.specs.List.{starts_with}
use Rattle.std.specs.Prelude.{◌&&◌, nat_eq}
use Rattle.std.proofs.lemmas.Bool.Decides.{nat_tests}
use Rattle.sw_listing.specs.Asking.{is_above, is_asked, is_before, is_below}
use Rattle.sw_listing.specs.declared.query.Query.{Query}
use Rattle.sw_shard_listing.specs.Laws.{IsPlain}
use Rattle.sw_shard_listing.specs.Ranges.{higher, is_between, is_up_to, moved, nearer, next_text}
use Rattle.sw_shard_listing.proofs.Order.{Lt, after-next, before-next, lt-total, lt-trans}

-- ---- bounds

and-true : (y : Bool) → y ≡ (y && true)
and-true true = refl
and-true false = refl

implied : (x y : Bool) → (y ≡ true → x ≡ true) → y ≡ (x && y)
implied true y h = refl
implied false true h = let never = h refl in cc
implied false false h = refl

implied-left : (x y : Bool) → (x ≡ true → y ≡ true) → x ≡ (x && y)
implied-left true true h = refl
implied-left true false h = let never = h refl in cc
implied-left false y h = refl

-- the same tests, by cases on the bound
abbrev pub over : List ℕ → List ℕ → Bool
over [] x = true
over (b ∷ bs) x = is_before (b ∷ bs) x

abbrev pub under : List ℕ → List ℕ → Bool
under [] x = true
under (b ∷ bs) x = is_before x (b ∷ bs)

abbrev up_to : List ℕ → List ℕ → Bool
up_to [] x = true
up_to (b ∷ bs) x = not (is_before (b ∷ bs) x)

pub above-is : (m x : List ℕ) → is_above m x ≡ over m x
above-is [] x = refl
above-is (b ∷ bs) x = grind (arith, nat_tests)

pub below-is : (m x : List ℕ) → is_below m x ≡ under m x
below-is [] x = refl
below-is (b ∷ bs) x = grind (arith, nat_tests)

up-to-is : (m x : List ℕ) → is_up_to m x ≡ up_to m x
up-to-is [] x = refl
up-to-is (b ∷ bs) x = grind (arith, nat_tests)

higher-above : (a b x : List ℕ) → over (higher a b) x ≡ (over a x && over b x)
higher-above [] [] x = refl
higher-above [] (b ∷ bs) x = refl
higher-above (a ∷ ls) [] x = and-true (over (a ∷ ls) x)
higher-above (a ∷ ls) (b ∷ bs) x = by (is_before (a ∷ ls) (b ∷ bs)) refl
  where
    back : is_before (a ∷ ls) (b ∷ bs) ≡ false → is_before (a ∷ ls) x ≡ true → is_before (b ∷ bs) x ≡ true
    back is less = at (lt-total (a ∷ ls) (b ∷ bs))
      where
        at : Lt (a ∷ ls) (b ∷ bs) ⊎ ((a ∷ ls) ≡ (b ∷ bs)) ⊎ Lt (b ∷ bs) (a ∷ ls) → is_before (b ∷ bs) x ≡ true
        at (inl p) = cc
        at (inr (inl same)) = subst (λ (t : List ℕ). Lt t x) same less
        at (inr (inr p)) = lt-trans (b ∷ bs) (a ∷ ls) x p less

    by : (t : Bool) → is_before (a ∷ ls) (b ∷ bs) ≡ t → over (cond t (b ∷ bs) (a ∷ ls)) x ≡ (over (a ∷ ls) x && over (b ∷ bs) x)
    by true is = implied (is_before (a ∷ ls) x) (is_before (b ∷ bs) x) (λ less. lt-trans (a ∷ ls) (b ∷ bs) x is less)
    by false is = implied-left (is_before (a ∷ ls) x) (is_before (b ∷ bs) x) (back is)

nearer-below : (a b x : List ℕ) → under (nearer a b) x ≡ (under a x && under b x)
nearer-below [] b x = refl
nearer-below (a ∷ ls) [] x = and-true (under (a ∷ ls) x)
nearer-below (a ∷ ls) (b ∷ bs) x = by (is_before (a ∷ ls) (b ∷ bs)) refl
  where
    back : is_before (a ∷ ls) (b ∷ bs) ≡ false → is_before x (b ∷ bs) ≡ true → is_before x (a ∷ ls) ≡ true
    back is less = at (lt-total (a ∷ ls) (b ∷ bs))
      where
        at : Lt (a ∷ ls) (b ∷ bs) ⊎ ((a ∷ ls) ≡ (b ∷ bs)) ⊎ Lt (b ∷ bs) (a ∷ ls) → is_before x (a ∷ ls) ≡ true
        at (inl p) = cc
        at (inr (inl same)) = subst (λ (t : List ℕ). Lt x t) (sym same) less
        at (inr (inr p)) = lt-trans x (b ∷ bs) (a ∷ ls) less p

    by : (t : Bool) → is_before (a ∷ ls) (b ∷ bs) ≡ t → under (cond t (a ∷ ls) (b ∷ bs)) x ≡ (under (a ∷ ls) x && under (b ∷ bs) x)
    by true is = implied-left (is_before x (a ∷ ls)) (is_before x (b ∷ bs)) (λ less. lt-trans x (a ∷ ls) (b ∷ bs) less is)
    by false is = implied (is_before x (a ∷ ls)) (is_before x (b ∷ bs)) (back is)

next-above : (l x : List ℕ) → IsPlain x → over (next_text l) x ≡ over l x
next-above [] x plain = refl
next-above (b ∷ bs) x plain = after-next (b ∷ bs) x plain

next-below : (h x : List ℕ) → under (next_text h) x ≡ up_to h x
next-below [] x = refl
next-below (b ∷ bs) x = before-next (b ∷ bs) x

shuffle : (a b c d p : Bool) → (((a && b) && (c && d)) && p) ≡ (((a && c) && p) && (d && b))
shuffle true true true true p = and-true p
shuffle true true true false true = refl
shuffle true true true false false = refl
shuffle true true false d p = refl
shuffle true false true true true = refl
shuffle true false true true false = refl
shuffle true false true false true = refl
shuffle true false true false false = refl
shuffle true false false d p = refl
shuffle false b c d p = refl

shuffle-back : (a b c d p : Bool) → (((a && b) && (c && d)) && p) ≡ (((a && c) && p) && (b && d))
shuffle-back true true true true p = and-true p
shuffle-back true true true false true = refl
shuffle-back true true true false false = refl
shuffle-back true true false d p = refl
shuffle-back true false true true true = refl
shuffle-back true false true true false = refl
shuffle-back true false true false true = refl
shuffle-back true false true false false = refl
shuffle-back true false false d p = refl
shuffle-back false b c d p = refl

-- the names that a moved query asks for
pub asked-moved : (q : Query) (lower upper x : List ℕ) → IsPlain x → is_asked (moved q lower upper) x ≡ (is_asked q x && is_between lower upper x)
asked-moved q lower upper x plain = by q.reverse
  where
    p : Bool
    p = starts_with nat_eq x q.prefix

    above : (m : List ℕ) → is_above (higher m (next_text lower)) x ≡ (is_above m x && is_above lower x)
    above m =
        above-is (higher m (next_text lower)) x ∙ higher-above m (next_text lower) x ∙ ap (λ (t : Bool). over m x && t) (next-above lower x plain)
        ∙ ap (λ (t : Bool). t && over lower x) (sym (above-is m x)) ∙ ap (λ (t : Bool). is_above m x && t) (sym (above-is lower x))

    below : (m : List ℕ) → is_below (nearer m (next_text upper)) x ≡ (is_below m x && is_up_to upper x)
    below m =
        below-is (nearer m (next_text upper)) x ∙ nearer-below m (next_text upper) x ∙ ap (λ (t : Bool). under m x && t) (next-below upper x)
        ∙ ap (λ (t : Bool). t && up_to upper x) (sym (below-is m x)) ∙ ap (λ (t : Bool). is_below m x && t) (sym (up-to-is upper x))

    by : (b : Bool)
        → (cond b
        (is_below (cond b (nearer q.marker (next_text upper)) (higher q.marker (next_text lower))) x
        && is_above (cond b (higher q.end_marker (next_text lower)) (nearer q.end_marker (next_text upper))) x)
        (is_above (cond b (nearer q.marker (next_text upper)) (higher q.marker (next_text lower))) x
        && is_below (cond b (higher q.end_marker (next_text lower)) (nearer q.end_marker (next_text upper))) x)
        && starts_with nat_eq x q.prefix)
        ≡ ((cond b (is_below q.marker x && is_above q.end_marker x) (is_above q.marker x && is_below q.end_marker x) && starts_with nat_eq x q.prefix)
        && (is_above lower x && is_up_to upper x))
    by true =
        ap (λ (t : Bool). (t && is_above (higher q.end_marker (next_text lower)) x) && starts_with nat_eq x q.prefix) (below q.marker)
        ∙ ap (λ (t : Bool). ((is_below q.marker x && is_up_to upper x) && t) && starts_with nat_eq x q.prefix) (above q.end_marker)
        ∙ shuffle (is_below q.marker x) (is_up_to upper x) (is_above q.end_marker x) (is_above lower x) (starts_with nat_eq x q.prefix)
    by false =
        ap (λ (t : Bool). (t && is_below (nearer q.end_marker (next_text upper)) x) && starts_with nat_eq x q.prefix) (above q.marker)
        ∙ ap (λ (t : Bool). ((is_above q.marker x && is_above lower x) && t) && starts_with nat_eq x q.prefix) (below q.end_marker)
        ∙ shuffle-back (is_above q.marker x) (is_above lower x) (is_below q.end_marker x) (is_up_to upper x) (starts_with nat_eq x q.prefix)

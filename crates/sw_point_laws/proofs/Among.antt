-- What a list contains.
use Rattle.std.proofs.Common.{◌≡◌, zero, suc, Bool, true, false, cond, List, [], ◌∷◌, ◌++◌, map, Some, refl, sym, subst, arith}
use Rattle.std.proofs.lemmas.List.Elements.{Contains-append_left, Contains-append_right}
use Rattle.std.specs.List.{Contains, filter, find}
use Rattle.sw_rows.specs.declared.numbered.Numbered.{Numbered}

module _ {X : Type 0} where
  pub in-front : (x : X) (xs : List X) → Contains (x ∷ xs) x
  in-front x xs = (zero, omega arith, refl)

  pub behind : (y : X) (xs : List X) (x : X) → Contains xs x → Contains (y ∷ xs) x
  behind y xs x is = let within = is.1 in (suc is.0, omega (arith, within), is.2)

  -- a list that is cut at one of its elements
  module _ (whole before : List X) (here : X) (after : List X) (cut : whole ≡ before ++ here ∷ after) where
    back : (x : X) → Contains (before ++ here ∷ after) x → Contains whole x
    back x is = subst (λ (xs : List X). Contains xs x) (sym cut) is

    pub among-before : (x : X) → Contains before x → Contains whole x
    among-before x is = back x (Contains-append_left before (here ∷ after) x is)

    pub among-here : Contains whole here
    among-here = back here (Contains-append_right before (here ∷ after) here (in-front here after))

    pub among-after : (x : X) → Contains after x → Contains whole x
    among-after x is = back x (Contains-append_right before (here ∷ after) x (behind here after x is))

-- a row that one test finds is among those that pass another, where it passes that one
pub found-among : (p q : Numbered → Bool) (ns : List Numbered) (n : Numbered) → find q ns ≡ Some n → p n ≡ true
    → Contains (map (λ m. m.row) (filter p ns)) n.row
found-among p q [] n found passes = cc
found-among p q (m ∷ ms) n found passes = by (q m) found (λ rest. found-among p q ms n rest passes)
  where
    first : m ≡ n → Contains (map (λ m. m.row) (filter p (m ∷ ms))) n.row
    first same = at (p m) (subst (λ (x : Numbered). p x ≡ true) (sym same) passes)
      where
        at : (b : Bool) → b ≡ true → Contains (map (λ m. m.row) (cond b (m ∷ filter p ms) (filter p ms))) n.row
        at true is =
            subst (λ (x : Numbered). Contains (map (λ m. m.row) (m ∷ filter p ms)) x.row) same (in-front m.row (map (λ m. m.row) (filter p ms)))
        at false is = cc

    later : Contains (map (λ m. m.row) (filter p ms)) n.row → Contains (map (λ m. m.row) (filter p (m ∷ ms))) n.row
    later is = at (p m)
      where
        at : (b : Bool) → Contains (map (λ m. m.row) (cond b (m ∷ filter p ms) (filter p ms))) n.row
        at true = behind m.row (map (λ m. m.row) (filter p ms)) n.row is
        at false = is

    by : (b : Bool) → cond b (Some m) (find q ms) ≡ Some n → (find q ms ≡ Some n → Contains (map (λ m. m.row) (filter p ms)) n.row)
        → Contains (map (λ m. m.row) (filter p (m ∷ ms))) n.row
    by true is rest = let same : m ≡ n = cc in first same
    by false is rest = later (rest is)

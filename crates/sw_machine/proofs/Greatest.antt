-- Of the rows of a name that stood or were merged the greatest stands.
use Rattle.std.proofs.Common.{◌≡◌, ℕ, ◌<◌, zero, suc, Bool, true, false, cond, List, [], ◌∷◌, length, Option, None, Some, ◌⊎◌, inl, inr, refl}
use Rattle.std.proofs.Common.{◌∙◌, ap, subst, arith}
use Rattle.std.specs.List.{Contains, fold, slice_index_or}
use Rattle.std.specs.Str.{bytes_eq}
use Rattle.sw_rows.proofs.Greater.{at-least-other, at-least-self, at-least-trans}
use Rattle.sw_rows.proofs.Merging.{keeps-the-greatest}
use Rattle.sw_rows.proofs.Named.{name_itself, same_name}
use Rattle.sw_rows.specs.Laws.{greater}
use Rattle.sw_rows.specs.Rows.{Listed as RowList, find_named, is_at_least, merged}
use Rattle.sw_rows.specs.declared.row.Row.{Row}
use Rattle.sw_machine.specs.Laws.{IsGreatest, StandsAtLeast}

-- ---- one merge

-- what has the name where a row was merged
now : List ℕ → Option Row → Row → Option Row
now name o row = cond (bytes_eq row.name name) (Some (greater o row)) o

named-now : (l : RowList) (row : Row) (name : List ℕ) → find_named (merged l row).list name ≡ now name (find_named l.list name) row
unfolding now
named-now l row name = keeps-the-greatest l row name ∙ by (bytes_eq row.name name) refl
  where
    by : (b : Bool) → bytes_eq row.name name ≡ b
        → cond b (Some (greater (find_named l.list row.name) row)) (find_named l.list name)
        ≡ cond b (Some (greater (find_named l.list name) row)) (find_named l.list name)
    by true is = ap (λ (x : List ℕ). Some (greater (find_named l.list x) row)) (same_name row.name name is)
    by false is = refl

stood-now : (name : List ℕ) (o : Option Row) (row other : Row) → o ≡ Some other → StandsAtLeast (now name o row) other
unfolding now
stood-now name o row other is = by (bytes_eq row.name name)
  where
    at : (b : Bool) → is_at_least other row ≡ b → is_at_least (cond b other row) other ≡ true
    at true more = at-least-self other
    at false less = at-least-other other row less

    by : (b : Bool) → StandsAtLeast (cond b (Some (greater o row)) o) other
    by true =
        (cond (is_at_least other row) other row, ap (λ (x : Option Row). Some (greater x row)) is, at (is_at_least other row) refl)
    by false = (other, is, at-least-self other)

reached-now : (name : List ℕ) (o : Option Row) (row : Row) → row.name ≡ name → StandsAtLeast (now name o row) row
unfolding now
reached-now name o row named =
    let here : bytes_eq row.name name ≡ true = subst (λ (x : List ℕ). bytes_eq row.name x ≡ true) named (name_itself row.name) in
    (greater o row, ap (λ (b : Bool). cond b (Some (greater o row)) o) here, over o)
  where
    at : (present : Row) (b : Bool) → is_at_least present row ≡ b → is_at_least (cond b present row) row ≡ true
    at present true more = more
    at present false less = at-least-self row

    over : (x : Option Row) → is_at_least (greater x row) row ≡ true
    over None = at-least-self row
    over (Some present) = at present (is_at_least present row) refl

one-now : (name : List ℕ) (o : Option Row) (row : Row) → (now name o row ≡ o) ⊎ ((row.name ≡ name) × (now name o row ≡ Some row))
unfolding now
one-now name o row = by (bytes_eq row.name name) refl
  where
    at : (present : Row) (b : Bool) → (Some (cond b present row) ≡ Some present) ⊎ (Some (cond b present row) ≡ Some row)
    at present true = inl refl
    at present false = inr refl

    over : (x : Option Row) → (Some (greater x row) ≡ x) ⊎ (Some (greater x row) ≡ Some row)
    over None = inr refl
    over (Some present) = at present (is_at_least present row)

    named : row.name ≡ name → (Some (greater o row) ≡ o) ⊎ (Some (greater o row) ≡ Some row)
        → (Some (greater o row) ≡ o) ⊎ ((row.name ≡ name) × (Some (greater o row) ≡ Some row))
    named is (inl same) = inl same
    named is (inr new) = inr (is, new)

    by : (b : Bool) → bytes_eq row.name name ≡ b → (cond b (Some (greater o row)) o ≡ o) ⊎ ((row.name ≡ name) × (cond b (Some (greater o row)) o ≡ Some row))
    by true is = named (same_name row.name name is) (over o)
    by false is = inl refl

-- ---- merges one after the other

contains-cases : (x : Row) (xs : List Row) (row : Row) → Contains (x ∷ xs) row → (x ≡ row) ⊎ Contains xs row
contains-cases x xs row there = at there.0 there.1 there.2
  where
    at : (k : ℕ) → k < length (x ∷ xs) → slice_index_or (x ∷ xs) k row ≡ row → (x ≡ row) ⊎ Contains xs row
    at zero within is = inl is
    at (suc k) within is = inr (k, omega (arith, within), is)

contains-later : (x : Row) (xs : List Row) (row : Row) → Contains xs row → Contains (x ∷ xs) row
contains-later x xs row there = (suc there.0, omega (arith, there.1), there.2)

contains-first : (x : Row) (xs : List Row) → Contains (x ∷ xs) x
contains-first x xs = (0, omega arith, refl)

-- what counts at least as much as what stood in between
over-mid : (mid after : Option Row) (row : Row) → ((x : Row) → mid ≡ Some x → StandsAtLeast after x) → StandsAtLeast mid row → StandsAtLeast after row
over-mid mid after row later stands =
    let up = later stands.0 stands.1 in
    (up.0, up.1, at-least-trans up.0 stands.0 row up.2 stands.2)

greatest-none : (name : List ℕ) (o : Option Row) → IsGreatest name o [] o
greatest-none name o = record {
  stood = λ row is. (row, is, at-least-self row);
  reached = λ row there named. absurd (nowhere there.0 there.1);
  one = inl refl;
}
  where
    nowhere : (k : ℕ) → k < 0 → ⊥
    nowhere k within = omega (arith, within)

greatest-more : (name : List ℕ) (o : Option Row) (row : Row) (rows : List Row) (after : Option Row) → IsGreatest name (now name o row) rows after
    → IsGreatest name o (row ∷ rows) after
greatest-more name o row rows after rest = record {
  stood = λ other is. over-mid mid after other rest.stood (stood-now name o row other is);
  reached = λ other there named. reached_at other named (contains-cases row rows other there);
  one = at rest.one (one-now name o row);
}
  where
    mid : Option Row
    mid = now name o row

    reached_at : (other : Row) → other.name ≡ name → (row ≡ other) ⊎ Contains rows other → StandsAtLeast after other
    reached_at other named (inl same) =
        over-mid mid after other rest.stood
        (subst (λ (x : Row). StandsAtLeast mid x) same (reached-now name o row (ap (λ (x : Row). x.name) same ∙ named)))
    reached_at other named (inr later) = rest.reached other later named

    at : (after ≡ mid) ⊎ ((x : Row) × Contains rows x × (x.name ≡ name) × (after ≡ Some x)) → (mid ≡ o) ⊎ ((row.name ≡ name) × (mid ≡ Some row))
        → (after ≡ o) ⊎ ((x : Row) × Contains (row ∷ rows) x × (x.name ≡ name) × (after ≡ Some x))
    at (inl same) (inl kept) = inl (same ∙ kept)
    at (inl same) (inr new) = inr (row, contains-first row rows, new.0, same ∙ new.1)
    at (inr later) first = inr (later.0, contains-later row rows later.0 later.1, later.2, later.3)

pub fold-keeps : (name : List ℕ) (l : RowList) (rows : List Row) → IsGreatest name (find_named l.list name) rows (find_named (fold merged l rows).list name)
fold-keeps name l [] = greatest-none name (find_named l.list name)
fold-keeps name l (row ∷ rows) =
    greatest-more name (find_named l.list name) row rows (find_named (fold merged (merged l row) rows).list name)
    (subst (λ (o : Option Row). IsGreatest name o rows (find_named (fold merged (merged l row) rows).list name)) (named-now l row name)
    (fold-keeps name (merged l row) rows))

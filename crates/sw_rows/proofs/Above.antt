-- Rows above a number.
use Rattle.std.proofs.Common.{◌≡◌, ℕ, Bool, true, false, cond, ◌&&◌, ◌==◌, List, [], ◌∷◌, ◌++◌, map, filter, nat_lt, refl, ap, ◌≢◌, Result, Ok, Err}
use Rattle.std.specs.Arc.{arc_value}
use Rattle.std.specs.BTreeMap.Range.{entries_between}
use Rattle.std.specs.Ordering.{is_lt, nat_cmp}
use Rattle.std.specs.Result.{OnErr}
use Rattle.std.specs.declared.alloc.Global.{Global}
use Rattle.std.specs.declared.cmp.Ordering.TheVariants.{Less, Equal, Greater}
use Rattle.std.specs.declared.ops.Bound.TheVariants.{Excluded, Unbounded}
use Rattle.std.specs.declared.sync.Arc.{Arc}
use Rattle.sw_rows.specs.Index.{rows_of}
use Rattle.sw_rows.specs.Rows.{rows_above}
use Rattle.sw_rows.specs.declared.row.Row.{Row}

-- the rows alone
abbrev pub values_in : List (ℕ × Arc Row Global) → List Row
values_in entries = map (λ e. arc_value e.1) entries

less_at : (a b : ℕ) → is_lt (nat_cmp a b) ≡ nat_lt a b
less_at a b = at (nat_lt a b) (a == b)
  where
    at : (less same : Bool) → is_lt (cond less Less (cond same Equal Greater)) ≡ less
    at true same = refl
    at false true = refl
    at false false = refl

-- the part of a map behind a number has the rows above it
pub above-part : (es : List (ℕ × Arc Row Global)) (rowid : ℕ)
    → values_in (entries_between nat_cmp (Excluded rowid) Unbounded es) ≡ rows_above rowid (rows_of es)
above-part [] rowid = refl
above-part (e ∷ es) rowid = rw (less_at rowid e.0) (at (nat_lt rowid e.0) (above-part es rowid))
  where
    at : (b : Bool) → values_in (entries_between nat_cmp (Excluded rowid) Unbounded es) ≡ rows_above rowid (rows_of es) →
        values_in (cond (b && true) (e ∷ entries_between nat_cmp (Excluded rowid) Unbounded es) (entries_between nat_cmp (Excluded rowid) Unbounded es))
        ≡ map (λ n. n.row) (cond b (record { rowid = e.0; row = arc_value e.1 } ∷ filter (λ n. nat_lt rowid n.rowid) (rows_of es))
        (filter (λ n. nat_lt rowid n.rowid) (rows_of es)))
    at true rest = ap (λ (t : List Row). arc_value e.1 ∷ t) rest
    at false rest = rest

not-empty : (done left all : List Row) (row : Row) → done ++ row ∷ left ≡ all → all ≢ []
not-empty [] left all row whole = λ none. cc
not-empty (r ∷ rs) left all row whole = λ none. cc

-- where a row was taken, the whole isn't empty
pub starved : {T E : Type 0} (result : Result T E) (done left all : List Row) (row : Row) → done ++ row ∷ left ≡ all → OnErr result (all ≢ [])
starved (Ok _) done left all row whole = tt
starved (Err _) done left all row whole = not-empty done left all row whole

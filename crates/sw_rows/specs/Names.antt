-- Rows in byte order of their names. (This project's own.)
use Rattle.std.specs.Prelude.{◌≡◌, ℕ, Bool, ◌&&◌, List, [], ◌∷◌, map, find, Option, None, if◌then◌else◌, ⊤}
use Rattle.std.specs.Arc.{arc_value}
use Rattle.std.specs.Cmp.Lexicographic.{slice_cmp}
use Rattle.std.specs.List.Sorted.{IsStrictlySortedBy}
use Rattle.std.specs.Ordering.{is_le, is_lt, nat_cmp}
use Rattle.std.specs.Str.{bytes_eq}
use Rattle.std.specs.declared.alloc.Global.{Global}
use Rattle.std.specs.declared.vec.Vec.{Vec}
use Rattle.sw_rows.specs.Rows.{find_named}
use Rattle.sw_rows.specs.declared.held.Held.{Held}
use Rattle.sw_rows.specs.declared.numbered.Numbered.{Numbered}
use Rattle.sw_rows.specs.declared.row.Row.{Row}

-- the rows to which names lead
abbrev pub rows_named : List (Vec ℕ Global × Held) → List Row
rows_named names = map (λ e. arc_value e.1.row) names

-- each name leads to a row of that name
abbrev pub AreNamed : List (Vec ℕ Global × Held) → Type 0
AreNamed [] = ⊤
AreNamed (e ∷ es) = ((arc_value e.1.row).name ≡ e.0.items) × AreNamed es

-- a name lies at or above the one bound and below the other
abbrev pub is_between : List ℕ → List ℕ → List ℕ → Bool
is_between lower upper name = is_le (slice_cmp nat_cmp lower name) && is_lt (slice_cmp nat_cmp name upper)

-- the row of a name
abbrev pub row_of : List Row → List ℕ → Option Row
row_of rows name = find (λ r. bytes_eq r.name name) rows

-- the rows whose names lie between the bounds, each once, in byte order of their names, and no others
pub record ListsBetween (lower upper : List ℕ) (list : List Numbered) (rows : List Row) : Type 0 where
  pub ascending : IsStrictlySortedBy (slice_cmp nat_cmp) (map (λ r. r.name) rows)
  pub exact : (name : List ℕ) → row_of rows name ≡ (if is_between lower upper name then find_named list name else None)

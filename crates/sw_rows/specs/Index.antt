-- Rows found by their numbers and by their names. (This project's own.)
use Rattle.std.specs.Prelude.{◌≡◌, ℕ, List, map, filter, find, not, Option}
use Rattle.std.specs.Arc.{arc_value}
use Rattle.std.specs.BTreeMap.{is_at}
use Rattle.std.specs.Cmp.Lexicographic.{slice_cmp}
use Rattle.std.specs.Map.{lookup}
use Rattle.std.specs.Option.{option_map}
use Rattle.std.specs.Ordering.{nat_cmp}
use Rattle.std.specs.declared.alloc.Global.{Global}
use Rattle.std.specs.declared.sync.Arc.{Arc}
use Rattle.std.specs.declared.cmp.Ordering.{Ordering}
use Rattle.std.specs.declared.vec.Vec.{Vec}
use Rattle.sw_rows.specs.Rows.{is_named, is_numbered}
use Rattle.sw_rows.specs.declared.held.Held.{Held}
use Rattle.sw_rows.specs.declared.numbered.Numbered.{Numbered}
use Rattle.sw_rows.specs.declared.row.Row.{Row}

-- the rows of a map from number to row
abbrev pub rows_of : List (ℕ × Arc Row Global) → List Numbered
rows_of entries = map (λ e. record { rowid = e.0; row = arc_value e.1 }) entries

abbrev pub name_cmp : List ℕ → Vec ℕ Global → Ordering
name_cmp name key = slice_cmp nat_cmp name key.items

-- a row as a name leads to it
abbrev pub numbered_of : Held → Numbered
numbered_of held = record { rowid = held.rowid; row = arc_value held.row }

-- what a map from name to row has at a name
abbrev pub held_at : List (Vec ℕ Global × Held) → List ℕ → Option Numbered
held_at names name = option_map numbered_of (lookup (is_at (name_cmp name)) names)

-- the map by name has the row of each name, and no other name
abbrev pub AreNames : List Numbered → List (Vec ℕ Global × Held) → Type 0
AreNames list names = (name : List ℕ) → held_at names name ≡ find (is_named name) list

-- the row of a number
abbrev pub row_numbered : List Numbered → ℕ → Option Row
row_numbered list rowid = option_map (λ n. n.row) (find (is_numbered rowid) list)

-- the rows but that of a number
abbrev pub but : List Numbered → ℕ → List Numbered
but list rowid = filter (λ n. not (is_numbered rowid n)) list

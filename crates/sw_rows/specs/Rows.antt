-- Rows of a container: one for each name, and numbers that are used once. (OpenStack Swift's container server numbers its
-- rows and orders those of one name by created_at; that the deleted row wins at one time is this project's own.)
use Rattle.std.specs.Prelude.{◌≡◌, ℕ, ◌+◌, ◌<◌, ◌≤◌, Bool, true, not, ◌&&◌, ◌||◌, ◌==◌, nat_lt, nat_le, List, [], ◌∷◌, ◌++◌, filter, find, is_none, map, Option}
use Rattle.std.specs.Prelude.{None, Some}
use Rattle.std.specs.Prelude.{if◌then◌else◌, All, ⊤}
use Rattle.std.specs.List.{list_all}
use Rattle.std.specs.Option.{option_map}
use Rattle.std.specs.Str.{bytes_eq}
use Rattle.sw_rows.specs.declared.row.Row.{Row}
use Rattle.sw_rows.specs.declared.numbered.Numbered.{Numbered}

-- rows in the order of their numbers, and the greatest number given out
pub record Listed : Type 0 where
  pub list : List Numbered
  pub top : ℕ

abbrev pub no_rows : Listed
no_rows = record { list = []; top = 0 }

-- whether a row counts at least as much as another of its name: it is later, or as late and deleted where that one is
abbrev pub is_at_least : Row → Row → Bool
is_at_least a b = nat_lt b.created_at a.created_at || ((a.created_at == b.created_at) && (a.deleted || not b.deleted))

abbrev pub is_named : List ℕ → Numbered → Bool
is_named name n = bytes_eq n.row.name name

-- the row of a name
abbrev pub find_named : List Numbered → List ℕ → Option Row
find_named list name = option_map (λ n. n.row) (find (is_named name) list)

-- the number of the row of a name
abbrev pub number_named : List Numbered → List ℕ → Option ℕ
number_named list name = option_map (λ n. n.rowid) (find (is_named name) list)

-- whether a row is put in where this one of its name is present
abbrev pub fits : Option Row → Row → Bool
fits None row = true
fits (Some present) row = not (is_at_least present row)

-- the rows of other names
abbrev pub without : List ℕ → List Numbered → List Numbered
without name list = filter (λ n. not (is_named name n)) list

-- the row in place of the one of its name, under the next number
abbrev pub with_row : Listed → Row → Listed
with_row l row = record { list = without row.name l.list ++ record { rowid = l.top + 1; row = row } ∷ []; top = l.top + 1 }

abbrev pub merged : Listed → Row → Listed
merged l row = if fits (find_named l.list row.name) row then with_row l row else l

-- no number given out yet but these, and no rows
abbrev pub no_rows_at : ℕ → Listed
no_rows_at top = record { list = []; top = top }

-- whether a row can stand behind all others under a number that was given out: it isn't 0, is none above the greatest given
-- out, is above that of every row, and no row has the name
abbrev pub can_restore : Listed → ℕ → Row → Bool
can_restore l rowid row = nat_lt 0 rowid && nat_le rowid l.top && list_all (λ n. nat_lt n.rowid rowid) l.list && is_none (find_named l.list row.name)

-- the row behind all others under its number, where it can stand there
abbrev pub restored : Listed → ℕ → Row → Listed
restored l rowid row = if can_restore l rowid row then record l { list = l.list ++ record { rowid = rowid; row = row } ∷ [] } else l

abbrev pub is_numbered : ℕ → Numbered → Bool
is_numbered rowid n = n.rowid == rowid

-- a row put behind all others under this number, which is then the greatest given out
abbrev pub with_numbered : Listed → Row → ℕ → Listed
with_numbered l row rowid = record { list = l.list ++ record { rowid = rowid; row = row } ∷ []; top = rowid }

-- the rows whose numbers are above this one, in the order in which they stand; the row of the number itself is not among them
abbrev pub rows_above : ℕ → List Numbered → List Row
rows_above rowid list = map (λ n. n.row) (filter (λ n. nat_lt rowid n.rowid) list)

-- the rows without the one of this number
abbrev pub without_numbered : Listed → ℕ → Listed
without_numbered l rowid = record l { list = filter (λ n. not (is_numbered rowid n)) l.list }

-- each number is above the one before, and the first is above this one
abbrev pub IsRising : ℕ → List Numbered → Type 0
IsRising low [] = ⊤
IsRising low (n ∷ ns) = (low < n.rowid) × IsRising n.rowid ns

-- no two rows have one name
abbrev pub IsNamedOnce : List Numbered → Type 0
IsNamedOnce [] = ⊤
IsNamedOnce (n ∷ ns) = (find (is_named n.row.name) ns ≡ None) × IsNamedOnce ns

-- numbers rise from 1 on, none is above the greatest given out, and each name has one row
pub record IsListed (l : Listed) : Type 0 where
  pub rising : IsRising 0 l.list
  pub within : All (λ n. n.rowid ≤ l.top) l.list
  pub once : IsNamedOnce l.list

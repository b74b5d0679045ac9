-- Which names a container leaves to its shards: those of its closed ranges. (OpenStack Swift's sharder moves ranges to shards one after the other; that a
-- replica leaves a range's names to the shard from the time on at which it has closed the range itself is this project's own.)
use Rattle.std.specs.Prelude.{◌≡◌, ⊤, ℕ, Bool, ◌&&◌, ◌==◌, nat_lt, if◌then◌else◌, List, [], ◌∷◌, filter, is_none, Option, None, Some}
use Rattle.std.specs.List.{slice_get}
use Rattle.std.specs.Option.{option_map, option_or}
use Rattle.sw_hashpath.specs.declared.place.Place.{Place}
use Rattle.sw_keeper.specs.declared.tables.Tables.{Tables}
use Rattle.sw_rows.specs.Rows.{Listed}
use Rattle.sw_rows.specs.declared.numbered.Numbered.{Numbered}
use Rattle.sw_rows.specs.declared.row.Row.{Row}
use Rattle.sw_shard_range.specs.Ranges.{index_in}
use Rattle.sw_shard_range.specs.declared.range.Range.{Range}

-- the shard of the range with this index
abbrev pub shard_at : List Range → ℕ → Option Place
shard_at ranges index = option_map (λ r. r.shard) (slice_get ranges index)

-- the shard that a name is left to where so many ranges are closed
abbrev pub served_by : Option (List Range) → ℕ → List ℕ → Option Place
served_by None cursor name = None
served_by (Some ranges) cursor name = if nat_lt (index_in ranges name) cursor then shard_at ranges (index_in ranges name) else None

abbrev pub served : Tables → List ℕ → Option Place
served t name = served_by t.ranges t.cursor name

-- the rows whose names aren't left to shards
abbrev pub unserved : Tables → List Numbered
unserved t = filter (λ n. is_none (served t n.row.name)) t.rows.list

-- of rows, the first whose name is left to a shard tells which
abbrev pub first_served : Tables → List Row → Option Place
first_served t [] = None
first_served t (row ∷ rows) = option_or (served t row.name) (first_served t rows)

-- whether a row is one of the range, under a number above this one
abbrev pub is_of_range : List Range → ℕ → ℕ → Numbered → Bool
is_of_range ranges range point n = nat_lt point n.rowid && (index_in ranges n.row.name == range)

-- these rows are left, or all rows are where there are none
abbrev pub IsLeft : Tables → Option Listed → Type 0
IsLeft t None = unserved t ≡ t.rows.list
IsLeft t (Some rows) = rows ≡ record { list = unserved t; top = t.rows.top }

-- a container that has no shard ranges
abbrev pub IsUnsplit : Option Tables → Type 0
IsUnsplit None = ⊤
IsUnsplit (Some t) = t.ranges ≡ None

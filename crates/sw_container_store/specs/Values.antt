-- What is asked of a container's database with values, and what it tells: times as texts, numbers as whole numbers, digests as bytes. (This project's own.)
use Rattle.std.specs.List.{flat_map}
use Rattle.std.specs.Prelude.{ℕ, ◌+◌, pos, if◌then◌else◌, List, [], ◌∷◌, ◌++◌, map, Option, None, Some}
use Rattle.sqlite_value.specs.Order.{Row as SqlRow}
use Rattle.sqlite_value.specs.declared.value.Value.{Value}
use Rattle.sqlite_value.specs.declared.value.Value.TheVariants.{Null, Int, Text, Blob}
use Rattle.sw_hashpath.specs.declared.place.Place.{Place}
use Rattle.sw_keeper.specs.declared.batch.Change.{Change}
use Rattle.sw_keeper.specs.declared.batch.Change.TheVariants.{Times, PutRow, CutRow, SetRanges, SetCursor, SetPoint, SetSync, Empty}
use Rattle.sw_rows.specs.declared.numbered.Numbered.{Numbered}
use Rattle.sw_rows.specs.declared.row.Row.{Row}
use Rattle.sw_shard_range.specs.declared.range.Range.{Range}
use Rattle.sw_sync.specs.Points.{PointKey}
use Rattle.sw_container_store.specs.declared.reading.Info.{Info}
use Rattle.sw_container_store.specs.declared.reading_ranges.Sharding.{Sharding}
use Rattle.sw_container_store.specs.declared.statements.Command.{Command}
use Rattle.sw_container_store.specs.declared.statements.Command.TheVariants as command
use Rattle.sw_timestamp.specs.TimeText.{text_of}

-- a time that may be missing
abbrev pub time_value : Option ℕ → Value
time_value None = Null
time_value (Some time) = Text (text_of time)

-- which container a database is, and its times
abbrev pub info_values : Place → ℕ → Option ℕ → SqlRow
info_values place put_time delete_time = Text place.account ∷ Text place.container ∷ Blob place.hash ∷ Text (text_of put_time) ∷ time_value delete_time ∷ []

-- the rows of information of a database: none where nothing was kept in it yet
abbrev pub info_rows : Option Info → List SqlRow
info_rows None = []
info_rows (Some info) = info_values info.place info.put_time info.delete_time ∷ []

-- a row under its number
abbrev pub row_values : ℕ → Row → SqlRow
row_values rowid row =
    Int (pos rowid) ∷ Text row.name ∷ Text (text_of row.created_at) ∷ Int (pos row.size) ∷ Text row.content_type ∷ Blob row.etag
    ∷ Int (pos (if row.deleted then 1 else 0)) ∷ []

abbrev pub numbered_values : Numbered → SqlRow
numbered_values n = row_values n.rowid n.row

-- a sync point: the range, the device and the number
abbrev pub point_values : PointKey × ℕ → SqlRow
point_values point = Int (pos point.0.0) ∷ Int (pos point.0.1) ∷ Int (pos point.1) ∷ []

-- how many ranges are closed, whether the rows were taken away, and how many ranges and points of them there are
abbrev pub sharding_values : Sharding → SqlRow
sharding_values s = Int (pos s.cursor) ∷ Int (pos (if s.emptied then 1 else 0)) ∷ Int (pos s.ranges) ∷ Int (pos s.points) ∷ []

-- a shard range under its index
abbrev pub range_values : ℕ → Range → SqlRow
range_values index range =
    Int (pos index) ∷ Text range.shard.account ∷ Text range.shard.container ∷ Blob range.shard.hash ∷ Text range.lower ∷ Text range.upper
    ∷ Int (pos range.state) ∷ []

-- ranges under their indexes, from this one on
abbrev pub range_rows : ℕ → List Range → List SqlRow
range_rows index [] = []
range_rows index (range ∷ ranges) = range_values index range ∷ range_rows (index + 1) ranges

-- a command and its values
pub record Asked : Type 0 where
  pub command : Command
  pub values : SqlRow

-- what puts a shard range
abbrev pub range_asked : SqlRow → Asked
range_asked values = record { command = command.PutRange; values = values }

-- what a change of a container's tables asks of its database: one statement, but for ranges, which are put one by one where there are none, and for all
-- rows, of which it is kept that they were taken away
abbrev pub asked_of : Place → Change → List Asked
asked_of place (Times put_time delete_time) = record { command = command.PutInfo; values = info_values place put_time delete_time } ∷ []
asked_of place (PutRow row rowid) = record { command = command.PutRow; values = row_values rowid row } ∷ []
asked_of place (CutRow rowid) = record { command = command.CutRow; values = Int (pos rowid) ∷ [] } ∷ []
asked_of place (SetRanges ranges) = record { command = command.CutRanges; values = [] } ∷ map range_asked (range_rows 0 ranges)
asked_of place (SetCursor cursor) = record { command = command.PutCursor; values = Int (pos cursor) ∷ [] } ∷ []
asked_of place (SetPoint range device rowid) = record { command = command.PutPoint; values = point_values ((range, device), rowid) } ∷ []
asked_of place (SetSync device rowid) = record { command = command.PutSync; values = point_values ((0, device), rowid) } ∷ []
asked_of place Empty = record { command = command.CutRows; values = [] } ∷ record { command = command.PutEmptied; values = [] } ∷ []

abbrev pub begin : Asked
begin = record { command = command.Begin; values = [] }

abbrev pub commit : Asked
commit = record { command = command.Commit; values = [] }

-- what a batch asks: one transaction, in which stands what each change asks, in their order
abbrev pub transaction : Place → List Change → List Asked
transaction place batch = begin ∷ flat_map (asked_of place) batch ++ commit ∷ []

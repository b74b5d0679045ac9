-- Changes of a container's tables, and batches of them. (This project's own.)
use Rattle.std.specs.Prelude.{◌≡◌, ℕ, ◌<◌, ⊤, Bool, true, false, List, [], ◌∷◌, fold, find, Option, None, Some, IsSome}
use Rattle.sw_keeper.specs.declared.batch.Change.{Change}
use Rattle.sw_keeper.specs.declared.batch.Change.TheVariants.{Times, PutRow, CutRow, SetRanges, SetCursor, SetPoint, SetSync, Empty}
use Rattle.sw_rows.specs.Rows.{find_named, is_numbered, no_rows, no_rows_at, with_numbered, without_numbered}
use Rattle.sw_keeper.specs.declared.tables.Tables.{Tables}
use Rattle.sw_sync.specs.Points.{with_point}

-- whether a change owns memory: it puts a row, or sets ranges
abbrev pub owns : Change → Bool
owns (Times put_time delete_time) = false
owns (PutRow row rowid) = true
owns (CutRow rowid) = false
owns (SetRanges ranges) = true
owns (SetCursor cursor) = false
owns (SetPoint range device rowid) = false
owns (SetSync device rowid) = false
owns Empty = false

-- a container with these times, and nothing else
abbrev pub begun : ℕ → Option ℕ → Tables
begun put_time delete_time =
    record { put_time = put_time; delete_time = delete_time; rows = no_rows; ranges = None; cursor = 0; points = []; syncs = []; emptied = false }

-- the tables at a place after a change
abbrev pub changed : Option Tables → Change → Option Tables
changed None (Times put_time delete_time) = Some (begun put_time delete_time)
changed None (PutRow row rowid) = None
changed None (CutRow rowid) = None
changed None (SetRanges ranges) = None
changed None (SetCursor cursor) = None
changed None (SetPoint range device rowid) = None
changed None (SetSync device rowid) = None
changed None Empty = None
changed (Some t) (Times put_time delete_time) = Some (record t { put_time = put_time; delete_time = delete_time })
changed (Some t) (PutRow row rowid) = Some (record t { rows = with_numbered t.rows row rowid })
changed (Some t) (CutRow rowid) = Some (record t { rows = without_numbered t.rows rowid })
changed (Some t) (SetRanges ranges) = Some (record t { ranges = Some ranges })
changed (Some t) (SetCursor cursor) = Some (record t { cursor = cursor })
changed (Some t) (SetPoint range device rowid) = Some (record t { points = with_point t.points range device rowid })
changed (Some t) (SetSync device rowid) = Some (record t { syncs = with_point t.syncs 0 device rowid })
changed (Some t) Empty = Some (record t { rows = no_rows_at t.rows.top; emptied = true })

-- the tables at a place after these changes, in their order
abbrev pub all_changed : Option Tables → List Change → Option Tables
all_changed tables changes = fold changed tables changes

-- a change that may be made: at a place that isn't held its times alone; a row under a number above the greatest given
-- out, with a name that isn't there; a number that is there; any ranges, count of closed ones, or point
abbrev pub CanChange : Option Tables → Change → Type 0
CanChange None (Times put_time delete_time) = ⊤
CanChange None (PutRow row rowid) = ⊥
CanChange None (CutRow rowid) = ⊥
CanChange None (SetRanges ranges) = ⊥
CanChange None (SetCursor cursor) = ⊥
CanChange None (SetPoint range device rowid) = ⊥
CanChange None (SetSync device rowid) = ⊥
CanChange None Empty = ⊥
CanChange (Some t) (Times put_time delete_time) = ⊤
CanChange (Some t) (PutRow row rowid) = (t.rows.top < rowid) × (find_named t.rows.list row.name ≡ None)
CanChange (Some t) (CutRow rowid) = IsSome (find (is_numbered rowid) t.rows.list)
CanChange (Some t) (SetRanges ranges) = ⊤
CanChange (Some t) (SetCursor cursor) = ⊤
CanChange (Some t) (SetPoint range device rowid) = ⊤
CanChange (Some t) (SetSync device rowid) = ⊤
CanChange (Some t) Empty = ⊤

-- each change may be made after those before it, and the place is held in the end
abbrev pub IsBatch : Option Tables → List Change → Type 0
IsBatch tables [] = IsSome tables
IsBatch tables (change ∷ changes) = CanChange tables change × IsBatch (changed tables change) changes

-- What an iterator over rows has left to give.
use Rattle.std.specs.Prelude.{ℕ, List}
use Rattle.std.specs.Arc.{arc_value}
use Rattle.std.specs.Borrow.{Bor}
use Rattle.std.specs.declared.alloc.Global.{Global}
use Rattle.std.specs.declared.sync.Arc.{Arc}
use Rattle.sw_rows.specs.Index.{rows_of}
use Rattle.sw_rows.specs.declared.row.Row.{Row}
use Rattle.sw_rows.specs.declared.numbered.Numbered.{Numbered}
use Rattle.sw_rows.specs.declared.rows_iter.RowsIter.{RowsIter}
use Rattle.sw_rows.specs.declared.rows_iter.SharedRows.{SharedRows}

-- a row under its number
abbrev pub numbered : ℕ × Bor Row → Numbered
numbered item = record { rowid = item.0; row = item.1.now }

abbrev pub rows_left : RowsIter → List Numbered
rows_left it = rows_of it.entries

-- the same of a row that can be shared
abbrev pub shared : ℕ × Bor (Arc Row Global) → Numbered
shared item = record { rowid = item.0; row = arc_value item.1.now }

abbrev pub shared_left : SharedRows → List Numbered
shared_left it = rows_of it.entries

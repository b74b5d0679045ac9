-- Rows that are put in and taken away together. (This project's own.)
use Rattle.std.specs.Prelude.{◌≡◌, ℕ, ◌<◌, List, [], ◌∷◌, ◌++◌, All, fold}
use Rattle.sw_rows.specs.Index.{but}
use Rattle.sw_rows.specs.Rows.{Listed}
use Rattle.sw_rows.specs.declared.numbered.Numbered.{Numbered}
use Rattle.sw_rows.specs.declared.row.Row.{Row}

-- the rows but those of these numbers
abbrev pub but_all : List Numbered → List ℕ → List Numbered
but_all list numbers = fold but list numbers

-- rows without those of these numbers, with others behind them, and the greatest number given out then
abbrev pub exchanged : Listed → List ℕ → List Numbered → ℕ → Listed
exchanged l numbers rows top = record { list = but_all l.list numbers ++ rows; top = top }

-- rows, and others that come behind them
pub record Behind : Type 0 where
  pub list : List Numbered
  pub rows : List Numbered

-- rows under these numbers, put behind the others one after the other, made this list of that one
abbrev pub IsLog : List Numbered → List ℕ → List Numbered → Type 0
IsLog base [] list = list ≡ base
IsLog base (rowid ∷ rowids) list =
    (row : Row) × All (λ n. n.rowid < rowid) base × IsLog (base ++ record { rowid = rowid; row = row } ∷ []) rowids list

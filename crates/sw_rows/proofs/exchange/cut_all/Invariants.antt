-- The rows before those that were put behind are without those of the numbers before the index.
use Rattle.std.proofs.Common.{◌≡◌, ◌++◌, take}
use Rattle.sw_rows.specs.Exchanging.{but_all}
use Rattle.sw_rows.proofs.exchange.cut_all.Given as goal

abbrev pub invariant-loop-rowid : goal.invariant-loop-rowid
invariant-loop-rowid g l = l.numbers ≡ but_all g.behind.list (take l.rowid-index l.gone) ++ g.behind.rows

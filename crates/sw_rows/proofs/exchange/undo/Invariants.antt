-- What is left of the log leads back to the rows that stood.
use Rattle.sw_rows.specs.Exchanging.{IsLog}
use Rattle.sw_rows.proofs.exchange.undo.Given as goal

abbrev pub invariant-loop-rowid : goal.invariant-loop-rowid
invariant-loop-rowid g l = IsLog g.base l.log.items l.numbers

abbrev pub decreases-loop-rowid : goal.decreases-loop-rowid
decreases-loop-rowid g l = goal.left-loop-rowid g l

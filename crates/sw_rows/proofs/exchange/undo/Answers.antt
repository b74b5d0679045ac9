use Rattle.std.proofs.Common.{ℕ, List, subst}
use Rattle.sw_rows.specs.Exchanging.{IsLog}
use Rattle.sw_rows.proofs.Exchanging.{undone}
use Rattle.sw_rows.proofs.exchange.undo.Goals as goal

pub loop-rowid-preserved-in-Some : goal.loop-rowid-preserved-in-Some
loop-rowid-preserved-in-Some g c =
    let P : List ℕ → Type 0 = λ l. IsLog g.base l c.loop-rowid.numbers in
    rw c.cut.ensures.rows (undone g.base c.loop-rowid.numbers c.pop.new.self.items c.in-Some.rowid (subst P c.in-Some.ensures.items c.loop-rowid.invariant))

pub loop-rowid-preserved : goal.loop-rowid-preserved
loop-rowid-preserved g c =
    let P : List ℕ → Type 0 = λ l. IsLog g.base l c.loop-rowid.numbers in
    rw c.cut.ensures.rows (undone g.base c.loop-rowid.numbers c.pop.new.self.items c.in-Some.rowid (subst P c.in-Some.ensures.items c.loop-rowid.invariant))

use Rattle.std.proofs.Common.{sym, ◌∙◌}
use Rattle.sw_rows.proofs.Numbering.{restored-put}
use Rattle.sw_rows.proofs.rows.Rows.restore.Goals as goal

pub returns-clause-rows : goal.returns-clause-rows
returns-clause-rows c =
    restored-put c.args.self.now c.put.new.self c.args.rowid c.args.row (sym c.can_restore.ensures ∙ c.if-not-can_restore.false)
    (rw c.in_ok-new.ensures.ok at c.in_ok-put.ensures.list)
    c.in_ok-put.ensures.top

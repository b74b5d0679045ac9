use Rattle.std.proofs.Common.{List, ◌∙◌, ap}
use Rattle.sw_rows.specs.Index.{but, row_numbered, rows_of}
use Rattle.sw_rows.specs.Rows.{is_numbered}
use Rattle.sw_rows.specs.declared.numbered.Numbered.{Numbered}
use Rattle.std.proofs.Common.{◌≡◌, not}
use Rattle.sw_rows.proofs.Entries.{get-numbered, remove-numbered}
use Rattle.sw_rows.proofs.Merging.{rising-filter}
use Rattle.sw_rows.proofs.numbers.Numbers.cut.Goals as goal

pub invariant_of-self : goal.invariant_of-self
invariant_of-self c =
    let es = c.self.inside.rows.entries in
    let left : rows_of c.remove.new.self.entries ≡ but (rows_of es) c.args.rowid =
    ap rows_of c.remove.ensures.entries ∙ remove-numbered 0 es c.args.rowid c.self.invariant in
    rw left (rising-filter (λ n. not (is_numbered c.args.rowid n)) 0 (rows_of es) c.self.invariant)

pub returns-clause-gone : goal.returns-clause-gone
returns-clause-gone c =
    rw c.remove.ensures.value (get-numbered c.self.inside.rows.entries c.args.rowid
    ∙ ap (λ (l : List Numbered). row_numbered l c.args.rowid) c.self.view_is)

pub returns-clause-rows : goal.returns-clause-rows
returns-clause-rows c =
    ap rows_of c.remove.ensures.entries ∙ remove-numbered 0 c.self.inside.rows.entries c.args.rowid c.self.invariant
    ∙ ap (λ (l : List Numbered). but l c.args.rowid) c.self.view_is

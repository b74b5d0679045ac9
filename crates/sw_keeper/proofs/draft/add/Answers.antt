use Rattle.std.proofs.Common.{◌≡◌, ◌<◌, ◌≤◌, None, not, Some, sym, ◌∙◌, ap, arith, subst}
use Rattle.std.proofs.lemmas.List.Elements.{All-push}
use Rattle.sw_keeper.specs.Drafts.{drafted, spared}
use Rattle.sw_keeper.specs.declared.tables.Tables.{Tables}
use Rattle.sw_rows.specs.Exchanging.{exchanged}
use Rattle.sw_rows.specs.Rows.{find_named, is_numbered, Listed, without_numbered}
use Rattle.sw_rows.specs.declared.row.Row.{Row}
use Rattle.sw_keeper.proofs.Drafting.{cut-listed, draft-cut_new, draft-cut_old, put-listed, put-rising}
use Rattle.sw_rows.proofs.Merging.{rising-filter}
use Rattle.sw_keeper.proofs.draft.add.Goals as goal

pub returns-in_ok-push-in-PutRow-clause-is : goal.returns-in_ok-push-in-PutRow-clause-is
returns-in_ok-push-in-PutRow-clause-is c =
    let d = c.args.draft.now in
    let l = spared c.args.tables.now d in
    let is = c.requires.is in
    let fits = rw c.in-PutRow.is at c.requires.fits in
    let row = c.in_ok-row-in-PutRow.row in
    let N : Row → Type 0 = λ r. find_named (exchanged l d.numbers.items d.rows.items d.top).list r.name ≡ None in
    let none : N row = subst N (sym c.in_ok-row-in-PutRow.ensures) fits.1 in
    record {
      given = is.given;
      rising = rw c.in_ok-push-in-PutRow.ensures.items
          (put-rising l d.numbers.items d.rows.items d.top row c.in-PutRow.rowid is.listed is.above fits.0 is.rising);
      above = omega (arith, is.above, fits.0);
      before = is.before;
      listed = rw c.in_ok-push-in-PutRow.ensures.items (put-listed l d.numbers.items d.rows.items d.top row c.in-PutRow.rowid is.listed fits.0 none);
    }

pub returns-in-CutRow-clause-is : goal.returns-in-CutRow-clause-is
returns-in-CutRow-clause-is c =
    let d = c.args.draft.now in
    let l = spared c.args.tables.now d in
    let is = c.requires.is in
    let rowid = c.in-CutRow.rowid in
    let top : c.top.result ≡ l.top = c.top.ensures.top in
    let above : l.top < rowid = omega (arith, top, c.if-rowid-top.true) in
    let same : exchanged l d.numbers.items c.cut.new.rows.items d.top ≡ without_numbered (exchanged l d.numbers.items d.rows.items d.top) rowid =
    rw c.cut.ensures (draft-cut_new l d.numbers.items d.rows.items d.top rowid is.before above) in
    record {
      given = is.given;
      rising = rw c.cut.ensures (rising-filter (λ n. not (is_numbered rowid n)) l.top d.rows.items is.rising);
      above = is.above;
      before = is.before;
      listed = cut-listed (exchanged l d.numbers.items d.rows.items d.top) (exchanged l d.numbers.items c.cut.new.rows.items d.top) rowid is.listed same;
    }

pub returns-in-CutRow-clause-tables : goal.returns-in-CutRow-clause-tables
returns-in-CutRow-clause-tables c =
    let d = c.args.draft.now in
    let l = spared c.args.tables.now d in
    let is = c.requires.is in
    let rowid = c.in-CutRow.rowid in
    let top : c.top.result ≡ l.top = c.top.ensures.top in
    let above : l.top < rowid = omega (arith, top, c.if-rowid-top.true) in
    let same : exchanged l d.numbers.items c.cut.new.rows.items d.top ≡ without_numbered (exchanged l d.numbers.items d.rows.items d.top) rowid =
    rw c.cut.ensures (draft-cut_new l d.numbers.items d.rows.items d.top rowid is.before above) in
    rw c.in-CutRow.is
    (ap (λ (r : Listed). let t : Tables = record (drafted c.args.tables.now d) { rows = r } in Some t) same)

pub returns-in_ok-push-in-CutRow-2-clause-is : goal.returns-in_ok-push-in-CutRow-2-clause-is
returns-in_ok-push-in-CutRow-2-clause-is c =
    let d = c.args.draft.now in
    let l = spared c.args.tables.now d in
    let is = c.requires.is in
    let rowid = c.in-CutRow-2.rowid in
    let numbers = c.push-in-CutRow-2.new.self.items in
    let one : c.in-CutRow.rowid ≡ rowid = (let both = sym c.in-CutRow.is ∙ c.in-CutRow-2.is in cc) in
    let le : rowid ≤ l.top = omega (arith, c.top.ensures.top, c.if-rowid-top.false, one) in
    let same : exchanged l numbers d.rows.items d.top ≡ without_numbered (exchanged l d.numbers.items d.rows.items d.top) rowid =
    rw c.in_ok-push-in-CutRow-2.ensures.items (draft-cut_old l d.numbers.items d.rows.items d.top rowid le is.rising) in
    record {
      given = rw c.in_ok-push-in-CutRow-2.ensures.items (All-push (λ x. x ≤ l.top) d.numbers.items rowid is.given le);
      rising = is.rising;
      above = is.above;
      before = is.before;
      listed = cut-listed (exchanged l d.numbers.items d.rows.items d.top) (exchanged l numbers d.rows.items d.top) rowid is.listed same;
    }

pub returns-in_ok-push-in-CutRow-2-clause-tables : goal.returns-in_ok-push-in-CutRow-2-clause-tables
returns-in_ok-push-in-CutRow-2-clause-tables c =
    let d = c.args.draft.now in
    let l = spared c.args.tables.now d in
    let is = c.requires.is in
    let rowid = c.in-CutRow-2.rowid in
    let numbers = c.push-in-CutRow-2.new.self.items in
    let one : c.in-CutRow.rowid ≡ rowid = (let both = sym c.in-CutRow.is ∙ c.in-CutRow-2.is in cc) in
    let le : rowid ≤ l.top = omega (arith, c.top.ensures.top, c.if-rowid-top.false, one) in
    let same : exchanged l numbers d.rows.items d.top ≡ without_numbered (exchanged l d.numbers.items d.rows.items d.top) rowid =
    rw c.in_ok-push-in-CutRow-2.ensures.items (draft-cut_old l d.numbers.items d.rows.items d.top rowid le is.rising) in
    rw c.in-CutRow-2.is
    (ap (λ (r : Listed). let t : Tables = record (drafted c.args.tables.now d) { rows = r } in Some t) same)

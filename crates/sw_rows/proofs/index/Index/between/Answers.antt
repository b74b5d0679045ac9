use Rattle.std.proofs.Common.{ℕ, List, sym, ◌∙◌, ap, subst}
use Rattle.std.specs.Ordering.{is_gt, is_lt}
use Rattle.std.proofs.lemmas.Cmp.{nat_list_cmp_total, tied_itself}
use Rattle.sw_rows.specs.Names.{ListsBetween}
use Rattle.sw_rows.proofs.Ranging.{lists-backwards, not-above}
use Rattle.sw_rows.proofs.index.Index.between.Goals as goal

pub part-requires : goal.part-requires
part-requires c = ap is_gt (tied_itself nat_list_cmp_total c.in_ok-start.start.items)

pub returns-then-is_lt : goal.returns-then-is_lt
returns-then-is_lt c =
    let P : List ℕ → Type 0 = λ x. ListsBetween x x c.args.self.now c.part.result in
    lists-backwards c.args.lower.now c.args.upper.now c.args.self.now c.part.result (ap is_lt (sym c.cmp.ensures) ∙ sym c.is_lt.ensures ∙ c.if-is_lt.true)
    (subst P c.in_ok-start.ensures.items c.part.ensures)

pub part-requires-2 : goal.part-requires-2
part-requires-2 c =
    rw (c.in_ok-start.ensures.items, c.in_ok-end.ensures.items)
    (not-above c.args.lower.now c.args.upper.now (ap is_lt (sym c.cmp.ensures) ∙ sym c.is_lt.ensures ∙ c.if-is_lt.false))

use Rattle.std.proofs.Common.{List, subst}
use Rattle.sw_rows.specs.Names.{ListsBetween, rows_named}
use Rattle.sw_rows.specs.declared.numbered.Numbered.{Numbered}
use Rattle.sw_rows.proofs.Ranging.{lists-between, named-range}
use Rattle.sw_rows.proofs.index.Index.part.Goals as goal

pub invariant_of-result : goal.invariant_of-result
invariant_of-result c =
    named-range c.self.inside.numbers c.self.inside.names c.args.start.now c.args.end.now c.range.result c.self.invariant (c.range.ensures.in_range tt).0

pub returns : goal.returns
returns c =
    let P : List Numbered → Type 0 = λ l. ListsBetween c.args.start.now.items c.args.end.now.items l (rows_named c.range.result) in
    subst P c.self.view_is (lists-between c.self.inside.numbers c.self.inside.names.entries c.range.result c.args.start.now c.args.end.now c.self.invariant
    c.range.ensures.ordered (c.range.ensures.between tt)
    (named-range c.self.inside.numbers c.self.inside.names c.args.start.now c.args.end.now c.range.result c.self.invariant (c.range.ensures.in_range tt).0))

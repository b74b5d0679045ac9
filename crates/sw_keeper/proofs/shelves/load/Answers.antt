use Rattle.std.proofs.Common.{sym, ◌∙◌}
use Rattle.sw_keeper.proofs.Keeping.{absent_tables, found_some, found_tables, told_anyway}
use Rattle.sw_keeper.proofs.shelves.load.Goals as goal

pub returns-in_ok-tables-clause-ok : goal.returns-in_ok-tables-clause-ok
returns-in_ok-tables-clause-ok c =
    rw c.in_ok-tables.ensures
    (found_tables c.args.shelves.now c.args.place.now c.index-shelves-index.result c.place_of-index.result c.place_of-index.ensures.place
    (sym c.is_place_at.ensures.there ∙ c.if-is_place_at.true) c.index-shelves-index.is)

pub returns-else-is_place_at-clause-ok : goal.returns-else-is_place_at-clause-ok
returns-else-is_place_at-clause-ok c =
    sym (absent_tables c.args.shelves.now c.args.place.now c.place_of-index.result c.requires c.place_of-index.ensures.place
    (sym c.is_place_at.ensures.there ∙ c.if-is_place_at.false))

pub returns-in_err-tables-clause-starved : goal.returns-in_err-tables-clause-starved
returns-in_err-tables-clause-starved c =
    told_anyway c.from_residual.result
    (found_some c.args.shelves.now c.args.place.now c.index-shelves-index.result c.place_of-index.result c.place_of-index.ensures.place
    (sym c.is_place_at.ensures.there ∙ c.if-is_place_at.true) c.index-shelves-index.is)

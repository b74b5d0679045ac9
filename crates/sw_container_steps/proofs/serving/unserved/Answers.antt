use Rattle.std.proofs.Common.{refl, ◌∙◌}
use Rattle.sw_container_steps.proofs.Shards.{none-closed, none-ranged}
use Rattle.sw_container_steps.proofs.serving.unserved.Goals as goal
use Rattle.sw_container_steps.proofs.serving.unserved.Goals.{then-is_none-via-then-is_none, then-is_none-via-else-is_none+then-tables-eq0}

pub returns-then-is_none-clause-ok : goal.returns-then-is_none-clause-ok
returns-then-is_none-clause-ok c =
    elim c.then-is_none.branch [
      | then-is_none-via-then-is_none w ↦ none-ranged c.args.tables.now (c.is_none.ensures ∙ rw w.if-is_none.true refl)
      | then-is_none-via-else-is_none+then-tables-eq0 w ↦ none-closed c.args.tables.now w.if-tables-eq0.true
    ]

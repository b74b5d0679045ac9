use Rattle.std.proofs.Common.{◌∙◌}
use Rattle.sw_cluster.proofs.OpeningLemmas.{located}
use Rattle.sw_cluster.proofs.locate.write_where.Goals as goal

-- the text that was written is that of the names
pub returns-in-Ok : goal.returns-in-Ok
returns-in-Ok g c =
    rw (← c.names_of.ensures.account, ← c.names_of.ensures.container, ← c.names_of.ensures.object)
    (located c.args.ring.now _ _ _ _ c.as_slice.result.now _ (c.as_slice.ensures ∙ c.in-Ok.ensures.text) c.in-Ok.ensures.good c.write_text.ensures)

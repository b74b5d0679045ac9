use Rattle.std.proofs.Common.{Err, refl, sym, ◌∙◌}
use Rattle.std.proofs.lemmas.Result.{IfOk-weaker, on_err_weaker}
use Rattle.sw_container_server.proofs.Looks.{refused-fed, shown-left, unshown-left}
use Rattle.sw_container_server.proofs.looking.list.Goals as goal

-- a listing across shards that found no memory
pub returns-then-is_unshown-clause-err : goal.returns-then-is_unshown-clause-err
returns-then-is_unshown-clause-err g c = (
  c.in-Ok.info,
  g.D.Door.sight c.read_told.new.door,
  c.read_shown-listed.result,
  c.in-Ok.ensures.told,
  c.read_shown-listed.ensures.shown,
  unshown-left c.in-Ok.info c.read_shown-listed.result (sym c.is_unshown.ensures ∙ c.if-is_unshown.true),
)

-- what was listed is replied
pub returns-else-is_unshown-clause-ok : goal.returns-else-is_unshown-clause-ok
returns-else-is_unshown-clause-ok g c = IfOk-weaker c.listing_reply.result _ _
    (λ response is. (
      _,
      g.D.Door.sight c.read_told.new.door,
      c.in-Ok.ensures.told,
      (c.read_shown-listed.result, c.read_shown-listed.ensures.shown, sym c.is_unshown.ensures ∙ c.if-is_unshown.false, is),
    ))
    c.listing_reply.ensures.ok

-- no memory for the reply: all reads told something
pub returns-else-is_unshown-clause-err : goal.returns-else-is_unshown-clause-err
returns-else-is_unshown-clause-err g c = on_err_weaker c.listing_reply.result
    (λ takes. (
      c.in-Ok.info,
      g.D.Door.sight c.read_told.new.door,
      c.read_shown-listed.result,
      c.in-Ok.ensures.told,
      c.read_shown-listed.ensures.shown,
      shown-left c.args.ring.now c.args.device c.args.place.now c.args.replica c.args.query.now c.in-Ok.info (g.D.Door.sight c.read_told.new.door)
          c.read_shown-listed.result (g.D.Door.sight c.read_shown-listed.new.door) c.read_shown-listed.ensures.shown takes,
    ))
    c.listing_reply.ensures.err

-- nothing was told of the container, and that is replied
pub returns-in-Err-clause-ok : goal.returns-in-Err-clause-ok
returns-in-Err-clause-ok g c = IfOk-weaker c.info_reply.result _ _
    (λ response is. (Err c.in-Err.answer, g.D.Door.sight c.read_told.new.door, c.in-Err.ensures.told, (refl, is)))
    c.info_reply.ensures.ok

-- which needs no memory
pub returns-in-Err-clause-err : goal.returns-in-Err-clause-err
returns-in-Err-clause-err g c = on_err_weaker c.info_reply.result
    (λ takes. absurd (refused-fed c.args.ring.now c.args.device c.args.place.now c.args.replica (g.D.Door.sight c.args.door.now) c.in-Err.answer
    (g.D.Door.sight c.read_told.new.door) c.in-Err.ensures.told takes))
    c.info_reply.ensures.err

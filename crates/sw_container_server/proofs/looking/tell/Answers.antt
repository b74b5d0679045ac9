use Rattle.std.proofs.lemmas.Result.{IfOk-weaker, on_err_weaker}
use Rattle.sw_container_server.proofs.Looks.{told-left}
use Rattle.sw_container_server.proofs.looking.tell.Goals as goal

-- what was told is replied
pub returns-clause-ok : goal.returns-clause-ok
returns-clause-ok g c =
    IfOk-weaker c.info_reply.result _ _ (λ response is. (c.read_told-told.result, c.read_told-told.ensures.told, is)) c.info_reply.ensures.ok

-- no memory for the reply: the container was told of
pub returns-clause-err : goal.returns-clause-err
returns-clause-err g c = on_err_weaker c.info_reply.result
    (λ takes. told-left c.args.ring.now c.args.device c.args.place.now c.args.replica (g.D.Door.sight c.args.door.now) c.read_told-told.result
    (g.D.Door.sight c.read_told-told.new.door) c.read_told-told.ensures.told takes)
    c.info_reply.ensures.err

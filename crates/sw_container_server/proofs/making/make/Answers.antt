use Rattle.std.proofs.lemmas.Result.{IfOk-weaker, on_err_weaker}
use Rattle.sw_container_server.proofs.making.make.Goals as goal

-- the reply is that to the answer
pub returns-clause-ok : goal.returns-clause-ok
returns-clause-ok g c = IfOk-weaker c.change_reply.result _ _
    (λ response is. (c.in-Ok.answer, record { called = c.in-Ok.ensures.made; asks = c.in-Ok.ensures.asks }, is))
    c.change_reply.ensures.ok

-- no memory for the reply: its answer says that nothing changed
pub returns-clause-err : goal.returns-clause-err
returns-clause-err g c = on_err_weaker c.change_reply.result
    (λ shows. (c.in-Ok.answer, record { called = c.in-Ok.ensures.made; asks = c.in-Ok.ensures.asks }, shows))
    c.change_reply.ensures.err

use Rattle.std.proofs.lemmas.Result.{IfOk-weaker, on_err_weaker}
use Rattle.sw_object_server.proofs.making.show.Goals as goal

-- what was got is shown
pub returns-clause-ok : goal.returns-clause-ok
returns-clause-ok g c = IfOk-weaker c.shown.result _ _
    (λ response is. (c.in-Ok.got, record { called = c.in-Ok.ensures.read; asks = c.in-Ok.ensures.asks }, is))
    c.shown.ensures.ok

-- no memory for the reply that shows it
pub returns-clause-err : goal.returns-clause-err
returns-clause-err g c = on_err_weaker c.shown.result
    (λ shows. (c.in-Ok.got, record { called = c.in-Ok.ensures.read; asks = c.in-Ok.ensures.asks }, shows))
    c.shown.ensures.err

use Rattle.std.proofs.lemmas.Result.{IfOk-weaker, on_err_weaker}
use Rattle.sw_replica_server.proofs.serving.show_hashes.Goals as goal

-- what was told is replied
pub returns-clause-ok : goal.returns-clause-ok
returns-clause-ok g c = IfOk-weaker c.hashes_reply.result _ _
    (λ response is. (c.in-Ok.got, record { called = c.in-Ok.ensures.read; asks = c.in-Ok.ensures.asks }, is))
    c.hashes_reply.ensures.ok

-- no memory for the reply that tells it
pub returns-clause-err : goal.returns-clause-err
returns-clause-err g c = on_err_weaker c.hashes_reply.result
    (λ takes. (c.in-Ok.got, record { called = c.in-Ok.ensures.read; asks = c.in-Ok.ensures.asks }, takes))
    c.hashes_reply.ensures.err

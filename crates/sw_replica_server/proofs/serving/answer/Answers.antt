use Rattle.std.proofs.Common.{inr}
use Rattle.std.proofs.lemmas.Result.{IfOk-weaker, on_err_weaker}
use Rattle.sw_replica_server.proofs.Reached.{reached}
use Rattle.sw_replica_server.proofs.serving.answer.Goals as goal

-- what is asked for has its place
pub serve-requires : goal.serve-requires
serve-requires g c =
    reached c.args.ring.now (g.D.Door.sight c.args.door.now).nodes c.in_ok-asked.asked c.requires.devices c.requires.power c.in_ok-asked.ensures.placed

-- it was served, and so the request was answered
pub returns-clause-ok : goal.returns-clause-ok
returns-clause-ok g c = IfOk-weaker c.serve.result _ _ (λ response served. (c.in_ok-asked.asked, c.in_ok-asked.ensures.exact, served)) c.serve.ensures.ok

pub returns-clause-err : goal.returns-clause-err
returns-clause-err g c = on_err_weaker c.serve.result (λ left. inr (c.in_ok-asked.asked, c.in_ok-asked.ensures.exact, left)) c.serve.ensures.err

use Rattle.std.proofs.Common.{inr}
use Rattle.std.proofs.lemmas.Result.{IfOk-weaker, on_err_weaker}
use Rattle.sw_container_server.proofs.serving.answer.Goals as goal

-- it was served, and so the request was answered
pub returns-clause-ok : goal.returns-clause-ok
returns-clause-ok g c = IfOk-weaker c.serve.result _ _ (λ response served. (c.in_ok-asked.asked, c.in_ok-asked.ensures.asked, served)) c.serve.ensures.ok

-- no memory for the reply to what it asks for
pub returns-clause-err : goal.returns-clause-err
returns-clause-err g c = on_err_weaker c.serve.result (λ left. inr (c.in_ok-asked.asked, c.in_ok-asked.ensures.asked, left)) c.serve.ensures.err

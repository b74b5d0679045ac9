use Rattle.std.proofs.lemmas.Result.{IfOk-weaker, on_err_weaker}
use Rattle.sw_object_server.proofs.Reached.{given_up, reached}
use Rattle.sw_object_server.proofs.serving.answer.Goals as goal

-- what is asked for has its place
pub serve-requires : goal.serve-requires
serve-requires g c =
    reached c.args.ring.now (g.D.Door.sight c.args.door.now).nodes c.in_ok-asked.asked c.requires.devices c.requires.fits c.in_ok-asked.ensures.placed

-- it was served, and so the request was answered
pub returns-clause-ok : goal.returns-clause-ok
returns-clause-ok g c = IfOk-weaker c.serve.result _ _ (λ response served. (c.in_ok-asked.asked, c.in_ok-asked.ensures.asked, served)) c.serve.ensures.ok

pub returns-clause-err : goal.returns-clause-err
returns-clause-err g c = on_err_weaker c.serve.result
    (λ halted. given_up g.D.Door.sight _ _ c.args.ring.now c.args.request c.args.now c.in_ok-asked.asked c.in_ok-asked.ensures.asked halted)
    c.serve.ensures.err

use Rattle.std.proofs.Common.{inr, ap, ◌∙◌}
use Rattle.std.proofs.lemmas.Result.{IfOk-weaker, on_err_weaker}
use Rattle.sw_message.specs.declared.response.Response.{Response}
use Rattle.sw_object_server.specs.Replies.{reply_to}
use Rattle.sw_object_server.proofs.making.make.Goals as goal

-- the reply is that to the answer
pub returns-clause-ok : goal.returns-clause-ok
returns-clause-ok g c = IfOk-weaker c.reply_to.result _ _
    (λ response is. (
      c.in-Ok.answer,
      record { called = c.in-Ok.ensures.made; asks = c.in-Ok.ensures.asks },
      is ∙ ap (λ (made : Response). reply_to made c.in-Ok.answer) c.in_ok-made.ensures.ok,
    ))
    c.reply_to.ensures.ok

-- no memory for the reply: its answer says that nothing changed
pub returns-clause-err : goal.returns-clause-err
returns-clause-err g c = on_err_weaker c.reply_to.result
    (λ shows. inr (c.in-Ok.answer, record { called = c.in-Ok.ensures.made; asks = c.in-Ok.ensures.asks }, shows))
    c.reply_to.ensures.err

pub returns-clause-wanted : goal.returns-clause-wanted
returns-clause-wanted g c = on_err_weaker c.reply_to.result
    (λ shows. inr (c.in-Ok.answer, record { called = c.in-Ok.ensures.made; asks = c.in-Ok.ensures.asks }, shows))
    c.reply_to.ensures.err

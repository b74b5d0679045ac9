-- where one field names no message, the fields name none
use Rattle.sw_control.proofs.Refusals.{if_err}
use Rattle.sw_control.proofs.pushing.acts_of.Goals as goal

pub returns-in_err-message_of-clause-refused : goal.returns-in_err-message_of-clause-refused
returns-in_err-message_of-clause-refused c = if_err c.from_residual.result (λ acts named. c.in_err-message_of.ensures.refused acts.lose named.lose)

pub returns-in_err-message_of-2-clause-refused : goal.returns-in_err-message_of-2-clause-refused
returns-in_err-message_of-2-clause-refused c =
    if_err c.from_residual-in_err-message_of-2.result (λ acts named. c.in_err-message_of-2.ensures.refused acts.lose_reply named.lose_reply)

pub returns-in_err-message_of-3-clause-refused : goal.returns-in_err-message_of-3-clause-refused
returns-in_err-message_of-3-clause-refused c =
    if_err c.from_residual-in_err-message_of-3.result (λ acts named. c.in_err-message_of-3.ensures.refused acts.repeat named.repeat)

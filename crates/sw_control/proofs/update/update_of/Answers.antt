use Rattle.sw_control.proofs.Refusals.{if_none, where_err}
use Rattle.sw_control.proofs.update.update_of.Goals as goal

pub returns-in_err-acts-clause-refused : goal.returns-in_err-acts-clause-refused
returns-in_err-acts-clause-refused c =
    if_none c.from_residual-in_err-acts.result
    (λ asked is. where_err c.acts_of.result c.in_err-acts.ensures.variant c.acts_of.ensures.refused asked.acts is.acts)

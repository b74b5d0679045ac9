use Rattle.std.proofs.Common.{rules}
use Rattle.sw_control.proofs.Refusals.{where_err}
use Rattle.sw_control.proofs.cleaving.cleaving_of.Goals as goal

-- where the fields name no messages they ask for no cleaving
pub returns-in_default-acts_of-clause-refused : goal.returns-in_default-acts_of-clause-refused
returns-in_default-acts_of-clause-refused c = λ asked is. where_err c.acts_of.result (search rules) c.acts_of.ensures.refused asked.acts is.acts

use Rattle.sw_account_laws.proofs.Going.{keeps-accounts}
use Rattle.sw_account_laws.proofs.laws.accounts_go_on.Goals as goal

pub returns : goal.returns
returns c = keeps-accounts

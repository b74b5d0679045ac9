use Rattle.sw_account_laws.proofs.Going.{accounts-join}
use Rattle.sw_account_laws.proofs.laws.accounts_join.Goals as goal

pub returns : goal.returns
returns c = accounts-join

use Rattle.sw_account_laws.proofs.Staying.{accounts-stay}
use Rattle.sw_account_laws.proofs.laws.accounts_stay.Goals as goal

pub returns : goal.returns
returns c = accounts-stay

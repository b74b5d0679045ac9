use Rattle.sw_account_laws.proofs.Beginning.{accounts-begin}
use Rattle.sw_account_laws.proofs.laws.accounts_begin.Goals as goal

pub returns : goal.returns
returns c = accounts-begin

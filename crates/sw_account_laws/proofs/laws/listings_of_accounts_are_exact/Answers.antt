use Rattle.sw_account_laws.proofs.Listing.{listings-of-accounts-are-exact}
use Rattle.sw_account_laws.proofs.laws.listings_of_accounts_are_exact.Goals as goal

pub returns : goal.returns
returns c = listings-of-accounts-are-exact

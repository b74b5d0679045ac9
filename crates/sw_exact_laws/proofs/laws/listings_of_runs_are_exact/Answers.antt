use Rattle.sw_exact_laws.proofs.Showing.{listings-of-runs-exact}
use Rattle.sw_exact_laws.proofs.laws.listings_of_runs_are_exact.Goals as goal

pub returns : goal.returns
returns c = listings-of-runs-exact

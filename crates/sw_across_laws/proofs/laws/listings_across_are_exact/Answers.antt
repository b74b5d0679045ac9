use Rattle.sw_across_laws.proofs.Across.{listings-exact}
use Rattle.sw_across_laws.proofs.laws.listings_across_are_exact.Goals as goal

pub returns : goal.returns
returns c = listings-exact

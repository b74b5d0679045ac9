use Rattle.sw_across_laws.proofs.Exact.{across-exact}
use Rattle.sw_across_laws.proofs.laws.across_is_exact.Goals as goal

pub returns : goal.returns
returns c = across-exact

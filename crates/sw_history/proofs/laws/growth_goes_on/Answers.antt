use Rattle.sw_history.proofs.Growing.{growth-goes-on}
use Rattle.sw_history.proofs.laws.growth_goes_on.Goals as goal

pub returns : goal.returns
returns g c = growth-goes-on _ _ _ _

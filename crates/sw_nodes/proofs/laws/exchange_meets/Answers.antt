use Rattle.sw_core.specs.Worlds.{keeper_seen}
use Rattle.sw_nodes.proofs.Exchanging as proofs
use Rattle.sw_nodes.proofs.laws.exchange_meets.Goals as goal

pub returns : goal.returns
returns g c = proofs.exchange_meets g.V.Volume.tells g.V.Volume.holds g.V.Volume.faults (keeper_seen g.K.Keeper.tells g.K.Keeper.holds g.K.Keeper.faults)

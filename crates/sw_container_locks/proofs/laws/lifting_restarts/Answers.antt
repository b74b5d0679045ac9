use Rattle.sw_container_locks.proofs.Placed.{lifting-restarts}
use Rattle.sw_container_locks.proofs.laws.lifting_restarts.Goals as goal

pub returns : goal.returns
returns g c = lifting-restarts g.K.Keeper.tells g.K.Keeper.holds g.K.Keeper.faults

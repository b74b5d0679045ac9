use Rattle.sw_container_locks.proofs.Anew.{restart-moves}
use Rattle.sw_container_locks.proofs.laws.restart_moves.Goals as goal

pub returns : goal.returns
returns g c = restart-moves g.K.Keeper.tells g.K.Keeper.holds g.K.Keeper.faults

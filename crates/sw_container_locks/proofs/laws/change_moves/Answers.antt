use Rattle.sw_container_locks.proofs.Placed.{change-moves}
use Rattle.sw_container_locks.proofs.laws.change_moves.Goals as goal

pub returns : goal.returns
returns g c = change-moves g.K.Keeper.tells g.K.Keeper.holds g.K.Keeper.faults g.K.Keeper.calls

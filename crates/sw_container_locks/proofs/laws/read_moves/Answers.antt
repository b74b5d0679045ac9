use Rattle.sw_container_locks.proofs.Placed.{read-moves}
use Rattle.sw_container_locks.proofs.laws.read_moves.Goals as goal

pub returns : goal.returns
returns g c = read-moves g.K.Keeper.tells g.K.Keeper.holds g.K.Keeper.faults g.K.Keeper.calls

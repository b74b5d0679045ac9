use Rattle.sw_core.specs.Worlds.{keeper_seen}
use Rattle.sw_quiet.proofs.Trails.{lifting-restarts}
use Rattle.sw_quiet.proofs.laws.lifting_restarts_quietly.Goals as goal

pub returns : goal.returns
returns g c = let v = g.V.Volume in let k = g.K.Keeper in lifting-restarts v.tells v.holds v.faults (keeper_seen k.tells k.holds k.faults)

use Rattle.std.proofs.Common.{ap}
use Rattle.sw_shared.proofs.Placing.{read-door}
use Rattle.sw_shared.specs.Doors.{SharedNodes}
use Rattle.sw_shared.proofs.shared_door.door.SharedDoorObjectDoor.get.Goals as goal

pub returns-clause-read : goal.returns-clause-read
returns-clause-read g c =
    let v = g.V.Volume in let e = c.get_at-got.ensures in
    read-door v.tells v.holds v.faults c.args.self.now c.get_at-got.new.self c.args.device c.args.name.now c.args.link c.get_at-got.result e.shared e.turn

pub returns-clause-asks : goal.returns-clause-asks
returns-clause-asks g c = ap (λ (x : SharedNodes _). x.asks) c.get_at-got.ensures.turn.left

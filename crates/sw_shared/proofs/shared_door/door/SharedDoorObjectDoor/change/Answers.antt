use Rattle.std.proofs.Common.{ap}
use Rattle.sw_shared.proofs.Placing.{made-door}
use Rattle.sw_shared.specs.Doors.{SharedNodes}
use Rattle.sw_shared.proofs.shared_door.door.SharedDoorObjectDoor.change.Goals as goal

pub returns-clause-made : goal.returns-clause-made
returns-clause-made g c =
    let v = g.V.Volume in let e = c.change_at-answer.ensures in
    made-door v.tells v.holds v.faults c.args.self.now c.change_at-answer.new.self c.args.device c.args.name.now c.args.link c.args.change
    c.change_at-answer.result e.shared e.turn

pub returns-clause-asks : goal.returns-clause-asks
returns-clause-asks g c = ap (λ (x : SharedNodes _). x.asks) c.change_at-answer.ensures.turn.left

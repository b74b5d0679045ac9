use Rattle.std.proofs.Common.{ap}
use Rattle.sw_shared.proofs.PartReads.{records-door}
use Rattle.sw_shared.specs.Doors.{SharedNodes}
use Rattle.sw_shared.proofs.shared_door.pending.SharedDoorPendingDoor.records.Goals as goal

pub returns-clause-read : goal.returns-clause-read
returns-clause-read g c =
    let v = g.V.Volume in let e = c.records_at-records.ensures in
    records-door v.tells v.holds v.faults c.args.self.now c.records_at-records.new.self e.shared c.args.device c.args.link c.args.stripe
    c.records_at-records.result c.requires.stripe e.turn

pub returns-clause-asks : goal.returns-clause-asks
returns-clause-asks g c = ap (λ (x : SharedNodes _). x.asks) c.records_at-records.ensures.turn.left

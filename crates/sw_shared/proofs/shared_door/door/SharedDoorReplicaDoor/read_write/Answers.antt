use Rattle.std.proofs.Common.{ap}
use Rattle.sw_shared.proofs.PartReads.{write-door}
use Rattle.sw_shared.specs.Doors.{SharedNodes}
use Rattle.sw_shared.proofs.shared_door.door.SharedDoorReplicaDoor.read_write.Goals as goal

pub returns-clause-read : goal.returns-clause-read
returns-clause-read g c =
    let v = g.V.Volume in let e = c.write_at-stored.ensures in
    write-door v.tells v.holds v.faults c.args.self.now c.write_at-stored.new.self e.shared c.args.device c.args.link c.args.part c.args.hash.now
    c.args.file.now c.write_at-stored.result c.requires.within e.turn

pub returns-clause-asks : goal.returns-clause-asks
returns-clause-asks g c = ap (λ (x : SharedNodes _). x.asks) c.write_at-stored.ensures.turn.left

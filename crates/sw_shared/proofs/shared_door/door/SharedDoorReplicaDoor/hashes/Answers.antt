use Rattle.std.proofs.Common.{◌∙◌, ap}
use Rattle.sw_peer.specs.Sights.{asked}
use Rattle.sw_shared.proofs.PartReads.{hashes-door}
use Rattle.sw_shared.specs.Doors.{SharedNodes}
use Rattle.sw_shared.proofs.shared_door.door.SharedDoorReplicaDoor.hashes.Goals as goal

pub returns-clause-read : goal.returns-clause-read
returns-clause-read g c =
    let v = g.V.Volume in let e = c.hashes_at-got.ensures in
    rw c.count.ensures
    (hashes-door v.tells v.holds v.faults c.args.self.now c.hashes_at-got.new.self e.shared c.args.device c.args.link c.args.part
    (asked c.hashes_at-got.new.self.asks c.args.link) c.hashes_at-got.result c.requires.part e.turn)

pub returns-clause-asks : goal.returns-clause-asks
returns-clause-asks g c = ap (λ (x : SharedNodes _). x.asks) c.count.ensures
    ∙ ap (λ (x : SharedNodes _). asked x.asks c.args.link) c.hashes_at-got.ensures.turn.left

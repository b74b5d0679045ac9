use Rattle.std.proofs.Common.{◌∙◌, ap}
use Rattle.sw_peer.specs.Sights.{asked}
use Rattle.sw_shared.proofs.PartReads.{files-door}
use Rattle.sw_shared.specs.Doors.{SharedNodes}
use Rattle.sw_shared.proofs.shared_door.door.SharedDoorReplicaDoor.files_of.Goals as goal

pub returns-clause-read : goal.returns-clause-read
returns-clause-read g c =
    let v = g.V.Volume in let e = c.files_at-got.ensures in
    rw c.count.ensures
    (files-door v.tells v.holds v.faults c.args.self.now c.files_at-got.new.self e.shared c.args.device c.args.link c.args.part c.args.suffix
    (asked c.files_at-got.new.self.asks c.args.link) c.files_at-got.result c.requires.part c.requires.suffix e.turn)

pub returns-clause-asks : goal.returns-clause-asks
returns-clause-asks g c = ap (λ (x : SharedNodes _). x.asks) c.count.ensures
    ∙ ap (λ (x : SharedNodes _). asked x.asks c.args.link) c.files_at-got.ensures.turn.left

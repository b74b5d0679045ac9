use Rattle.std.proofs.Common.{ap}
use Rattle.sw_core.proofs.Wholes.{digest-of, hashed}
use Rattle.sw_shared.proofs.PartReads.{base-door}
use Rattle.sw_shared.specs.Doors.{SharedNodes}
use Rattle.sw_shared.proofs.shared_door.pending.SharedDoorPendingDoor.base_for.Goals as goal

pub returns-clause-read : goal.returns-clause-read
returns-clause-read g c =
    let v = g.V.Volume in let e = c.base_at-row.ensures in
    base-door v.tells v.holds v.faults c.args.self.now c.base_at-row.new.self e.shared c.args.device c.args.link c.args.filed.now c.base_at-row.result
    (digest-of c.args.self.now.secrets c.args.filed.now.name (hashed c.args.self.now.secrets c.args.filed.now.name c.requires.fits)) e.turn

pub returns-clause-asks : goal.returns-clause-asks
returns-clause-asks g c = ap (λ (x : SharedNodes _). x.asks) c.base_at-row.ensures.turn.left

use Rattle.sw_shared.proofs.Placing.{may-stand}
use Rattle.sw_shared.proofs.shared_door.door.SharedDoorObjectDoor.may_stand.Goals as goal

pub returns : goal.returns
returns g c =
    let v = g.V.Volume in
    may-stand v.tells v.holds v.faults c.args.self.now c.are_shared.ensures c.args.device c.args.hash.now c.requires.device

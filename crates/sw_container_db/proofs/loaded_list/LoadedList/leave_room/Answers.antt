use Rattle.sw_container_db.proofs.LoadedLists.{list-trimmed}
use Rattle.sw_container_db.proofs.loaded_list.LoadedList.leave_room.Goals as goal

pub invariant_of-self : goal.invariant_of-self
invariant_of-self c = rw c.trim.ensures.items (list-trimmed 0 c.self.inside.entries.items c.self.invariant)

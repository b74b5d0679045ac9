-- Calls that ended without memory.
use Rattle.std.proofs.Common.{ℕ, false, List, Result, Ok, Err, IsErr}
use Rattle.std.specs.declared.alloc.Global.{Global}
use Rattle.std.specs.declared.vec.Vec.{Vec}
use Rattle.sw_object_steps.specs.declared.dir_fault.DirFault.{DirFault}
use Rattle.sw_outside.specs.declared.errors.NoMemory.{NoMemory}
use Rattle.sw_pass.specs.declared.outcome.Outcome.{Outcome}
use Rattle.sw_peer.specs.Sights.{Sight}
use Rattle.sw_pending.specs.declared.filed.Filed.{Filed}
use Rattle.sw_ring.specs.declared.ring.Ring.{Ring}
use Rattle.sw_updater.specs.Reading.{AreAllRead, ArePending}
use Rattle.sw_updater.specs.Updating.{IsGoneOver, IsUpdate}

-- a read of all records
pub pending-wanted : (ring : Ring) (device : ℕ) (s : Sight) (r : Result (Result (Vec Filed Global) DirFault) NoMemory) (t : Sight) (records : List Filed)
    → IsErr r → AreAllRead ring device s (Ok records) t → ArePending ring device s r t
pending-wanted ring device s (Ok answer) t records err read = cc
pending-wanted ring device s (Err wanting) t records err read = (records, read)

-- a pass
pub wanted : (ring : Ring) (device : ℕ) (s : Sight) (r : Result Outcome NoMemory) (t : Sight) (got : Result (List Filed) DirFault) (mid : Sight)
    (p : Outcome) → IsErr r → AreAllRead ring device s got mid → IsGoneOver ring device got mid t p false → IsUpdate ring device s r t
wanted ring device s (Ok outcome) t got mid p err read over = cc
wanted ring device s (Err wanting) t got mid p err read over = (got, mid, p, read, over)

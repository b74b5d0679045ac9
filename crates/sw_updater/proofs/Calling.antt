-- What the calls of an update keep.
use Rattle.std.proofs.Common.{ℕ, Option, Result}
use Rattle.std.specs.declared.alloc.Global.{Global}
use Rattle.std.specs.declared.vec.Vec.{Vec}
use Rattle.sw_hashpath.specs.declared.name.Name.{Name}
use Rattle.sw_object_steps.specs.declared.answer.Answer.{Answer}
use Rattle.sw_object_steps.specs.declared.change.Change.{Change}
use Rattle.sw_object_steps.specs.declared.dir_fault.DirFault.{DirFault}
use Rattle.sw_peer.proofs.Calls.{BaseFrame, StripeFrame, base-step, calls-moves, made-step, records-step}
use Rattle.sw_peer.specs.Sights.{Calls, IsAt, IsBaseRead, IsMade, IsRecordsRead, Moves, Sight}
use Rattle.sw_peer.specs.declared.link.Link.{Link}
use Rattle.sw_peer.specs.declared.link.Lost.{Lost}
use Rattle.sw_pending.specs.declared.filed.Filed.{Filed}
use Rattle.sw_rows.specs.declared.row.Row.{Row}

pub made-moves : (link : Link) (device : ℕ) (name : Name) (change : Change) (s : Sight) (r : Result Answer Lost) (t : Sight)
    → Calls (IsMade link device name change) s link r t → Moves (IsAt device name.hash) s t
made-moves link device name change s r t p =
    calls-moves (Moves (IsAt device name.hash)) (IsMade link device name change) (made-step link device name change) s link r t p

pub base-moves : (link : Link) (device : ℕ) (filed : Filed) (s : Sight) (r : Result (Result (Option Row) DirFault) Lost) (t : Sight)
    → Calls (IsBaseRead link device filed) s link r t → BaseFrame device filed s t
base-moves link device filed s r t p = calls-moves (BaseFrame device filed) (IsBaseRead link device filed) (base-step link device filed) s link r t p

pub records-moves : (link : Link) (device stripe : ℕ) (s : Sight) (r : Result (Result (Vec Filed Global) DirFault) Lost) (t : Sight)
    → Calls (IsRecordsRead link device stripe) s link r t → StripeFrame device stripe s t
records-moves link device stripe s r t p =
    calls-moves (StripeFrame device stripe) (IsRecordsRead link device stripe) (records-step link device stripe) s link r t p

-- What a request has a container take sets no ranges and closes none, and keeps of no other device that it has rows.
use Rattle.std.proofs.Common.{◌≡◌, true, refl}
use Rattle.std.specs.Bool.{⊤}
use Rattle.sw_container_server.proofs.Few.{asks_for_few}
use Rattle.sw_container_server.specs.Asking.{IsAsked}
use Rattle.sw_container_server.specs.Laws.{IsOfClient}
use Rattle.sw_container_server.specs.declared.asked.ContAsked.{ContAsked}
use Rattle.sw_container_server.specs.declared.asked.ContAsked.TheVariants as asks
use Rattle.sw_container_steps.specs.declared.cont_change.ContChange.{ContChange}
use Rattle.sw_container_steps.specs.declared.cont_change.ContChange.TheVariants.{Ack, CloseRange, Create, EmptyOut, MergeRow, MergeRows, Remove}
use Rattle.sw_container_steps.specs.declared.cont_change.ContChange.TheVariants.{SetRanges, SetSync}
use Rattle.sw_machine.specs.Doors.{leaves_points}
use Rattle.sw_message.specs.declared.request.Request.{Request}
use Rattle.sw_ring.specs.declared.ring.Ring.{Ring}

abbrev pub LeavesPoints : ContAsked → Type 0
LeavesPoints (asks.Refused status) = ⊤
LeavesPoints (asks.Change device place change) = leaves_points change ≡ true
LeavesPoints (asks.Info device place replica) = ⊤
LeavesPoints (asks.List device place query replica) = ⊤

client-leaves : (change : ContChange) → IsOfClient change → leaves_points change ≡ true
client-leaves (Create time) is = refl
client-leaves (Remove time) is = refl
client-leaves (MergeRow row) is = refl
client-leaves (MergeRows rows) is = absurd is
client-leaves (SetRanges ranges) is = absurd is
client-leaves (Ack range device rowid) is = absurd is
client-leaves (CloseRange range devices) is = absurd is
client-leaves EmptyOut is = absurd is
client-leaves (SetSync device rowid) is = absurd is

pub asked-leaves : (ring : Ring) (r : Request) (asked : ContAsked) → IsAsked ring r asked → LeavesPoints asked
asked-leaves ring r (asks.Refused status) is = tt
asked-leaves ring r (asks.Change device place change) is = client-leaves change (asks_for_few ring r device place change is)
asked-leaves ring r (asks.Info device place replica) is = tt
asked-leaves ring r (asks.List device place query replica) is = tt

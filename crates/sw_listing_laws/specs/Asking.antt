-- Which steps clients ask for. (This project's own.)
use Rattle.std.specs.Prelude.{Bool, true, false}
use Rattle.sw_machine.specs.Machine.{Came, RunLine, Went}
use Rattle.sw_object_steps.specs.declared.change.Change.{Change}
use Rattle.sw_object_steps.specs.declared.change.Change.TheVariants.{Put, Post, Delete, Receive, MarkRecord, DropRecord}
use Rattle.sw_peer.specs.declared.line.Event.{Event}
use Rattle.sw_peer.specs.declared.line.Event.TheVariants.{Changed}

-- whether a client asks a device for the step itself: what is received another device had before, and records are the nodes' own
abbrev pub is_asked : Change → Bool
is_asked (Put time content none_match) = true
is_asked (Post time heads) = true
is_asked (Delete time if_delete_at) = true
is_asked (Receive write) = false
is_asked (MarkRecord filed to) = false
is_asked (DropRecord filed all) = false

abbrev pub is_asked_event : Event → Bool
is_asked_event (Changed name change answer) = is_asked change
is_asked_event event = false

abbrev pub is_asked_line : RunLine → Bool
is_asked_line (Came line) = is_asked_event line.event
is_asked_line (Went from message) = false

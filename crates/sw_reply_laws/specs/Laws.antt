-- What is promised of replies to writes. (This project's own.)
use Rattle.std.specs.Prelude.{◌≡◌, ℕ, true, List, ◌∷◌, ◌++◌}
use Rattle.sw_container_server.specs.Replies as container_replies
use Rattle.sw_container_server.specs.Serving as containers
use Rattle.sw_container_steps.specs.declared.cont_answer.ContAnswer.{ContAnswer}
use Rattle.sw_container_steps.specs.declared.cont_change.ContChange.{ContChange}
use Rattle.sw_container_steps.specs.declared.cont_entry.ContEntry.{ContEntry}
use Rattle.sw_hashpath.specs.declared.name.Name.{Name}
use Rattle.sw_hashpath.specs.declared.place.Place.{Place}
use Rattle.sw_machine.specs.Machine.{Came, Machine, RunLine, Runs}
use Rattle.sw_machine.specs.Sides.{TellsAt}
use Rattle.sw_message.specs.declared.response.Response.{Response}
use Rattle.sw_object_server.specs.Replies as object_replies
use Rattle.sw_object_server.specs.Serving as objects
use Rattle.sw_object_steps.specs.Journals.{Hash}
use Rattle.sw_object_steps.specs.Recorded.{is_write}
use Rattle.sw_object_steps.specs.Steps.{write_of}
use Rattle.sw_object_steps.specs.declared.answer.Answer.{Answer}
use Rattle.sw_object_steps.specs.declared.change.Change.{Change}
use Rattle.sw_peer.specs.Sights.{Nodes, Sight, cont_lock}
use Rattle.sw_peer.specs.declared.cont_event.ContEvent.TheVariants as cont_events
use Rattle.sw_peer.specs.declared.line.Event.TheVariants.{AtContainer, Changed}
use Rattle.sw_peer.specs.declared.line.Line.{Line}
use Rattle.sw_state.specs.declared.write.Write.{Write}
use Rattle.sw_reply_laws.specs.Containers.{TablesBearOut}
use Rattle.sw_reply_laws.specs.Objects.{BearsOut}

-- where the lock of an object told its contents, what stands there bears out the reply to a write that came
abbrev pub WritesStand : Type 0
WritesStand = (s t : Sight) (device : ℕ) (name : Name) (change : Change) (response : Response) → t.alone ≡ true → is_write change ≡ true
    → objects.IsChangeServed s t device name change response → (s.objects.seen (s.nodes.lock device name.hash)).told ≡ true
    → BearsOut response (write_of change) (t.objects.holds device name.hash).state

-- and what stands there behind a run does so too, whatever came in it
abbrev pub WritesStandOn : Type 0
WritesStandOn = (nodes : Nodes) (m : Machine) (lines : List RunLine) (after : Machine) → Runs nodes m lines after → (device : ℕ) (hash : Hash)
    → TellsAt nodes.lock m.objects device hash → (response : Response) (w : Write) → BearsOut response w (m.objects.half.holds device hash).state
    → BearsOut response w (after.objects.half.holds device hash).state

-- So where the line of a write came in a run, what stands behind the run bears out the reply to its answer
abbrev pub LinesOfWritesStand : Type 0
LinesOfWritesStand = (nodes : Nodes) (m : Machine) (lines : List RunLine) (line : Line) (more : List RunLine) (after : Machine)
    → Runs nodes m (lines ++ Came line ∷ more) after → (name : Name) (change : Change) (answer : Answer) → line.event ≡ Changed name change answer
    → is_write change ≡ true → TellsAt nodes.lock m.objects line.device name.hash
    → BearsOut (object_replies.reply_to (object_replies.made_reply (write_of change).kind) answer) (write_of change)
    (after.objects.half.holds line.device name.hash).state

-- the same of the tables of a container, and a change of them
abbrev pub ChangesStand : Type 0
ChangesStand = (s t : Sight) (device : ℕ) (place : Place) (change : ContChange) (response : Response) → t.alone ≡ true
    → containers.IsChangeServed s t device place change response → (s.containers.seen (cont_lock s.nodes device place)).told ≡ true
    → TablesBearOut response change (t.containers.holds device place)

abbrev pub ChangesStandOn : Type 0
ChangesStandOn = (nodes : Nodes) (m : Machine) (lines : List RunLine) (after : Machine) → Runs nodes m lines after → (device : ℕ) (place : Place)
    → TellsAt (cont_lock nodes) m.containers device place → (response : Response) (change : ContChange)
    → TablesBearOut response change (m.containers.half.holds device place) → TablesBearOut response change (after.containers.half.holds device place)

abbrev pub LinesOfChangesStand : Type 0
LinesOfChangesStand = (nodes : Nodes) (m : Machine) (lines : List RunLine) (line : Line) (more : List RunLine) (after : Machine)
    → Runs nodes m (lines ++ Came line ∷ more) after → (place : Place) (change : ContChange) (answer : ContAnswer) (entries : List ContEntry)
    → line.event ≡ AtContainer (cont_events.Changed place change answer) entries → TellsAt (cont_lock nodes) m.containers line.device place
    → TablesBearOut (container_replies.change_reply change answer) change (after.containers.half.holds line.device place)

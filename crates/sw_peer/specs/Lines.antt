-- What the line of a step tells of the entries that it added. (This project's own.)
use Rattle.std.specs.Prelude.{ℕ, ◌-◌, List, [], length, take}
use Rattle.sw_container_steps.specs.declared.cont_entry.ContEntry.{ContEntry}
use Rattle.sw_object_steps.specs.Steps.{own_by}
use Rattle.sw_object_steps.specs.declared.entry.ObjEntry.{ObjEntry}
use Rattle.sw_peer.specs.declared.line.Event.{Event}
use Rattle.sw_peer.specs.declared.line.Event.TheVariants as events
use Rattle.sw_peer.specs.declared.line.Line.{Line}

-- how many entries a step adds for its own write, by its event: they come last
abbrev pub own_count : Event → ℕ
own_count (events.Changed name change answer) = own_by answer
own_count (events.Read name got) = 0
own_count (events.ReadPart read) = 0
own_count (events.Listed failed) = 0
own_count (events.AtContainer event entries) = 0
own_count events.Restarted = 0

-- the entries that it added to the journal of a container's lock, those of settled doubts first
abbrev pub entered_in : Event → List ContEntry
entered_in (events.Changed name change answer) = []
entered_in (events.Read name got) = []
entered_in (events.ReadPart read) = []
entered_in (events.Listed failed) = []
entered_in (events.AtContainer event entries) = entries
entered_in events.Restarted = []

-- the entries of doubts that the step settled, and behind them those of a step at a record
abbrev pub settled_in : Line → List ObjEntry
settled_in line = take (length line.added - own_count line.event) line.added

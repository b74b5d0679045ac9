-- Which entries the lines of a run added to the journal of a lock, and what these tell. (This project's own.)
use Rattle.std.specs.Prelude.{◌≡◌, ⊤, ℕ, Bool, false, List, [], ◌∷◌, ◌++◌, nat_eq, if◌then◌else◌}
use Rattle.std.specs.List.{fold}
use Rattle.sw_container_steps.specs.Entries.{entered}
use Rattle.sw_container_steps.specs.Rules.{cont_rules}
use Rattle.sw_container_steps.specs.declared.cont_entry.ContEntry.{ContEntry}
use Rattle.sw_hashpath.specs.HashParts.{partition_of}
use Rattle.sw_hashpath.specs.declared.place.Place.{Place}
use Rattle.sw_object_steps.specs.Journals.{Hash}
use Rattle.sw_object_steps.specs.Rules.{obj_applied, obj_rules}
use Rattle.sw_object_steps.specs.declared.entry.ObjEntry.{ObjEntry}
use Rattle.sw_peer.specs.Sights.{Nodes, cont_lock}
use Rattle.sw_peer.specs.declared.cont_event.ContEvent.{ContEvent}
use Rattle.sw_peer.specs.declared.cont_event.ContEvent.TheVariants as cont_events
use Rattle.sw_peer.specs.declared.line.Event.{Event}
use Rattle.sw_peer.specs.declared.line.Event.TheVariants.{AtContainer, Changed, Read, ReadPart, Restarted}
use Rattle.sw_peer.specs.declared.part_read.PartRead.{PartRead}
use Rattle.sw_peer.specs.declared.part_read.PartRead.TheVariants.{Base, Files, Hashes, Records, Write}
use Rattle.sw_step.specs.Journals.{StepHistory}
use Rattle.sw_step.specs.Rules.{about, doubts_about, stands}
use Rattle.sw_machine.specs.Laws.{LocksAreApart}
use Rattle.sw_machine.specs.Machine.{Came, Machine, RunLine, Runs, Went}
use Rattle.sw_machine.specs.Sides.{TellsAt}

-- the object lock of a device that is read
abbrev pub lock_in : Nodes → ℕ → PartRead → ℕ
lock_in nodes device (Hashes part got) = nodes.part_lock device part
lock_in nodes device (Files part suffix got) = nodes.part_lock device part
lock_in nodes device (Write part hash file got) = nodes.part_lock device part
lock_in nodes device (Records stripe got) = nodes.stripe_lock device stripe
lock_in nodes device (Base filed row) = nodes.part_lock device (partition_of filed.name.hash nodes.power)

-- whether an event at a device is one at this object lock
abbrev pub is_at_lock : Nodes → ℕ → ℕ → Event → Bool
is_at_lock nodes l device (Changed name change answer) = nat_eq (nodes.lock device name.hash) l
is_at_lock nodes l device (Read name got) = nat_eq (nodes.lock device name.hash) l
is_at_lock nodes l device (ReadPart read) = nat_eq (lock_in nodes device read) l
is_at_lock nodes l device event = false

-- the entries that the lines added to its journal
abbrev pub obj_entered : Nodes → ℕ → List RunLine → List ObjEntry
obj_entered nodes l [] = []
obj_entered nodes l (Came line ∷ lines) = (if is_at_lock nodes l line.device line.event then line.added else []) ++ obj_entered nodes l lines
obj_entered nodes l (Went from message ∷ lines) = obj_entered nodes l lines

abbrev pub place_of : ContEvent → Place
place_of (cont_events.Changed place change answer) = place
place_of (cont_events.Timed place got) = place
place_of (cont_events.Informed place got) = place
place_of (cont_events.Listed place query got) = place
place_of (cont_events.Parceled place to got) = place
place_of (cont_events.Sharded place got) = place
place_of (cont_events.Cleft place range above got) = place

-- those that an event at a device added to the journal of this container lock
abbrev pub entered_at : Nodes → ℕ → ℕ → Event → List ContEntry
entered_at nodes l device (AtContainer event entries) = if nat_eq (cont_lock nodes device (place_of event)) l then entries else []
entered_at nodes l device event = []

abbrev pub cont_entered : Nodes → ℕ → List RunLine → List ContEntry
cont_entered nodes l [] = []
cont_entered nodes l (Came line ∷ lines) = entered_at nodes l line.device line.event ++ cont_entered nodes l lines
cont_entered nodes l (Went from message ∷ lines) = cont_entered nodes l lines

-- the device isn't restarted
abbrev pub restarts : ℕ → ℕ → Event → Bool
restarts device d Restarted = nat_eq d device
restarts device d event = false

abbrev pub IsNotRestarted : ℕ → List RunLine → Type 0
IsNotRestarted device [] = ⊤
IsNotRestarted device (Came line ∷ lines) = (restarts device line.device line.event ≡ false) × IsNotRestarted device lines
IsNotRestarted device (Went from message ∷ lines) = IsNotRestarted device lines

-- a journal grew by these entries
pub record GrowsBy {K V E : Type 0} (h g : StepHistory K V E) (added : List E) : Type 0 where
  pub entries : g.journal.entries ≡ h.journal.entries ++ added
  pub opening : (key : K) → g.opening key ≡ h.opening key

-- in a run in which a device isn't restarted, the journals of its locks grow by the entries that the lines added to them, whatever failed
abbrev pub JournalsGrow : Type 0
JournalsGrow = (nodes : Nodes) (m : Machine) (lines : List RunLine) (after : Machine) → Runs nodes m lines after → (device : ℕ)
    → IsNotRestarted device lines
    → ((hash : Hash) → GrowsBy (m.objects.half.seen (nodes.lock device hash)) (after.objects.half.seen (nodes.lock device hash))
    (obj_entered nodes (nodes.lock device hash) lines))
    × ((place : Place) → GrowsBy (m.containers.half.seen (cont_lock nodes device place)) (after.containers.half.seen (cont_lock nodes device place))
    (cont_entered nodes (cont_lock nodes device place) lines))

-- So where a device held what its entries told, and no doubt of the hash is left, as where nothing failed, it holds what it held and what the entries of
-- the lines leave
abbrev pub LinesTellHashes : Type 0
LinesTellHashes = (nodes : Nodes) (m : Machine) (lines : List RunLine) (after : Machine) → LocksAreApart nodes → Runs nodes m lines after → (device : ℕ)
    → IsNotRestarted device lines → (hash : Hash) → TellsAt nodes.lock m.objects device hash
    → m.objects.half.holds device hash ≡ stands obj_rules (m.objects.half.seen (nodes.lock device hash)) hash
    → doubts_about obj_rules hash (after.objects.half.seen (nodes.lock device hash)).journal.doubts ≡ []
    → after.objects.half.holds device hash
    ≡ fold obj_applied (m.objects.half.holds device hash) (about obj_rules hash (obj_entered nodes (nodes.lock device hash) lines))

abbrev pub LinesTellPlaces : Type 0
LinesTellPlaces = (nodes : Nodes) (m : Machine) (lines : List RunLine) (after : Machine) → LocksAreApart nodes → Runs nodes m lines after → (device : ℕ)
    → IsNotRestarted device lines → (place : Place) → TellsAt (cont_lock nodes) m.containers device place
    → m.containers.half.holds device place ≡ stands cont_rules (m.containers.half.seen (cont_lock nodes device place)) place
    → doubts_about cont_rules place (after.containers.half.seen (cont_lock nodes device place)).journal.doubts ≡ []
    → after.containers.half.holds device place
    ≡ fold entered (m.containers.half.holds device place) (about cont_rules place (cont_entered nodes (cont_lock nodes device place) lines))

-- A lock that had no doubts, and has counted no fault at the end, has none: so nothing failed there
abbrev pub HashesCalm : Type 0
HashesCalm = (nodes : Nodes) (m : Machine) (lines : List RunLine) (after : Machine) → Runs nodes m lines after → (device : ℕ) (hash : Hash)
    → (m.objects.half.seen (nodes.lock device hash)).journal.doubts ≡ [] → (after.objects.half.seen (nodes.lock device hash)).faults ≡ 0
    → (after.objects.half.seen (nodes.lock device hash)).journal.doubts ≡ []

abbrev pub PlacesCalm : Type 0
PlacesCalm = (nodes : Nodes) (m : Machine) (lines : List RunLine) (after : Machine) → Runs nodes m lines after → (device : ℕ) (place : Place)
    → (m.containers.half.seen (cont_lock nodes device place)).journal.doubts ≡ [] → (after.containers.half.seen (cont_lock nodes device place)).faults ≡ 0
    → (after.containers.half.seen (cont_lock nodes device place)).journal.doubts ≡ []

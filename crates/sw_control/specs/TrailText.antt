-- The text of a trail: a text line for each entry that a step added to a journal, and for each restart. (This project's own.)
use Rattle.std.specs.Prelude.{ℕ, ◌+◌, List, [], ◌∷◌, ◌++◌, codes, decimal, map, slice_index_or, if◌then◌else◌, Option, None, Some}
use Rattle.std.specs.List.{flat_map}
use Rattle.sw_container_steps.specs.declared.cont_entry.ContEntry.{ContEntry}
use Rattle.sw_container_steps.specs.declared.cont_entry.ContEntry.TheVariants.{Acked, Closed, Created, Emptied, Merged, Ranged, Removed, Synced}
use Rattle.sw_hashpath.specs.declared.name.Name.{Name}
use Rattle.sw_hashpath.specs.declared.place.Place.{Place}
use Rattle.sw_metafile.specs.Escapes.{escape}
use Rattle.sw_object_steps.specs.Briefs.{brief_of}
use Rattle.sw_peer.specs.Lines.{entered_in, settled_in}
use Rattle.sw_object_steps.specs.Steps.{is_entered, step_kind, time_in}
use Rattle.sw_object_steps.specs.declared.change.StepKind.{StepKind}
use Rattle.sw_object_steps.specs.declared.change.StepKind.TheVariants as step_kinds
use Rattle.sw_object_steps.specs.declared.entry.Brief.{Brief}
use Rattle.sw_object_steps.specs.declared.entry.BriefKind.{BriefKind}
use Rattle.sw_object_steps.specs.declared.entry.BriefKind.TheVariants as brief_kinds
use Rattle.sw_peer.specs.declared.line.Event.{Event}
use Rattle.sw_peer.specs.declared.line.Event.TheVariants as events
use Rattle.sw_peer.specs.declared.line.Line.{Line}
use Rattle.sw_timestamp.specs.TimeText.{normal_text}
use Rattle.sw_timestamp.specs.declared.tag.Tag.{Tag}
use Rattle.sw_timestamp.specs.declared.tag.Tag.TheVariants as tags

-- what a text line says behind its number: a kind, a device, a path in escaped form, and a time
abbrev pub told : List ℕ → List ℕ → List ℕ → List ℕ → List ℕ
told kind device path time = codes " " ++ (kind ++ (codes " " ++ (device ++ (codes " " ++ (escape path ++ (codes " " ++ (time ++ codes "\n")))))))

-- the path of a name
abbrev pub path_of : Name → List ℕ
path_of name = codes "/" ++ (name.account ++ (codes "/" ++ (name.container ++ (codes "/" ++ name.object))))

-- what is said of a write of this kind, name and time, at this device
abbrev pub write_told : List ℕ → List ℕ → Name → ℕ → List ℕ
write_told kind device name time = told kind device (path_of name) (normal_text time)

-- the word of what a step asks for
abbrev pub step_word : StepKind → List ℕ
step_word step_kinds.Put = codes "put"
step_word step_kinds.Post = codes "post"
step_word step_kinds.Delete = codes "delete"
step_word step_kinds.Receive = codes "receive"
step_word step_kinds.MarkRecord = codes "mark"
step_word step_kinds.DropRecord = codes "drop"

-- the word of a write alone: a settled doubt doesn't tell which step asked for it
abbrev pub write_word : Tag → List ℕ
write_word tags.Put = codes "put"
write_word tags.Meta = codes "post"
write_word tags.Del = codes "delete"

-- the word of an entry of an object lock's journal
abbrev pub brief_word : BriefKind → List ℕ
brief_word (brief_kinds.Wrote tag) = write_word tag
brief_word brief_kinds.Files = codes "filed"
brief_word brief_kinds.Marked = codes "mark"
brief_word brief_kinds.Dropped = codes "drop"

-- what is said of a doubt that a step settled, and of a step at a record
abbrev pub settled_told : List ℕ → Brief → List ℕ
settled_told device brief = write_told (brief_word brief.kind) device brief.name brief.time

-- what is said of the write that a step entered for an object, and of a restart. Nothing is said of what was refused, read or listed
abbrev pub own_told : List ℕ → Event → List (List ℕ)
own_told device (events.Changed name change answer) =
    if is_entered answer then write_told (step_word (step_kind change)) device name (time_in change) ∷ [] else []
own_told device (events.Read name got) = []
own_told device (events.ReadPart read) = []
own_told device (events.Listed failed) = []
own_told device (events.AtContainer event entries) = []
own_told device events.Restarted = told (codes "restart") device (codes "/") (codes "-") ∷ []

-- the word of an entry of a container lock's journal
abbrev pub entry_word : ContEntry → List ℕ
entry_word (Created place time) = codes "create"
entry_word (Removed place time) = codes "remove"
entry_word (Merged place row) = codes "row"
entry_word (Ranged place ranges) = codes "ranges"
entry_word (Acked place range device rowid) = codes "ack"
entry_word (Closed place range) = codes "close"
entry_word (Emptied place) = codes "empty"
entry_word (Synced place device rowid) = codes "sync"

-- the path of a container
abbrev pub place_path : Place → List ℕ
place_path place = codes "/" ++ (place.account ++ (codes "/" ++ place.container))

-- the path of what an entry is about: that of its container, or of the row in it
abbrev pub entry_path : ContEntry → List ℕ
entry_path (Created place time) = place_path place
entry_path (Removed place time) = place_path place
entry_path (Merged place row) = place_path place ++ (codes "/" ++ row.name)
entry_path (Ranged place ranges) = place_path place
entry_path (Acked place range device rowid) = place_path place
entry_path (Closed place range) = place_path place
entry_path (Emptied place) = place_path place
entry_path (Synced place device rowid) = place_path place

-- the time that it gives the container, or that of the row; ranges and points have none
abbrev pub entry_time : ContEntry → Option ℕ
entry_time (Created place time) = Some time
entry_time (Removed place time) = Some time
entry_time (Merged place row) = Some row.created_at
entry_time (Ranged place ranges) = None
entry_time (Acked place range device rowid) = None
entry_time (Closed place range) = None
entry_time (Emptied place) = None
entry_time (Synced place device rowid) = None

-- a time in its normal form, or a hyphen
abbrev pub time_text : Option ℕ → List ℕ
time_text None = codes "-"
time_text (Some time) = normal_text time

-- what is said of an entry of a container lock's journal
abbrev pub entry_told : List ℕ → ContEntry → List ℕ
entry_told device entry = told (entry_word entry) device (entry_path entry) (time_text (entry_time entry))

-- what is said of a step at this device: of each doubt of an object that it settled, then of its own write, and of all entries that it added at a
-- container, those of settled doubts first
abbrev pub step_told : List ℕ → Line → List (List ℕ)
step_told device line =
    map (settled_told device) (map brief_of (settled_in line)) ++ (own_told device line.event ++ map (entry_told device) (entered_in line.event))

-- what is said of a step where these are the devices
abbrev pub line_told : List (List ℕ) → Line → List (List ℕ)
line_told devices line = step_told (slice_index_or devices line.device []) line

-- text lines with their numbers, where so many stand before them
abbrev pub numbered : ℕ → List (List ℕ) → List ℕ
numbered before [] = []
numbered before (text ∷ texts) = decimal (before + 1) ++ (text ++ numbered (before + 1) texts)

-- the text of a trail: what is said of each step in order, numbered from 1
abbrev pub trail_text : List (List ℕ) → List Line → List ℕ
trail_text devices lines = numbered 0 (flat_map (line_told devices) lines)

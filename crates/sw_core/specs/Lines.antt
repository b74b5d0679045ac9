-- What the line of a read needs of its lock: the doubt that the read may settle. (This project's own.)
use Rattle.std.specs.Prelude.{Bool, List, [], Option, if◌then◌else◌}
use Rattle.std.specs.Option.{option_map, option_to_list}
use Rattle.sw_core.specs.declared.slot.Slot.{Slot}
use Rattle.sw_core.specs.declared.slot.Slot.TheVariants as slots
use Rattle.sw_journal.specs.Entries.{first_in}
use Rattle.sw_object_steps.specs.Briefs.{brief_of}
use Rattle.sw_object_steps.specs.Journals.{Hash}
use Rattle.sw_object_steps.specs.declared.entry.Brief.{Brief}
use Rattle.sw_object_steps.specs.declared.entry.ObjEntry.{ObjEntry}

abbrev pub briefs_in : Option ObjEntry → List Brief
briefs_in entry = option_to_list (option_map brief_of entry)

-- what a trail prints of the doubt of a hash at a lock: there is one at most
abbrev pub doubt_in : {V : Type 0} → Slot V → Hash → List Brief
doubt_in (slots.Open k) hash = briefs_in (first_in hash k.journal.doubts)
doubt_in (slots.Lifted secrets) hash = []
doubt_in slots.Empty hash = []

-- the doubt, where an entry was added
abbrev pub settled_briefs : List Brief → Bool → List Brief
settled_briefs doubted added = if added then doubted else []

-- What the names of a state's files tell of it. (OpenStack Swift's object server names each file by its time, and by an ending for data,
-- tombstone or metadata.)
use Rattle.std.specs.Prelude.{ℕ, Bool, true, false, ◌&&◌, ◌||◌, ◌==◌, max, nat_lt, if◌then◌else◌, Option, None, Some}
use Rattle.std.specs.Option.{option_and_then, option_map}
use Rattle.sw_diskfile.specs.Picking.{is_del}
use Rattle.sw_diskfile.specs.declared.file_name.FileName.{FileName}
use Rattle.sw_diskfile.specs.declared.picking.Picked.{Picked}
use Rattle.sw_state.specs.States.{effective_heads}
use Rattle.sw_state.specs.declared.base.Base.{Base}
use Rattle.sw_state.specs.declared.base.Base.TheVariants as bases
use Rattle.sw_state.specs.declared.state.State.{State}
use Rattle.sw_timestamp.specs.declared.tag.Tag.{Tag}
use Rattle.sw_timestamp.specs.declared.tag.Tag.TheVariants as tags
use Rattle.sw_object_steps.specs.declared.outline.Mark.{Mark}
use Rattle.sw_object_steps.specs.declared.outline.Mark.TheVariants.{Object, Tombstone}
use Rattle.sw_object_steps.specs.declared.outline.Outline.{Outline}

abbrev pub mark_of : Base → Mark
mark_of (bases.Put time content) = Object time
mark_of (bases.Del time) = Tombstone time

abbrev pub outline_of : State → Outline
outline_of s = record { base = option_map mark_of s.base; meta = option_map (λ m. m.0) s.meta }

abbrev pub file_mark : FileName → Mark
file_mark file = if is_del file.tag then Tombstone file.time else Object file.time

-- what the picked files of a directory tell of a state
abbrev pub picked_outline : Picked → Outline
picked_outline p = record { base = option_map file_mark p.base; meta = option_map (λ f. f.time) p.meta }

abbrev pub mark_time : Mark → ℕ
mark_time (Object time) = time
mark_time (Tombstone time) = time

abbrev pub is_object : Option Mark → Bool
is_object None = false
is_object (Some (Object time)) = true
is_object (Some (Tombstone time)) = false

abbrev pub burial_time : Option Mark → Option ℕ
burial_time None = None
burial_time (Some (Object time)) = None
burial_time (Some (Tombstone time)) = Some time

-- whether an object stands
abbrev pub has_object : Outline → Bool
has_object o = is_object o.base

-- the time of the tombstone, where one stands
abbrev pub tombstone_time : Outline → Option ℕ
tombstone_time o = burial_time o.base

-- the time of the data or tombstone, where one stands
abbrev pub standing_time : Outline → Option ℕ
standing_time o = option_map mark_time o.base

abbrev pub time_with : Option Mark → Option ℕ → Option ℕ
time_with None meta = None
time_with (Some (Tombstone time)) meta = None
time_with (Some (Object time)) None = Some time
time_with (Some (Object time)) (Some meta) = Some (max time meta)

-- the time of the object: the later of its data's and its metadata's
abbrev pub shown_time : Outline → Option ℕ
shown_time o = time_with o.base o.meta

abbrev pub is_before : Option ℕ → ℕ → Bool
is_before None time = true
is_before (Some standing) time = nat_lt standing time

abbrev pub is_below : Option Mark → ℕ → Bool → Bool
is_below None time deletion = true
is_below (Some (Object base)) time deletion = nat_lt base time || ((base == time) && deletion)
is_below (Some (Tombstone base)) time deletion = nat_lt base time

-- whether a write of this time and tag would change the state: `is_new` of the state
abbrev pub is_new_to : Outline → ℕ → Tag → Bool
is_new_to o time tags.Put = is_below o.base time false
is_new_to o time tags.Del = is_below o.base time true
is_new_to o time tags.Meta = is_before (standing_time o) time && is_before o.meta time

-- the second at which the object expires, where it does. No file name tells it
abbrev pub standing_expiry : State → Option ℕ
standing_expiry s = option_and_then (λ heads. heads.delete_at) (effective_heads s)

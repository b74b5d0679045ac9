-- The files of writes and of states. OpenStack Swift's object server keeps each write of an object in a file of its own.
use Rattle.std.specs.Option.{option_map}
use Rattle.sw_state.specs.Bases.{base_tag, base_time}
use Rattle.sw_state.specs.Writes.{tag_of}
use Rattle.sw_state.specs.declared.state.State.{State}
use Rattle.sw_state.specs.declared.write.Write.{Write}
use Rattle.sw_timestamp.specs.declared.tag.Tag.TheVariants.{Meta}
use Rattle.sw_diskfile.specs.declared.file_name.FileName.{FileName}
use Rattle.sw_diskfile.specs.declared.picking.Picked.{Picked}

-- the name of a write's file
abbrev pub name_of : Write → FileName
name_of w = record { time = w.time; tag = tag_of w.kind }

-- the names of the files of a state's base and of its meta
abbrev pub picked_of : State → Picked
picked_of s = record {
  base = option_map (λ b. record { time = base_time b; tag = base_tag b }) s.base;
  meta = option_map (λ m. record { time = m.0; tag = Meta }) s.meta;
}

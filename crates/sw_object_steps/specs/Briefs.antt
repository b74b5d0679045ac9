-- What a trail shows of an entry. (This project's own.)
use Rattle.sw_state.specs.Writes.{tag_of}
use Rattle.sw_object_steps.specs.declared.entry.Brief.{Brief}
use Rattle.sw_object_steps.specs.declared.entry.BriefKind.TheVariants as brief_kinds
use Rattle.sw_object_steps.specs.declared.entry.ObjEntry.{ObjEntry}
use Rattle.sw_object_steps.specs.declared.entry.ObjEntry.TheVariants.{Dropped, Files, Marked, Wrote}

abbrev pub brief_of : ObjEntry → Brief
brief_of (Wrote name w records) = record { kind = brief_kinds.Wrote (tag_of w.kind); name = name; time = w.time }
brief_of (Files by filed) = record { kind = brief_kinds.Files; name = filed.name; time = filed.time }
brief_of (Marked by filed device) = record { kind = brief_kinds.Marked; name = filed.name; time = filed.time }
brief_of (Dropped by filed) = record { kind = brief_kinds.Dropped; name = filed.name; time = filed.time }

-- All object locks: what was seen of each, and what each device holds. (This project's own.)
use Rattle.std.specs.Prelude.{List}
use Rattle.sw_history.specs.Halves.{Half}
use Rattle.sw_object_steps.specs.Journals.{Hash}
use Rattle.sw_object_steps.specs.Values.{ObjValue}
use Rattle.sw_object_steps.specs.declared.entry.ObjEntry.{ObjEntry}

abbrev pub ObjHalf : Type 0
ObjHalf = Half Hash ObjValue ObjEntry (List ObjEntry)

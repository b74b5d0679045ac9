-- What a hash may stand for where none of its writes is in doubt: changes of records leave the state.
use Rattle.std.proofs.Common.{◌≡◌, ◌&&◌, true, List}
use Rattle.std.specs.List.{list_any}
use Rattle.std.proofs.lemmas.Bool.{or_parts}
use Rattle.sw_hashpath.specs.declared.name.Name.{Name}
use Rattle.sw_object_steps.proofs.Telling.{none-wider, tells-state}
use Rattle.sw_object_steps.specs.Journals.{Hash}
use Rattle.sw_object_steps.specs.Recorded.{doubts_record, doubts_write, lists}
use Rattle.sw_object_steps.specs.Rules.{ObjHistory, Writes, obj_rules, touched_files}
use Rattle.sw_object_steps.specs.Steps.{refusal_of}
use Rattle.sw_object_steps.specs.Values.{ObjValue}
use Rattle.sw_object_steps.specs.declared.change.Change.{Change}
use Rattle.sw_object_steps.specs.declared.entry.ObjEntry.{ObjEntry}
use Rattle.sw_step.specs.Rules.{CanStand, NoneOf, doubts_about, stands}

-- the state is what the entries tell
pub state-told : (h : ObjHistory) (hash : Hash) (v : ObjValue) → CanStand obj_rules h hash v
    → NoneOf doubts_write (doubts_about obj_rules hash h.journal.doubts) → v.state ≡ (stands obj_rules h hash).state
state-told h hash v can none = tells-state h hash v can none

-- a step that lists touches the writes
pub none-written : (v : ObjValue) (hash : Hash) (name : Name) (change : Change) (ds : List (List ObjEntry)) → lists v hash change ≡ true
    → NoneOf (obj_rules.touches v hash (Writes name change)) ds → NoneOf doubts_write ds
none-written v hash name change ds listing none = none-wider doubts_write (obj_rules.touches v hash (Writes name change)) (λ d is.
    let first = (or_parts (lists v hash change && doubts_write d)
    (list_any (λ key. doubts_record key d) (touched_files (refusal_of v.state change) hash name change)) is).0 in
    rw listing at first) ds none

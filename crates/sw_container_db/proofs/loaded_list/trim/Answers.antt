use Rattle.std.proofs.Common.{◌≡◌, true, List, sym, ◌∙◌, ap}
use Rattle.sw_container_db.specs.LoadedList.{has_room}
use Rattle.sw_container_db.specs.declared.loaded_list.Loaded.{Loaded}
use Rattle.sw_container_db.proofs.LoadedLists.{trimmed-none}
use Rattle.sw_container_db.proofs.loaded_list.trim.Goals as goal

pub returns-else-not-has_room-clause-items : goal.returns-else-not-has_room-clause-items
returns-else-not-has_room-clause-items c =
    let room : has_room c.args.more c.loop-entries.entries.items ≡ true =
    ap (λ (xs : List Loaded). has_room c.args.more xs) (sym c.deref.ensures.value) ∙ (sym c.has_room.ensures ∙ c.if-not-has_room.false) in
    sym (trimmed-none c.args.more c.loop-entries.entries.items room) ∙ c.loop-entries.invariant.stay

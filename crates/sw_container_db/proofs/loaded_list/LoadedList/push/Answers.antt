use Rattle.std.proofs.Common.{sym, subst}
use Rattle.sw_hashpath.specs.declared.place.Place.{Place}
use Rattle.sw_container_db.specs.LoadedList.{Lacks}
use Rattle.sw_container_db.proofs.LoadedLists.{list-pushed}
use Rattle.sw_container_db.proofs.loaded_list.LoadedList.push.Goals as goal

pub invariant_of-self-2 : goal.invariant_of-self-2
invariant_of-self-2 c =
    let inside : Lacks c.args.place.now c.self.inside.entries.items = subst (Lacks c.args.place.now) (sym c.self.view_is) c.requires in
    let lacks : Lacks c.in_ok-place.place c.self.inside.entries.items =
    subst (λ (p : Place). Lacks p c.self.inside.entries.items) (sym c.in_ok-place.ensures) inside in
    rw (c.push_reserved.ensures.items, c.trim.ensures.items, c.rows_in.ensures.rows, c.reserve.ensures.items)
    (list-pushed c.self.inside.entries.items c.in_ok-place.place c.args.tables c.self.invariant.apart lacks)

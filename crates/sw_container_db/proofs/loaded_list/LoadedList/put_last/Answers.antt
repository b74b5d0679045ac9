use Rattle.std.proofs.Common.{◌∷◌, ◌++◌, [], subst}
use Rattle.sw_container_db.specs.LoadedList.{AreApart}
use Rattle.sw_container_db.proofs.LoadedLists.{apart-front, apart-last, list-pushed}
use Rattle.sw_container_db.proofs.loaded_list.LoadedList.put_last.Goals as goal

pub invariant_of-self : goal.invariant_of-self
invariant_of-self c =
    let apart : AreApart (c.pop.new.self.items ++ c.in-Some.field-0 ∷ []) = subst AreApart c.in-Some.ensures.items c.self.invariant.apart in
    rw (c.push_reserved.ensures.items, c.trim.ensures.items, c.rows_in.ensures.rows)
    (list-pushed c.pop.new.self.items c.in-Some.field-0.place c.args.tables (apart-front c.pop.new.self.items c.in-Some.field-0 apart)
    (apart-last c.pop.new.self.items c.in-Some.field-0 apart))

use Rattle.std.proofs.Common.{◌∷◌, ◌++◌, [], subst, ◌∙◌}
use Rattle.sw_container_db.specs.LoadedList.{AreApart, IsLoadedList}
use Rattle.sw_container_db.proofs.LoadedLists.{apart-last, list-emptied}
use Rattle.sw_container_db.proofs.loaded_list.LoadedList.take_last.Goals as goal

pub invariant_of-self : goal.invariant_of-self
invariant_of-self c =
    let whole : IsLoadedList (c.pop.new.self.items ++ c.in-Some.field-0 ∷ []) = subst IsLoadedList c.in-Some.ensures.items c.self.invariant in
    rw c.push_reserved.ensures.items (list-emptied c.pop.new.self.items c.in-Some.field-0 whole)

pub returns-clause-alone : goal.returns-clause-alone
returns-clause-alone c others l one = apart-last others l (subst AreApart (c.self.view_is ∙ one) c.self.invariant.apart)

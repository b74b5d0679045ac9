use Rattle.std.proofs.Common.{◌≡◌, Some, List, position, sym, ◌∙◌, ap}
use Rattle.std.proofs.lemmas.List.Quantifiers.{position-Some}
use Rattle.sw_container_db.specs.LoadedList.{is_of, touched}
use Rattle.sw_container_db.specs.declared.loaded_list.Loaded.{Loaded}
use Rattle.sw_container_db.proofs.LoadedLists.{list-moved, moved-is}
use Rattle.sw_container_db.proofs.loaded_list.LoadedList.touch.Goals as goal

pub invariant_of-self : goal.invariant_of-self
invariant_of-self c =
    let list = c.self.inside.entries.items in let at = c.in-Some.at in
    let stands : position (is_of c.args.place.now) list ≡ Some at =
    ap (λ (xs : List Loaded). position (is_of c.args.place.now) xs) (sym c.deref.ensures.value) ∙ (sym c.find.ensures ∙ c.in-Some.is) in
    rw (c.push_reserved.ensures.items, c.remove-loaded.ensures.items)
    (list-moved list at c.remove-loaded.result (position-Some (is_of c.args.place.now) list at c.remove-loaded.result stands).0 c.remove-loaded.ensures.value
    c.self.invariant)

pub returns-clause-moved : goal.returns-clause-moved
returns-clause-moved c =
    let list = c.self.inside.entries.items in let at = c.in-Some.at in
    let stands : position (is_of c.args.place.now) list ≡ Some at =
    ap (λ (xs : List Loaded). position (is_of c.args.place.now) xs) (sym c.deref.ensures.value) ∙ (sym c.find.ensures ∙ c.in-Some.is) in
    let moved = moved-is c.args.place.now list at c.remove-loaded.result stands c.remove-loaded.ensures.value in
    rw (c.push_reserved.ensures.items, c.remove-loaded.ensures.items) (moved ∙ ap (λ (xs : List Loaded). touched c.args.place.now xs) c.self.view_is)

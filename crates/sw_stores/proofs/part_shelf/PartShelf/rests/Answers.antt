-- A volume rests in the slot that was found, unless it is empty; and nowhere, where none was found.
use Rattle.std.proofs.Common.{◌∙◌, Some, None, sym, ap}
use Rattle.std.specs.Option.{option_and_then}
use Rattle.std.specs.Prelude.{is_some}
use Rattle.sw_stores.specs.declared.part_shelf.Slot.{Slot}
use Rattle.sw_stores.proofs.Slots.{found, looked_up, not_found}
use Rattle.sw_stores.proofs.part_shelf.PartShelf.rests.Goals as goal

pub returns-in-Some : goal.returns-in-Some
returns-in-Some g c =
    let at = found c.self.inside.slots.items c.args.device c.args.stripe c.in-Some.place c.index.result.now
    (looked_up c.self.inside.slots.items c.deref.result.now c.args.device c.args.stripe (Some c.in-Some.place) c.deref.ensures.value c.in-Some.ensures) in
    rw (← c.self.view_is) (c.is_some.ensures ∙ sym (ap (λ o. is_some (option_and_then (λ (slot : Slot _). slot.part) o))
    (at ∙ ap Some (sym c.index.ensures))))

pub returns-in-None : goal.returns-in-None
returns-in-None g c =
    let none = not_found c.self.inside.slots.items c.args.device c.args.stripe
    (looked_up c.self.inside.slots.items c.deref.result.now c.args.device c.args.stripe None c.deref.ensures.value c.in-None.ensures) in
    rw (← c.self.view_is) (sym (ap (λ o. is_some (option_and_then (λ (slot : Slot _). slot.part) o)) none))

use Rattle.std.proofs.Common.{◌∙◌, List, None, Some, false, sym, ap, subst, set}
use Rattle.std.specs.Option.{is_none, option_and_then, option_map, unwrap_or}
use Rattle.sw_stores.specs.Shelf.{Fills}
use Rattle.sw_stores.specs.declared.part_shelf.Slot.{Slot}
use Rattle.sw_stores.proofs.Slots.{fills-push, fills-set, found, looked_up, not_found, on_error}
use Rattle.sw_stores.proofs.part_shelf.fill.Goals as goal

pub returns-in_err-push-in-None-clause-home : goal.returns-in_err-push-in-None-clause-home
returns-in_err-push-in-None-clause-home g c =
    on_error c.from_residual.result (ap (λ o. unwrap_or (option_map (λ (slot : Slot _). is_none slot.part) o) false)
    (not_found _ c.args.device c.args.stripe (looked_up c.args.slots.now.items c.deref.result.now c.args.device c.args.stripe None c.deref.ensures.value
    c.in-None.ensures)))

pub returns-in_err-push-in-None-clause-none : goal.returns-in_err-push-in-None-clause-none
returns-in_err-push-in-None-clause-none g c =
    on_error c.from_residual.result
    (ap (λ o. option_and_then (λ (slot : Slot _). slot.part) o)
    (not_found _ c.args.device c.args.stripe (looked_up c.args.slots.now.items c.deref.result.now c.args.device c.args.stripe None c.deref.ensures.value
    c.in-None.ensures)))

pub returns-in-Some-clause-was : goal.returns-in-Some-clause-was
returns-in-Some-clause-was g c =
    let at = found c.args.slots.now.items c.args.device c.args.stripe c.in-Some.place c.index_mut.result.now
    (looked_up c.args.slots.now.items c.deref.result.now c.args.device c.args.stripe (Some c.in-Some.place) c.deref.ensures.value c.in-Some.ensures) in
    c.replace.ensures.value ∙ sym (ap (λ o. option_and_then (λ (slot : Slot _). slot.part) o) (at ∙ ap Some (sym c.index_mut.ensures.value)))

pub returns-in-Some-clause-fills : goal.returns-in-Some-clause-fills
returns-in-Some-clause-fills g c =
    let fills = fills-set c.args.slots.now.items c.args.device c.args.stripe c.in-Some.place c.args.part c.index_mut.result.now
    (looked_up c.args.slots.now.items c.deref.result.now c.args.device c.args.stripe (Some c.in-Some.place) c.deref.ensures.value c.in-Some.ensures) in
    rw c.replace.ensures.after
    (subst (λ (slot : Slot _). Fills c.args.slots.now.items (set c.args.slots.now.items c.in-Some.place (record slot { part = c.args.part })) c.args.device
    c.args.stripe c.args.part)
    (sym c.index_mut.ensures.value) fills)

pub returns-in_ok-push-in-None-clause-was : goal.returns-in_ok-push-in-None-clause-was
returns-in_ok-push-in-None-clause-was g c =
    sym (ap (λ o. option_and_then (λ (slot : Slot _). slot.part) o) (not_found _ c.args.device c.args.stripe
    (looked_up c.args.slots.now.items c.deref.result.now c.args.device c.args.stripe None c.deref.ensures.value c.in-None.ensures)))

pub returns-in_ok-push-in-None-clause-fills : goal.returns-in_ok-push-in-None-clause-fills
returns-in_ok-push-in-None-clause-fills g c =
    subst (λ (slots : List (Slot _)). Fills c.args.slots.now.items slots c.args.device c.args.stripe c.args.part) (sym c.in_ok-push-in-None.ensures.items)
    (fills-push c.args.slots.now.items c.args.device c.args.stripe c.args.part
    (looked_up c.args.slots.now.items c.deref.result.now c.args.device c.args.stripe None c.deref.ensures.value c.in-None.ensures))

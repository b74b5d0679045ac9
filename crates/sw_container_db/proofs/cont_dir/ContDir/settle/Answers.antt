use Rattle.std.proofs.Common.{◌≡◌, List, ◌++◌, Some, sym, ◌∙◌, ap, refl}
use Rattle.sw_container_steps.specs.declared.cont_entry.ContEntry.{ContEntry}
use Rattle.sw_container_db.proofs.Fresh.{fresh-entered}
use Rattle.sw_container_db.specs.declared.loaded_list.Loaded.{Loaded}
use Rattle.sw_container_db.proofs.Kept.{kept-back, kept-dropped, kept-settled, settles-dropped, settles-made, still-held}
use Rattle.sw_container_db.proofs.LoadedLists.{trimmed-all}
use Rattle.sw_container_db.proofs.cont_dir.ContDir.settle.Goals as goal

pub invariant_of-self-then-was_made : goal.invariant_of-self-then-was_made
invariant_of-self-then-was_made g c =
    let v = g.K.Keeper in let i = c.self.inside in
    let one : i.doubt ≡ Some c.in-Some.doubt = sym c.replace.ensures.value ∙ c.in-Some.is in
    let items : c.enter.new.entries.items ≡ i.entries.items ++ c.in-Some.doubt.batch.items =
    c.enter.ensures.entries ∙ ap (λ (e : List ContEntry). e ++ c.in-Some.doubt.batch.items) c.make_room.ensures.entries in
    rw c.replace.ensures.after (kept-settled v.tells v.holds v.faults _ i.doubt c.self.invariant c.in-Some.doubt one c.was_made.new.keeper _
    c.leave_room.new.self c.enter.new.entries.items c.was_made.ensures.told c.was_made.ensures.same
    (λ told. c.in-Ok-true.ensures.made told c.in-Ok-true.field-0-test) items
    (λ told. still-held c.leave_room.new.self (v.holds i.keeper) (v.holds c.was_made.new.keeper)
    (c.was_made.ensures.same (c.self.invariant.same ∙ told))
    (rw c.leave_room.ensures (trimmed-all (λ (l : Loaded). l.tables ≡ v.holds i.keeper l.place) 0 i.loaded (c.self.invariant.held told)))))

pub invariant_of-self-else-was_made : goal.invariant_of-self-else-was_made
invariant_of-self-else-was_made g c =
    let v = g.K.Keeper in let i = c.self.inside in
    let one : i.doubt ≡ Some c.in-Some.doubt = sym c.replace.ensures.value ∙ c.in-Some.is in
    rw c.replace.ensures.after (kept-dropped v.tells v.holds v.faults _ i.doubt c.self.invariant c.in-Some.doubt one c.was_made.new.keeper _
    c.leave_room.new.self c.was_made.ensures.told c.was_made.ensures.same
    (λ told. c.in-Ok-false.ensures.unmade told c.in-Ok-false.field-0-test)
    (λ told. still-held c.leave_room.new.self (v.holds i.keeper) (v.holds c.was_made.new.keeper)
    (c.was_made.ensures.same (c.self.invariant.same ∙ told))
    (rw c.leave_room.ensures (trimmed-all (λ (l : Loaded). l.tables ≡ v.holds i.keeper l.place) 0 i.loaded (c.self.invariant.held told)))))

pub invariant_of-self-then-is_err : goal.invariant_of-self-then-is_err
invariant_of-self-then-is_err g c =
    let v = g.K.Keeper in let i = c.self.inside in
    let one : i.doubt ≡ Some c.in-Some.doubt = sym c.replace.ensures.value ∙ c.in-Some.is in
    kept-back v.tells v.holds v.faults _ i.doubt c.self.invariant c.in-Some.doubt one c.was_made.new.keeper _ c.make_room.new.entries.items
    c.leave_room.new.self c.was_made.ensures.told c.was_made.ensures.same c.make_room.ensures.entries
    (λ told. still-held c.leave_room.new.self (v.holds i.keeper) (v.holds c.was_made.new.keeper)
    (c.was_made.ensures.same (c.self.invariant.same ∙ told))
    (rw c.leave_room.ensures (trimmed-all (λ (l : Loaded). l.tables ≡ v.holds i.keeper l.place) 0 i.loaded (c.self.invariant.held told))))

pub invariant_of-self-in-Err : goal.invariant_of-self-in-Err
invariant_of-self-in-Err g c =
    let v = g.K.Keeper in let i = c.self.inside in
    let one : i.doubt ≡ Some c.in-Some.doubt = sym c.replace.ensures.value ∙ c.in-Some.is in
    kept-back v.tells v.holds v.faults _ i.doubt c.self.invariant c.in-Some.doubt one c.was_made.new.keeper _ i.entries.items
    c.leave_room.new.self c.was_made.ensures.told c.was_made.ensures.same refl
    (λ told. still-held c.leave_room.new.self (v.holds i.keeper) (v.holds c.was_made.new.keeper)
    (c.was_made.ensures.same (c.self.invariant.same ∙ told))
    (rw c.leave_room.ensures (trimmed-all (λ (l : Loaded). l.tables ≡ v.holds i.keeper l.place) 0 i.loaded (c.self.invariant.held told))))

pub returns-in-Ok-false-clause-settles : goal.returns-in-Ok-false-clause-settles
returns-in-Ok-false-clause-settles g c =
    let v = g.K.Keeper in let i = c.self.inside in
    let one : i.doubt ≡ Some c.in-Some.doubt = sym c.replace.ensures.value ∙ c.in-Some.is in
    rw (sym c.self.view_is, c.replace.ensures.after) (settles-dropped v.tells v.holds v.faults _ i.doubt c.self.invariant c.in-Some.doubt one
    (v.faults c.was_made.new.keeper))

pub returns-else-is_err-clause-settles : goal.returns-else-is_err-clause-settles
returns-else-is_err-clause-settles g c =
    let v = g.K.Keeper in let i = c.self.inside in
    let one : i.doubt ≡ Some c.in-Some.doubt = sym c.replace.ensures.value ∙ c.in-Some.is in
    let items : c.enter.new.entries.items ≡ i.entries.items ++ c.in-Some.doubt.batch.items =
    c.enter.ensures.entries ∙ ap (λ (e : List ContEntry). e ++ c.in-Some.doubt.batch.items) c.make_room.ensures.entries in
    rw (sym c.self.view_is, c.replace.ensures.after) (settles-made v.tells v.holds v.faults _ i.doubt c.self.invariant c.in-Some.doubt one
    (v.faults c.was_made.new.keeper) c.enter.new.entries.items items)

pub returns-else-is_err-clause-fresh : goal.returns-else-is_err-clause-fresh
returns-else-is_err-clause-fresh g c =
    let i = c.self.inside in
    rw (sym c.self.view_is) (fresh-entered i.entries.items i.fresh.items c.make_room.new.entries.items c.make_room.new.fresh.items c.enter.new.entries.items
    c.enter.new.fresh.items c.in-Some.doubt.batch.items
    c.make_room.ensures.entries c.make_room.ensures.fresh c.enter.ensures.entries c.enter.ensures.fresh)

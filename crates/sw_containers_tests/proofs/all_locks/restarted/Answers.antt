use Rattle.std.proofs.Common.{◌≡◌, ℕ, sym, subst, arith, rules}
use Rattle.std.proofs.lemmas.Option.{slice_get_within}
use Rattle.sw_container_locks.specs.Slots.{IsOpen}
use Rattle.sw_container_locks.specs.declared.cont_slot.ContSlot.TheVariants as slots
use Rattle.sw_containers_tests.proofs.all_locks.restarted.Goals as goal

pub lift-requires-clause-within : goal.lift-requires-clause-within
lift-requires-clause-within g c =
    let there = c.is_open.ensures.0 (search rules) in
    omega (arith, slice_get_within c.args.locks.now 1 (slots.Open there.0) there.1)

pub lift-requires-clause-are_open : goal.lift-requires-clause-are_open
lift-requires-clause-are_open g c =
    let there = c.is_open.ensures.0 (search rules) in
    λ l from to. let same : l ≡ 1 = omega arith in subst (λ (i : ℕ). IsOpen c.args.locks.now i) (sym same) there

pub set_down-requires : goal.set_down-requires
set_down-requires g c =
    let there = c.is_open.ensures.0 (search rules) in
    let within = slice_get_within c.args.locks.now 1 (slots.Open there.0) there.1 in
    let lifted = c.in-Ok.ensures.ok.lifted in
    record { within = omega (arith, within, lifted.amount, lifted.count) }

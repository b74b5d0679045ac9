use Rattle.std.proofs.Common.{◌≡◌, ◌<◌, Some, length, refl, ◌∙◌, ap, arith}
use Rattle.std.proofs.lemmas.Option.{slice_get_read}
use Rattle.sw_container_locks.proofs.Ranges.{none-lifted, one-lifted, open-now}
use Rattle.sw_container_locks.proofs.slots.lift_slots.Goals as goal

pub loop-at-init : goal.loop-at-init
loop-at-init g c = record { lifted = rw c.requires.none (none-lifted c.args.first c.args.slots.now.items); room = omega arith }

pub lift_slot-requires : goal.lift_slot-requires
lift_slot-requires g c =
    let at = c.loop-at.at in
    let now = c.loop-at.slots.items in
    let kept = c.requires.are_open at c.loop-at.auto.at c.loop-at-test.true in
    let within = c.requires.within in
    let count = c.loop-at.invariant.lifted.count in
    let before = c.loop-at-test.true in
    let below : at < length now = omega arith in
    let there = slice_get_read now (length now) at c.index_mut.result.now refl below c.index_mut.ensures.value in
    let lifted = c.loop-at.invariant.lifted in
    let is = open-now c.args.first at c.loop-at.keepers.items c.args.slots.now.items now c.index_mut.result.now kept.0 lifted there kept.1 in
    record { is_open = (kept.0, is) }

pub push_reserved-requires : goal.push_reserved-requires
push_reserved-requires g c =
    let amount = c.loop-at.invariant.lifted.amount in
    let room = c.loop-at.invariant.room in
    let asked = c.requires.room in
    omega arith

pub loop-at-preserved : goal.loop-at-preserved
loop-at-preserved g c =
    let at = c.loop-at.at in
    let old = c.args.slots.now.items in
    let now = c.loop-at.slots.items in
    let given = c.loop-at.keepers.items in
    let lifted = c.loop-at.invariant.lifted in
    let kept = c.requires.are_open at c.loop-at.auto.at c.loop-at-test.true in
    let within = c.requires.within in
    let count = lifted.count in
    let before = c.loop-at-test.true in
    let below : at < length now = omega arith in
    let there = slice_get_read now (length now) at c.index_mut.result.now refl below c.index_mut.ensures.value in
    let is = open-now c.args.first at given old now c.index_mut.result.now kept.0 lifted there kept.1 in
    let room = c.loop-at.invariant.room in
    let kept_room = c.push_reserved.ensures.in_place in
    record {
      lifted = rw (c.push_reserved.ensures.items, c.lift_slot.ensures.keeper kept.0 is, c.lift_slot.ensures.lifted)
          (one-lifted c.args.first at given old now kept.0 below lifted (there ∙ ap Some is));
      room = omega arith;
    }

pub returns : goal.returns
returns g c =
    let order = c.requires.order in
    let end : c.loop-at.at ≡ c.args.past = omega (arith, c.loop-at.auto.at-end order) in
    rw end at c.loop-at.invariant.lifted

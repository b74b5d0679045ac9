use Rattle.std.proofs.Common.{◌≡◌, ◌<◌, Some, length, refl, ◌∙◌, ap, arith}
use Rattle.std.proofs.lemmas.Option.{slice_get_read}
use Rattle.sw_core.proofs.Slots.{none-lifted, one-lifted, one-tells, open-now}
use Rattle.sw_core.proofs.world.slots.lift_slots.Goals as goal

pub loop-at-init : goal.loop-at-init
loop-at-init g c = record {
  lifted = rw c.requires.none (none-lifted c.args.first c.args.places.now.items);
  told = λ l k from to was. absurd (omega arith);
  room = omega arith;
}

pub lift_slot-requires : goal.lift_slot-requires
lift_slot-requires g c =
    let at = c.loop-at.at in
    let now = c.loop-at.places.items in
    let kept = c.requires.are_open at c.loop-at.auto.at c.loop-at-test.true in
    let within = c.requires.within in
    let count = c.loop-at.invariant.lifted.count in
    let before = c.loop-at-test.true in
    let below : at < length now = omega arith in
    let there = slice_get_read now (length now) at c.index_mut.result.now refl below c.index_mut.ensures.value in
    record {
      is_open = (
        kept.0,
        open-now c.args.first at c.loop-at.volumes.items c.args.places.now.items now c.index_mut.result.now kept.0
            c.loop-at.invariant.lifted there kept.1,
      );
    }

pub push_reserved-requires : goal.push_reserved-requires
push_reserved-requires g c =
    let amount = c.loop-at.invariant.lifted.amount in
    let room = c.loop-at.invariant.room in
    let asked = c.requires.room in
    omega arith

pub loop-at-preserved : goal.loop-at-preserved
loop-at-preserved g c =
    let at = c.loop-at.at in
    let old = c.args.places.now.items in
    let now = c.loop-at.places.items in
    let given = c.loop-at.volumes.items in
    let lifted = c.loop-at.invariant.lifted in
    let kept = c.requires.are_open at c.loop-at.auto.at c.loop-at-test.true in
    let within = c.requires.within in
    let count = lifted.count in
    let before = c.loop-at-test.true in
    let below : at < length now = omega arith in
    let there = slice_get_read now (length now) at c.index_mut.result.now refl below c.index_mut.ensures.value in
    let is = open-now c.args.first at given old now c.index_mut.result.now kept.0 lifted there kept.1 in
    let gives = c.lift_slot.ensures.volume kept.0 is in
    let room = c.loop-at.invariant.room in
    let kept_room = c.push_reserved.ensures.in_place in
    record {
      lifted = rw (c.push_reserved.ensures.items, gives.0) (one-lifted c.args.first at given old now kept.0 c.lift_slot.new.place below lifted
          (there ∙ ap Some is) gives.1);
      told = one-tells g.V.Volume.tells g.V.Volume.holds g.V.Volume.faults c.args.first at old kept.0 kept.1 c.loop-at.invariant.told gives.2;
      room = omega arith;
    }

pub returns-clause-lifted : goal.returns-clause-lifted
returns-clause-lifted g c =
    let order = c.requires.order in
    let end : c.loop-at.at ≡ c.args.past = omega (arith, c.loop-at.auto.at-end order) in
    rw end at c.loop-at.invariant.lifted

pub returns-clause-told : goal.returns-clause-told
returns-clause-told g c =
    let order = c.requires.order in
    let end : c.loop-at.at ≡ c.args.past = omega (arith, c.loop-at.auto.at-end order) in
    λ l k from to was. c.loop-at.invariant.told l k from (rw end to) was

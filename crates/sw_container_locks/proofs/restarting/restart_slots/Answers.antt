use Rattle.std.proofs.Common.{◌≡◌, ◌<◌, length, refl, arith}
use Rattle.std.proofs.lemmas.Option.{slice_get_read}
use Rattle.sw_container_locks.proofs.Anew.{none-restarted, one-restarted}
use Rattle.sw_container_locks.proofs.restarting.restart_slots.Goals as goal

pub loop-at-init : goal.loop-at-init
loop-at-init g c = none-restarted g.K.Keeper.tells c.args.first c.args.slots.now.items c.requires.locks

pub loop-at-preserved : goal.loop-at-preserved
loop-at-preserved g c =
    let at = c.loop-at.at in
    let old = c.args.slots.now.items in
    let now = c.loop-at.slots.items in
    let all = c.loop-at.invariant in
    let within = c.requires.within in
    let count = all.count in
    let before = c.loop-at-test.true in
    let below : at < length now = omega arith in
    let there = slice_get_read now (length now) at c.index_mut.result.now refl below c.index_mut.ensures.value in
    one-restarted g.K.Keeper.tells c.args.first at old now c.index_mut.result.now c.restart_slot.new.slot c.loop-at.auto.at below all there
    c.restart_slot.ensures

pub returns : goal.returns
returns g c =
    let order = c.requires.order in
    let end : c.loop-at.at ≡ c.args.past = omega (arith, c.loop-at.auto.at-end order) in
    rw end at c.loop-at.invariant

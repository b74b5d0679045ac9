use Rattle.std.proofs.Common.{◌<◌, length, refl, arith, rules}
use Rattle.std.proofs.lemmas.Iterator.Adapters.{YieldsList-from_vec}
use Rattle.std.proofs.lemmas.Iterator.Consumers.{YieldsList-turn}
use Rattle.std.proofs.lemmas.Option.{slice_get_read}
use Rattle.sw_container_locks.proofs.Lists.{length-push}
use Rattle.sw_container_locks.proofs.Ranges.{one-down}
use Rattle.sw_container_locks.proofs.slots.set_down_slots.Goals as goal

pub loop-keeper-preserved : goal.loop-keeper-preserved
loop-keeper-preserved g c =
    let keepers = c.args.keepers.items in
    let given = c.loop-keeper.yielded in
    let now = c.loop-keeper.slots.items in
    let turn = YieldsList-turn (YieldsList-from_vec keepers (search rules) (search rules)) given c.loop-keeper.keeper-iterator c.loop-keeper.yielded_by
    c.next.result c.next.new.self c.in-Some.keeper c.in-Some.is c.next.ensures.steps in
    let place = c.loop-keeper.invariant.place in
    let count = c.loop-keeper.invariant.down.count in
    let within = c.requires.within in
    let more : length given < length keepers = turn.0 in
    let below : c.loop-keeper.at < length now = omega arith in
    record {
      place = omega (arith, length-push given c.in-Some.keeper);
      down = one-down c.args.first c.loop-keeper.at given c.in-Some.keeper c.args.slots.now.items now c.index_mut.result.now c.set_down_slot.new.slot
          place below c.loop-keeper.invariant.down
          (slice_get_read now (length now) c.loop-keeper.at c.index_mut.result.now refl below c.index_mut.ensures.value)
          c.set_down_slot.ensures;
    }

use Rattle.std.proofs.Common.{◌<◌, length, refl, arith, rules}
use Rattle.std.proofs.lemmas.Iterator.Adapters.{YieldsList-from_vec}
use Rattle.std.proofs.lemmas.Iterator.Consumers.{YieldsList-turn}
use Rattle.std.proofs.lemmas.Option.{slice_get_read}
use Rattle.sw_core.proofs.Slots.{length-push, one-down}
use Rattle.sw_core.proofs.world.slots.open_slots.Goals as goal

pub loop-volume-preserved : goal.loop-volume-preserved
loop-volume-preserved g c =
    let volumes = c.args.volumes.items in
    let given = c.loop-volume.yielded in
    let now = c.loop-volume.places.items in
    let turn = YieldsList-turn (YieldsList-from_vec volumes (search rules) (search rules)) given c.loop-volume.volume-iterator c.loop-volume.yielded_by
    c.next.result c.next.new.self c.in-Some.volume c.in-Some.is c.next.ensures.steps in
    let place = c.loop-volume.invariant.place in
    let count = c.loop-volume.invariant.down.count in
    let within = c.requires.within in
    let more : length given < length volumes = turn.0 in
    let below : c.loop-volume.at < length now = omega arith in
    record {
      place = omega (arith, length-push given c.in-Some.volume);
      down = one-down c.args.power c.args.max_bytes c.args.first c.loop-volume.at given c.in-Some.volume c.args.places.now.items now
          c.index_mut.result.now c.open_slot.new.place
          place below c.loop-volume.invariant.down (slice_get_read now (length now) c.loop-volume.at c.index_mut.result.now refl below
          c.index_mut.ensures.value) c.open_slot.ensures;
    }

use Rattle.std.proofs.Common.{◌<◌, length, ap, arith, rules}
use Rattle.std.proofs.lemmas.Iterator.Adapters.{YieldsList-from_vec}
use Rattle.std.proofs.lemmas.Iterator.Consumers.{YieldsList-turn}
use Rattle.sw_container_locks.proofs.Ranges.{gives-few}
use Rattle.sw_container_locks.proofs.slots.keepers_in.Goals as goal

pub push_reserved-requires : goal.push_reserved-requires
push_reserved-requires g c =
    let given = c.loop-slot.yielded in
    let turn = YieldsList-turn (YieldsList-from_vec c.args.slots.items (search rules) (search rules)) given c.loop-slot.slot-iterator c.loop-slot.yielded_by
    c.next.result c.next.new.self c.in-Some.slot c.in-Some.is c.next.ensures.steps in
    let more : length given < length c.args.slots.items = turn.0 in
    let few = gives-few given in
    let same = ap length c.loop-slot.invariant.keepers in
    omega arith

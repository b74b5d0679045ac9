use Rattle.std.proofs.Common.{◌<◌, length, ap, ◌∙◌, arith, rules}
use Rattle.std.proofs.lemmas.Iterator.Adapters.{YieldsList-from_vec}
use Rattle.std.proofs.lemmas.Iterator.Consumers.{YieldsList-turn}
use Rattle.std.proofs.lemmas.List.{length-map}
use Rattle.sw_container_locks.proofs.slots.open_slots.Goals as goal

pub push_reserved-requires : goal.push_reserved-requires
push_reserved-requires g c =
    let given = c.loop-keeper.yielded in
    let turn = YieldsList-turn (YieldsList-from_vec c.args.keepers.items (search rules) (search rules)) given c.loop-keeper.keeper-iterator
    c.loop-keeper.yielded_by c.next.result c.next.new.self c.in-Some.keeper c.in-Some.is c.next.ensures.steps in
    let more : length given < length c.args.keepers.items = turn.0 in
    let same = ap length c.loop-keeper.invariant.slots ∙ length-map given _ in
    omega arith

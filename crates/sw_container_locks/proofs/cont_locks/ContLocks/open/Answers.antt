use Rattle.std.proofs.Common.{◌≡◌, ◌≤◌, length, ◌∙◌, ap, arith}
use Rattle.std.proofs.lemmas.List.{length-map}
use Rattle.sw_container_locks.proofs.Keeping.{opened-locks}
use Rattle.sw_container_locks.proofs.cont_locks.ContLocks.open.Goals as goal

pub invariant_of-result : goal.invariant_of-result
invariant_of-result g c =
    let keepers = c.args.keepers.items in
    let as_many : length c.open_slots.result.items ≡ length keepers = ap length c.open_slots.ensures ∙ length-map keepers _ in
    let wide : length c.open_slots.result.items ≤ c.in-Ok.room.cap = omega (arith, as_many, c.len.ensures, c.args.keepers.ok.0, c.in-Ok.ensures.capacity) in (
      rw c.open_slots.ensures (opened-locks g.K.Keeper.tells keepers),
      record { none = c.in-Ok.ensures.items; wide = wide },
    )

use Rattle.std.proofs.Common.{◌<◌, ◌≤◌, length, sym, arith}
use borrow.Author.Tests.{ltb-true}
use Rattle.sw_container_locks.proofs.Keeping.{open-test, past-test}
use Rattle.sw_container_locks.proofs.cont_locks.ContLocks.is_open.Goals as goal

pub returns-then-lock-len : goal.returns-then-lock-len
returns-then-lock-len g c =
    let all = c.self.inside.slots.items in
    let within : c.args.lock < length all = omega (arith, c.if-lock-len.true, c.len.ensures, c.self.inside.slots.ok.0) in
    rw (sym c.self.view_is)
    (open-test all c.args.lock c.index.result.now c.is_open_slot.result within c.index.ensures c.is_open_slot.ensures.there c.is_open_slot.ensures.out)

pub returns-else-lock-len : goal.returns-else-lock-len
returns-else-lock-len g c =
    let all = c.self.inside.slots.items in
    let past : length all ≤ c.args.lock = omega (arith, c.if-lock-len.false, c.len.ensures, c.self.inside.slots.ok.0) in
    rw (sym c.self.view_is)
    (λ is. absurd (omega (arith, ltb-true c.args.lock c.len.result is, c.if-lock-len.false)), λ is. absurd (past-test all c.args.lock past is))

use Rattle.std.proofs.Common.{ap}
use Rattle.sw_shared.proofs.Turning.{in-turn}
use Rattle.sw_shared.proofs.objects.Lane+BookedObjects+V.hashes.Goals as goal

pub returns-clause-read : goal.returns-clause-read
returns-clause-read g c =
    let v = g.V.Volume in let e = c.enter-guard.ensures in
    in-turn v.tells v.holds v.faults _ c.args.self.now.pass.me.0 c.enter-guard.new.pass.me.0 c.leave.new.pass.me.0 c.enter-guard.result.value.dir
    c.hashes-got.new.self (record { tells = e.value; last = e.last; grows = e.grows; alone = e.alone }) (ap (λ m. m.0.numbers) e.turn.1)
    (ap (λ m. m.0.seats) e.turn.1) (ap (λ m. m.0) c.leave.ensures.seen) c.may_stand.ensures c.hashes-got.ensures.read

use Rattle.std.proofs.Common.{◌≡◌, ℕ, ◌+◌, suc, refl, arith, subst}
use Rattle.sw_sync.specs.Points.{greatest_of_first, greatest_point}
use Rattle.sw_sync.proofs.points.Points.greatest.Goals as goal

pub loop-device-init : goal.loop-device-init
loop-device-init c = refl

pub loop-device-preserved : goal.loop-device-preserved
loop-device-preserved c =
    let next : c.loop-device.device + 1 ≡ suc c.loop-device.device = omega arith in
    rw next (rw c.max-greatest.ensures (rw c.unwrap_or.ensures (rw c.get.ensures (rw c.loop-device.invariant refl))))

pub returns : goal.returns
unfolding greatest_point
returns c =
    let all : c.loop-device.device ≡ 256 = omega (arith, c.loop-device-test.false, c.loop-device.auto.device-end) in
    subst (λ (n : ℕ). c.loop-device.greatest ≡ greatest_of_first c.args.self.now c.args.range n) all c.loop-device.invariant

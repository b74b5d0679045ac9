use Rattle.std.proofs.Common.{◌-◌, ◌^◌, ℕ, unwrap_or}
use Rattle.std.proofs.lemmas.List.Sums.{fold_more}
use Rattle.std.specs.Prelude.{min}
use Rattle.sw_sync.specs.Points.{point_at}
use Rattle.sw_cleave.proofs.shards.least_point.Goals as goal

pub loop-device-preserved : goal.loop-device-preserved
loop-device-preserved c =
    let more = fold_more (λ (least device : ℕ). min least (unwrap_or (point_at c.args.points.now c.args.range device) 0)) (2 ^ 64 - 1) c.args.devices.now
    c.loop-device.device-index 0 c.loop-device-test.true in
    cc

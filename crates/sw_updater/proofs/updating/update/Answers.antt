use Rattle.std.proofs.Common.{◌^◌}
use Rattle.std.specs.List.{range_with_len}
use Rattle.sw_updater.proofs.Causing.{update-causes}
use Rattle.sw_updater.proofs.Wanting.{wanted}
use Rattle.sw_updater.proofs.updating.update.Goals as goal

pub returns-in_err-run-clause-updates : goal.returns-in_err-run-clause-updates
returns-in_err-run-clause-updates g c =
    let s = g.D.Door.sight in
    let run = c.in_err-run.ensures.updates in
    wanted c.args.ring.now c.args.device (s c.args.door.now) c.from_residual.result (s c.run.new.door) run.0 run.1 c.run.new.outcome
    c.from_residual.ensures.0 run.2 run.3

pub returns-clause-causes : goal.returns-clause-causes
returns-clause-causes g c =
    let s = g.D.Door.sight in
    let run = c.in_ok-run.ensures.updates in
    update-causes c.args.ring.now c.args.device (range_with_len 0 (2 ^ c.args.ring.now.lock_bits)) (s c.args.door.now) run.0 run.1 (s c.run.new.door)
    c.run.new.outcome c.finish.result run.2 run.3 c.finish.ensures

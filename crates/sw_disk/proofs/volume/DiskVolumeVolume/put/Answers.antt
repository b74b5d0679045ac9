use Rattle.std.proofs.Common.{◌∙◌, Some, None}
use Rattle.sw_disk.proofs.Moments.{passes-at, passes-none, rests-call, then_rests}
use Rattle.sw_disk.proofs.States.{rests-none}
use Rattle.sw_disk.proofs.Turning.{rests-with_file, turns-rested}
use Rattle.sw_disk.specs.Keeping.{IsInOrder, Turns}
use Rattle.sw_disk.proofs.volume.DiskVolumeVolume.put.Goals as goal

pub returns-then-not-is_place-clause-time : goal.returns-then-not-is_place-clause-time
returns-then-not-is_place-clause-time g c = λ tells o.
    let s = g.D.Disk.now c.args.self.now.disk in
    let put = Turns c.args.dir.now c.args.file.now (Some c.args.bytes.now) in
    passes-at g.D.Disk.now g.D.Disk.past put _ _ c.args.self.now.disk c.fail.new.self.disk c.fail.ensures.disk
    (passes-none put s (g.D.Disk.past c.args.self.now.disk) (turns-rested c.args.dir.now c.args.file.now (Some c.args.bytes.now) s s (rests-none IsInOrder s)))

pub returns-in-Err-clause-time : goal.returns-in-Err-clause-time
returns-in-Err-clause-time g c = λ tells o.
    let t1 = c.put_whole.ensures.told ∙ tells in
    let put = Turns c.args.dir.now c.args.file.now (Some c.args.bytes.now) in
    passes-at g.D.Disk.now g.D.Disk.past put _ _ c.unlink.new.self c.fail-in-Err.new.self.disk c.fail-in-Err.ensures.disk
    (then_rests c.args.dir.now c.args.file.now (Some c.args.bytes.now) _ _ _ _ _ _ (c.put_whole.ensures.time tells o)
    (rests-call IsInOrder _ _ _ _ _ (rests-with_file (g.D.Disk.now c.put_whole.new.disk) c.as_bytes-name.result.now None) (c.unlink.ensures.either t1)
    (c.unlink.ensures.time t1)))

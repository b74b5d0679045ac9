use Rattle.std.proofs.Common.{None}
use Rattle.sw_disk.proofs.Moments.{passes-at, passes-none}
use Rattle.sw_disk.proofs.States.{rests-none}
use Rattle.sw_disk.proofs.Turning.{turns-rested}
use Rattle.sw_disk.specs.Keeping.{IsInOrder, Turns}
use Rattle.sw_disk.proofs.volume.DiskVolumeVolume.unlink.Goals as goal

pub returns-then-not-is_place-clause-time : goal.returns-then-not-is_place-clause-time
returns-then-not-is_place-clause-time g c = λ tells.
    let s = g.D.Disk.now c.args.self.now.disk in
    passes-at g.D.Disk.now g.D.Disk.past (Turns c.args.dir.now c.args.file.now None) _ _ c.args.self.now.disk c.fail.new.self.disk c.fail.ensures.disk
    (passes-none (Turns c.args.dir.now c.args.file.now None) s (g.D.Disk.past c.args.self.now.disk)
    (turns-rested c.args.dir.now c.args.file.now None s s (rests-none IsInOrder s)))

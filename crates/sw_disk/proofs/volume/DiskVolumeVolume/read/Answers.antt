use Rattle.sw_disk.proofs.Moments.{passes-at, passes-none, rests-look}
use Rattle.sw_disk.proofs.States.{rests-none}
use Rattle.sw_disk.specs.Keeping.{IsInOrder, Rests}
use Rattle.sw_disk.proofs.volume.DiskVolumeVolume.read.Goals as goal

pub returns-then-not-is_place-clause-time : goal.returns-then-not-is_place-clause-time
returns-then-not-is_place-clause-time g c = λ tells.
    passes-at g.D.Disk.now g.D.Disk.past (Rests IsInOrder) _ _ c.args.self.now.disk c.fail.new.self.disk c.fail.ensures.disk
    (passes-none (Rests IsInOrder) (g.D.Disk.now c.args.self.now.disk) (g.D.Disk.past c.args.self.now.disk)
    (rests-none IsInOrder (g.D.Disk.now c.args.self.now.disk)))

pub returns-clause-time : goal.returns-clause-time
returns-clause-time g c = λ tells.
    passes-at g.D.Disk.now g.D.Disk.past (Rests IsInOrder) _ _ c.read-found.new.self c.told.new.self.disk c.told.ensures.disk
    (rests-look IsInOrder _ _ _ _ (c.read-found.ensures.same tells) (c.read-found.ensures.time tells))

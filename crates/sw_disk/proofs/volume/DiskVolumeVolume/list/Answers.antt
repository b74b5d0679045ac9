use Rattle.std.proofs.Common.{◌≡◌, sym, subst, true, IsSome, IfOk}
use Rattle.sw_disk.proofs.Kept.{if_ok, lists-kept, not_writing}
use Rattle.sw_disk.proofs.Moments.{passes-at, passes-none, rests-look}
use Rattle.sw_disk.proofs.States.{rests-none}
use Rattle.sw_disk.specs.Keeping.{IsInOrder, Rests, kept}
use Rattle.sw_volume.specs.Volume.{ListsAll}
use Rattle.sw_disk.proofs.volume.DiskVolumeVolume.list.Goals as goal

pub returns-then-not-is_directory-clause-time : goal.returns-then-not-is_directory-clause-time
returns-then-not-is_directory-clause-time g c = λ tells.
    passes-at g.D.Disk.now g.D.Disk.past (Rests IsInOrder) _ _ c.args.self.now.disk c.fail.new.self.disk c.fail.ensures.disk
    (passes-none (Rests IsInOrder) (g.D.Disk.now c.args.self.now.disk) (g.D.Disk.past c.args.self.now.disk)
    (rests-none IsInOrder (g.D.Disk.now c.args.self.now.disk)))

pub returns-clause-kept_files : goal.returns-clause-kept_files
returns-clause-kept_files g c = subst (λ r. IfOk r (λ l. g.D.Disk.tells c.args.self.now.disk ≡ true → ListsAll l.files
    (λ name. IsSome (kept (g.D.Disk.now c.args.self.now.disk) c.args.dir.now name))))
    (sym c.told.ensures.answer)
    (if_ok c.list-listing.result _ _
    (λ l lists tells. lists-kept (g.D.Disk.now c.args.self.now.disk) c.args.dir.now l.files
    (not_writing c.args.dir.now (c.is_directory.ensures.0 c.if-not-is_directory.false)) (lists tells))
    c.list-listing.ensures.files)

pub returns-clause-time : goal.returns-clause-time
returns-clause-time g c = λ tells.
    passes-at g.D.Disk.now g.D.Disk.past (Rests IsInOrder) _ _ c.list-listing.new.self c.told.new.self.disk c.told.ensures.disk
    (rests-look IsInOrder _ _ _ _ (c.list-listing.ensures.same tells) (c.list-listing.ensures.time tells))

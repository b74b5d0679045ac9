use Rattle.std.proofs.Common.{◌≡◌, ◌++◌, ◌∷◌, [], None, refl, rules}
use Rattle.sw_disk.proofs.Logs.{sound_is_ok, tells-push, tells-set}
use Rattle.sw_disk.specs.Changes.{run}
use Rattle.sw_disk.specs.declared.change.Change.TheVariants.{Removed}
use Rattle.sw_disk.proofs.disk_log.DiskLog.take_away.Goals as goal

pub invariant_of-self-2 : goal.invariant_of-self-2
invariant_of-self-2 c =
    let is : c.push.new.self.items ≡ c.args.self.now.changes.items ++ Removed c.args.dir.now c.args.file.now ∷ [] = search rules in
    record {
      told = tells-push c.unlink.new.self.folders c.args.self.now.changes.items (Removed c.args.dir.now c.args.file.now) c.push.new.self.items is
          (tells-set c.args.self.now.files.folders c.unlink.new.self.folders (run c.args.self.now.changes.items).now c.args.dir.now c.args.file.now
          None c.args.self.now.told (sound_is_ok c.unlink.result _ c.unlink.ensures.cause c.unlink.ensures.ok refl));
    }

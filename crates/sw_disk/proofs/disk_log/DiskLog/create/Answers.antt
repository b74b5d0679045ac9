use Rattle.std.proofs.Common.{◌≡◌, ◌++◌, ◌∷◌, [], Some, false, refl, rules}
use Rattle.sw_disk.proofs.Logs.{tells-push, tells-set}
use Rattle.sw_disk.specs.Changes.{run}
use Rattle.sw_disk.specs.declared.change.Change.TheVariants.{Created}
use Rattle.sw_disk.proofs.disk_log.DiskLog.create.Goals as goal

pub invariant_of-self-in-Ok : goal.invariant_of-self-in-Ok
invariant_of-self-in-Ok c =
    let is : c.push.new.self.items ≡ c.args.self.now.changes.items ++ Created c.args.dir.now c.args.file.now c.args.bytes.now ∷ [] = search rules in
    record {
      told = tells-push c.put.new.self.folders c.args.self.now.changes.items (Created c.args.dir.now c.args.file.now c.args.bytes.now) c.push.new.self.items is
          (tells-set c.args.self.now.files.folders c.put.new.self.folders (run c.args.self.now.changes.items).now c.args.dir.now c.args.file.now
          (Some (record { bytes = c.args.bytes.now; synced = false })) c.args.self.now.told (c.in-Ok.ensures.ok refl));
    }

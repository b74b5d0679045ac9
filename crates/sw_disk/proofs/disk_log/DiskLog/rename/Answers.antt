use Rattle.std.proofs.Common.{◌≡◌, ◌++◌, ◌∷◌, [], Some, refl, rules, sym, ◌∙◌, ap}
use Rattle.sw_disk.proofs.Logs.{sound_is_ok, tells-moved, tells-push, Tells}
use Rattle.sw_disk.specs.Changes.{run}
use Rattle.sw_disk.specs.declared.change.Change.TheVariants.{Moved}
use Rattle.sw_volume.specs.Tree.{contents}
use Rattle.sw_disk.proofs.disk_log.DiskLog.rename.Goals as goal

pub invariant_of-self-in-Ok : goal.invariant_of-self-in-Ok
invariant_of-self-in-Ok c =
    let is : c.push.new.self.items ≡ c.args.self.now.changes.items ++ Moved c.args.from_dir.now c.args.from_file.now c.args.dir.now c.args.file.now ∷
    [] = search rules in
    let s = (run c.args.self.now.changes.items).now in
    let same = c.read.ensures.same refl in
    let tells : Tells c.read.new.self.folders s = λ d f. same d f ∙ c.args.self.now.told d f in
    let there : contents c.read.new.self.folders c.args.from_dir.now c.args.from_file.now ≡ Some c.as_slice.result.now =
    same c.args.from_dir.now c.args.from_file.now ∙ sym (c.in-Ok-Some.ensures.value refl) ∙ c.in-Ok-Some.field-0-is ∙ ap Some (sym c.as_slice.ensures) in
    let apart : ¬ ((c.args.dir.now ≡ c.args.from_dir.now) × (c.args.file.now ≡ c.args.from_file.now)) =
    λ both. let one = c.is_one_path.ensures.1 both in cc in
    record {
      told = tells-push c.unlink.new.self.folders c.args.self.now.changes.items
          (Moved c.args.from_dir.now c.args.from_file.now c.args.dir.now c.args.file.now) c.push.new.self.items is
          (tells-moved s c.args.from_dir.now c.args.from_file.now c.args.dir.now c.args.file.now apart
          c.read.new.self.folders c.put.new.self.folders c.unlink.new.self.folders
          c.as_slice.result.now tells there (c.in-Ok.ensures.ok refl) (sound_is_ok c.unlink.result _ c.unlink.ensures.cause c.unlink.ensures.ok refl));
    }

use Rattle.std.proofs.Common.{◌≡◌, ℕ, Err, Result, Vec, Global, refl, sym, ◌∙◌, ap, subst}
use Rattle.sw_objdir.proofs.Doubts.{looked-both}
use Rattle.sw_objdir.proofs.Looking.{dir-moved}
use Rattle.sw_objdir.proofs.PartReads.{cause-as, if-ok, lines-held, moved-told, part-told, told_as}
use Rattle.sw_objdir.specs.Comparing.{IsSettled, Looks, is_in}
use Rattle.sw_objdir.specs.Directories.{Kept, held, is_told}
use Rattle.sw_objdir.specs.Stepping.{LooksAt}
use Rattle.sw_objdir.specs.declared.comparing.Scope.TheVariants as scopes
use Rattle.sw_object_steps.specs.Parts.{AreLines}
use Rattle.sw_object_steps.specs.declared.dir_fault.DirFault.{DirFault}
use Rattle.sw_suffix.specs.declared.dir_line.DirLine.{DirLine}
use Rattle.sw_volume.specs.declared.errors.VolumeError.{VolumeError}
use Rattle.sw_objdir.proofs.obj_dir.ObjDir.files_of.Goals.{in-Ok, in-Err-lines_of}
use Rattle.sw_objdir.proofs.obj_dir.ObjDir.files_of.Goals as goal

pub invariant_of-self : goal.invariant_of-self
invariant_of-self g c =
    let v = g.V.Volume in let i = c.self.inside in
    let m : Kept _ = record { volume = i.volume; began = i.opening.value; secrets = i.secrets; power = i.power; journal = i.journal } in
    dir-moved v.tells v.holds v.faults m c.lines_of.new.volume c.self.invariant c.lines_of.ensures.told c.lines_of.ensures.same

pub returns-in-Err-clause-read : goal.returns-in-Err-clause-read
returns-in-Err-clause-read g c =
    let v = g.V.Volume in let k = c.args.self.now in let e = c.in-Err.error in
    let r : Result (Vec DirLine Global) VolumeError = Err e in
    part-told v.tells v.holds v.faults k c.settle_all.new.self c.settle_all.ensures.looks c.settle_all.ensures.dir
    (λ told s got. AreLines k.power c.args.part c.args.suffix told s got.items)
    r (Err c.fault_of_volume.result) (ap (λ (x : DirFault). let y : Result (Vec DirLine Global) DirFault = Err x in y) c.fault_of_volume.ensures)
    (cause-as e c.in-Err.ensures.cause) tt (held v.tells v.holds v.faults c.settle_all.new.self) (λ hash. refl) tt

pub returns-clause-read : goal.returns-clause-read
returns-clause-read g c =
    let v = g.V.Volume in let i = c.self.inside in let k = c.args.self.now in
    let m : Kept _ = record { volume = i.volume; began = i.opening.value; secrets = i.secrets; power = i.power; journal = i.journal } in
    let looks : LooksAt v.tells v.holds v.faults (is_in k.power (scopes.Suffix c.args.part c.args.suffix)) k m =
    subst (λ (x : Kept _). LooksAt v.tells v.holds v.faults (is_in k.power (scopes.Suffix c.args.part c.args.suffix)) k x)
    (sym c.self.view_is) c.settle_all.ensures.looks in
    let settled : IsSettled k.power (scopes.Suffix c.args.part c.args.suffix) m.journal.doubts =
    subst (λ (p : ℕ). IsSettled p (scopes.Suffix c.args.part c.args.suffix) m.journal.doubts) looks.same.power
    (subst (λ (x : Kept _). IsSettled x.power (scopes.Suffix c.args.part c.args.suffix) x.journal.doubts) (sym c.self.view_is) c.in_default.ensures.settled) in
    let is : c.match-lines_of.result ≡ told_as c.lines_of.result = elim c.match-lines_of.branch [
      | in-Ok w ↦ w.result-is ∙ ap told_as (sym w.in-Ok.is)
      | in-Err-lines_of w ↦ w.result-is ∙ (ap Err w.fault_of_volume-in-Err-lines_of.ensures ∙ ap told_as (sym w.in-Err-lines_of.is))
    ] in
    moved-told v.tells v.holds v.faults k m looks c.self.invariant
    (ap (λ (x : Kept _). v.faults x.volume) c.self.view_is ∙ c.in_default.ensures.cause.kept)
    c.lines_of.new.volume c.lines_of.ensures.told c.lines_of.ensures.same c.lines_of.result c.lines_of.ensures.cause
    (λ told s got. AreLines k.power c.args.part c.args.suffix told s got.items) c.match-lines_of.result is settled
    (if-ok c.lines_of.result _ _
    (λ got of. subst (λ (p : ℕ). AreLines p c.args.part c.args.suffix (is_told v.tells v.holds v.faults m) (held v.tells v.holds v.faults m) got.items)
    looks.same.power (lines-held v.tells v.holds v.faults m c.self.invariant c.args.part c.args.suffix got.items (of m.secrets))) c.lines_of.ensures.lines)

pub returns-clause-only_lists : goal.returns-clause-only_lists
returns-clause-only_lists g c =
    let v = g.V.Volume in let i = c.self.inside in let k = c.args.self.now in
    let m : Kept _ = record { volume = i.volume; began = i.opening.value; secrets = i.secrets; power = i.power; journal = i.journal } in
    let lists : (x : ℕ) × Looks v.calls v.lists x 0 k m =
    subst (λ (y : Kept _). (x : ℕ) × Looks v.calls v.lists x 0 k y) (sym c.self.view_is) c.settle_all.ensures.only_lists in
    let more = c.lines_of.ensures.only_lists in
    looked-both v.calls v.lists k m (record m { volume = c.lines_of.new.volume }) lists (more.0, record { called = more.1; listings = more.2 })

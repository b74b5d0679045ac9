use Rattle.std.proofs.Common.{◌≡◌, Err, Vec, Global, true, sym, ◌∙◌, ap, subst}
use Rattle.sw_objdir.proofs.FilingWalks.{stopped-called, stopped-damage, stopped-step, walk-called, walk-damage, walk-step, walked}
use Rattle.sw_objdir.proofs.Looking.{dir-moved}
use Rattle.sw_objdir.specs.Directories.{Kept}
use Rattle.sw_objdir.specs.Filings.{IsFilingsStep, SettlesFilings}
use Rattle.sw_object_steps.specs.Filings.{AreFiled}
use Rattle.sw_objdir.specs.Stepping.{LooksAt}
use Rattle.sw_object_steps.specs.declared.dir_fault.DirFault.{DirFault}
use Rattle.sw_pending.specs.declared.filed.Filed.{Filed}
use Rattle.sw_objdir.proofs.obj_dir.ObjDir.records.Goals.{in-Ok, in-Err-records}
use Rattle.sw_objdir.proofs.obj_dir.ObjDir.records.Goals as goal

pub invariant_of-self : goal.invariant_of-self
invariant_of-self g c =
    let v = g.V.Volume in let i = c.self.inside in
    let m : Kept _ = record { volume = i.volume; began = i.opening.value; secrets = i.secrets; power = i.power; journal = i.journal } in
    dir-moved v.tells v.holds v.faults m c.records.new.volume c.self.invariant c.records.ensures.told c.records.ensures.same

pub returns-in-Err-clause-read : goal.returns-in-Err-clause-read
returns-in-Err-clause-read g c =
    let v = g.V.Volume in let k = c.args.self.now in let n = c.settle_records.new.self in
    subst (λ (x : DirFault). IsFilingsStep v.tells v.holds v.faults k (λ told r (got : Vec Filed Global). AreFiled k.secrets (λ hash. true) told r got.items)
    (Err x) n) (sym c.fault_of_record.ensures)
    (stopped-step v.tells v.holds v.faults v.calls v.lists _ k n c.settle_records.ensures.looks c.settle_records.ensures.dir
    (λ told r (got : Vec Filed Global). AreFiled k.secrets (λ hash. true) told r got.items) c.in-Err.fault c.in-Err.ensures.all)

pub returns-clause-read : goal.returns-clause-read
returns-clause-read g c =
    let v = g.V.Volume in let i = c.self.inside in let k = c.args.self.now in
    let m : Kept _ = record { volume = i.volume; began = i.opening.value; secrets = i.secrets; power = i.power; journal = i.journal } in
    let looks : LooksAt v.tells v.holds v.faults (λ hash. true) k m =
    subst (λ (x : Kept _). LooksAt v.tells v.holds v.faults (λ hash. true) k x) (sym c.self.view_is) c.settle_records.ensures.looks in
    let all : SettlesFilings v.tells v.holds v.faults v.calls v.lists k m =
    subst (λ (x : Kept _). SettlesFilings v.tells v.holds v.faults v.calls v.lists k x) (sym c.self.view_is) c.in_default.ensures.all in
    let told : c.match-records.result ≡ walked c.records.result = elim c.match-records.branch [
      | in-Ok w ↦ w.result-is ∙ ap walked (sym w.in-Ok.is)
      | in-Err-records w ↦ w.result-is ∙ (ap Err w.fault_of_record-in-Err-records.ensures ∙ ap walked (sym w.in-Err-records.is))
    ] in
    let read = c.records.ensures in
    rw told
    (walk-step v.tells v.holds v.faults v.calls v.lists k m looks c.self.invariant all c.records.new.volume read.told read.same read.later
    c.records.result read.records read.ordered read.sound read.disorder read.failed)

pub returns-clause-calls : goal.returns-clause-calls
returns-clause-calls g c =
    let v = g.V.Volume in let i = c.self.inside in let k = c.args.self.now in
    let m : Kept _ = record { volume = i.volume; began = i.opening.value; secrets = i.secrets; power = i.power; journal = i.journal } in
    let looks : LooksAt v.tells v.holds v.faults (λ hash. true) k m =
    subst (λ (x : Kept _). LooksAt v.tells v.holds v.faults (λ hash. true) k x) (sym c.self.view_is) c.settle_records.ensures.looks in
    let all : SettlesFilings v.tells v.holds v.faults v.calls v.lists k m =
    subst (λ (x : Kept _). SettlesFilings v.tells v.holds v.faults v.calls v.lists k x) (sym c.self.view_is) c.in_default.ensures.all in
    let told : c.match-records.result ≡ walked c.records.result = elim c.match-records.branch [
      | in-Ok w ↦ w.result-is ∙ ap walked (sym w.in-Ok.is)
      | in-Err-records w ↦ w.result-is ∙ (ap Err w.fault_of_record-in-Err-records.ensures ∙ ap walked (sym w.in-Err-records.is))
    ] in
    let read = c.records.ensures in let course = read.calls in
    rw told
    (walk-called v.tells v.holds v.faults v.calls v.lists k m looks c.self.invariant all c.records.new.volume read.told read.same read.later
    course.0 course.1 course.2 course.3 c.records.result course.4)

pub returns-in-Err-clause-damaged : goal.returns-in-Err-clause-damaged
returns-in-Err-clause-damaged g c =
    let v = g.V.Volume in let k = c.args.self.now in let n = c.settle_records.new.self in
    rw c.fault_of_record.ensures (stopped-damage v.tells v.holds v.faults v.calls v.lists _ k n c.in-Err.fault c.in-Err.ensures.all)

pub returns-in-Err-clause-calls : goal.returns-in-Err-clause-calls
returns-in-Err-clause-calls g c =
    let v = g.V.Volume in let k = c.args.self.now in let n = c.settle_records.new.self in
    rw c.fault_of_record.ensures (stopped-called v.tells v.holds v.faults v.calls v.lists k n c.in-Err.fault c.in-Err.ensures.all)

pub returns-clause-damaged : goal.returns-clause-damaged
returns-clause-damaged g c =
    let v = g.V.Volume in let i = c.self.inside in let k = c.args.self.now in
    let m : Kept _ = record { volume = i.volume; began = i.opening.value; secrets = i.secrets; power = i.power; journal = i.journal } in
    let looks : LooksAt v.tells v.holds v.faults (λ hash. true) k m =
    subst (λ (x : Kept _). LooksAt v.tells v.holds v.faults (λ hash. true) k x) (sym c.self.view_is) c.settle_records.ensures.looks in
    let all : SettlesFilings v.tells v.holds v.faults v.calls v.lists k m =
    subst (λ (x : Kept _). SettlesFilings v.tells v.holds v.faults v.calls v.lists k x) (sym c.self.view_is) c.in_default.ensures.all in
    let told : c.match-records.result ≡ walked c.records.result = elim c.match-records.branch [
      | in-Ok w ↦ w.result-is ∙ ap walked (sym w.in-Ok.is)
      | in-Err-records w ↦ w.result-is ∙ (ap Err w.fault_of_record-in-Err-records.ensures ∙ ap walked (sym w.in-Err-records.is))
    ] in
    let read = c.records.ensures in
    rw told
    (walk-damage v.tells v.holds v.faults v.calls v.lists k m looks c.self.invariant all c.records.new.volume read.told read.same read.later
    c.records.result read.damaged)

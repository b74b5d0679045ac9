use Rattle.std.proofs.Common.{◌≡◌, ℕ, ◌≤◌, Option, Some, IfOk, Result, sym, subst, true}
use Rattle.sw_hashdir.specs.Places.{dir_text, is_place}
use Rattle.sw_objdir.proofs.Looking.{dir-moved, looks-moved}
use Rattle.sw_objdir.proofs.RowNames.{name-text}
use Rattle.sw_objdir.proofs.FileReads.{damaged-as}
use Rattle.sw_objdir.proofs.RowReads.{never-damaged, read-shown, row-read}
use Rattle.sw_hashdir.specs.Readings.{IsDamagedAt}
use Rattle.sw_hashpath.specs.declared.decode_error.BadFile.{BadFile}
use Rattle.sw_objdir.specs.BaseRows.{IsRowBy, IsRowIn}
use Rattle.sw_objdir.specs.Directories.{Kept, held, is_told}
use Rattle.sw_object_steps.specs.declared.dir_fault.DirFault.{DirFault}
use Rattle.sw_object_steps.specs.declared.stored.Stored.{Stored}
use Rattle.sw_rows.specs.declared.row.Row.{Row}
use Rattle.sw_objdir.proofs.obj_dir.ObjDir.read_base.Goals as goal
use Rattle.sw_objdir.proofs.obj_dir.ObjDir.read_base.Goals.{in-Ok-row_found, in-Err-row_found}

pub invariant_of-self : goal.invariant_of-self
invariant_of-self g c =
    let v = g.V.Volume in let i = c.self.inside in
    let k : Kept _ = record { volume = i.volume; began = i.opening.value; secrets = i.secrets; power = i.power; journal = i.journal } in
    dir-moved v.tells v.holds v.faults k c.read_stored.new.volume c.self.invariant c.read_stored.ensures.told c.read_stored.ensures.same

pub returns-in-Err-clause-dir : goal.returns-in-Err-clause-dir
returns-in-Err-clause-dir g c = invariant_of-self g c

pub returns-in-Err-clause-looks : goal.returns-in-Err-clause-looks
returns-in-Err-clause-looks g c =
    let v = g.V.Volume in let i = c.self.inside in
    let k : Kept _ = record { volume = i.volume; began = i.opening.value; secrets = i.secrets; power = i.power; journal = i.journal } in
    rw (sym c.self.view_is)
    (looks-moved v.tells v.holds v.faults k c.read_stored.new.volume c.read_stored.ensures.told c.read_stored.ensures.same c.read_stored.ensures.later)

pub returns-in-Err-clause-damaged : goal.returns-in-Err-clause-damaged
returns-in-Err-clause-damaged g c =
    let v = g.V.Volume in let i = c.self.inside in let hash = c.args.filed.now.name.hash in let file = c.args.file.now in
    let k : Kept _ = record { volume = i.volume; began = i.opening.value; secrets = i.secrets; power = i.power; journal = i.journal } in
    let place : is_place k.power hash ≡ true = subst (λ (x : Kept _). is_place x.power hash ≡ true) (sym c.self.view_is) c.requires.place in
    let path_is : c.args.dir.now ≡ dir_text k.power hash =
    subst (λ (x : Kept _). c.args.dir.now ≡ dir_text x.power hash) (sym c.self.view_is) c.requires.dir in
    let le : file.time ≤ 999999999999999 = subst (λ (t : ℕ). t ≤ 999999999999999) c.units.ensures.same c.units.ensures.bound in
    rw (sym c.self.view_is)
    (never-damaged v.tells v.holds v.faults k c.self.invariant hash place file c.args.dir.now path_is (Option Stored) (Option Row)
    c.in-Err.fault c.fault_of_read.result c.fault_of_read.ensures le c.in-Err.ensures.damaged)

pub row_found-requires : goal.row_found-requires
row_found-requires g c = name-text c.args.self.now.secrets c.args.filed.now.name c.requires.hashed

pub invariant_of-self-2 : goal.invariant_of-self-2
invariant_of-self-2 g c =
    let v = g.V.Volume in let i = c.self.inside in
    let k : Kept _ = record { volume = i.volume; began = i.opening.value; secrets = i.secrets; power = i.power; journal = i.journal } in
    dir-moved v.tells v.holds v.faults k c.read_stored.new.volume c.self.invariant c.read_stored.ensures.told c.read_stored.ensures.same

pub returns-clause-dir : goal.returns-clause-dir
returns-clause-dir g c = invariant_of-self-2 g c

pub returns-clause-looks : goal.returns-clause-looks
returns-clause-looks g c =
    let v = g.V.Volume in let i = c.self.inside in
    let k : Kept _ = record { volume = i.volume; began = i.opening.value; secrets = i.secrets; power = i.power; journal = i.journal } in
    rw (sym c.self.view_is)
    (looks-moved v.tells v.holds v.faults k c.read_stored.new.volume c.read_stored.ensures.told c.read_stored.ensures.same c.read_stored.ensures.later)

pub returns-clause-row : goal.returns-clause-row
returns-clause-row g c =
    let v = g.V.Volume in let i = c.self.inside in let hash = c.args.filed.now.name.hash in let file = c.args.file.now in
    let object = c.args.filed.now.name.object in
    let k : Kept _ = record { volume = i.volume; began = i.opening.value; secrets = i.secrets; power = i.power; journal = i.journal } in
    let place : is_place k.power hash ≡ true = subst (λ (x : Kept _). is_place x.power hash ≡ true) (sym c.self.view_is) c.requires.place in
    let path_is : c.args.dir.now ≡ dir_text k.power hash =
    subst (λ (x : Kept _). c.args.dir.now ≡ dir_text x.power hash) (sym c.self.view_is) c.requires.dir in
    let by : (x : Result (Option Row) DirFault) → Type 0 =
    λ x. IfOk x (IsRowBy object file (is_told v.tells v.holds v.faults c.args.self.now) (held v.tells v.holds v.faults c.args.self.now hash)) in
    elim c.match-row_found.branch [
      | in-Ok-row_found w ↦ subst by (sym w.result-is)
          (rw (sym c.self.view_is)
          (row-read v.tells v.holds v.faults k c.self.invariant hash place file c.args.dir.now path_is object c.in-Ok.found w.in-Ok-row_found.row
          c.requires.data c.in-Ok.ensures.found c.in-Ok.ensures.named w.in-Ok-row_found.ensures))
      | in-Err-row_found w ↦ subst by (sym w.result-is) tt
    ]

pub returns-in-Err-clause-damage : goal.returns-in-Err-clause-damage
returns-in-Err-clause-damage g c =
    let v = g.V.Volume in let i = c.self.inside in let hash = c.args.filed.now.name.hash in
    let k : Kept _ = record { volume = i.volume; began = i.opening.value; secrets = i.secrets; power = i.power; journal = i.journal } in
    let P : BadFile → Type 0 =
    λ bad. v.tells k.volume ≡ true → IsDamagedAt k.secrets hash (v.holds k.volume) c.args.dir.now (Some c.args.file.now) bad in
    rw (sym c.self.view_is)
    (damaged-as (Option Stored) (Option Row) c.in-Err.fault c.fault_of_read.result P P c.fault_of_read.ensures (λ bad is. is) c.in-Err.ensures.damaged)

pub returns-clause-shown : goal.returns-clause-shown
returns-clause-shown g c =
    let v = g.V.Volume in let i = c.self.inside in let hash = c.args.filed.now.name.hash in let file = c.args.file.now in
    let object = c.args.filed.now.name.object in let now = c.args.self.now in
    let k : Kept _ = record { volume = i.volume; began = i.opening.value; secrets = i.secrets; power = i.power; journal = i.journal } in
    let by : (x : Result (Option Row) DirFault) → Type 0 =
    λ x. IfOk x (λ got. v.tells now.volume ≡ true → IsRowIn now.secrets hash (v.holds now.volume) c.args.dir.now object file got) in
    elim c.match-row_found.branch [
      | in-Ok-row_found w ↦ subst by (sym w.result-is)
          (rw (sym c.self.view_is)
          (λ told. read-shown k.secrets hash (v.holds k.volume) c.args.dir.now object file c.in-Ok.found w.in-Ok-row_found.row
          c.requires.data (c.in-Ok.ensures.found told) w.in-Ok-row_found.ensures))
      | in-Err-row_found w ↦ subst by (sym w.result-is) tt
    ]

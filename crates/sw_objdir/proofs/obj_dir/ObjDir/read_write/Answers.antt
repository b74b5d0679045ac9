use Rattle.std.proofs.Common.{arith, inr, ◌≡◌, ℕ, ◌≤◌, true, [], Err, Result, Option, Some, refl, sym, ◌∙◌, ap, subst}
use Rattle.std.specs.Option.{option_map}
use Rattle.std.specs.Str.{bytes_eq}
use Rattle.sw_hashdir.specs.Places.{dir_text}
use Rattle.sw_hashdir.specs.Readings.{IsDamagedAt}
use Rattle.sw_hashdir.specs.Steps.{is_hashed}
use Rattle.sw_objdir.proofs.FileReads.{damaged-as, file-given, file-refused, found-before}
use Rattle.sw_objdir.proofs.FileReads.{one-settled, read-looks, refused-calls}
use Rattle.sw_objdir.proofs.FileReads.{settled-looks, unsettled-calls}
use Rattle.sw_objdir.proofs.Looking.{dir-moved}
use Rattle.sw_objdir.proofs.PartReads.{cause-as, part-told}
use Rattle.sw_objdir.proofs.Reading.{damage-before}
use Rattle.sw_objdir.specs.Comparing.{Looks, listings_of}
use Rattle.sw_objdir.specs.Directories.{Kept, held}
use Rattle.sw_objdir.specs.Stepping.{LooksAt}
use Rattle.sw_object_steps.specs.Journals.{written}
use Rattle.sw_object_steps.specs.Parts.{IsFile}
use Rattle.sw_object_steps.specs.declared.dir_fault.DirFault.{DirFault}
use Rattle.sw_object_steps.specs.declared.stored.Stored.{Stored}
use Rattle.sw_volume.specs.declared.errors.VolumeError.{VolumeError}
use Rattle.sw_volume.specs.declared.errors.VolumeError.TheVariants as volumes
use Rattle.sw_objdir.proofs.obj_dir.ObjDir.read_write.Goals as goal

pub returns-in-Err-clause-read : goal.returns-in-Err-clause-read
returns-in-Err-clause-read g c =
    let v = g.V.Volume in let k = c.args.self.now in let hash = c.args.hash.now in let e = c.in-Err.error in
    let r : Result (Option Stored) VolumeError = Err e in
    part-told v.tells v.holds v.faults k c.settle_one.new.self c.settle_one.ensures.looks c.settle_one.ensures.dir
    (λ told s got. IsFile (is_hashed k.secrets) hash c.args.file.now told s got)
    r (Err c.fault_of_volume.result) (ap (λ (x : DirFault). let y : Result (Option Stored) DirFault = Err x in y) c.fault_of_volume.ensures)
    (cause-as e c.in-Err.ensures.cause) tt (held v.tells v.holds v.faults c.settle_one.new.self) (λ other. refl) tt

pub returns-in_default-dir_of-clause-read : goal.returns-in_default-dir_of-clause-read
returns-in_default-dir_of-clause-read g c =
    let v = g.V.Volume in let k = c.args.self.now in let hash = c.args.hash.now in
    let r : Result (Option Stored) VolumeError = Err volumes.NoMemory in
    part-told v.tells v.holds v.faults k c.settle_one.new.self c.settle_one.ensures.looks c.settle_one.ensures.dir
    (λ told s got. IsFile (is_hashed k.secrets) hash c.args.file.now told s got) r (Err _) refl
    (record { once = tt; memory = c.in_default.ensures.cause.kept; kept = tt; later = c.in_default.ensures.cause.later; risen = tt }) tt
    (held v.tells v.holds v.faults c.settle_one.new.self) (λ other. refl) tt

pub invariant_of-self : goal.invariant_of-self
invariant_of-self g c =
    let v = g.V.Volume in let i = c.self.inside in
    let m : Kept _ = record { volume = i.volume; began = i.opening.value; secrets = i.secrets; power = i.power; journal = i.journal } in
    dir-moved v.tells v.holds v.faults m c.read_stored.new.volume c.self.invariant c.read_stored.ensures.told c.read_stored.ensures.same

pub invariant_of-self-2 : goal.invariant_of-self-2
invariant_of-self-2 g c =
    let v = g.V.Volume in let i = c.self.inside in
    let m : Kept _ = record { volume = i.volume; began = i.opening.value; secrets = i.secrets; power = i.power; journal = i.journal } in
    dir-moved v.tells v.holds v.faults m c.read_stored.new.volume c.self.invariant c.read_stored.ensures.told c.read_stored.ensures.same

pub returns-in-Ok-read_stored-clause-read : goal.returns-in-Ok-read_stored-clause-read
returns-in-Ok-read_stored-clause-read g c =
    let v = g.V.Volume in let i = c.self.inside in let k = c.args.self.now in let hash = c.args.hash.now in let file = c.args.file.now in
    let m : Kept _ = record { volume = i.volume; began = i.opening.value; secrets = i.secrets; power = i.power; journal = i.journal } in
    let looks : LooksAt v.tells v.holds v.faults (bytes_eq hash) k m =
    subst (λ (x : Kept _). LooksAt v.tells v.holds v.faults (bytes_eq hash) k x) (sym c.self.view_is) c.settle_one.ensures.looks in
    let none : written hash m.journal.doubts ≡ [] =
    subst (λ (x : Kept _). written hash x.journal.doubts ≡ []) (sym c.self.view_is)
    (one-settled v.calls v.lists k c.settle_one.new.self hash c.in_default.field-0 c.in_default.ensures.one) in
    let le : file.time ≤ 999999999999999 = subst (λ (t : ℕ). t ≤ 999999999999999) c.units.ensures.same c.units.ensures.bound in
    file-given v.tells v.holds v.faults k m hash looks c.self.invariant
    (ap (λ (x : Kept _). v.faults x.volume) c.self.view_is ∙ c.in_default.ensures.cause.kept)
    c.read_stored.new.volume c.read_stored.ensures.told c.read_stored.ensures.same c.read_stored.ensures.later file c.deref.result.now le
    (c.deref.ensures.value ∙ c.in-Ok.ensures.text) c.in-Ok.ensures.place none c.in-Ok-read_stored.found
    c.in-Ok-read_stored.ensures.found c.in-Ok-read_stored.ensures.named c.in-Ok-read_stored.ensures.hashed

pub returns-clause-read : goal.returns-clause-read
returns-clause-read g c =
    let v = g.V.Volume in let i = c.self.inside in let k = c.args.self.now in let hash = c.args.hash.now in let file = c.args.file.now in
    let m : Kept _ = record { volume = i.volume; began = i.opening.value; secrets = i.secrets; power = i.power; journal = i.journal } in
    let looks : LooksAt v.tells v.holds v.faults (bytes_eq hash) k m =
    subst (λ (x : Kept _). LooksAt v.tells v.holds v.faults (bytes_eq hash) k x) (sym c.self.view_is) c.settle_one.ensures.looks in
    let none : written hash m.journal.doubts ≡ [] =
    subst (λ (x : Kept _). written hash x.journal.doubts ≡ []) (sym c.self.view_is)
    (one-settled v.calls v.lists k c.settle_one.new.self hash c.in_default.field-0 c.in_default.ensures.one) in
    let le : file.time ≤ 999999999999999 = subst (λ (t : ℕ). t ≤ 999999999999999) c.units.ensures.same c.units.ensures.bound in
    file-refused v.tells v.holds v.faults k m hash looks c.self.invariant
    (ap (λ (x : Kept _). v.faults x.volume) c.self.view_is ∙ c.in_default.ensures.cause.kept)
    c.read_stored.new.volume c.read_stored.ensures.told c.read_stored.ensures.same c.read_stored.ensures.later file c.deref.result.now le
    (c.deref.ensures.value ∙ c.in-Ok.ensures.text) c.in-Ok.ensures.place none c.in-Err-read_stored.fault c.fault_of_read.result
    c.fault_of_read.ensures c.in-Err-read_stored.ensures.damaged c.in-Err-read_stored.ensures.failed

pub returns-clause-damaged : goal.returns-clause-damaged
returns-clause-damaged g c =
    let v = g.V.Volume in let i = c.self.inside in let k = c.args.self.now in let hash = c.args.hash.now in let file = c.args.file.now in
    let m : Kept _ = record { volume = i.volume; began = i.opening.value; secrets = i.secrets; power = i.power; journal = i.journal } in
    let looks : LooksAt v.tells v.holds v.faults (bytes_eq hash) k m =
    subst (λ (x : Kept _). LooksAt v.tells v.holds v.faults (bytes_eq hash) k x) (sym c.self.view_is) c.settle_one.ensures.looks in
    damaged-as (Option Stored) (Option Stored) c.in-Err-read_stored.fault c.fault_of_read.result
    (λ bad. v.tells m.volume ≡ true → IsDamagedAt m.secrets hash (v.holds m.volume) c.deref.result.now (Some file) bad)
    (λ bad. v.tells k.volume ≡ true → IsDamagedAt k.secrets hash (v.holds k.volume) (dir_text k.power hash) (Some file) bad)
    c.fault_of_read.ensures
    (damage-before v.tells v.holds v.faults k m looks hash c.deref.result.now (dir_text k.power hash)
    (c.deref.ensures.value ∙ (c.in-Ok.ensures.text ∙ ap (λ (p : ℕ). dir_text p hash) looks.same.power)) (Some file))
    c.in-Err-read_stored.ensures.damaged

pub returns-in_default-dir_of-clause-calls : goal.returns-in_default-dir_of-clause-calls
returns-in_default-dir_of-clause-calls g c =
    let v = g.V.Volume in let k = c.args.self.now in let hash = c.args.hash.now in
    inr (
      listings_of (written hash k.journal.doubts),
      omega arith,
      settled-looks v.calls v.lists k c.settle_one.new.self hash c.in_default.field-0 c.in_default.ensures.one,
    )

pub returns-in-Err-clause-calls : goal.returns-in-Err-clause-calls
returns-in-Err-clause-calls g c =
    let v = g.V.Volume in let k = c.args.self.now in
    unsettled-calls v.calls v.lists k c.settle_one.new.self c.args.hash.now (Option Stored) c.in-Err.error c.fault_of_volume.result c.fault_of_volume.ensures
    c.in-Err.ensures.one

pub returns-in-Ok-read_stored-clause-briefs : goal.returns-in-Ok-read_stored-clause-briefs
returns-in-Ok-read_stored-clause-briefs g c added e =
    c.settle_one.ensures.briefs added (sym (ap (λ (x : Kept _). x.journal.entries) c.self.view_is) ∙ e)

pub returns-in-Ok-read_stored-clause-found : goal.returns-in-Ok-read_stored-clause-found
returns-in-Ok-read_stored-clause-found g c =
    let v = g.V.Volume in let i = c.self.inside in let k = c.args.self.now in let hash = c.args.hash.now in let file = c.args.file.now in
    let m : Kept _ = record { volume = i.volume; began = i.opening.value; secrets = i.secrets; power = i.power; journal = i.journal } in
    let looks : LooksAt v.tells v.holds v.faults (bytes_eq hash) k m =
    subst (λ (x : Kept _). LooksAt v.tells v.holds v.faults (bytes_eq hash) k x) (sym c.self.view_is) c.settle_one.ensures.looks in
    found-before v.tells v.holds v.faults k m looks hash c.deref.result.now (dir_text k.power hash)
    (c.deref.ensures.value ∙ (c.in-Ok.ensures.text ∙ ap (λ (p : ℕ). dir_text p hash) looks.same.power)) file
    (option_map (λ x. x.write) c.in-Ok-read_stored.found) c.in-Ok-read_stored.ensures.found

pub returns-in-Ok-read_stored-clause-calls : goal.returns-in-Ok-read_stored-clause-calls
returns-in-Ok-read_stored-clause-calls g c =
    let v = g.V.Volume in let i = c.self.inside in let k = c.args.self.now in let hash = c.args.hash.now in
    let m : Kept _ = record { volume = i.volume; began = i.opening.value; secrets = i.secrets; power = i.power; journal = i.journal } in
    let listings = listings_of (written hash k.journal.doubts) in
    let looks : Looks v.calls v.lists listings 0 k m =
    subst (λ (x : Kept _). Looks v.calls v.lists listings 0 k x) (sym c.self.view_is)
    (settled-looks v.calls v.lists k c.settle_one.new.self hash c.in_default.field-0 c.in_default.ensures.one) in
    read-looks v.calls v.lists k m hash c.read_stored.new.volume listings c.read_stored.ensures.calls c.read_stored.ensures.lists looks

pub returns-clause-calls : goal.returns-clause-calls
returns-clause-calls g c =
    let v = g.V.Volume in let i = c.self.inside in let k = c.args.self.now in let hash = c.args.hash.now in
    let m : Kept _ = record { volume = i.volume; began = i.opening.value; secrets = i.secrets; power = i.power; journal = i.journal } in
    let listings = listings_of (written hash k.journal.doubts) in
    let looks : Looks v.calls v.lists listings 0 k m =
    subst (λ (x : Kept _). Looks v.calls v.lists listings 0 k x) (sym c.self.view_is)
    (settled-looks v.calls v.lists k c.settle_one.new.self hash c.in_default.field-0 c.in_default.ensures.one) in
    refused-calls v.calls v.lists (Option Stored) k (record m { volume = c.read_stored.new.volume }) listings c.in-Err-read_stored.fault
    c.fault_of_read.result c.fault_of_read.ensures
    (read-looks v.calls v.lists k m hash c.read_stored.new.volume listings c.read_stored.ensures.calls c.read_stored.ensures.lists looks)

use Rattle.std.proofs.Common.{◌≡◌, ℕ, true, List, Option, Err, Result, refl, sym, ◌∙◌, ap, subst}
use Rattle.sw_cleanup.specs.Cleaning.{AreListedIn}
use Rattle.sw_hashdir.specs.Places.{dir_text}
use Rattle.sw_objdir.proofs.Looking.{looks-refl}
use Rattle.sw_objdir.proofs.PartReads.{cause-as, part-told}
use Rattle.sw_objdir.proofs.RowTelling.{base-step, none-called, none-step, own-looks, some-called, some-step}
use Rattle.sw_object_steps.specs.BaseRows.{IsBaseFor}
use Rattle.sw_objdir.specs.Directories.{IsDir, Kept, held}
use Rattle.sw_object_steps.specs.declared.dir_fault.DirFault.{DirFault}
use Rattle.sw_object_steps.specs.declared.dir_fault.DirFault.TheVariants as faulted
use Rattle.sw_rows.specs.declared.row.Row.{Row}
use Rattle.sw_volume.specs.Tree.{contents}
use Rattle.sw_volume.specs.declared.errors.VolumeError.{VolumeError}
use Rattle.sw_objdir.proofs.obj_dir.ObjDir.look_base.Goals as goal

pub returns-in_default-clause-read : goal.returns-in_default-clause-read
returns-in_default-clause-read g c =
    let v = g.V.Volume in let k = c.args.self.now in
    let dir : IsDir v.tells v.holds v.faults k = subst (λ (x : Kept _). IsDir v.tells v.holds v.faults x) c.self.view_is c.self.invariant in
    base-step v.tells v.holds v.faults v.calls v.lists k c.args.filed.now k (looks-refl v.tells v.holds v.faults k) dir (Err faulted.NoMemory) tt tt tt refl

pub returns-in-Err-clause-read : goal.returns-in-Err-clause-read
returns-in-Err-clause-read g c =
    let v = g.V.Volume in let k = c.args.self.now in let filed = c.args.filed.now in let e = c.in-Err.error in
    let r : Result (Option Row) VolumeError = Err e in
    part-told v.tells v.holds v.faults k c.list.new.self
    (own-looks v.tells v.holds v.faults v.calls v.lists k filed c.list.new.self c.list.ensures.looks) c.list.ensures.dir
    (λ told s got. told ≡ true → IsBaseFor filed (s filed.name.hash) got)
    r (Err c.fault_of_volume.result) (ap (λ (x : DirFault). let y : Result (Option Row) DirFault = Err x in y) c.fault_of_volume.ensures)
    (cause-as e c.in-Err.ensures.cause) tt (held v.tells v.holds v.faults c.list.new.self) (λ other. refl) tt

pub returns-in-Some-clause-read : goal.returns-in-Some-clause-read
returns-in-Some-clause-read g c =
    let v = g.V.Volume in let k = c.args.self.now in let filed = c.args.filed.now in let seen = c.in-Ok-list.seen in
    let dir : IsDir v.tells v.holds v.faults k = subst (λ (x : Kept _). IsDir v.tells v.holds v.faults x) c.self.view_is c.self.invariant in
    let path_is : c.in-Ok.dir.items ≡ dir_text k.power filed.name.hash =
    c.in-Ok.ensures.text ∙ ap (λ (x : Kept _). dir_text x.power filed.name.hash) c.self.view_is in
    let names : v.tells k.volume ≡ true → AreListedIn (contents (v.holds k.volume)) (dir_text k.power filed.name.hash) seen.names.items =
    λ told. subst (λ (d : List ℕ). AreListedIn (contents (v.holds k.volume)) d seen.names.items) (c.deref.ensures.value ∙ path_is)
    (c.in-Ok-list.ensures.names told) in
    some-step v.tells v.holds v.faults v.calls v.lists k filed dir c.list.new.self c.list.ensures.looks c.list.ensures.dir seen.names.items seen.picked
    seen.outline names c.in-Ok-list.ensures.picked c.in-Ok-list.ensures.shape c.in-Ok-list.ensures.outline c.in-Ok-list.ensures.settles
    c.in-Ok-list.ensures.settled c.in-Ok-list.ensures.cause.kept c.list.ensures.calls c.list.ensures.lists
    c.in-Some.file (sym c.base_to_tell.ensures ∙ c.in-Some.is) c.row_at.new.self c.row_at.ensures.dir c.row_at.ensures.looks c.row_at.ensures.journal
    c.row_at.result c.row_at.ensures.row c.row_at.ensures.damaged c.row_at.ensures.cause

pub returns-in-Some-clause-calls : goal.returns-in-Some-clause-calls
returns-in-Some-clause-calls g c =
    let v = g.V.Volume in let k = c.args.self.now in let filed = c.args.filed.now in let seen = c.in-Ok-list.seen in
    let dir : IsDir v.tells v.holds v.faults k = subst (λ (x : Kept _). IsDir v.tells v.holds v.faults x) c.self.view_is c.self.invariant in
    let path_is : c.in-Ok.dir.items ≡ dir_text k.power filed.name.hash =
    c.in-Ok.ensures.text ∙ ap (λ (x : Kept _). dir_text x.power filed.name.hash) c.self.view_is in
    let names : v.tells k.volume ≡ true → AreListedIn (contents (v.holds k.volume)) (dir_text k.power filed.name.hash) seen.names.items =
    λ told. subst (λ (d : List ℕ). AreListedIn (contents (v.holds k.volume)) d seen.names.items) (c.deref.ensures.value ∙ path_is)
    (c.in-Ok-list.ensures.names told) in
    some-called v.tells v.holds v.faults v.calls v.lists k filed dir c.list.new.self c.list.ensures.looks c.list.ensures.dir seen.names.items seen.picked
    seen.outline names c.in-Ok-list.ensures.picked c.in-Ok-list.ensures.shape c.in-Ok-list.ensures.outline c.in-Ok-list.ensures.settles
    c.in-Ok-list.ensures.settled c.in-Ok-list.ensures.cause.kept c.list.ensures.calls c.list.ensures.lists
    c.in-Some.file (sym c.base_to_tell.ensures ∙ c.in-Some.is) c.row_at.new.self c.row_at.ensures.dir c.row_at.ensures.looks c.row_at.ensures.journal
    c.deref-in-Some.result.now (c.deref-in-Some.ensures.value ∙ path_is)
    c.row_at.result c.row_at.ensures.shown c.row_at.ensures.damage c.row_at.ensures.asked c.row_at.ensures.calls

pub returns-clause-read : goal.returns-clause-read
returns-clause-read g c =
    let v = g.V.Volume in let k = c.args.self.now in let filed = c.args.filed.now in let seen = c.in-Ok-list.seen in
    let dir : IsDir v.tells v.holds v.faults k = subst (λ (x : Kept _). IsDir v.tells v.holds v.faults x) c.self.view_is c.self.invariant in
    let path_is : c.in-Ok.dir.items ≡ dir_text k.power filed.name.hash =
    c.in-Ok.ensures.text ∙ ap (λ (x : Kept _). dir_text x.power filed.name.hash) c.self.view_is in
    let names : v.tells k.volume ≡ true → AreListedIn (contents (v.holds k.volume)) (dir_text k.power filed.name.hash) seen.names.items =
    λ told. subst (λ (d : List ℕ). AreListedIn (contents (v.holds k.volume)) d seen.names.items) (c.deref.ensures.value ∙ path_is)
    (c.in-Ok-list.ensures.names told) in
    none-step v.tells v.holds v.faults v.calls v.lists k filed dir c.list.new.self c.list.ensures.looks c.list.ensures.dir seen.names.items seen.picked
    seen.outline names c.in-Ok-list.ensures.picked c.in-Ok-list.ensures.shape c.in-Ok-list.ensures.outline c.in-Ok-list.ensures.settles
    c.in-Ok-list.ensures.settled c.in-Ok-list.ensures.cause.kept c.list.ensures.calls c.list.ensures.lists (sym c.base_to_tell.ensures ∙ c.in-None.is)

pub returns-clause-calls : goal.returns-clause-calls
returns-clause-calls g c =
    let v = g.V.Volume in let k = c.args.self.now in let filed = c.args.filed.now in let seen = c.in-Ok-list.seen in
    let dir : IsDir v.tells v.holds v.faults k = subst (λ (x : Kept _). IsDir v.tells v.holds v.faults x) c.self.view_is c.self.invariant in
    let path_is : c.in-Ok.dir.items ≡ dir_text k.power filed.name.hash =
    c.in-Ok.ensures.text ∙ ap (λ (x : Kept _). dir_text x.power filed.name.hash) c.self.view_is in
    let names : v.tells k.volume ≡ true → AreListedIn (contents (v.holds k.volume)) (dir_text k.power filed.name.hash) seen.names.items =
    λ told. subst (λ (d : List ℕ). AreListedIn (contents (v.holds k.volume)) d seen.names.items) (c.deref.ensures.value ∙ path_is)
    (c.in-Ok-list.ensures.names told) in
    none-called v.tells v.holds v.faults v.calls v.lists k filed dir c.list.new.self c.list.ensures.looks c.list.ensures.dir seen.names.items seen.picked
    seen.outline names c.in-Ok-list.ensures.picked c.in-Ok-list.ensures.shape c.in-Ok-list.ensures.outline c.in-Ok-list.ensures.settles
    c.in-Ok-list.ensures.settled c.in-Ok-list.ensures.cause.kept c.list.ensures.calls c.list.ensures.lists (sym c.base_to_tell.ensures ∙ c.in-None.is)

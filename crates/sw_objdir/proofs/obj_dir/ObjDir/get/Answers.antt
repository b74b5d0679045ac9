use Rattle.std.proofs.Common.{◌≡◌, ℕ, List, true, [], subst, sym, ap, ◌∙◌, arith, inl, inr}
use Rattle.std.specs.Str.{bytes_eq}
use Rattle.sw_cleanup.specs.Cleaning.{AreListedIn}
use Rattle.sw_hashdir.specs.Steps.{IsOurs}
use Rattle.sw_object_steps.specs.Outlines.{picked_outline}
use Rattle.sw_hashdir.specs.Places.{dir_text, is_place}
use Rattle.sw_journal.specs.Settling.{SettlesFirst}
use Rattle.sw_objdir.proofs.Looking.{dir-moved, looks-refl}
use Rattle.sw_objdir.proofs.Reading.{read-called, read-step, unread}
use Rattle.sw_objdir.specs.Directories.{IsDir, Kept}
use Rattle.sw_objdir.specs.Stepping.{LooksAt}
use Rattle.sw_object_steps.specs.Journals.{written}
use Rattle.sw_object_steps.specs.declared.got.Got.TheVariants as gots
use Rattle.sw_object_steps.specs.declared.outline.Outline.{Outline}
use Rattle.sw_volume.specs.Tree.{contents}
use Rattle.sw_objdir.proofs.obj_dir.ObjDir.get.Goals as goal

pub invariant_of-self : goal.invariant_of-self
invariant_of-self g c =
    let v = g.V.Volume in let j = c.self-2.inside in
    let m : Kept _ =
    record { volume = j.volume; began = j.opening.value; secrets = j.secrets; power = j.power; journal = j.journal } in
    dir-moved v.tells v.holds v.faults m c.show.new.volume c.self-2.invariant c.show.ensures.told c.show.ensures.same

pub returns-in-Ok-list-clause-read : goal.returns-in-Ok-list-clause-read
returns-in-Ok-list-clause-read g c =
    let v = g.V.Volume in let j = c.self-2.inside in let k = c.args.self.now in
    let m : Kept _ =
    record { volume = j.volume; began = j.opening.value; secrets = j.secrets; power = j.power; journal = j.journal } in
    let name = c.args.name.now in let seen = c.in-Ok-list.seen in let path = c.deref-in-Ok-list.result.now in
    let looks : LooksAt v.tells v.holds v.faults (λ key. bytes_eq key name.hash) k m =
    subst (λ (x : Kept _). LooksAt v.tells v.holds v.faults (λ key. bytes_eq key name.hash) k x) (sym c.self-2.view_is) c.list.ensures.looks in
    let path_is : path ≡ dir_text k.power name.hash =
    c.deref-in-Ok-list.ensures.value ∙ (c.in-Ok.ensures.text ∙ ap (λ (x : Kept _). dir_text x.power name.hash) c.self.view_is) in
    let are : v.tells k.volume ≡ true → AreListedIn (contents (v.holds k.volume)) path seen.names.items =
    subst (λ (p : List ℕ). v.tells k.volume ≡ true → AreListedIn (contents (v.holds k.volume)) p seen.names.items)
    (c.deref.ensures.value ∙ sym c.deref-in-Ok-list.ensures.value) c.in-Ok-list.ensures.names in
    let settled : written name.hash m.journal.doubts ≡ [] =
    subst (λ (x : Kept _). written name.hash x.journal.doubts ≡ []) (sym c.self-2.view_is) c.in-Ok-list.ensures.settled in
    let ours : IsOurs k.secrets k.power name = record {
      place = subst (λ (x : Kept _). is_place x.power name.hash ≡ true) c.self.view_is c.in-Ok.ensures.place;
      hashed = c.requires.hashed.hashed;
      good = c.requires.hashed.good;
    } in
    read-step v.tells v.holds v.faults k m name looks c.self-2.invariant path seen.names.items seen.picked ours path_is are
    c.in-Ok-list.ensures.picked settled c.front.result c.front.ensures.length
    (ap (λ (x : Kept _). v.faults x.volume) c.self-2.view_is ∙ c.in-Ok-list.ensures.cause.kept)
    c.show.new.volume c.show.ensures.told c.show.ensures.same c.show.ensures.later
    c.show.result c.show.ensures.shown c.show.ensures.at c.show.ensures.disorder c.show.ensures.cause

pub returns-in-Ok-list-clause-called : goal.returns-in-Ok-list-clause-called
returns-in-Ok-list-clause-called g c =
    let v = g.V.Volume in let j = c.self-2.inside in let k = c.args.self.now in
    let m : Kept _ =
    record { volume = j.volume; began = j.opening.value; secrets = j.secrets; power = j.power; journal = j.journal } in
    let name = c.args.name.now in let seen = c.in-Ok-list.seen in let path = c.deref-in-Ok-list.result.now in
    let looks : LooksAt v.tells v.holds v.faults (λ key. bytes_eq key name.hash) k m =
    subst (λ (x : Kept _). LooksAt v.tells v.holds v.faults (λ key. bytes_eq key name.hash) k x) (sym c.self-2.view_is) c.list.ensures.looks in
    let path_is : path ≡ dir_text k.power name.hash =
    c.deref-in-Ok-list.ensures.value ∙ (c.in-Ok.ensures.text ∙ ap (λ (x : Kept _). dir_text x.power name.hash) c.self.view_is) in
    let are : v.tells k.volume ≡ true → AreListedIn (contents (v.holds k.volume)) path seen.names.items =
    subst (λ (p : List ℕ). v.tells k.volume ≡ true → AreListedIn (contents (v.holds k.volume)) p seen.names.items)
    (c.deref.ensures.value ∙ sym c.deref-in-Ok-list.ensures.value) c.in-Ok-list.ensures.names in
    let settles : SettlesFirst name.hash (picked_outline seen.picked) k.journal m.journal =
    subst (λ (x : Kept _). SettlesFirst name.hash (picked_outline seen.picked) k.journal x.journal) (sym c.self-2.view_is)
    (subst (λ (o : Outline). SettlesFirst name.hash o k.journal c.list.new.self.journal) c.in-Ok-list.ensures.shape c.in-Ok-list.ensures.settles) in
    read-called v.tells v.holds v.faults v.calls v.lists k m looks name path seen.names.items seen.picked path_is are
    c.in-Ok-list.ensures.picked (ap (λ (x : Kept _). v.faults x.volume) c.self-2.view_is ∙ c.in-Ok-list.ensures.cause.kept)
    (ap (λ (x : Kept _). v.calls x.volume) c.self-2.view_is ∙ c.list.ensures.calls)
    (ap (λ (x : Kept _). v.lists x.volume) c.self-2.view_is ∙ c.list.ensures.lists)
    settles c.show.new.volume c.show.ensures.same c.show.ensures.lists c.front.result c.front.ensures.length
    c.show.result c.show.ensures.calls c.show.ensures.cause c.show.ensures.read c.show.ensures.damaged

pub returns-in-Err-Failed-clause-read : goal.returns-in-Err-Failed-clause-read
returns-in-Err-Failed-clause-read g c =
    let v = g.V.Volume in let k = c.args.self.now in let m = c.list.new.self in
    let after : IsDir v.tells v.holds v.faults m = subst (λ (x : Kept _). IsDir v.tells v.holds v.faults x) c.self-2.view_is c.self-2.invariant in
    unread v.tells v.holds v.faults k m c.args.name.now c.list.ensures.looks after gots.Failed (λ is. cc) tt
    (λ is. (rw c.in-Err-Failed.field-0-is at c.in-Err-Failed.ensures.cause).risen)

pub returns-clause-read : goal.returns-clause-read
returns-clause-read g c =
    let v = g.V.Volume in let k = c.args.self.now in let m = c.list.new.self in
    let after : IsDir v.tells v.holds v.faults m = subst (λ (x : Kept _). IsDir v.tells v.holds v.faults x) c.self-2.view_is c.self-2.invariant in
    unread v.tells v.holds v.faults k m c.args.name.now c.list.ensures.looks after gots.NoMemory (λ is. cc) tt (λ is. cc)

pub returns-clause-called : goal.returns-clause-called
returns-clause-called g c = record {
  same = c.list.ensures.looks.still;
  failed = (rw c.in-Err-NoMemory.field-0-is at c.in-Err-NoMemory.ensures.cause).memory;
  called = inr (0, omega arith, c.list.ensures.calls, c.list.ensures.lists);
  journal = inl c.in-Err-NoMemory.ensures.unsettled;
}

pub returns-in_default-clause-read : goal.returns-in_default-clause-read
returns-in_default-clause-read g c =
    let v = g.V.Volume in let k = c.args.self.now in
    let dir : IsDir v.tells v.holds v.faults k = subst (λ (x : Kept _). IsDir v.tells v.holds v.faults x) c.self.view_is c.self.invariant in
    unread v.tells v.holds v.faults k k c.args.name.now (looks-refl v.tells v.holds v.faults k) dir gots.NoMemory (λ is. cc) tt (λ is. cc)

use Rattle.std.proofs.Common.{◌≡◌, List, [], ◌∷◌, ◌++◌, Some, refl, sym, subst, inl, inr, length}
use Rattle.sw_cleanup.specs.Cleaning.{obsolete_of}
use Rattle.sw_diskfile.specs.FileNames.{name_text}
use Rattle.sw_diskfile.specs.StateFiles.{name_of}
use Rattle.sw_diskfile.specs.declared.file_name.FileName.{FileName}
use Rattle.sw_hashdir.specs.Steps.{JoinsAll, MayJoin, Writes}
use Rattle.sw_metafile.specs.Texts.{file_text}
use Rattle.sw_objdir.proofs.Looking.{dir-moved, looks-moved}
use Rattle.sw_objdir.proofs.Making.{MayMake, confirmed, doubts-as, in-doubt, last-write, puts-as, withdrawn}
use Rattle.sw_objdir.specs.Directories.{Kept}
use Rattle.sw_objdir.specs.Writing.{DoubtsFile, PutsFile}
use Rattle.sw_object_steps.specs.Recorded.{filed_entries}
use Rattle.sw_object_steps.specs.declared.entry.ObjEntry.{ObjEntry}
use Rattle.sw_outside.specs.Counts.{raised}
use Rattle.sw_state.specs.declared.write.Write.{Write}
use Rattle.sw_volume.specs.Tree.{contents}
use Rattle.sw_volume.specs.Volume.{MaySet, raised_by}
use Rattle.sw_objdir.proofs.obj_dir.ObjDir.put_write.Given.{Over}
use Rattle.sw_objdir.proofs.obj_dir.ObjDir.put_write.Goals as goal

-- its file was put
made : (g : Over) (c : goal.After-confirm_filed g)
    → PutsFile g.V.Volume.tells g.V.Volume.holds g.V.Volume.faults g.V.Volume.calls g.V.Volume.lists
    (record {
      volume = c.self.inside.volume;
      began = c.self.inside.opening.value;
      secrets = c.self.inside.secrets;
      power = c.self.inside.power;
      journal = c.self.inside.journal;
    })
    c.args.name.now c.args.write c.args.records c.args.seen.now.names.items
    (record {
      volume = c.write_file.new.volume;
      began = c.self.inside.opening.value;
      secrets = c.self.inside.secrets;
      power = c.self.inside.power;
      journal = c.confirm_filed.new.self;
    })
made g c =
    let v = g.V.Volume in let i = c.self.inside in
    let k : Kept _ = record { volume = i.volume; began = i.opening.value; secrets = i.secrets; power = i.power; journal = i.journal } in
    let name = c.args.name.now in let w = c.args.write in let path = c.args.dir.now in let names = c.args.seen.now.names.items in
    let o = c.args.seen.now.outline in
    let u = c.write_file.new.volume in
    let may_make : MayMake v.tells v.holds v.faults k name w path names o =
    subst (λ (x : Kept _). MayMake v.tells v.holds v.faults x name w path names o) (sym c.self.view_is) (record {
      settled = c.requires.settled;
      ours = c.requires.ours;
      path_is = c.requires.dir;
      are = c.requires.names;
      stood = c.requires.stood;
    }) in
    let filed : (before : List ObjEntry) × (k.journal.entries ≡ before ++ filed_entries name.hash c.args.records) =
    subst (λ (x : Kept _). (before : List ObjEntry) × (x.journal.entries ≡ before ++ filed_entries name.hash c.args.records)) (sym c.self.view_is)
    c.requires.filed in
    let doubted = c.in_ok-doubt.ensures.ok in
    let write_is : c.last_doubted-write.result.now ≡ w = c.last_doubted-write.ensures k.journal.doubts name w []
    (last-write k.journal c.doubt.new.self c.in_ok-entry.entry name w doubted c.in_ok-entry.ensures) in
    puts-as v.tells v.holds v.faults k c.self.invariant name w path names o may_make v.calls v.lists u c.write_file.ensures.told
    c.write_file.ensures.later c.write_file.ensures.lists c.args.records filed.0 filed.1
    (λ told. subst (λ (x : Write). Writes (v.holds k.volume) (v.holds u) path names name x (v.faults k.volume) (v.faults u)) write_is
    (subst (λ (fs : List FileName). Writes (v.holds k.volume) (v.holds u) path fs name c.last_doubted-write.result.now
    (v.faults k.volume) (v.faults u)) c.deref.ensures.value (c.in-Ok.ensures.ok told)))
    (λ told. subst (λ (x : Write). JoinsAll (v.holds k.volume) (v.holds u) path names name x) write_is
    (subst (λ (fs : List FileName). JoinsAll (v.holds k.volume) (v.holds u) path fs name c.last_doubted-write.result.now)
    c.deref.ensures.value (c.in-Ok.ensures.joins told)))
    (subst (λ (x : Write). v.calls u ≡ raised_by (length (obsolete_of (names ++ name_of x ∷ []))) (raised (v.calls k.volume))) write_is
    (subst (λ (fs : List FileName). v.calls u ≡ raised_by (length (obsolete_of (fs ++ name_of c.last_doubted-write.result.now ∷ [])))
    (raised (v.calls k.volume))) c.deref.ensures.value c.in-Ok.ensures.calls))
    c.confirm_filed.new.self
    (λ before entries. confirmed k.journal c.doubt.new.self c.in_ok-entry.entry name w doubted c.in_ok-entry.ensures c.args.records before entries
    c.confirm_filed.new.self c.confirm_filed.ensures)

pub invariant_of-self-in-Ok : goal.invariant_of-self-in-Ok
invariant_of-self-in-Ok g c = (made g c).dir

pub returns-in-Ok : goal.returns-in-Ok
returns-in-Ok g c = rw (sym c.self.view_is) (made g c)

-- or may have been
unsure : (g : Over) (c : goal.After-drop-records-inside-in-Err-Failed g)
    → DoubtsFile g.V.Volume.tells g.V.Volume.holds g.V.Volume.faults g.V.Volume.calls g.V.Volume.lists
    (record {
      volume = c.self.inside.volume;
      began = c.self.inside.opening.value;
      secrets = c.self.inside.secrets;
      power = c.self.inside.power;
      journal = c.self.inside.journal;
    })
    c.args.name.now c.args.write
    (record {
      volume = c.write_file.new.volume;
      began = c.self.inside.opening.value;
      secrets = c.self.inside.secrets;
      power = c.self.inside.power;
      journal = c.doubt.new.self;
    })
unsure g c =
    let v = g.V.Volume in let i = c.self.inside in
    let k : Kept _ = record { volume = i.volume; began = i.opening.value; secrets = i.secrets; power = i.power; journal = i.journal } in
    let name = c.args.name.now in let w = c.args.write in let path = c.args.dir.now in let names = c.args.seen.now.names.items in
    let o = c.args.seen.now.outline in
    let u = c.write_file.new.volume in
    let may_make : MayMake v.tells v.holds v.faults k name w path names o =
    subst (λ (x : Kept _). MayMake v.tells v.holds v.faults x name w path names o) (sym c.self.view_is) (record {
      settled = c.requires.settled;
      ours = c.requires.ours;
      path_is = c.requires.dir;
      are = c.requires.names;
      stood = c.requires.stood;
    }) in
    let doubted = c.in_ok-doubt.ensures.ok in
    let write_is : c.last_doubted-write.result.now ≡ w = c.last_doubted-write.ensures k.journal.doubts name w []
    (last-write k.journal c.doubt.new.self c.in_ok-entry.entry name w doubted c.in_ok-entry.ensures) in
    doubts-as v.tells v.holds v.faults k c.self.invariant name w path names o may_make v.calls v.lists u c.write_file.ensures.told
    c.write_file.ensures.later c.write_file.ensures.lists
    (λ told. subst (λ (x : Write). MaySet (contents (v.holds k.volume)) (contents (v.holds u)) path (name_text (name_of x))
    (Some (file_text name.account name.container name.object x))) write_is
    ((rw c.in-Err-Failed.field-0-is at c.in-Err-Failed.ensures.failed) told))
    (λ told. subst (λ (x : Write). MayJoin (v.holds k.volume) (v.holds u) path names name x) write_is
    (subst (λ (fs : List FileName). MayJoin (v.holds k.volume) (v.holds u) path fs name c.last_doubted-write.result.now)
    c.deref.ensures.value ((rw c.in-Err-Failed.field-0-is at c.in-Err-Failed.ensures.may_join) told)))
    (rw c.in-Err-Failed.field-0-is at c.in-Err-Failed.ensures.failed_first) (rw c.in-Err-Failed.field-0-is at c.in-Err-Failed.ensures.once)
    (rw c.in-Err-Failed.field-0-is at c.in-Err-Failed.ensures.risen) c.doubt.new.self
    (in-doubt k.journal c.doubt.new.self c.in_ok-entry.entry name w doubted c.in_ok-entry.ensures)

pub invariant_of-self-in-Err-Failed : goal.invariant_of-self-in-Err-Failed
invariant_of-self-in-Err-Failed g c = (unsure g c).dir

pub returns-in-Err-Failed : goal.returns-in-Err-Failed
returns-in-Err-Failed g c = rw (sym c.self.view_is) (unsure g c)

pub invariant_of-self-in-Err-NoMemory : goal.invariant_of-self-in-Err-NoMemory
invariant_of-self-in-Err-NoMemory g c =
    let v = g.V.Volume in let i = c.self.inside in
    let k : Kept _ = record { volume = i.volume; began = i.opening.value; secrets = i.secrets; power = i.power; journal = i.journal } in
    let back : c.withdraw.new.self ≡ k.journal = withdrawn k.journal c.doubt.new.self c.in_ok-entry.entry c.args.name.now c.args.write
    c.in_ok-doubt.ensures.ok c.in_ok-entry.ensures c.withdraw.new.self c.withdraw.ensures in
    rw back (dir-moved v.tells v.holds v.faults k c.write_file.new.volume c.self.invariant c.write_file.ensures.told
    (rw c.in-Err-NoMemory.field-0-is at c.in-Err-NoMemory.ensures.no_memory))

pub returns : goal.returns
returns g c =
    let v = g.V.Volume in let i = c.self.inside in
    let k : Kept _ = record { volume = i.volume; began = i.opening.value; secrets = i.secrets; power = i.power; journal = i.journal } in
    let back : c.withdraw.new.self ≡ k.journal = withdrawn k.journal c.doubt.new.self c.in_ok-entry.entry c.args.name.now c.args.write
    c.in_ok-doubt.ensures.ok c.in_ok-entry.ensures c.withdraw.new.self c.withdraw.ensures in
    let still = rw c.in-Err-NoMemory.field-0-is at c.in-Err-NoMemory.ensures.no_memory in
    let fine = rw c.in-Err-NoMemory.field-0-is at c.in-Err-NoMemory.ensures.kept in
    rw (sym c.self.view_is, back) (record {
      dir = dir-moved v.tells v.holds v.faults k c.write_file.new.volume c.self.invariant c.write_file.ensures.told still;
      looks = looks-moved v.tells v.holds v.faults k c.write_file.new.volume c.write_file.ensures.told still c.write_file.ensures.later;
      counts = elim (rw c.in-Err-NoMemory.field-0-is at c.in-Err-NoMemory.ensures.wanted_first) [
        | inl none ↦ inl (record { called = none; listed = c.write_file.ensures.lists; failed = fine })
        | inr one ↦ inr (record { called = one; listed = c.write_file.ensures.lists; failed = fine })
      ];
      kept = refl;
    })

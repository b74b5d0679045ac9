use Rattle.std.proofs.Common.{◌≡◌, Err, sym, subst}
use Rattle.sw_journal.specs.Settling.{SettlesFirstRecord}
use Rattle.sw_object_steps.proofs.Hashes.{hash-self}
use Rattle.sw_objdir.proofs.Looking.{dir-moved}
use Rattle.sw_objdir.proofs.RecordFinding.{dir-found, finds-as, finds-not}
use Rattle.sw_objdir.specs.Directories.{Kept}
use Rattle.sw_objdir.specs.Recording.{Finds}
use Rattle.sw_pending.specs.Records.{key_of}
use Rattle.sw_objdir.proofs.obj_dir.ObjDir.read_key.Goals as goal

pub invariant_of-self : goal.invariant_of-self
invariant_of-self g c =
    let v = g.V.Volume in let i = c.self.inside in
    let k : Kept _ = record { volume = i.volume; began = i.opening.value; secrets = i.secrets; power = i.power; journal = i.journal } in
    let filed = c.requires.own.0 in let read = c.read_record.ensures in
    let key : c.args.key.now ≡ key_of filed = sym c.requires.own.1 in
    let ok = rw key at c.in-Ok.ensures in
    let settles : SettlesFirstRecord (key_of filed) c.in-Ok.stood i.journal c.settle_record.new.self =
    rw (key, c.as_ref.ensures.value) at c.settle_record.ensures in
    dir-found v.tells v.holds v.faults v.calls v.lists k c.self.invariant filed.name filed (hash-self filed.name.hash) c.read_record.new.volume
    read.told read.same read.later read.calls read.lists ok.kept c.in-Ok.stood ok.found ok.value ok.keyed ok.sound c.settle_record.new.self settles

pub invariant_of-self-in-Err : goal.invariant_of-self-in-Err
invariant_of-self-in-Err g c =
    let v = g.V.Volume in let i = c.self.inside in
    let k : Kept _ = record { volume = i.volume; began = i.opening.value; secrets = i.secrets; power = i.power; journal = i.journal } in
    dir-moved v.tells v.holds v.faults k c.read_record.new.volume c.self.invariant c.read_record.ensures.told c.read_record.ensures.same

pub returns-in-Ok : goal.returns-in-Ok
returns-in-Ok g c filed own =
    let v = g.V.Volume in let i = c.self.inside in
    let k : Kept _ = record { volume = i.volume; began = i.opening.value; secrets = i.secrets; power = i.power; journal = i.journal } in
    let read = c.read_record.ensures in
    let key : c.args.key.now ≡ key_of filed = sym own in
    let ok = rw key at c.in-Ok.ensures in
    let settles : SettlesFirstRecord (key_of filed) c.in-Ok.stood i.journal c.settle_record.new.self =
    rw (key, c.as_ref.ensures.value) at c.settle_record.ensures in
    rw (sym c.self.view_is)
    (finds-as v.tells v.holds v.faults v.calls v.lists k c.self.invariant filed.name filed (hash-self filed.name.hash) c.read_record.new.volume read.told
    read.same read.later read.calls read.lists ok.kept c.in-Ok.stood ok.found ok.value ok.keyed ok.sound c.settle_record.new.self settles)

pub returns-in-Err : goal.returns-in-Err
returns-in-Err g c filed own =
    let v = g.V.Volume in let i = c.self.inside in
    let k : Kept _ = record { volume = i.volume; began = i.opening.value; secrets = i.secrets; power = i.power; journal = i.journal } in
    let read = c.read_record.ensures in
    let key : c.args.key.now ≡ key_of filed = sym own in
    let err = rw key at c.in-Err.ensures in
    let n : Kept _ = record k { volume = c.read_record.new.volume } in
    subst (λ (x : Kept _). Finds v.tells v.holds v.faults v.calls v.lists x filed.name filed (Err c.in-Err.fault) n) c.self.view_is
    (finds-not v.tells v.holds v.faults v.calls v.lists k c.self.invariant filed.name filed (hash-self filed.name.hash) c.read_record.new.volume read.told
    read.same read.later read.calls read.lists c.in-Err.fault err.damaged err.disorder err.starved err.failed err.kept)

use Rattle.std.proofs.Common.{◌≡◌, None, Some, arith, refl, sym, ◌∙◌, ap, subst, nat_lt, length, ◌++◌}
use Rattle.std.specs.Option.{option_map}
use Rattle.sw_journal.specs.Entries.{first_about}
use Rattle.sw_objdir.proofs.Doubts.{briefs-none, briefs-told}
use Rattle.sw_objdir.proofs.FilingSettling.{first-doubted, none-doubted, read-looks, read-settles, read-writes, settling}
use Rattle.sw_objdir.proofs.RecordTelling.{finds-came}
use Rattle.sw_objdir.specs.Directories.{Kept}
use Rattle.sw_objdir.specs.Filings.{first_key}
use Rattle.sw_objdir.specs.Stepping.{told_of}
use Rattle.sw_object_steps.proofs.Hashes.{hash-self}
use Rattle.sw_object_steps.specs.Briefs.{brief_of}
use Rattle.sw_pending.specs.Records.{key_of}
use Rattle.sw_pending.specs.declared.key.RecordKey.{RecordKey}
use Rattle.sw_objdir.proofs.obj_dir.ObjDir.settle_record.Goals.{in-Ok-read, in-Err}
use Rattle.sw_objdir.proofs.obj_dir.ObjDir.settle_record.Goals as goal

pub returns-in_default-clause-briefs : goal.returns-in_default-clause-briefs
returns-in_default-clause-briefs g c =
    let j = c.args.self.now.journal in briefs-none j.entries j.entries c.args.settled.now.items c.args.settled.now.items refl refl

pub returns-in_default-clause-one : goal.returns-in_default-clause-one
returns-in_default-clause-one g c =
    let k = c.args.self.now in
    let none : first_key k.journal.doubts ≡ None =
    subst (λ (x : Kept _). first_key x.journal.doubts ≡ None) c.self.view_is (sym c.doubted_key.ensures ∙ c.in_default.is) in
    record { none = none-doubted k.journal.doubts none; same = refl }

pub returns-in_default-doubt_ready-clause-briefs : goal.returns-in_default-doubt_ready-clause-briefs
returns-in_default-doubt_ready-clause-briefs g c =
    let j = c.args.self.now.journal in
    briefs-none j.entries j.entries c.args.settled.now.items c.doubt_ready.new.settled.items refl c.doubt_ready.ensures.kept

pub returns-in_default-doubt_ready-clause-one : goal.returns-in_default-doubt_ready-clause-one
returns-in_default-doubt_ready-clause-one g c =
    let k = c.args.self.now in
    let first : first_key k.journal.doubts ≡ Some c.in-Some.key =
    subst (λ (x : Kept _). first_key x.journal.doubts ≡ Some c.in-Some.key) c.self.view_is (sym c.doubted_key.ensures ∙ c.in-Some.is) in
    record {
      doubted = (first-doubted k.journal.doubts c.in-Some.key first).some;
      count = 0;
      made = omega arith;
      within = omega arith;
      counts = record { called = refl; listed = refl; failed = refl };
      sound = tt;
    }

pub read_key-read-requires : goal.read_key-read-requires
read_key-read-requires g c =
    let i = c.self.inside in
    let is = first-doubted i.journal.doubts c.in-Some.key (sym c.doubted_key.ensures ∙ c.in-Some.is) in
    record { own = (is.filed, is.keyed) }

pub returns-clause-dir : goal.returns-clause-dir
returns-clause-dir g c =
    let v = g.V.Volume in let i = c.self.inside in
    let is = first-doubted i.journal.doubts c.in-Some.key (sym c.doubted_key.ensures ∙ c.in-Some.is) in
    (read-looks v.tells v.holds v.faults v.calls v.lists c.args.self.now c.read_key-read.new.self is.filed c.read_key-read.result
    (c.read_key-read.ensures is.filed is.keyed)).dir

pub returns-clause-looks : goal.returns-clause-looks
returns-clause-looks g c =
    let v = g.V.Volume in let i = c.self.inside in
    let is = first-doubted i.journal.doubts c.in-Some.key (sym c.doubted_key.ensures ∙ c.in-Some.is) in
    (read-looks v.tells v.holds v.faults v.calls v.lists c.args.self.now c.read_key-read.new.self is.filed c.read_key-read.result
    (c.read_key-read.ensures is.filed is.keyed)).looks

pub returns-clause-briefs : goal.returns-clause-briefs
returns-clause-briefs g c =
    let v = g.V.Volume in let i = c.self.inside in
    let k = c.args.self.now in let n = c.read_key-read.new.self in
    let is = first-doubted i.journal.doubts c.in-Some.key (sym c.doubted_key.ensures ∙ c.in-Some.is) in
    let doubt = c.doubted_record-doubt.ensures
    ∙ (ap (λ (x : RecordKey). first_about x i.journal.doubts) (sym is.keyed)
    ∙ ap (λ (x : Kept _). first_about (key_of is.filed) x.journal.doubts) c.self.view_is) in
    let more = ap (λ from. nat_lt from c.front.result) c.front-front.ensures.length ∙ ap (nat_lt (length k.journal.entries)) c.front.ensures.length in
    briefs-told (first_about (key_of is.filed) k.journal.doubts) k.journal.entries n.journal.entries c.args.settled.now.items c.tell.new.settled.items
    c.in-Ok.brief (nat_lt c.front-front.result c.front.result)
    (finds-came v.tells v.holds v.faults v.calls v.lists k is.filed.name is.filed (hash-self is.filed.name.hash) c.read_key-read.result n
    (c.read_key-read.ensures is.filed is.keyed))
    (c.in-Ok.ensures.brief ∙ ap (option_map brief_of) doubt) more
    (c.tell.ensures ∙ ap (λ l. l ++ told_of c.in-Ok.brief (nat_lt c.front-front.result c.front.result)) c.in-Ok.ensures.kept)

pub returns-clause-one : goal.returns-clause-one
returns-clause-one g c =
    let v = g.V.Volume in let k = c.args.self.now in let n = c.read_key-read.new.self in
    let first : first_key k.journal.doubts ≡ Some c.in-Some.key =
    subst (λ (x : Kept _). first_key x.journal.doubts ≡ Some c.in-Some.key) c.self.view_is (sym c.doubted_key.ensures ∙ c.in-Some.is) in
    let is = first-doubted k.journal.doubts c.in-Some.key first in
    let told : c.match-read.result ≡ settling c.read_key-read.result = elim c.match-read.branch [
      | in-Ok-read w ↦ w.result-is ∙ ap settling (sym w.in-Ok-read.is)
      | in-Err w ↦ w.result-is ∙ ap settling (sym w.in-Err.is)
    ] in
    rw told
    (read-settles v.tells v.holds v.faults v.calls v.lists k n is.filed (rw (sym is.keyed) at is.about) is.some c.read_key-read.result
    (c.read_key-read.ensures is.filed is.keyed))

pub returns-clause-writes : goal.returns-clause-writes
returns-clause-writes g c hash =
    let v = g.V.Volume in let i = c.self.inside in
    let is = first-doubted i.journal.doubts c.in-Some.key (sym c.doubted_key.ensures ∙ c.in-Some.is) in
    read-writes v.tells v.holds v.faults v.calls v.lists c.args.self.now c.read_key-read.new.self is.filed c.read_key-read.result
    (c.read_key-read.ensures is.filed is.keyed) hash

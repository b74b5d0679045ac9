use Rattle.std.proofs.Common.{◌≡◌, None, Some, Option, IsSome, refl, sym, ◌∙◌, ap, subst, nat_lt, length, ◌++◌}
use Rattle.sw_journal.specs.Entries.{first_about}
use Rattle.sw_objdir.proofs.Doubts.{briefs-none, briefs-told}
use Rattle.sw_objdir.proofs.OwnSettling.{none-about, readied, readying, ready-none, unready}
use Rattle.sw_objdir.proofs.RecordTelling.{finds-came, first-doubts}
use Rattle.sw_objdir.specs.Directories.{IsDir, Kept}
use Rattle.sw_objdir.specs.Stepping.{told_of}
use Rattle.sw_object_steps.proofs.Hashes.{hash-self}
use Rattle.sw_object_steps.specs.declared.entry.ObjEntry.{ObjEntry}
use Rattle.sw_pending.specs.Records.{key_of}
use Rattle.sw_pending.specs.declared.key.RecordKey.{RecordKey}
use Rattle.sw_objdir.proofs.obj_dir.ObjDir.settle_own.Goals.{in-Ok-found, in-Err}
use Rattle.sw_objdir.proofs.obj_dir.ObjDir.settle_own.Goals as goal

pub returns-in_default-clause-readied : goal.returns-in_default-clause-readied
returns-in_default-clause-readied g c =
    let v = g.V.Volume in let k = c.args.self.now in let filed = c.args.filed.now in
    let dir : IsDir v.tells v.holds v.faults k = subst (λ (x : Kept _). IsDir v.tells v.holds v.faults x) c.self.view_is c.self.invariant in
    let none : first_about (key_of filed) k.journal.doubts ≡ None =
    sym (c.in_default.ensures
    ∙ (ap (λ (x : RecordKey). first_about x c.self.inside.journal.doubts) c.key-key.ensures
    ∙ ap (λ (x : Kept _). first_about (key_of filed) x.journal.doubts) c.self.view_is)) in
    ready-none v.tells v.holds v.faults v.calls v.lists k filed dir (none-about (key_of filed) k.journal.doubts none)

pub returns-in_default-clause-briefs : goal.returns-in_default-clause-briefs
returns-in_default-clause-briefs g c =
    let j = c.args.self.now.journal in briefs-none j.entries j.entries c.args.settled.now.items c.args.settled.now.items refl refl

pub returns-in_default-brief_ready-clause-readied : goal.returns-in_default-brief_ready-clause-readied
returns-in_default-brief_ready-clause-readied g c =
    let v = g.V.Volume in let k = c.args.self.now in let filed = c.args.filed.now in
    let dir : IsDir v.tells v.holds v.faults k = subst (λ (x : Kept _). IsDir v.tells v.holds v.faults x) c.self.view_is c.self.invariant in
    let doubt : Some c.in-Some.doubt.now ≡ first_about (key_of filed) k.journal.doubts =
    c.in-Some.ensures
    ∙ (ap (λ (x : RecordKey). first_about x c.self.inside.journal.doubts) c.key-key.ensures
    ∙ ap (λ (x : Kept _). first_about (key_of filed) x.journal.doubts) c.self.view_is) in
    let some : IsSome (first_about (key_of filed) k.journal.doubts) = subst (λ (o : Option ObjEntry). IsSome o) doubt refl in
    unready v.tells v.holds v.faults v.calls v.lists k filed (first-doubts (key_of filed) k.journal.doubts some) dir

pub returns-in_default-brief_ready-clause-briefs : goal.returns-in_default-brief_ready-clause-briefs
returns-in_default-brief_ready-clause-briefs g c =
    let j = c.args.self.now.journal in
    briefs-none j.entries j.entries c.args.settled.now.items c.brief_ready.new.settled.items refl c.brief_ready.ensures.kept

pub returns-clause-readied : goal.returns-clause-readied
returns-clause-readied g c =
    let v = g.V.Volume in let k = c.args.self.now in let n = c.read_own-found.new.self in let filed = c.args.filed.now in
    let doubt : Some c.in-Some.doubt.now ≡ first_about (key_of filed) k.journal.doubts =
    c.in-Some.ensures
    ∙ (ap (λ (x : RecordKey). first_about x c.self.inside.journal.doubts) c.key-key.ensures
    ∙ ap (λ (x : Kept _). first_about (key_of filed) x.journal.doubts) c.self.view_is) in
    let some : IsSome (first_about (key_of filed) k.journal.doubts) = subst (λ (o : Option ObjEntry). IsSome o) doubt refl in
    let told : c.match-found.result ≡ readying c.read_own-found.result = elim c.match-found.branch [
      | in-Ok-found w ↦ w.result-is ∙ ap readying (sym w.in-Ok-found.is)
      | in-Err w ↦ w.result-is ∙ ap readying (sym w.in-Err.is)
    ] in
    rw told
    (readied v.tells v.holds v.faults v.calls v.lists k filed (first-doubts (key_of filed) k.journal.doubts some) n c.read_own-found.result
    (c.read_own-found.ensures filed.name (hash-self filed.name.hash)))

pub returns-clause-briefs : goal.returns-clause-briefs
returns-clause-briefs g c =
    let v = g.V.Volume in let k = c.args.self.now in let n = c.read_own-found.new.self in let filed = c.args.filed.now in
    let doubt : Some c.in-Some.doubt.now ≡ first_about (key_of filed) k.journal.doubts =
    c.in-Some.ensures
    ∙ (ap (λ (x : RecordKey). first_about x c.self.inside.journal.doubts) c.key-key.ensures
    ∙ ap (λ (x : Kept _). first_about (key_of filed) x.journal.doubts) c.self.view_is) in
    let more = ap (λ from. nat_lt from c.front.result) c.front-front.ensures.length ∙ ap (nat_lt (length k.journal.entries)) c.front.ensures.length in
    let came = nat_lt c.front-front.result c.front.result in
    briefs-told (Some c.in-Some.doubt.now) k.journal.entries n.journal.entries c.args.settled.now.items c.tell.new.settled.items (Some c.in-Ok.brief) came
    (rw doubt (finds-came v.tells v.holds v.faults v.calls v.lists k filed.name filed (hash-self filed.name.hash) c.read_own-found.result n
    (c.read_own-found.ensures filed.name (hash-self filed.name.hash)))) (ap Some c.in-Ok.ensures.brief) more
    (c.tell.ensures ∙ ap (λ l. l ++ told_of (Some c.in-Ok.brief) came) c.in-Ok.ensures.kept)

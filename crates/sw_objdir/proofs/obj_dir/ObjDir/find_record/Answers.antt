use Rattle.std.proofs.Common.{◌≡◌, true, false, refl, sym, ◌∙◌, ap, subst, IsSome, nat_lt, length, Option, ◌++◌}
use Rattle.std.specs.Option.{option_map}
use Rattle.std.specs.Str.{bytes_eq}
use Rattle.sw_journal.specs.Entries.{first_about}
use Rattle.sw_objdir.proofs.Doubts.{briefs-none, briefs-told}
use Rattle.sw_objdir.proofs.RecordFinding.{finds-none, finds-untold, is-own, isnt-own}
use Rattle.sw_objdir.proofs.RecordTelling.{finds-came, first-doubts}
use Rattle.sw_objdir.specs.Directories.{IsDir, Kept}
use Rattle.sw_objdir.specs.Stepping.{told_of}
use Rattle.sw_object_steps.specs.Briefs.{brief_of}
use Rattle.sw_object_steps.specs.declared.entry.ObjEntry.{ObjEntry}
use Rattle.sw_pending.specs.Records.{key_of}
use Rattle.sw_pending.specs.declared.key.RecordKey.{RecordKey}
use Rattle.sw_objdir.proofs.obj_dir.ObjDir.find_record.Goals as goal

pub returns-then-ne-clause-found : goal.returns-then-ne-clause-found
returns-then-ne-clause-found g c =
    let v = g.V.Volume in
    let k = c.args.self.now in let name = c.args.name.now in let filed = c.args.filed.now in
    let dir : IsDir v.tells v.holds v.faults k = subst (λ (x : Kept _). IsDir v.tells v.holds v.faults x) c.self.view_is c.self.invariant in
    let other : bytes_eq filed.name.hash name.hash ≡ false = isnt-own (bytes_eq filed.name.hash name.hash) (sym c.ne.ensures ∙ c.if-ne.true) in
    finds-none v.tells v.holds v.faults v.calls v.lists k dir name filed other

pub returns-then-ne-clause-briefs : goal.returns-then-ne-clause-briefs
returns-then-ne-clause-briefs g c =
    let j = c.args.self.now.journal in briefs-none j.entries j.entries c.args.settled.now.items c.args.settled.now.items refl refl

pub returns-in_default-clause-found : goal.returns-in_default-clause-found
returns-in_default-clause-found g c =
    let v = g.V.Volume in
    let k = c.args.self.now in let name = c.args.name.now in let filed = c.args.filed.now in
    let dir : IsDir v.tells v.holds v.faults k = subst (λ (x : Kept _). IsDir v.tells v.holds v.faults x) c.self.view_is c.self.invariant in
    let own : bytes_eq filed.name.hash name.hash ≡ true = is-own (bytes_eq filed.name.hash name.hash) (sym c.ne.ensures ∙ c.if-ne.false) in
    let doubt = c.doubted_record.ensures
    ∙ (ap (λ (x : RecordKey). first_about x c.self.inside.journal.doubts) c.key-key.ensures
    ∙ ap (λ (x : Kept _). first_about (key_of filed) x.journal.doubts) c.self.view_is) in
    let some : IsSome (first_about (key_of filed) k.journal.doubts) = subst (λ (o : Option ObjEntry). IsSome o) doubt c.in_default.ensures.doubted in
    finds-untold v.tells v.holds v.faults v.calls v.lists k dir name filed own (first-doubts (key_of filed) k.journal.doubts some)

pub returns-in_default-clause-briefs : goal.returns-in_default-clause-briefs
returns-in_default-clause-briefs g c =
    let j = c.args.self.now.journal in
    briefs-none j.entries j.entries c.args.settled.now.items c.doubt_ready.new.settled.items refl c.doubt_ready.ensures.kept

pub returns-clause-briefs : goal.returns-clause-briefs
returns-clause-briefs g c =
    let v = g.V.Volume in
    let k = c.args.self.now in let n = c.read_own-found.new.self in let name = c.args.name.now in let filed = c.args.filed.now in
    let own : bytes_eq filed.name.hash name.hash ≡ true = is-own (bytes_eq filed.name.hash name.hash) (sym c.ne.ensures ∙ c.if-ne.false) in
    let doubt = c.doubted_record.ensures
    ∙ (ap (λ (x : RecordKey). first_about x c.self.inside.journal.doubts) c.key-key.ensures
    ∙ ap (λ (x : Kept _). first_about (key_of filed) x.journal.doubts) c.self.view_is) in
    let more = ap (λ from. nat_lt from c.front.result) c.front-front.ensures.length ∙ ap (nat_lt (length k.journal.entries)) c.front.ensures.length in
    briefs-told (first_about (key_of filed) k.journal.doubts) k.journal.entries n.journal.entries c.args.settled.now.items c.tell.new.settled.items
    c.in-Ok.brief (nat_lt c.front-front.result c.front.result)
    (finds-came v.tells v.holds v.faults v.calls v.lists k name filed own c.read_own-found.result n (c.read_own-found.ensures name own))
    (c.in-Ok.ensures.brief ∙ ap (option_map brief_of) doubt) more
    (c.tell.ensures ∙ ap (λ l. l ++ told_of c.in-Ok.brief (nat_lt c.front-front.result c.front.result)) c.in-Ok.ensures.kept)

use Rattle.std.proofs.Common.{◌≡◌, List, None, Some, find, refl, sym, true, ◌∙◌, ap, subst}
use Rattle.std.specs.Str.{bytes_eq}
use Rattle.sw_objdir.proofs.Looking.{looks-wider}
use Rattle.sw_object_steps.proofs.Hashes.{hash-same}
use Rattle.sw_object_steps.specs.Journals.{Hash}
use Rattle.std.specs.Option.{option_copied}
use Rattle.sw_journal.specs.Entries.{first_in}
use Rattle.sw_objdir.proofs.Doubts.{briefs-none, doubt-of, ends-one, first-doubted, found-first, found-none, wants-one}
use Rattle.sw_objdir.specs.Comparing.{is_in, is_write_in}
use Rattle.sw_objdir.specs.Directories.{Kept}
use Rattle.sw_objdir.specs.Stepping.{AddsBriefs}
use Rattle.sw_object_steps.specs.declared.entry.Brief.{Brief}
use Rattle.sw_objdir.proofs.obj_dir.ObjDir.settle_one.Goals as goal

pub returns-in_default-clause-briefs : goal.returns-in_default-clause-briefs
returns-in_default-clause-briefs g c =
    let j = c.args.self.now.journal in briefs-none j.entries j.entries c.args.settled.now.items c.args.settled.now.items refl refl

pub returns-in_default-clause-one : goal.returns-in_default-clause-one
returns-in_default-clause-one g c =
    let k = c.args.self.now in
    let found : find (is_write_in k.power c.args.scope) k.journal.doubts ≡ None =
    subst (λ (x : Kept _). find (is_write_in x.power c.args.scope) x.journal.doubts ≡ None) c.self.view_is
    (sym c.doubt_in.ensures ∙ ap option_copied c.in_default.is) in
    record {
      none = found-none k.power c.args.scope k.journal.doubts found;
      same = refl;
      listed = record { called = refl; listings = refl };
    }

pub returns-in_err-brief-clause-briefs : goal.returns-in_err-brief-clause-briefs
returns-in_err-brief-clause-briefs g c =
    let j = c.args.self.now.journal in
    briefs-none j.entries j.entries c.args.settled.now.items c.brief_ready.new.settled.items refl c.brief_ready.ensures.kept

pub returns-in_err-settle-clause-briefs : goal.returns-in_err-settle-clause-briefs
returns-in_err-settle-clause-briefs g c =
    subst (λ (l : List Brief). AddsBriefs c.args.self.now.journal.entries c.settle.new.self.journal.entries l c.settle.new.settled.items)
    c.brief_ready.ensures.kept c.settle.ensures.briefs

pub returns-clause-briefs : goal.returns-clause-briefs
returns-clause-briefs g c =
    subst (λ (l : List Brief). AddsBriefs c.args.self.now.journal.entries c.settle.new.self.journal.entries l c.settle.new.settled.items)
    c.brief_ready.ensures.kept c.settle.ensures.briefs

pub returns-in_err-brief-clause-one : goal.returns-in_err-brief-clause-one
returns-in_err-brief-clause-one g c =
    let k = c.args.self.now in let v = g.V.Volume in
    let found : find (is_write_in k.power c.args.scope) k.journal.doubts ≡ Some c.in-Some.entry.now =
    subst (λ (x : Kept _). find (is_write_in x.power c.args.scope) x.journal.doubts ≡ Some c.in-Some.entry.now) c.self.view_is
    (sym c.doubt_in.ensures ∙ ap option_copied c.in-Some.is) in
    wants-one v.calls v.lists k k c.args.scope c.from_residual.result c.from_residual.ensures.1
    (doubt-of k.power c.args.scope k.journal.doubts c.in-Some.entry.now found)
    (record { called = refl; listings = refl })

pub settle-requires : goal.settle-requires
settle-requires g c =
    let k = c.args.self.now in
    let found : find (is_write_in k.power c.args.scope) k.journal.doubts ≡ Some c.in-Some.entry.now =
    subst (λ (x : Kept _). find (is_write_in x.power c.args.scope) x.journal.doubts ≡ Some c.in-Some.entry.now) c.self.view_is
    (sym c.doubt_in.ensures ∙ ap option_copied c.in-Some.is) in
    let first = found-first k.power c.args.scope k.journal.doubts c.in-Some.entry.now found in
    record {
      first = (c.in-Some.entry.now, ap (λ h. first_in h k.journal.doubts) c.hash_of-hash.ensures ∙ first.first, c.in_ok-brief.ensures.brief);
      room = c.in_ok-brief.ensures.room;
    }

pub returns-in_err-settle-clause-one : goal.returns-in_err-settle-clause-one
returns-in_err-settle-clause-one g c =
    let k = c.args.self.now in let v = g.V.Volume in
    let found : find (is_write_in k.power c.args.scope) k.journal.doubts ≡ Some c.in-Some.entry.now =
    subst (λ (x : Kept _). find (is_write_in x.power c.args.scope) x.journal.doubts ≡ Some c.in-Some.entry.now) c.self.view_is
    (sym c.doubt_in.ensures ∙ ap option_copied c.in-Some.is) in
    ends-one v.calls v.lists k c.settle.new.self c.args.scope c.from_residual-in_err-settle.result c.in_err-settle.field-0.0
    c.from_residual-in_err-settle.ensures.1
    (doubt-of k.power c.args.scope k.journal.doubts c.in-Some.entry.now found)
    c.in_err-settle.ensures.failed c.in_err-settle.ensures.one_call

pub returns-clause-one : goal.returns-clause-one
returns-clause-one g c =
    let k = c.args.self.now in
    let found : find (is_write_in k.power c.args.scope) k.journal.doubts ≡ Some c.in-Some.entry.now =
    subst (λ (x : Kept _). find (is_write_in x.power c.args.scope) x.journal.doubts ≡ Some c.in-Some.entry.now) c.self.view_is
    (sym c.doubt_in.ensures ∙ ap option_copied c.in-Some.is) in
    let first = found-first k.power c.args.scope k.journal.doubts c.in-Some.entry.now found in
    let same = c.hash_of-hash.ensures in
    record {
      doubt = record {
        hash = c.hash_of-hash.result;
        within = ap (is_in k.power c.args.scope) same ∙ first.within;
        doubted = first-doubted c.hash_of-hash.result k.journal.doubts c.in-Some.entry.now (ap (λ h. first_in h k.journal.doubts) same ∙ first.first);
      };
      settled = c.in_ok-settle.ensures.settled;
      fewer = c.in_ok-settle.ensures.fewer;
      listed = c.in_ok-settle.ensures.listed;
    }

pub returns-in_err-settle-clause-looks : goal.returns-in_err-settle-clause-looks
returns-in_err-settle-clause-looks g c =
    let k = c.args.self.now in let v = g.V.Volume in
    let found : find (is_write_in k.power c.args.scope) k.journal.doubts ≡ Some c.in-Some.entry.now =
    subst (λ (x : Kept _). find (is_write_in x.power c.args.scope) x.journal.doubts ≡ Some c.in-Some.entry.now) c.self.view_is
    (sym c.doubt_in.ensures ∙ ap option_copied c.in-Some.is) in
    let first = found-first k.power c.args.scope k.journal.doubts c.in-Some.entry.now found in
    looks-wider v.tells v.holds v.faults (λ key. bytes_eq key c.hash_of-hash.result) (is_in k.power c.args.scope)
    (λ key is. subst (λ (h : Hash). is_in k.power c.args.scope h ≡ true) (sym (hash-same key c.hash_of-hash.result is ∙ c.hash_of-hash.ensures)) first.within)
    k c.settle.new.self c.settle.ensures.looks

pub returns-clause-looks : goal.returns-clause-looks
returns-clause-looks g c =
    let k = c.args.self.now in let v = g.V.Volume in
    let found : find (is_write_in k.power c.args.scope) k.journal.doubts ≡ Some c.in-Some.entry.now =
    subst (λ (x : Kept _). find (is_write_in x.power c.args.scope) x.journal.doubts ≡ Some c.in-Some.entry.now) c.self.view_is
    (sym c.doubt_in.ensures ∙ ap option_copied c.in-Some.is) in
    let first = found-first k.power c.args.scope k.journal.doubts c.in-Some.entry.now found in
    looks-wider v.tells v.holds v.faults (λ key. bytes_eq key c.hash_of-hash.result) (is_in k.power c.args.scope)
    (λ key is. subst (λ (h : Hash). is_in k.power c.args.scope h ≡ true) (sym (hash-same key c.hash_of-hash.result is ∙ c.hash_of-hash.ensures)) first.within)
    k c.settle.new.self c.settle.ensures.looks

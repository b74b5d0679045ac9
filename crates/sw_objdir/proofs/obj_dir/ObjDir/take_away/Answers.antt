use Rattle.std.proofs.Common.{◌≡◌, true, [], ◌∷◌, ◌++◌, refl, sym, ◌∙◌, ap, subst}
use Rattle.sw_journal.specs.Entries.{about_record, with_new_doubt}
use Rattle.sw_object_steps.proofs.Recording.{same-self}
use Rattle.sw_object_steps.specs.Briefs.{brief_of}
use Rattle.sw_object_steps.specs.Journals.{Journal, with_entry}
use Rattle.sw_object_steps.specs.declared.entry.ObjEntry.{ObjEntry}
use Rattle.sw_object_steps.specs.declared.entry.ObjEntry.TheVariants.{Dropped}
use Rattle.sw_objdir.proofs.Doubts.{briefs-none, briefs-one}
use Rattle.sw_objdir.proofs.RecordEnding.{confirms-as, doubts-as, enters-as, room-for, wants-first}
use Rattle.sw_objdir.proofs.RecordSettling.{IsOne}
use Rattle.sw_objdir.specs.Directories.{IsDir, Kept}
use Rattle.sw_objdir.specs.Recording.{Doubts, Enters, Wants}
use Rattle.sw_pending.specs.Records.{key_of}
use Rattle.sw_pending.specs.declared.key.RecordKey.{RecordKey}
use Rattle.sw_objdir.proofs.obj_dir.ObjDir.take_away.Goals as goal

pub returns-in_default-doubt-clause-ended : goal.returns-in_default-doubt-clause-ended
returns-in_default-doubt-clause-ended g c =
    let v = g.V.Volume in let i = c.self.inside in
    let k : Kept _ = record { volume = i.volume; began = i.opening.value; secrets = i.secrets; power = i.power; journal = i.journal } in
    let stood = c.args.stood in let e : ObjEntry = Dropped stood.name.hash stood in
    let wants : Wants v.tells v.holds v.faults v.calls v.lists k stood.name.hash e k =
    wants-first v.tells v.holds v.faults v.calls v.lists k c.self.invariant (key_of stood) e in
    let same : c.doubt.new.self ≡ k.journal = c.in_default-doubt.ensures.err in
    subst (λ (x : Kept _). Wants v.tells v.holds v.faults v.calls v.lists x stood.name.hash e (record k { journal = c.doubt.new.self })) c.self.view_is
    (subst (λ (j : Journal). Wants v.tells v.holds v.faults v.calls v.lists k stood.name.hash e (record k { journal = j })) (sym same) wants)

pub returns-in_default-clause-ended : goal.returns-in_default-clause-ended
returns-in_default-clause-ended g c =
    let v = g.V.Volume in
    let k = c.args.self.now in let stood = c.args.stood in
    let dir : IsDir v.tells v.holds v.faults k = subst (λ (x : Kept _). IsDir v.tells v.holds v.faults x) c.self.view_is c.self.invariant in
    wants-first v.tells v.holds v.faults v.calls v.lists k dir (key_of stood) (Dropped stood.name.hash stood)

pub returns-in_default-clause-briefs : goal.returns-in_default-clause-briefs
returns-in_default-clause-briefs g c =
    let j = c.args.self.now.journal in
    briefs-none j.entries j.entries c.args.settled.now.items c.brief_ready.new.settled.items refl c.brief_ready.ensures.kept

pub returns-in_default-doubt-clause-briefs : goal.returns-in_default-doubt-clause-briefs
returns-in_default-doubt-clause-briefs g c =
    briefs-none c.args.self.now.journal.entries c.doubt.new.self.entries c.args.settled.now.items c.brief_ready.new.settled.items
    (ap (λ (j : Journal). j.entries) c.in_default-doubt.ensures.err ∙ ap (λ (x : Kept _). x.journal.entries) c.self.view_is) c.brief_ready.ensures.kept

pub returns-in-Ok-unlink_record-clause-briefs : goal.returns-in-Ok-unlink_record-clause-briefs
returns-in-Ok-unlink_record-clause-briefs g c =
    let v = g.V.Volume in let i = c.self.inside in
    let k : Kept _ = record { volume = i.volume; began = i.opening.value; secrets = i.secrets; power = i.power; journal = i.journal } in
    let stood = c.args.stood in let e : ObjEntry = Dropped stood.name.hash stood in
    let doubted : c.doubt.new.self ≡ with_new_doubt k.journal e =
    c.in-Ok-doubt.ensures.ok ∙ ap (λ (x : RecordKey). with_new_doubt k.journal (Dropped x.hash stood)) c.key-key.ensures in
    let confirms : c.confirm.new.self ≡ with_entry k.journal e = confirms-as k.journal c.doubt.new.self e doubted c.confirm.new.self c.confirm.ensures in
    briefs-one c.args.self.now.journal.entries c.confirm.new.self.entries c.args.settled.now.items c.push_reserved.new.self.items e c.in-Ok.brief
    (ap (λ (j : Journal). j.entries) confirms ∙ ap (λ (x : Kept _). x.journal.entries ++ e ∷ []) c.self.view_is)
    (c.in-Ok.ensures.brief ∙ ap (λ (x : RecordKey). brief_of (Dropped x.hash stood)) c.key-key.ensures)
    (c.push_reserved.ensures.items ∙ ap (λ l. l ++ c.in-Ok.brief ∷ []) c.brief_ready.ensures.kept)

pub returns-in-Err-clause-briefs : goal.returns-in-Err-clause-briefs
returns-in-Err-clause-briefs g c =
    let v = g.V.Volume in let i = c.self.inside in
    let k : Kept _ = record { volume = i.volume; began = i.opening.value; secrets = i.secrets; power = i.power; journal = i.journal } in
    let stood = c.args.stood in let e : ObjEntry = Dropped stood.name.hash stood in
    let doubted : c.doubt.new.self ≡ with_new_doubt k.journal e =
    c.in-Ok-doubt.ensures.ok ∙ ap (λ (x : RecordKey). with_new_doubt k.journal (Dropped x.hash stood)) c.key-key.ensures in
    briefs-none c.args.self.now.journal.entries c.doubt.new.self.entries c.args.settled.now.items c.brief_ready.new.settled.items
    (ap (λ (j : Journal). j.entries) doubted ∙ ap (λ (x : Kept _). x.journal.entries) c.self.view_is) c.brief_ready.ensures.kept

pub invariant_of-self-in-Ok-unlink_record : goal.invariant_of-self-in-Ok-unlink_record
invariant_of-self-in-Ok-unlink_record g c =
    let v = g.V.Volume in let i = c.self.inside in
    let k : Kept _ = record { volume = i.volume; began = i.opening.value; secrets = i.secrets; power = i.power; journal = i.journal } in
    let stood = c.args.stood in let e : ObjEntry = Dropped stood.name.hash stood in
    let settled : about_record (key_of stood) k.journal.doubts ≡ [] =
    subst (λ (x : Kept _). about_record (key_of stood) x.journal.doubts ≡ []) (sym c.self.view_is) c.requires.settled in
    let one : IsOne (key_of stood) e = record { of = same-self (key_of stood); plain = refl } in
    let key : c.key-key.result ≡ key_of stood = c.key-key.ensures in
    let doubted : c.doubt.new.self ≡ with_new_doubt k.journal e =
    c.in-Ok-doubt.ensures.ok ∙ ap (λ (x : RecordKey). with_new_doubt k.journal (Dropped x.hash stood)) key in
    let w = c.unlink_record.new.volume in let unlinks = c.unlink_record.ensures in
    let ok = rw key at c.in-Ok-unlink_record.ensures in
    let confirms : c.confirm.new.self ≡ with_entry k.journal e = confirms-as k.journal c.doubt.new.self e doubted c.confirm.new.self c.confirm.ensures in
    let enters : Enters v.tells v.holds v.faults v.calls v.lists k (key_of stood) e (record k { volume = w; journal = c.confirm.new.self }) =
    subst (λ (j : Journal). Enters v.tells v.holds v.faults v.calls v.lists k (key_of stood) e (record k { volume = w; journal = j })) (sym confirms)
    (enters-as v.tells v.holds v.faults v.calls v.lists k c.self.invariant (key_of stood) e one settled w unlinks.told unlinks.lists unlinks.calls
    ok.ok (λ told. ok.drops told k.secrets) ok.cause.kept) in
    enters.dir

pub returns-in-Ok-unlink_record-clause-ended : goal.returns-in-Ok-unlink_record-clause-ended
returns-in-Ok-unlink_record-clause-ended g c =
    let v = g.V.Volume in let i = c.self.inside in
    let k : Kept _ = record { volume = i.volume; began = i.opening.value; secrets = i.secrets; power = i.power; journal = i.journal } in
    let stood = c.args.stood in let e : ObjEntry = Dropped stood.name.hash stood in
    let settled : about_record (key_of stood) k.journal.doubts ≡ [] =
    subst (λ (x : Kept _). about_record (key_of stood) x.journal.doubts ≡ []) (sym c.self.view_is) c.requires.settled in
    let one : IsOne (key_of stood) e = record { of = same-self (key_of stood); plain = refl } in
    let key : c.key-key.result ≡ key_of stood = c.key-key.ensures in
    let doubted : c.doubt.new.self ≡ with_new_doubt k.journal e =
    c.in-Ok-doubt.ensures.ok ∙ ap (λ (x : RecordKey). with_new_doubt k.journal (Dropped x.hash stood)) key in
    let w = c.unlink_record.new.volume in let unlinks = c.unlink_record.ensures in
    let ok = rw key at c.in-Ok-unlink_record.ensures in
    let confirms : c.confirm.new.self ≡ with_entry k.journal e = confirms-as k.journal c.doubt.new.self e doubted c.confirm.new.self c.confirm.ensures in
    let enters : Enters v.tells v.holds v.faults v.calls v.lists k (key_of stood) e (record k { volume = w; journal = c.confirm.new.self }) =
    subst (λ (j : Journal). Enters v.tells v.holds v.faults v.calls v.lists k (key_of stood) e (record k { volume = w; journal = j })) (sym confirms)
    (enters-as v.tells v.holds v.faults v.calls v.lists k c.self.invariant (key_of stood) e one settled w unlinks.told unlinks.lists unlinks.calls
    ok.ok (λ told. ok.drops told k.secrets) ok.cause.kept) in (
      refl,
      record {
        room = room-for c.args.self.now.journal e true refl (sym c.if-not-has_room.false ∙ (rw (sym c.self.view_is) c.has_room.ensures));
        so = subst (λ (x : Kept _). Enters v.tells v.holds v.faults v.calls v.lists x (key_of stood) e
            (record k { volume = w; journal = c.confirm.new.self })) c.self.view_is enters;
      },
    )

pub invariant_of-self-in-Err-unlink_record : goal.invariant_of-self-in-Err-unlink_record
invariant_of-self-in-Err-unlink_record g c =
    let v = g.V.Volume in let i = c.self.inside in
    let k : Kept _ = record { volume = i.volume; began = i.opening.value; secrets = i.secrets; power = i.power; journal = i.journal } in
    let stood = c.args.stood in let e : ObjEntry = Dropped stood.name.hash stood in
    let settled : about_record (key_of stood) k.journal.doubts ≡ [] =
    subst (λ (x : Kept _). about_record (key_of stood) x.journal.doubts ≡ []) (sym c.self.view_is) c.requires.settled in
    let one : IsOne (key_of stood) e = record { of = same-self (key_of stood); plain = refl } in
    let key : c.key-key.result ≡ key_of stood = c.key-key.ensures in
    let doubted : c.doubt.new.self ≡ with_new_doubt k.journal e =
    c.in-Ok-doubt.ensures.ok ∙ ap (λ (x : RecordKey). with_new_doubt k.journal (Dropped x.hash stood)) key in
    let w = c.unlink_record.new.volume in let unlinks = c.unlink_record.ensures in
    let err = rw key at c.in-Err.ensures in
    let doubts : Doubts v.tells v.holds v.faults v.calls v.lists k (key_of stood) e (record k { volume = w; journal = c.doubt.new.self }) =
    subst (λ (j : Journal). Doubts v.tells v.holds v.faults v.calls v.lists k (key_of stood) e (record k { volume = w; journal = j })) (sym doubted)
    (doubts-as v.tells v.holds v.faults v.calls v.lists k c.self.invariant (key_of stood) e one settled w unlinks.told unlinks.lists unlinks.calls
    err.failed (λ told. err.may_drop told k.secrets) err.cause.once err.cause.later) in
    doubts.dir

pub returns-in-Err-clause-ended : goal.returns-in-Err-clause-ended
returns-in-Err-clause-ended g c =
    let v = g.V.Volume in let i = c.self.inside in
    let k : Kept _ = record { volume = i.volume; began = i.opening.value; secrets = i.secrets; power = i.power; journal = i.journal } in
    let stood = c.args.stood in let e : ObjEntry = Dropped stood.name.hash stood in
    let settled : about_record (key_of stood) k.journal.doubts ≡ [] =
    subst (λ (x : Kept _). about_record (key_of stood) x.journal.doubts ≡ []) (sym c.self.view_is) c.requires.settled in
    let one : IsOne (key_of stood) e = record { of = same-self (key_of stood); plain = refl } in
    let key : c.key-key.result ≡ key_of stood = c.key-key.ensures in
    let doubted : c.doubt.new.self ≡ with_new_doubt k.journal e =
    c.in-Ok-doubt.ensures.ok ∙ ap (λ (x : RecordKey). with_new_doubt k.journal (Dropped x.hash stood)) key in
    let w = c.unlink_record.new.volume in let unlinks = c.unlink_record.ensures in
    let err = rw key at c.in-Err.ensures in
    let doubts : Doubts v.tells v.holds v.faults v.calls v.lists k (key_of stood) e (record k { volume = w; journal = c.doubt.new.self }) =
    subst (λ (j : Journal). Doubts v.tells v.holds v.faults v.calls v.lists k (key_of stood) e (record k { volume = w; journal = j })) (sym doubted)
    (doubts-as v.tells v.holds v.faults v.calls v.lists k c.self.invariant (key_of stood) e one settled w unlinks.told unlinks.lists unlinks.calls
    err.failed (λ told. err.may_drop told k.secrets) err.cause.once err.cause.later) in
    record {
      room = room-for c.args.self.now.journal e true refl (sym c.if-not-has_room.false ∙ (rw (sym c.self.view_is) c.has_room.ensures));
      so = subst (λ (x : Kept _). Doubts v.tells v.holds v.faults v.calls v.lists x (key_of stood) e
          (record k { volume = w; journal = c.doubt.new.self })) c.self.view_is doubts;
    }

use Rattle.std.proofs.Common.{◌≡◌, ℕ, ◌+◌, ◌∷◌, ◌++◌, ◌≤◌, true, List, [], None, Ok, Err, refl, sym, ◌∙◌, ap, subst, length}
use Rattle.sw_cleanup.specs.Cleaning.{AreListedIn}
use Rattle.sw_hashdir.specs.Places.{dir_text}
use Rattle.sw_journal.specs.Entries.{about_record}
use Rattle.sw_objdir.proofs.Deciding.{room-as}
use Rattle.sw_objdir.proofs.Doubts.{briefs-one}
use Rattle.sw_objdir.proofs.WriteComposing.{fails-unentered, grown-filed}
use Rattle.sw_objdir.proofs.WriteComposing.{has-filed, made-ends, made-entered, made-entries, names-filed, others-all, others-none, others-own}
use Rattle.sw_objdir.proofs.WriteComposing.{puts-as, puts-own, record-name, room-filed, seen-filed, seen-received}
use Rattle.sw_objdir.proofs.WriteComposing.{unfiled-ends, unmade-ends, unmade-same, unput-same, wanted-ends}
use Rattle.sw_objdir.specs.Calling.{entry_of}
use Rattle.sw_objdir.specs.Directories.{IsDir, Kept}
use Rattle.sw_objdir.specs.Recording.{Enters}
use Rattle.sw_objdir.specs.Stepping.{IsSeenAs}
use Rattle.sw_objdir.specs.Writing.{PutsFile, PutsWrite, ReadyEnds, filing_of}
use Rattle.sw_object_steps.specs.Journals.{Hash, bodies, body_size, has_room}
use Rattle.sw_object_steps.specs.Recorded.{filed_entries, records_for}
use Rattle.sw_object_steps.specs.Steps.{is_entered, write_of}
use Rattle.sw_object_steps.specs.declared.answer.Answer.{Answer}
use Rattle.sw_object_steps.specs.declared.change.Change.TheVariants.{Receive}
use Rattle.sw_object_steps.specs.declared.entry.ObjEntry.TheVariants.{Wrote}
use Rattle.sw_pending.specs.Records.{key_of}
use Rattle.sw_pending.specs.declared.filed.Filed.{Filed}
use Rattle.sw_state.specs.declared.write.Write.{Write}
use Rattle.sw_volume.specs.Tree.{contents}
use Rattle.sw_objdir.proofs.obj_dir.ObjDir.write_filed.Goals as goal

pub returns-in_default-clause-ended : goal.returns-in_default-clause-ended
returns-in_default-clause-ended g c =
    let v = g.V.Volume in
    let k = c.args.self.now in let name = c.args.name.now in let change = c.args.change in let o = c.args.plan.now.seen.outline in
    let names = c.args.plan.now.seen.names.items in
    let filed = c.args.filed in let own = c.requires.own in
    let dir : IsDir v.tells v.holds v.faults k = subst (λ (x : Kept _). IsDir v.tells v.holds v.faults x) c.self.view_is c.self.invariant in
    let room : has_room k.journal (entry_of name change) ≡ true =
    room-as k.journal name change c.body_size.result c.has_room.result c.body_size.ensures (rw (sym c.self.view_is) c.has_room.ensures)
    ∙ c.if-not-has_room.false in
    wanted-ends v.tells v.holds v.faults v.calls v.lists k name change names o dir room filed own

pub returns-in_default-brief_ready-clause-ended : goal.returns-in_default-brief_ready-clause-ended
returns-in_default-brief_ready-clause-ended g c =
    let v = g.V.Volume in
    let k = c.args.self.now in let name = c.args.name.now in let change = c.args.change in let o = c.args.plan.now.seen.outline in
    let names = c.args.plan.now.seen.names.items in
    let filed = c.args.filed in let own = c.requires.own in
    let dir : IsDir v.tells v.holds v.faults k = subst (λ (x : Kept _). IsDir v.tells v.holds v.faults x) c.self.view_is c.self.invariant in
    let room : has_room k.journal (entry_of name change) ≡ true =
    room-as k.journal name change c.body_size.result c.has_room.result c.body_size.ensures (rw (sym c.self.view_is) c.has_room.ensures)
    ∙ c.if-not-has_room.false in
    wanted-ends v.tells v.holds v.faults v.calls v.lists k name change names o dir room filed own

pub put_entry-requires-clause-puts : goal.put_entry-requires-clause-puts
put_entry-requires-clause-puts g c =
    let v = g.V.Volume in
    let k = c.args.self.now in let name = c.args.name.now in let change = c.args.change in let o = c.args.plan.now.seen.outline in
    let names = c.args.plan.now.seen.names.items in
    let filed = c.args.filed in let own = c.requires.own in
    let is = record-name name change filed own in
    (filed, puts-own k.secrets k.power name c.requires.ours filed is)

pub put_entry-requires-clause-settled : goal.put_entry-requires-clause-settled
put_entry-requires-clause-settled g c =
    let v = g.V.Volume in
    let k = c.args.self.now in let name = c.args.name.now in let change = c.args.change in let o = c.args.plan.now.seen.outline in
    let names = c.args.plan.now.seen.names.items in
    let filed = c.args.filed in let own = c.requires.own in
    λ other left. let same : filed ≡ other = cc in subst (λ (f : Filed). about_record (key_of f) k.journal.doubts ≡ []) same c.requires.settled

pub returns-in-Err-clause-ended : goal.returns-in-Err-clause-ended
returns-in-Err-clause-ended g c =
    let v = g.V.Volume in
    let k = c.args.self.now in let name = c.args.name.now in let change = c.args.change in let o = c.args.plan.now.seen.outline in
    let names = c.args.plan.now.seen.names.items in
    let filed = c.args.filed in let own = c.requires.own in
    let room : has_room k.journal (entry_of name change) ≡ true =
    room-as k.journal name change c.body_size.result c.has_room.result c.body_size.ensures (rw (sym c.self.view_is) c.has_room.ensures)
    ∙ c.if-not-has_room.false in
    let m = c.put_entry.new.self in
    subst (λ (a : Answer). ReadyEnds v.tells v.holds v.faults v.calls v.lists k name change names o a m) (sym c.answer_in.ensures)
    (unfiled-ends v.tells v.holds v.faults v.calls v.lists k name change names o room filed own c.in-Err.error m (c.in-Err.ensures filed refl))

pub returns-in-Err-clause-briefs : goal.returns-in-Err-clause-briefs
returns-in-Err-clause-briefs g c =
    let v = g.V.Volume in
    let k = c.args.self.now in let name = c.args.name.now in let change = c.args.change in let o = c.args.plan.now.seen.outline in
    let names = c.args.plan.now.seen.names.items in
    let filed = c.args.filed in let own = c.requires.own in
    let m = c.put_entry.new.self in
    others-none c.answer_in.result k.journal.entries m.journal.entries c.args.settled.now.items c.brief_ready.new.settled.items
    (unput-same v.tells v.holds v.faults v.calls v.lists k m (filing_of filed) filed c.in-Err.error (c.in-Err.ensures filed refl)) c.brief_ready.ensures.kept

pub put_write-requires-clause-filed : goal.put_write-requires-clause-filed
put_write-requires-clause-filed g c =
    let v = g.V.Volume in
    let k = c.args.self.now in let name = c.args.name.now in let change = c.args.change in let o = c.args.plan.now.seen.outline in
    let names = c.args.plan.now.seen.names.items in
    let filed = c.args.filed in let own = c.requires.own in
    let m = c.put_entry.new.self in
    let enters : Enters v.tells v.holds v.faults v.calls v.lists k (key_of filed) (filing_of filed) m = c.in_default-put_entry.ensures filed refl in (
      k.journal.entries,
      grown-filed v.tells v.holds v.faults v.calls v.lists k m filed enters name change own
          ∙ ap (λ (l : List Filed). k.journal.entries ++ filed_entries name.hash l) (own ∙ sym c.in-Ok.ensures),
    )

pub put_write-requires-clause-dir : goal.put_write-requires-clause-dir
put_write-requires-clause-dir g c =
    let v = g.V.Volume in
    let k = c.args.self.now in let name = c.args.name.now in let change = c.args.change in let o = c.args.plan.now.seen.outline in
    let names = c.args.plan.now.seen.names.items in
    let filed = c.args.filed in let own = c.requires.own in
    let m = c.put_entry.new.self in
    let enters : Enters v.tells v.holds v.faults v.calls v.lists k (key_of filed) (filing_of filed) m = c.in_default-put_entry.ensures filed refl in
    c.deref.ensures.value ∙ (c.requires.dir ∙ ap (λ (p : ℕ). dir_text p name.hash) (sym enters.same.power))

pub put_write-requires-clause-names : goal.put_write-requires-clause-names
put_write-requires-clause-names g c =
    let v = g.V.Volume in
    let k = c.args.self.now in let name = c.args.name.now in let change = c.args.change in let o = c.args.plan.now.seen.outline in
    let names = c.args.plan.now.seen.names.items in
    let filed = c.args.filed in let own = c.requires.own in
    let m = c.put_entry.new.self in
    let enters : Enters v.tells v.holds v.faults v.calls v.lists k (key_of filed) (filing_of filed) m = c.in_default-put_entry.ensures filed refl in
    let path_is : c.deref.result.now ≡ dir_text m.power name.hash =
    c.deref.ensures.value ∙ (c.requires.dir ∙ ap (λ (p : ℕ). dir_text p name.hash) (sym enters.same.power)) in
    λ told. subst (λ (d : List ℕ). AreListedIn (contents (v.holds m.volume)) d names) (sym path_is)
    (names-filed v.tells v.holds v.faults v.calls v.lists k m filed enters name.hash names
    (λ old. subst (λ (d : List ℕ). AreListedIn (contents (v.holds k.volume)) d names) c.requires.dir (c.requires.names old)) told)

pub put_write-requires-clause-stood : goal.put_write-requires-clause-stood
put_write-requires-clause-stood g c =
    let v = g.V.Volume in
    let k = c.args.self.now in let name = c.args.name.now in let change = c.args.change in let o = c.args.plan.now.seen.outline in
    let names = c.args.plan.now.seen.names.items in
    let filed = c.args.filed in let own = c.requires.own in
    let m = c.put_entry.new.self in
    let enters : Enters v.tells v.holds v.faults v.calls v.lists k (key_of filed) (filing_of filed) m = c.in_default-put_entry.ensures filed refl in
    let is = record-name name change filed own in
    let hash_is : filed.name.hash ≡ name.hash = ap (λ x. x.hash) is in
    let seen : IsSeenAs v.tells v.holds v.faults m name.hash o change None =
    subst (λ (h : Hash). IsSeenAs v.tells v.holds v.faults m h o change None) hash_is
    (seen-filed v.tells v.holds v.faults v.calls v.lists k m filed enters o change None
    (subst (λ (h : Hash). IsSeenAs v.tells v.holds v.faults k h o change None) (sym hash_is) c.requires.stood)) in
    subst (λ (w : Write). IsSeenAs v.tells v.holds v.faults m name.hash o (Receive w) None) (sym c.into_write.ensures)
    (seen-received v.tells v.holds v.faults v.calls v.lists m name.hash o change c.requires.writes seen)

pub put_write-requires-clause-room : goal.put_write-requires-clause-room
put_write-requires-clause-room g c =
    let v = g.V.Volume in
    let k = c.args.self.now in let name = c.args.name.now in let change = c.args.change in let o = c.args.plan.now.seen.outline in
    let names = c.args.plan.now.seen.names.items in
    let filed = c.args.filed in let own = c.requires.own in
    let m = c.put_entry.new.self in
    let enters : Enters v.tells v.holds v.faults v.calls v.lists k (key_of filed) (filing_of filed) m = c.in_default-put_entry.ensures filed refl in
    let room : has_room k.journal (entry_of name change) ≡ true =
    room-as k.journal name change c.body_size.result c.has_room.result c.body_size.ensures (rw (sym c.self.view_is) c.has_room.ensures)
    ∙ c.if-not-has_room.false in
    subst (λ (w : Write). bodies m.journal.entries + bodies m.journal.doubts + body_size w.kind ≤ m.journal.max_bytes) (sym c.into_write.ensures)
    (room-filed v.tells v.holds v.faults v.calls v.lists k m filed enters name change room)

pub returns-in-Ok-put_write-clause-ended : goal.returns-in-Ok-put_write-clause-ended
returns-in-Ok-put_write-clause-ended g c =
    let v = g.V.Volume in
    let k = c.args.self.now in let name = c.args.name.now in let change = c.args.change in let o = c.args.plan.now.seen.outline in
    let names = c.args.plan.now.seen.names.items in
    let filed = c.args.filed in let own = c.requires.own in
    let m = c.put_entry.new.self in
    let enters : Enters v.tells v.holds v.faults v.calls v.lists k (key_of filed) (filing_of filed) m = c.in_default-put_entry.ensures filed refl in
    let room : has_room k.journal (entry_of name change) ≡ true =
    room-as k.journal name change c.body_size.result c.has_room.result c.body_size.ensures (rw (sym c.self.view_is) c.has_room.ensures)
    ∙ c.if-not-has_room.false in
    let n = c.put_write.new.self in
    let has = has-filed v.tells v.holds v.faults v.calls v.lists k m filed enters name change own room in
    let grown = grown-filed v.tells v.holds v.faults v.calls v.lists k m filed enters name change own in
    let puts : PutsFile v.tells v.holds v.faults v.calls v.lists m name (write_of change) (records_for name change) names n =
    puts-as v.tells v.holds v.faults v.calls v.lists m n name names (Ok c.in-Ok-put_write.field-0) c.into_write.result (write_of change)
    c.in-Ok.records (records_for name change)
    c.into_write.ensures (c.in-Ok.ensures ∙ sym own) c.in-Ok-put_write.ensures in
    made-ends v.tells v.holds v.faults v.calls v.lists k name change names o m has grown n puts c.made_answer-answer.result (c.front.result + 1)
    c.made_answer-answer.ensures
    (ap (λ (n : ℕ). n + 1) (c.front.ensures.length ∙ ap (λ (x : Kept _). length x.journal.entries) c.self.view_is))

pub returns-in-Ok-put_write-clause-briefs : goal.returns-in-Ok-put_write-clause-briefs
returns-in-Ok-put_write-clause-briefs g c =
    let v = g.V.Volume in
    let k = c.args.self.now in let name = c.args.name.now in let change = c.args.change in let o = c.args.plan.now.seen.outline in
    let names = c.args.plan.now.seen.names.items in
    let filed = c.args.filed in let own = c.requires.own in
    let m = c.put_entry.new.self in
    let enters : Enters v.tells v.holds v.faults v.calls v.lists k (key_of filed) (filing_of filed) m = c.in_default-put_entry.ensures filed refl in
    let room : has_room k.journal (entry_of name change) ≡ true =
    room-as k.journal name change c.body_size.result c.has_room.result c.body_size.ensures (rw (sym c.self.view_is) c.has_room.ensures)
    ∙ c.if-not-has_room.false in
    let n = c.put_write.new.self in
    let has = has-filed v.tells v.holds v.faults v.calls v.lists k m filed enters name change own room in
    let grown = grown-filed v.tells v.holds v.faults v.calls v.lists k m filed enters name change own in
    let puts : PutsFile v.tells v.holds v.faults v.calls v.lists m name (write_of change) (records_for name change) names n =
    puts-as v.tells v.holds v.faults v.calls v.lists m n name names (Ok c.in-Ok-put_write.field-0) c.into_write.result (write_of change)
    c.in-Ok.records (records_for name change)
    c.into_write.ensures (c.in-Ok.ensures ∙ sym own) c.in-Ok-put_write.ensures in
    others-own c.made_answer-answer.result (ap is_entered c.made_answer-answer.ensures ∙ made-entered o change (c.front.result + 1))
    k.journal.entries n.journal.entries c.args.settled.now.items c.brief_ready.new.settled.items (Wrote name (write_of change) (records_for name change))
    (made-entries v.tells v.holds v.faults v.calls v.lists k name change names o m has grown n puts) c.brief_ready.ensures.kept

pub returns-in-Err-put_write-clause-ended : goal.returns-in-Err-put_write-clause-ended
returns-in-Err-put_write-clause-ended g c =
    let v = g.V.Volume in
    let k = c.args.self.now in let name = c.args.name.now in let change = c.args.change in let o = c.args.plan.now.seen.outline in
    let names = c.args.plan.now.seen.names.items in
    let filed = c.args.filed in let own = c.requires.own in
    let m = c.put_entry.new.self in
    let enters : Enters v.tells v.holds v.faults v.calls v.lists k (key_of filed) (filing_of filed) m = c.in_default-put_entry.ensures filed refl in
    let room : has_room k.journal (entry_of name change) ≡ true =
    room-as k.journal name change c.body_size.result c.has_room.result c.body_size.ensures (rw (sym c.self.view_is) c.has_room.ensures)
    ∙ c.if-not-has_room.false in
    let n = c.put_write.new.self in
    let has = has-filed v.tells v.holds v.faults v.calls v.lists k m filed enters name change own room in
    let grown = grown-filed v.tells v.holds v.faults v.calls v.lists k m filed enters name change own in
    let error = c.in-Err-put_write.error in
    let puts : PutsWrite v.tells v.holds v.faults v.calls v.lists m name (write_of change) (records_for name change) names (Err error) n =
    puts-as v.tells v.holds v.faults v.calls v.lists m n name names (Err error) c.into_write.result (write_of change) c.in-Ok.records (records_for name change)
    c.into_write.ensures (c.in-Ok.ensures ∙ sym own) c.in-Err-put_write.ensures in
    subst (λ (a : Answer). ReadyEnds v.tells v.holds v.faults v.calls v.lists k name change names o a n) (sym c.answer_in-in-Err-put_write.ensures)
    (unmade-ends v.tells v.holds v.faults v.calls v.lists k name change names o m has grown error n puts)

pub returns-in-Err-put_write-clause-briefs : goal.returns-in-Err-put_write-clause-briefs
returns-in-Err-put_write-clause-briefs g c =
    let v = g.V.Volume in
    let k = c.args.self.now in let name = c.args.name.now in let change = c.args.change in let o = c.args.plan.now.seen.outline in
    let names = c.args.plan.now.seen.names.items in
    let filed = c.args.filed in let own = c.requires.own in
    let m = c.put_entry.new.self in
    let enters : Enters v.tells v.holds v.faults v.calls v.lists k (key_of filed) (filing_of filed) m = c.in_default-put_entry.ensures filed refl in
    let n = c.put_write.new.self in let error = c.in-Err-put_write.error in
    let before = c.args.settled.now.items in let after = c.push_reserved.new.self.items in
    let more : n.journal.entries ≡ k.journal.entries ++ filing_of filed ∷ [] =
    unmade-same v.tells v.holds v.faults v.calls v.lists m n name c.into_write.result c.in-Ok.records names error c.in-Err-put_write.ensures
    ∙ ap (λ j. j.entries) enters.entered in
    others-all c.answer_in-in-Err-put_write.result (ap is_entered c.answer_in-in-Err-put_write.ensures ∙ fails-unentered error)
    k.journal.entries n.journal.entries before after
    (record {
      grows = (filing_of filed ∷ [], more);
      briefs = briefs-one k.journal.entries n.journal.entries before after (filing_of filed) c.in-Ok-brief_ready.brief more
          c.in-Ok-brief_ready.ensures.brief
          (c.push_reserved.ensures.items ∙ ap (λ l. l ++ c.in-Ok-brief_ready.brief ∷ []) c.brief_ready.ensures.kept);
    })

use Rattle.std.proofs.Common.{◌≡◌, ℕ, ◌+◌, ◌≤◌, true, List, None, Ok, Err, refl, sym, ◌∙◌, ap, subst, length}
use Rattle.sw_cleanup.specs.Cleaning.{AreListedIn}
use Rattle.sw_objdir.proofs.Deciding.{room-as}
use Rattle.sw_objdir.proofs.WriteComposing.{grown-none, has-none, made-ends, made-entered, made-entries, others-none, others-own}
use Rattle.sw_objdir.proofs.WriteComposing.{puts-as, room-bytes, seen-received}
use Rattle.sw_objdir.proofs.WriteComposing.{unmade-ends, unmade-same}
use Rattle.sw_objdir.specs.Calling.{entry_of}
use Rattle.sw_objdir.specs.Directories.{Kept}
use Rattle.sw_objdir.specs.Stepping.{IsSeenAs}
use Rattle.sw_objdir.specs.Writing.{PutsFile, PutsWrite, ReadyEnds}
use Rattle.sw_object_steps.specs.Journals.{bodies, body_size, has_room}
use Rattle.sw_object_steps.specs.Recorded.{records_for}
use Rattle.sw_object_steps.specs.Steps.{is_entered, write_of}
use Rattle.sw_object_steps.specs.declared.answer.Answer.{Answer}
use Rattle.sw_object_steps.specs.declared.change.Change.TheVariants.{Receive}
use Rattle.sw_object_steps.specs.declared.entry.ObjEntry.TheVariants.{Wrote}
use Rattle.sw_state.specs.declared.write.Write.{Write}
use Rattle.sw_volume.specs.Tree.{contents}
use Rattle.sw_objdir.proofs.obj_dir.ObjDir.write_alone.Goals as goal

pub put_write-requires-clause-filed : goal.put_write-requires-clause-filed
put_write-requires-clause-filed g c =
    let v = g.V.Volume in
    let k = c.args.self.now in let name = c.args.name.now in let change = c.args.change in let o = c.args.plan.now.seen.outline in
    let names = c.args.plan.now.seen.names.items in
    (k.journal.entries, grown-none v.tells v.holds v.faults v.calls v.lists k name c.new-none.result c.new-none.ensures)

pub put_write-requires-clause-dir : goal.put_write-requires-clause-dir
put_write-requires-clause-dir g c =
    c.deref.ensures.value ∙ c.requires.dir

pub put_write-requires-clause-names : goal.put_write-requires-clause-names
put_write-requires-clause-names g c =
    let v = g.V.Volume in
    let k = c.args.self.now in let name = c.args.name.now in let change = c.args.change in let o = c.args.plan.now.seen.outline in
    let names = c.args.plan.now.seen.names.items in
    λ told. subst (λ (d : List ℕ). AreListedIn (contents (v.holds k.volume)) d names) (sym c.deref.ensures.value) (c.requires.names told)

pub put_write-requires-clause-stood : goal.put_write-requires-clause-stood
put_write-requires-clause-stood g c =
    let v = g.V.Volume in
    let k = c.args.self.now in let name = c.args.name.now in let change = c.args.change in let o = c.args.plan.now.seen.outline in
    let names = c.args.plan.now.seen.names.items in
    subst (λ (w : Write). IsSeenAs v.tells v.holds v.faults k name.hash o (Receive w) None) (sym c.into_write.ensures)
    (seen-received v.tells v.holds v.faults v.calls v.lists k name.hash o change c.requires.writes c.requires.stood)

pub put_write-requires-clause-room : goal.put_write-requires-clause-room
put_write-requires-clause-room g c =
    let v = g.V.Volume in
    let k = c.args.self.now in let name = c.args.name.now in let change = c.args.change in let o = c.args.plan.now.seen.outline in
    let names = c.args.plan.now.seen.names.items in
    let room : has_room k.journal (entry_of name change) ≡ true =
    room-as k.journal name change c.body_size.result c.has_room.result c.body_size.ensures (rw (sym c.self.view_is) c.has_room.ensures)
    ∙ c.if-not-has_room.false in
    subst (λ (w : Write). bodies k.journal.entries + bodies k.journal.doubts + body_size w.kind ≤ k.journal.max_bytes) (sym c.into_write.ensures)
    (room-bytes k.journal name change room)

pub returns-in-Ok-clause-ended : goal.returns-in-Ok-clause-ended
returns-in-Ok-clause-ended g c =
    let v = g.V.Volume in
    let k = c.args.self.now in let name = c.args.name.now in let change = c.args.change in let o = c.args.plan.now.seen.outline in
    let names = c.args.plan.now.seen.names.items in
    let room : has_room k.journal (entry_of name change) ≡ true =
    room-as k.journal name change c.body_size.result c.has_room.result c.body_size.ensures (rw (sym c.self.view_is) c.has_room.ensures)
    ∙ c.if-not-has_room.false in
    let n = c.put_write.new.self in let none = c.requires.none in
    let has = has-none v.tells v.holds v.faults v.calls v.lists k name change none room in
    let grown = grown-none v.tells v.holds v.faults v.calls v.lists k name (records_for name change) none in
    let puts : PutsFile v.tells v.holds v.faults v.calls v.lists k name (write_of change) (records_for name change) names n =
    puts-as v.tells v.holds v.faults v.calls v.lists k n name names (Ok c.in-Ok.field-0) c.into_write.result (write_of change) c.new-none.result
    (records_for name change)
    c.into_write.ensures (c.new-none.ensures ∙ sym none) c.in-Ok.ensures in
    made-ends v.tells v.holds v.faults v.calls v.lists k name change names o k has grown n puts c.made_answer-answer.result (c.front.result + 1)
    c.made_answer-answer.ensures
    (ap (λ (n : ℕ). n + 1) (c.front.ensures.length ∙ ap (λ (x : Kept _). length x.journal.entries) c.self.view_is))

pub returns-in-Ok-clause-briefs : goal.returns-in-Ok-clause-briefs
returns-in-Ok-clause-briefs g c =
    let v = g.V.Volume in
    let k = c.args.self.now in let name = c.args.name.now in let change = c.args.change in let o = c.args.plan.now.seen.outline in
    let names = c.args.plan.now.seen.names.items in
    let room : has_room k.journal (entry_of name change) ≡ true =
    room-as k.journal name change c.body_size.result c.has_room.result c.body_size.ensures (rw (sym c.self.view_is) c.has_room.ensures)
    ∙ c.if-not-has_room.false in
    let n = c.put_write.new.self in let none = c.requires.none in
    let has = has-none v.tells v.holds v.faults v.calls v.lists k name change none room in
    let grown = grown-none v.tells v.holds v.faults v.calls v.lists k name (records_for name change) none in
    let puts : PutsFile v.tells v.holds v.faults v.calls v.lists k name (write_of change) (records_for name change) names n =
    puts-as v.tells v.holds v.faults v.calls v.lists k n name names (Ok c.in-Ok.field-0) c.into_write.result (write_of change) c.new-none.result
    (records_for name change)
    c.into_write.ensures (c.new-none.ensures ∙ sym none) c.in-Ok.ensures in
    λ settled. others-own c.made_answer-answer.result (ap is_entered c.made_answer-answer.ensures ∙ made-entered o change (c.front.result + 1))
    k.journal.entries n.journal.entries settled settled (Wrote name (write_of change) (records_for name change))
    (made-entries v.tells v.holds v.faults v.calls v.lists k name change names o k has grown n puts) refl

pub returns-in-Err-clause-ended : goal.returns-in-Err-clause-ended
returns-in-Err-clause-ended g c =
    let v = g.V.Volume in
    let k = c.args.self.now in let name = c.args.name.now in let change = c.args.change in let o = c.args.plan.now.seen.outline in
    let names = c.args.plan.now.seen.names.items in
    let room : has_room k.journal (entry_of name change) ≡ true =
    room-as k.journal name change c.body_size.result c.has_room.result c.body_size.ensures (rw (sym c.self.view_is) c.has_room.ensures)
    ∙ c.if-not-has_room.false in
    let n = c.put_write.new.self in let none = c.requires.none in
    let has = has-none v.tells v.holds v.faults v.calls v.lists k name change none room in
    let grown = grown-none v.tells v.holds v.faults v.calls v.lists k name (records_for name change) none in
    let puts : PutsWrite v.tells v.holds v.faults v.calls v.lists k name (write_of change) (records_for name change) names (Err c.in-Err.error) n =
    puts-as v.tells v.holds v.faults v.calls v.lists k n name names (Err c.in-Err.error) c.into_write.result (write_of change) c.new-none.result
    (records_for name change)
    c.into_write.ensures (c.new-none.ensures ∙ sym none) c.in-Err.ensures in
    subst (λ (a : Answer). ReadyEnds v.tells v.holds v.faults v.calls v.lists k name change names o a n) (sym c.answer_in.ensures)
    (unmade-ends v.tells v.holds v.faults v.calls v.lists k name change names o k has grown c.in-Err.error n puts)

pub returns-in-Err-clause-briefs : goal.returns-in-Err-clause-briefs
returns-in-Err-clause-briefs g c =
    let v = g.V.Volume in
    let k = c.args.self.now in let name = c.args.name.now in let change = c.args.change in let o = c.args.plan.now.seen.outline in
    let names = c.args.plan.now.seen.names.items in
    let n = c.put_write.new.self in
    λ settled. others-none c.answer_in.result k.journal.entries n.journal.entries settled settled
    (unmade-same v.tells v.holds v.faults v.calls v.lists k n name c.into_write.result c.new-none.result names c.in-Err.error c.in-Err.ensures) refl

use Rattle.std.proofs.Common.{◌≡◌, ◌≢◌, ◌+◌, true, List, [], ◌∷◌, ◌++◌, Option, None, inl, inr, refl, sym, ◌∙◌, ap, subst, arith}
use Rattle.sw_hashpath.specs.declared.place.Place.{Place}
use Rattle.sw_outside.specs.Counts.{raised}
use Rattle.sw_outside.specs.Faults.{HasRisen}
use Rattle.sw_keeper.specs.Keeping.{MayChange}
use Rattle.sw_keeper.specs.declared.tables.Tables.{Tables}
use Rattle.sw_step.specs.Rules.{Makes as Succeeds, Refuses, Wants}
use Rattle.sw_container_steps.proofs.Ruling.{made-ends, refusal-ends}
use Rattle.sw_container_steps.specs.Deciding.{IsDecided}
use Rattle.sw_container_steps.specs.Rules.{cont_ending}
use Rattle.sw_container_steps.specs.declared.cont_entry.ContEntry.{ContEntry}
use Rattle.sw_container_steps.specs.declared.deciding.Decision.TheVariants.{Makes, Refused}
use Rattle.sw_container_steps.specs.Entries.{all_entered}
use Rattle.sw_container_steps.specs.Laws.{sign_of}
use Rattle.sw_container_steps.specs.Steps.{entries_for}
use Rattle.sw_container_db.specs.Calling.{Enters, left_by}
use Rattle.sw_container_db.specs.ContDirs.{ContKept, doubts_in}
use Rattle.sw_container_db.specs.LoadedList.{Lacks, tables_at}
use Rattle.sw_container_db.proofs.Calls.{called-made, called-refused, commit-fails, counts, fine-wants, makes-enters, wanted, wrote}
use Rattle.sw_container_db.proofs.Fresh.{IsKept, fresh-entered, fresh-same}
use Rattle.sw_container_db.proofs.Kept.{held-parts, kept-same, nonempty, still-held}
use Rattle.sw_container_db.proofs.Making.{done-kept, doubted-kept, make-done, make-doubted, make-full, make-none}
use Rattle.sw_container_db.proofs.Making.{make-refused, make-takes, make-wanted}
use Rattle.sw_container_db.proofs.cont_dir.ContDir.make.Goals as goal

pub returns-in-Err-clause-made : goal.returns-in-Err-clause-made
returns-in-Err-clause-made g c =
    let v = g.K.Keeper in let i = c.self.inside in
    let none : doubts_in i.doubt ≡ [] = ap (λ (x : ContKept _). x.journal.doubts) c.self.view_is ∙ c.requires.doubt in
    let place = c.args.place.now in let change = c.args.change.now in let others = c.requires.loaded.0 in let read = c.last-tables.result.now in
    let was : c.last-tables.result.now ≡ c.requires.loaded.1 = c.last-tables.ensures others (tables_at place c.requires.loaded.1)
    (ap (λ (x : ContKept _). x.loaded) c.self.view_is ∙ c.requires.loaded.2) in
    let at : i.loaded ≡ others ++ tables_at place read ∷ [] =
    ap (λ (x : ContKept _). x.loaded) c.self.view_is ∙ (c.requires.loaded.2 ∙ ap (λ (t : Option Tables). others ++ tables_at place t ∷ []) (sym was)) in
    rw (sym c.self.view_is) (make-wanted v.tells v.holds v.faults _ i.doubt c.self.invariant place change none others read at
    i.entries.items (v.faults i.keeper) (v.holds i.keeper place) refl (omega arith) (λ told. refl))

pub returns-in-Ok-Refused-clause-made : goal.returns-in-Ok-Refused-clause-made
returns-in-Ok-Refused-clause-made g c =
    let v = g.K.Keeper in let i = c.self.inside in
    let none : doubts_in i.doubt ≡ [] = ap (λ (x : ContKept _). x.journal.doubts) c.self.view_is ∙ c.requires.doubt in
    let place = c.args.place.now in let change = c.args.change.now in let others = c.requires.loaded.0 in let read = c.last-tables.result.now in
    let was : c.last-tables.result.now ≡ c.requires.loaded.1 = c.last-tables.ensures others (tables_at place c.requires.loaded.1)
    (ap (λ (x : ContKept _). x.loaded) c.self.view_is ∙ c.requires.loaded.2) in
    let at : i.loaded ≡ others ++ tables_at place read ∷ [] =
    ap (λ (x : ContKept _). x.loaded) c.self.view_is ∙ (c.requires.loaded.2 ∙ ap (λ (t : Option Tables). others ++ tables_at place t ∷ []) (sym was)) in
    rw (sym c.self.view_is) (make-refused v.tells v.holds v.faults _ i.doubt c.self.invariant place change none others read at
    c.in-Ok-Refused.answer (subst (IsDecided read place change) c.in-Ok-Refused.field-0-is c.in-Ok-Refused.ensures.ok))

pub returns-then-not-has_room-clause-made : goal.returns-then-not-has_room-clause-made
returns-then-not-has_room-clause-made g c =
    let v = g.K.Keeper in let i = c.self.inside in
    let none : doubts_in i.doubt ≡ [] = ap (λ (x : ContKept _). x.journal.doubts) c.self.view_is ∙ c.requires.doubt in
    let place = c.args.place.now in let change = c.args.change.now in let others = c.requires.loaded.0 in let read = c.last-tables.result.now in
    let was : c.last-tables.result.now ≡ c.requires.loaded.1 = c.last-tables.ensures others (tables_at place c.requires.loaded.1)
    (ap (λ (x : ContKept _). x.loaded) c.self.view_is ∙ c.requires.loaded.2) in
    let at : i.loaded ≡ others ++ tables_at place read ∷ [] =
    ap (λ (x : ContKept _). x.loaded) c.self.view_is ∙ (c.requires.loaded.2 ∙ ap (λ (t : Option Tables). others ++ tables_at place t ∷ []) (sym was)) in
    let decided : IsDecided read place change (Makes c.in-Ok-Makes.entries) =
    subst (IsDecided read place change) c.in-Ok-Makes.field-0-is c.in-Ok-Makes.ensures.ok in
    rw (sym c.self.view_is) (make-full v.tells v.holds v.faults _ i.doubt c.self.invariant place change none others read at
    c.into-batch.result.items c.in-Ok-Makes.entries decided c.into-batch.ensures c.count_of-count.result c.count_of-more.result
    c.count_of-count.ensures.length c.count_of-more.ensures.length
    c.if-more-eq0.false c.has_numbers.result c.has_room.result c.deref.result.now c.deref.ensures.value c.has_numbers.ensures c.has_room.ensures
    c.if-not-has_room.true)

pub returns-then-is_err-clause-made : goal.returns-then-is_err-clause-made
returns-then-is_err-clause-made g c =
    let v = g.K.Keeper in let i = c.self.inside in
    let none : doubts_in i.doubt ≡ [] = ap (λ (x : ContKept _). x.journal.doubts) c.self.view_is ∙ c.requires.doubt in
    let place = c.args.place.now in let change = c.args.change.now in let others = c.requires.loaded.0 in let read = c.last-tables.result.now in
    let was : c.last-tables.result.now ≡ c.requires.loaded.1 = c.last-tables.ensures others (tables_at place c.requires.loaded.1)
    (ap (λ (x : ContKept _). x.loaded) c.self.view_is ∙ c.requires.loaded.2) in
    let at : i.loaded ≡ others ++ tables_at place read ∷ [] =
    ap (λ (x : ContKept _). x.loaded) c.self.view_is ∙ (c.requires.loaded.2 ∙ ap (λ (t : Option Tables). others ++ tables_at place t ∷ []) (sym was)) in
    rw (sym c.self.view_is) (make-wanted v.tells v.holds v.faults _ i.doubt c.self.invariant place change none others read at
    c.make_room.new.entries.items (v.faults i.keeper) (v.holds i.keeper place) c.make_room.ensures.entries (omega arith) (λ told. refl))

pub returns-in_default-clause-made : goal.returns-in_default-clause-made
returns-in_default-clause-made g c =
    let v = g.K.Keeper in let i = c.self.inside in
    let none : doubts_in i.doubt ≡ [] = ap (λ (x : ContKept _). x.journal.doubts) c.self.view_is ∙ c.requires.doubt in
    let place = c.args.place.now in let change = c.args.change.now in let others = c.requires.loaded.0 in let read = c.last-tables.result.now in
    let was : c.last-tables.result.now ≡ c.requires.loaded.1 = c.last-tables.ensures others (tables_at place c.requires.loaded.1)
    (ap (λ (x : ContKept _). x.loaded) c.self.view_is ∙ c.requires.loaded.2) in
    let at : i.loaded ≡ others ++ tables_at place read ∷ [] =
    ap (λ (x : ContKept _). x.loaded) c.self.view_is ∙ (c.requires.loaded.2 ∙ ap (λ (t : Option Tables). others ++ tables_at place t ∷ []) (sym was)) in
    rw (sym c.self.view_is) (make-wanted v.tells v.holds v.faults _ i.doubt c.self.invariant place change none others read at
    c.make_room.new.entries.items (v.faults i.keeper) (v.holds i.keeper place) c.make_room.ensures.entries (omega arith) (λ told. refl))

pub returns-then-more-eq0-clause-made : goal.returns-then-more-eq0-clause-made
returns-then-more-eq0-clause-made g c =
    let v = g.K.Keeper in let i = c.self.inside in
    let none : doubts_in i.doubt ≡ [] = ap (λ (x : ContKept _). x.journal.doubts) c.self.view_is ∙ c.requires.doubt in
    let place = c.args.place.now in let change = c.args.change.now in let others = c.requires.loaded.0 in let read = c.last-tables.result.now in
    let was : c.last-tables.result.now ≡ c.requires.loaded.1 = c.last-tables.ensures others (tables_at place c.requires.loaded.1)
    (ap (λ (x : ContKept _). x.loaded) c.self.view_is ∙ c.requires.loaded.2) in
    let at : i.loaded ≡ others ++ tables_at place read ∷ [] =
    ap (λ (x : ContKept _). x.loaded) c.self.view_is ∙ (c.requires.loaded.2 ∙ ap (λ (t : Option Tables). others ++ tables_at place t ∷ []) (sym was)) in
    let decided : IsDecided read place change (Makes c.in-Ok-Makes.entries) =
    subst (IsDecided read place change) c.in-Ok-Makes.field-0-is c.in-Ok-Makes.ensures.ok in
    rw (sym c.self.view_is) (make-none v.tells v.holds v.faults _ i.doubt c.self.invariant place change none others read at
    c.into-batch.result.items c.in-Ok-Makes.entries decided c.into-batch.ensures c.count_of-count.result c.count_of-more.result
    c.count_of-count.ensures.length c.count_of-more.ensures.length
    c.made_answer.result c.if-more-eq0.true (c.made_answer.ensures c.last-tables.result.now (sym c.is_present-was_there.ensures)))

pub commit-requires : goal.commit-requires
commit-requires g c =
    let v = g.K.Keeper in let i = c.self.inside in
    let none : doubts_in i.doubt ≡ [] = ap (λ (x : ContKept _). x.journal.doubts) c.self.view_is ∙ c.requires.doubt in
    let place = c.args.place.now in let change = c.args.change.now in let others = c.requires.loaded.0 in let read = c.last-tables.result.now in
    let was : c.last-tables.result.now ≡ c.requires.loaded.1 = c.last-tables.ensures others (tables_at place c.requires.loaded.1)
    (ap (λ (x : ContKept _). x.loaded) c.self.view_is ∙ c.requires.loaded.2) in
    let at : i.loaded ≡ others ++ tables_at place read ∷ [] =
    ap (λ (x : ContKept _). x.loaded) c.self.view_is ∙ (c.requires.loaded.2 ∙ ap (λ (t : Option Tables). others ++ tables_at place t ∷ []) (sym was)) in
    let decided : IsDecided read place change (Makes c.in-Ok-Makes.entries) =
    subst (IsDecided read place change) c.in-Ok-Makes.field-0-is c.in-Ok-Makes.ensures.ok in
    record {
      fits = make-takes v.tells v.holds v.faults _ i.doubt c.self.invariant place change none others read at
          c.into-batch.result.items c.in-Ok-Makes.entries decided c.into-batch.ensures c.count_of-count.result c.count_of-more.result
          c.count_of-count.ensures.length c.count_of-more.ensures.length
          c.if-more-eq0.false c.has_numbers.result c.has_room.result c.deref.result.now c.deref.ensures.value c.has_numbers.ensures c.has_room.ensures
          c.if-not-has_room.false c.take_last-tables.result (c.take_last-tables.ensures.taken others (tables_at place read) at)
          c.deref-3.result.now c.deref-3.ensures.value c.in-Ok.made.batch c.in-Ok.made.tables
          c.in-Ok.ensures.makes c.in-Ok.ensures.tables
          c.in-Ok.ensures.fits;
    }

pub invariant_of-self-in-Ok-commit : goal.invariant_of-self-in-Ok-commit
invariant_of-self-in-Ok-commit g c =
    let v = g.K.Keeper in let i = c.self.inside in
    let none : doubts_in i.doubt ≡ [] = ap (λ (x : ContKept _). x.journal.doubts) c.self.view_is ∙ c.requires.doubt in
    let place = c.args.place.now in let change = c.args.change.now in let others = c.requires.loaded.0 in let read = c.last-tables.result.now in
    let was : c.last-tables.result.now ≡ c.requires.loaded.1 = c.last-tables.ensures others (tables_at place c.requires.loaded.1)
    (ap (λ (x : ContKept _). x.loaded) c.self.view_is ∙ c.requires.loaded.2) in
    let at : i.loaded ≡ others ++ tables_at place read ∷ [] =
    ap (λ (x : ContKept _). x.loaded) c.self.view_is ∙ (c.requires.loaded.2 ∙ ap (λ (t : Option Tables). others ++ tables_at place t ∷ []) (sym was)) in
    let decided : IsDecided read place change (Makes c.in-Ok-Makes.entries) =
    subst (IsDecided read place change) c.in-Ok-Makes.field-0-is c.in-Ok-Makes.ensures.ok in
    let joined : c.enter.new.entries.items ≡ i.entries.items ++ c.into-batch.result.items =
    c.enter.ensures.entries ∙ ap (λ (e : List ContEntry). e ++ c.into-batch.result.items) c.make_room.ensures.entries in
    let emptied : c.take_last-tables.new.self ≡ others ++ tables_at place None ∷ [] = c.take_last-tables.ensures.rest others (tables_at place read) at in
    let lacks : Lacks place others = c.take_last-tables.ensures.alone others (tables_at place read) at in
    rw (c.put_last.ensures others (tables_at place None) emptied)
    (done-kept v.tells v.holds v.faults _ i.doubt c.self.invariant place change none others read at
    c.into-batch.result.items c.in-Ok-Makes.entries decided c.into-batch.ensures c.count_of-count.result c.count_of-more.result
    c.count_of-count.ensures.length c.count_of-more.ensures.length
    c.if-more-eq0.false c.has_numbers.result c.has_room.result c.deref.result.now c.deref.ensures.value c.has_numbers.ensures c.has_room.ensures
    c.if-not-has_room.false c.take_last-tables.result (c.take_last-tables.ensures.taken others (tables_at place read) at)
    c.deref-3.result.now c.deref-3.ensures.value c.in-Ok.made.batch c.in-Ok.made.tables
    c.in-Ok.ensures.makes c.in-Ok.ensures.tables
    c.commit.new.self c.commit.ensures.told c.commit.ensures.cause.later (λ told. c.in-Ok-commit.ensures.ok told) c.enter.new.entries.items joined
    c.made_answer-in-Ok-commit.result (c.made_answer-in-Ok-commit.ensures c.last-tables.result.now (sym c.is_present-was_there.ensures)) _ lacks)

pub returns-in-Ok-commit-clause-made : goal.returns-in-Ok-commit-clause-made
returns-in-Ok-commit-clause-made g c =
    let v = g.K.Keeper in let i = c.self.inside in
    let none : doubts_in i.doubt ≡ [] = ap (λ (x : ContKept _). x.journal.doubts) c.self.view_is ∙ c.requires.doubt in
    let place = c.args.place.now in let change = c.args.change.now in let others = c.requires.loaded.0 in let read = c.last-tables.result.now in
    let was : c.last-tables.result.now ≡ c.requires.loaded.1 = c.last-tables.ensures others (tables_at place c.requires.loaded.1)
    (ap (λ (x : ContKept _). x.loaded) c.self.view_is ∙ c.requires.loaded.2) in
    let at : i.loaded ≡ others ++ tables_at place read ∷ [] =
    ap (λ (x : ContKept _). x.loaded) c.self.view_is ∙ (c.requires.loaded.2 ∙ ap (λ (t : Option Tables). others ++ tables_at place t ∷ []) (sym was)) in
    let decided : IsDecided read place change (Makes c.in-Ok-Makes.entries) =
    subst (IsDecided read place change) c.in-Ok-Makes.field-0-is c.in-Ok-Makes.ensures.ok in
    let joined : c.enter.new.entries.items ≡ i.entries.items ++ c.into-batch.result.items =
    c.enter.ensures.entries ∙ ap (λ (e : List ContEntry). e ++ c.into-batch.result.items) c.make_room.ensures.entries in
    rw (sym c.self.view_is) (make-done v.tells v.holds v.faults _ i.doubt c.self.invariant place change none others read at
    c.into-batch.result.items c.in-Ok-Makes.entries decided c.into-batch.ensures c.count_of-count.result c.count_of-more.result
    c.count_of-count.ensures.length c.count_of-more.ensures.length
    c.if-more-eq0.false c.has_numbers.result c.has_room.result c.deref.result.now c.deref.ensures.value c.has_numbers.ensures c.has_room.ensures
    c.if-not-has_room.false c.take_last-tables.result (c.take_last-tables.ensures.taken others (tables_at place read) at)
    c.deref-3.result.now c.deref-3.ensures.value c.in-Ok.made.batch c.in-Ok.made.tables
    c.in-Ok.ensures.makes c.in-Ok.ensures.tables
    c.commit.new.self c.commit.ensures.told c.commit.ensures.cause.later (λ told. c.in-Ok-commit.ensures.ok told) c.enter.new.entries.items joined
    c.made_answer-in-Ok-commit.result (c.made_answer-in-Ok-commit.ensures c.last-tables.result.now (sym c.is_present-was_there.ensures)))

pub returns-in-Err-NoMemory-clause-made : goal.returns-in-Err-NoMemory-clause-made
returns-in-Err-NoMemory-clause-made g c =
    let v = g.K.Keeper in let i = c.self.inside in
    let none : doubts_in i.doubt ≡ [] = ap (λ (x : ContKept _). x.journal.doubts) c.self.view_is ∙ c.requires.doubt in
    let place = c.args.place.now in let change = c.args.change.now in let others = c.requires.loaded.0 in let read = c.last-tables.result.now in
    let was : c.last-tables.result.now ≡ c.requires.loaded.1 = c.last-tables.ensures others (tables_at place c.requires.loaded.1)
    (ap (λ (x : ContKept _). x.loaded) c.self.view_is ∙ c.requires.loaded.2) in
    let at : i.loaded ≡ others ++ tables_at place read ∷ [] =
    ap (λ (x : ContKept _). x.loaded) c.self.view_is ∙ (c.requires.loaded.2 ∙ ap (λ (t : Option Tables). others ++ tables_at place t ∷ []) (sym was)) in
    let still : v.tells i.opening.value ≡ true → v.holds c.commit.new.self place ≡ v.holds i.keeper place = λ told.
    (rw c.in-Err-NoMemory.field-0-is at c.in-Err-NoMemory.ensures.no_memory) (c.self.invariant.same ∙ told) place in
    rw (sym c.self.view_is) (make-wanted v.tells v.holds v.faults _ i.doubt c.self.invariant place change none others read at
    c.make_room.new.entries.items (v.faults c.commit.new.self) (v.holds c.commit.new.self place) c.make_room.ensures.entries
    c.commit.ensures.cause.later still)

pub returns-in-Err-Failed-clause-made : goal.returns-in-Err-Failed-clause-made
returns-in-Err-Failed-clause-made g c =
    let v = g.K.Keeper in let i = c.self.inside in
    let none : doubts_in i.doubt ≡ [] = ap (λ (x : ContKept _). x.journal.doubts) c.self.view_is ∙ c.requires.doubt in
    let place = c.args.place.now in let change = c.args.change.now in let others = c.requires.loaded.0 in let read = c.last-tables.result.now in
    let was : c.last-tables.result.now ≡ c.requires.loaded.1 = c.last-tables.ensures others (tables_at place c.requires.loaded.1)
    (ap (λ (x : ContKept _). x.loaded) c.self.view_is ∙ c.requires.loaded.2) in
    let at : i.loaded ≡ others ++ tables_at place read ∷ [] =
    ap (λ (x : ContKept _). x.loaded) c.self.view_is ∙ (c.requires.loaded.2 ∙ ap (λ (t : Option Tables). others ++ tables_at place t ∷ []) (sym was)) in
    let decided : IsDecided read place change (Makes c.in-Ok-Makes.entries) =
    subst (IsDecided read place change) c.in-Ok-Makes.field-0-is c.in-Ok-Makes.ensures.ok in
    let may : v.tells i.keeper ≡ true → MayChange (v.holds i.keeper) (v.holds c.commit.new.self) place c.in-Ok.made.batch =
    λ told. (rw c.in-Err-Failed.field-0-is at c.in-Err-Failed.ensures.failed) told in
    let risen : HasRisen (v.faults i.keeper) (v.faults c.commit.new.self) = rw c.in-Err-Failed.field-0-is at c.in-Err-Failed.ensures.cause.risen in
    let step = make-doubted v.tells v.holds v.faults _ i.doubt c.self.invariant place change none others read at
    c.into-batch.result.items c.in-Ok-Makes.entries decided c.into-batch.ensures c.count_of-count.result c.count_of-more.result
    c.count_of-count.ensures.length c.count_of-more.ensures.length
    c.if-more-eq0.false c.has_numbers.result c.has_room.result c.deref.result.now c.deref.ensures.value c.has_numbers.ensures c.has_room.ensures
    c.if-not-has_room.false c.take_last-tables.result (c.take_last-tables.ensures.taken others (tables_at place read) at)
    c.deref-3.result.now c.deref-3.ensures.value c.in-Ok.made.batch c.in-Ok.made.tables
    c.in-Ok.ensures.makes c.in-Ok.ensures.tables
    c.commit.new.self c.commit.ensures.told c.commit.ensures.cause.later risen may in
    rw (sym c.self.view_is, c.make_room.ensures.entries) step

pub invariant_of-self-in-Err-Failed : goal.invariant_of-self-in-Err-Failed
invariant_of-self-in-Err-Failed g c =
    let v = g.K.Keeper in let i = c.self.inside in
    let none : doubts_in i.doubt ≡ [] = ap (λ (x : ContKept _). x.journal.doubts) c.self.view_is ∙ c.requires.doubt in
    let place = c.args.place.now in let change = c.args.change.now in let others = c.requires.loaded.0 in let read = c.last-tables.result.now in
    let was : c.last-tables.result.now ≡ c.requires.loaded.1 = c.last-tables.ensures others (tables_at place c.requires.loaded.1)
    (ap (λ (x : ContKept _). x.loaded) c.self.view_is ∙ c.requires.loaded.2) in
    let at : i.loaded ≡ others ++ tables_at place read ∷ [] =
    ap (λ (x : ContKept _). x.loaded) c.self.view_is ∙ (c.requires.loaded.2 ∙ ap (λ (t : Option Tables). others ++ tables_at place t ∷ []) (sym was)) in
    let decided : IsDecided read place change (Makes c.in-Ok-Makes.entries) =
    subst (IsDecided read place change) c.in-Ok-Makes.field-0-is c.in-Ok-Makes.ensures.ok in
    let may : v.tells i.keeper ≡ true → MayChange (v.holds i.keeper) (v.holds c.commit.new.self) place c.in-Ok.made.batch =
    λ told. (rw c.in-Err-Failed.field-0-is at c.in-Err-Failed.ensures.failed) told in
    let risen : HasRisen (v.faults i.keeper) (v.faults c.commit.new.self) = rw c.in-Err-Failed.field-0-is at c.in-Err-Failed.ensures.cause.risen in
    let emptied : c.take_last-tables.new.self ≡ others ++ tables_at place None ∷ [] = c.take_last-tables.ensures.rest others (tables_at place read) at in
    let lacks : Lacks place others = c.take_last-tables.ensures.alone others (tables_at place read) at in
    rw (c.make_room.ensures.entries, c.let_go-in-Err-Failed.ensures.rest others (tables_at place None) emptied)
    (doubted-kept v.tells v.holds v.faults _ i.doubt c.self.invariant place change none others read at
    c.into-batch.result.items c.in-Ok-Makes.entries decided c.into-batch.ensures c.count_of-count.result c.count_of-more.result
    c.count_of-count.ensures.length c.count_of-more.ensures.length
    c.if-more-eq0.false c.has_numbers.result c.has_room.result c.deref.result.now c.deref.ensures.value c.has_numbers.ensures c.has_room.ensures
    c.if-not-has_room.false c.take_last-tables.result (c.take_last-tables.ensures.taken others (tables_at place read) at)
    c.deref-3.result.now c.deref-3.ensures.value c.in-Ok.made.batch c.in-Ok.made.tables
    c.in-Ok.ensures.makes c.in-Ok.ensures.tables
    c.commit.new.self c.commit.ensures.told c.commit.ensures.cause.later risen may
    (record { place = c.let_go-in-Err-Failed.result; batch = c.into-batch.result; sign = c.sign_of-sign.result }) _ lacks
    (c.let_go-in-Err-Failed.ensures.place others (tables_at place None) emptied) refl
    (c.sign_of-sign.ensures ∙ ap (λ (es : List ContEntry). sign_of es read) c.deref-2.ensures.value))

pub invariant_of-self-in_default : goal.invariant_of-self-in_default
invariant_of-self-in_default g c =
    let v = g.K.Keeper in let i = c.self.inside in
    let place = c.args.place.now in let others = c.requires.loaded.0 in let given = c.requires.loaded.1 in
    let at : i.loaded ≡ others ++ tables_at place given ∷ [] = ap (λ (x : ContKept _). x.loaded) c.self.view_is ∙ c.requires.loaded.2 in
    let emptied : c.take_last-tables.new.self ≡ others ++ tables_at place None ∷ [] = c.take_last-tables.ensures.rest others (tables_at place given) at in
    rw (c.let_go.ensures.rest others (tables_at place None) emptied)
    (kept-same v.tells v.holds v.faults _ i.doubt c.self.invariant i.keeper _ c.make_room.new.entries.items others refl (λ told p. refl)
    c.make_room.ensures.entries (λ told. (held-parts i.loaded others (tables_at place given) (v.holds i.keeper) at (c.self.invariant.held told)).0))

pub invariant_of-self-in-NoMemory-1 : goal.invariant_of-self-in-NoMemory-1
invariant_of-self-in-NoMemory-1 g c =
    let v = g.K.Keeper in let i = c.self.inside in
    let place = c.args.place.now in let others = c.requires.loaded.0 in let given = c.requires.loaded.1 in
    let at : i.loaded ≡ others ++ tables_at place given ∷ [] = ap (λ (x : ContKept _). x.loaded) c.self.view_is ∙ c.requires.loaded.2 in
    let emptied : c.take_last-tables.new.self ≡ others ++ tables_at place None ∷ [] = c.take_last-tables.ensures.rest others (tables_at place given) at in
    let still : v.tells i.keeper ≡ true → (p : Place) → v.holds c.commit.new.self p ≡ v.holds i.keeper p =
    rw c.in-Err-NoMemory.field-0-is at c.in-Err-NoMemory.ensures.no_memory in
    rw (c.let_go-in-Err-NoMemory.ensures.rest others (tables_at place None) emptied)
    (kept-same v.tells v.holds v.faults _ i.doubt c.self.invariant c.commit.new.self _ c.make_room.new.entries.items others c.commit.ensures.told still
    c.make_room.ensures.entries (λ told. still-held others (v.holds i.keeper) (v.holds c.commit.new.self) (still (c.self.invariant.same ∙ told))
    (held-parts i.loaded others (tables_at place given) (v.holds i.keeper) at (c.self.invariant.held told)).0))

pub returns-in-Ok-Refused-clause-called : goal.returns-in-Ok-Refused-clause-called
returns-in-Ok-Refused-clause-called g c others given at =
    let v = g.K.Keeper in let i = c.self.inside in
    let none : doubts_in i.doubt ≡ [] = ap (λ (x : ContKept _). x.journal.doubts) c.self.view_is ∙ c.requires.doubt in
    let place = c.args.place.now in let change = c.args.change.now in
    let inside : i.loaded ≡ others ++ tables_at place given ∷ [] = ap (λ (x : ContKept _). x.loaded) c.self.view_is ∙ at in
    let decided : IsDecided c.last-tables.result.now place change (Refused c.in-Ok-Refused.answer) =
    subst (IsDecided c.last-tables.result.now place change) c.in-Ok-Refused.field-0-is c.in-Ok-Refused.ensures.ok in
    rw (sym c.self.view_is) (called-refused v.tells v.holds v.faults v.calls 0 others given _ _ place change c.in-Ok-Refused.answer
    (refusal-ends c.last-tables.result.now place change c.in-Ok-Refused.answer decided)
    (record {
      counts = counts v.tells v.holds v.faults v.calls _ _ 0 0 none refl refl;
      settled = none;
      same = λ told p. refl;
      loaded = inside;
    }))

pub returns-then-is_err-clause-called : goal.returns-then-is_err-clause-called
returns-then-is_err-clause-called g c others given at =
    let v = g.K.Keeper in let i = c.self.inside in
    let none : doubts_in i.doubt ≡ [] = ap (λ (x : ContKept _). x.journal.doubts) c.self.view_is ∙ c.requires.doubt in
    let place = c.args.place.now in
    let inside : i.loaded ≡ others ++ tables_at place given ∷ [] = ap (λ (x : ContKept _). x.loaded) c.self.view_is ∙ at in
    rw (sym c.self.view_is) (wanted v.tells v.holds v.faults v.calls others given _ _ place none 0 (omega arith) none refl refl (λ told p. refl)
    (inl inside))

pub returns-in_default-clause-called : goal.returns-in_default-clause-called
returns-in_default-clause-called g c others given at =
    let v = g.K.Keeper in let i = c.self.inside in
    let none : doubts_in i.doubt ≡ [] = ap (λ (x : ContKept _). x.journal.doubts) c.self.view_is ∙ c.requires.doubt in
    let place = c.args.place.now in let change = c.args.change.now in
    let inside : i.loaded ≡ others ++ tables_at place given ∷ [] = ap (λ (x : ContKept _). x.loaded) c.self.view_is ∙ at in
    let emptied : c.take_last-tables.new.self ≡ others ++ tables_at place None ∷ [] =
    c.take_last-tables.ensures.rest others (tables_at place given) inside in
    rw (sym c.self.view_is) (wanted v.tells v.holds v.faults v.calls others given _ _ place none 0 (omega arith) none refl refl (λ told p. refl)
    (inr (c.let_go.ensures.rest others (tables_at place None) emptied)))

pub returns-in-Err-NoMemory-clause-called : goal.returns-in-Err-NoMemory-clause-called
returns-in-Err-NoMemory-clause-called g c others given at =
    let v = g.K.Keeper in let i = c.self.inside in
    let none : doubts_in i.doubt ≡ [] = ap (λ (x : ContKept _). x.journal.doubts) c.self.view_is ∙ c.requires.doubt in
    let place = c.args.place.now in let change = c.args.change.now in
    let inside : i.loaded ≡ others ++ tables_at place given ∷ [] = ap (λ (x : ContKept _). x.loaded) c.self.view_is ∙ at in
    let emptied : c.take_last-tables.new.self ≡ others ++ tables_at place None ∷ [] =
    c.take_last-tables.ensures.rest others (tables_at place given) inside in
    let still : v.tells i.keeper ≡ true → (p : Place) → v.holds c.commit.new.self p ≡ v.holds i.keeper p =
    rw c.in-Err-NoMemory.field-0-is at c.in-Err-NoMemory.ensures.no_memory in
    rw (sym c.self.view_is) (wanted v.tells v.holds v.faults v.calls others given _ _ place none 1 (omega arith) none c.commit.ensures.calls
    (rw c.in-Err-NoMemory.field-0-is at c.in-Err-NoMemory.ensures.cause.memory) still
    (inr (c.let_go-in-Err-NoMemory.ensures.rest others (tables_at place None) emptied)))

pub returns-in-Ok-commit-clause-called : goal.returns-in-Ok-commit-clause-called
returns-in-Ok-commit-clause-called g c others given at =
    let v = g.K.Keeper in let i = c.self.inside in
    let none : doubts_in i.doubt ≡ [] = ap (λ (x : ContKept _). x.journal.doubts) c.self.view_is ∙ c.requires.doubt in
    let place = c.args.place.now in let change = c.args.change.now in
    let inside : i.loaded ≡ others ++ tables_at place given ∷ [] = ap (λ (x : ContKept _). x.loaded) c.self.view_is ∙ at in
    let emptied : c.take_last-tables.new.self ≡ others ++ tables_at place None ∷ [] =
    c.take_last-tables.ensures.rest others (tables_at place given) inside in
    let was : c.last-tables.result.now ≡ given = c.last-tables.ensures others (tables_at place given) inside in
    let decided : IsDecided given place change (Makes c.in-Ok-Makes.entries) =
    subst (λ (t : Option Tables). IsDecided t place change (Makes c.in-Ok-Makes.entries)) was
    (subst (IsDecided c.last-tables.result.now place change) c.in-Ok-Makes.field-0-is c.in-Ok-Makes.ensures.ok) in
    let are : c.into-batch.result.items ≡ entries_for given place change = c.into-batch.ensures ∙ decided.1 in
    let full : c.into-batch.result.items ≢ [] = nonempty c.into-batch.result.items c.count_of-more.result c.count_of-more.ensures.length c.if-more-eq0.false in
    let leaves : c.in-Ok.made.tables ≡ left_by given place change = c.in-Ok.ensures.tables
    ∙ (ap (λ (t : Option Tables). all_entered t c.deref-3.result.now) (c.take_last-tables.ensures.taken others (tables_at place given) inside)
    ∙ ap (all_entered given) (c.deref-3.ensures.value ∙ are)) in
    rw (sym c.self.view_is, (c.made_answer-in-Ok-commit.ensures c.last-tables.result.now (sym c.is_present-was_there.ensures)))
    (called-made v.tells v.holds v.faults v.calls 0 others given _ _ place change c.last-tables.result.now
    (c.count_of-count.result + c.count_of-more.result)
    (wrote v.tells v.holds v.faults v.calls others given _ _ place none change c.in-Ok.made.tables none (λ is. full (are ∙ is)) c.commit.ensures.calls
    c.in-Ok-commit.ensures.cause.kept leaves (c.put_last.ensures others (tables_at place None) emptied)))

pub returns-in-Err-Failed-clause-called : goal.returns-in-Err-Failed-clause-called
returns-in-Err-Failed-clause-called g c others given at =
    let v = g.K.Keeper in let i = c.self.inside in
    let none : doubts_in i.doubt ≡ [] = ap (λ (x : ContKept _). x.journal.doubts) c.self.view_is ∙ c.requires.doubt in
    let place = c.args.place.now in let change = c.args.change.now in
    let inside : i.loaded ≡ others ++ tables_at place given ∷ [] = ap (λ (x : ContKept _). x.loaded) c.self.view_is ∙ at in
    let emptied : c.take_last-tables.new.self ≡ others ++ tables_at place None ∷ [] =
    c.take_last-tables.ensures.rest others (tables_at place given) inside in
    let was : c.last-tables.result.now ≡ given = c.last-tables.ensures others (tables_at place given) inside in
    let decided : IsDecided given place change (Makes c.in-Ok-Makes.entries) =
    subst (λ (t : Option Tables). IsDecided t place change (Makes c.in-Ok-Makes.entries)) was
    (subst (IsDecided c.last-tables.result.now place change) c.in-Ok-Makes.field-0-is c.in-Ok-Makes.ensures.ok) in
    let n : ContKept _ = record {
      keeper = c.commit.new.self;
      began = i.opening.value;
      loaded = c.let_go-in-Err-Failed.new.self;
      fresh = c.make_room.new.fresh.items;
      journal = record {
        entries = c.make_room.new.entries.items;
        doubts = c.into-batch.result.items ∷ [];
        max_entries = i.max_entries;
        max_bytes = 0;
      };
    } in
    let once : v.faults c.commit.new.self ≡ raised (v.faults i.keeper) = rw c.in-Err-Failed.field-0-is at c.in-Err-Failed.ensures.cause.once in
    let step = commit-fails v.tells v.holds v.faults v.calls others given _ n place none change
    (ap (λ (es : List ContEntry). es ∷ []) (c.into-batch.ensures ∙ decided.1)) c.commit.ensures.calls once
    (c.let_go-in-Err-Failed.ensures.rest others (tables_at place None) emptied) in
    rw (sym c.self.view_is) step

pub returns-in-Err-Failed-clause-others : goal.returns-in-Err-Failed-clause-others
returns-in-Err-Failed-clause-others g c =
    let v = g.K.Keeper in let i = c.self.inside in let place = c.args.place.now in
    let may : v.tells i.keeper ≡ true → MayChange (v.holds i.keeper) (v.holds c.commit.new.self) place c.in-Ok.made.batch =
    λ told. (rw c.in-Err-Failed.field-0-is at c.in-Err-Failed.ensures.failed) told in
    let step : v.tells i.keeper ≡ true → (p : Place) → p ≢ place → v.holds c.commit.new.self p ≡ v.holds i.keeper p =
    λ told p apart. elim (may told) [ inl same ↦ same p | inr made ↦ made.elsewhere p apart ] in
    rw (sym c.self.view_is) step

pub returns-in-Ok-commit-clause-fresh : goal.returns-in-Ok-commit-clause-fresh
returns-in-Ok-commit-clause-fresh g c =
    let i = c.self.inside in
    rw (sym c.self.view_is) (fresh-entered i.entries.items i.fresh.items c.make_room.new.entries.items c.make_room.new.fresh.items c.enter.new.entries.items
    c.enter.new.fresh.items c.into-batch.result.items
    c.make_room.ensures.entries c.make_room.ensures.fresh c.enter.ensures.entries c.enter.ensures.fresh)

pub returns-in-Err-NoMemory-clause-fresh : goal.returns-in-Err-NoMemory-clause-fresh
returns-in-Err-NoMemory-clause-fresh g c =
    let i = c.self.inside in
    rw (sym c.self.view_is) (fresh-same i.entries.items i.fresh.items c.make_room.new.entries.items c.make_room.new.fresh.items c.make_room.ensures.entries
    c.make_room.ensures.fresh)

pub returns-in-Err-Failed-clause-fresh : goal.returns-in-Err-Failed-clause-fresh
returns-in-Err-Failed-clause-fresh g c =
    let i = c.self.inside in
    let kept : IsKept i.entries.items i.fresh.items c.make_room.new.entries.items c.make_room.new.fresh.items =
    fresh-same i.entries.items i.fresh.items c.make_room.new.entries.items c.make_room.new.fresh.items c.make_room.ensures.entries c.make_room.ensures.fresh in
    rw (sym c.self.view_is) kept

-- ---- where memory ran out

refuses-apart : Refuses ≡ Wants → ⊥
refuses-apart is = cc

makes-apart : Succeeds ≡ Wants → ⊥
makes-apart is = cc

pub returns-in-Ok-Refused-clause-wanted : goal.returns-in-Ok-Refused-clause-wanted
returns-in-Ok-Refused-clause-wanted g c others given at =
    let place = c.args.place.now in let change = c.args.change.now in
    let decided : IsDecided c.last-tables.result.now place change (Refused c.in-Ok-Refused.answer) =
    subst (IsDecided c.last-tables.result.now place change) c.in-Ok-Refused.field-0-is c.in-Ok-Refused.ensures.ok in
    fine-wants place change given c.in-Ok-Refused.answer
    (λ wants. refuses-apart (sym (refusal-ends c.last-tables.result.now place change c.in-Ok-Refused.answer decided) ∙ wants))

pub returns-in-Err-clause-wanted : goal.returns-in-Err-clause-wanted
returns-in-Err-clause-wanted g c others given at =
    let place = c.args.place.now in let change = c.args.change.now in
    let inside : c.self.inside.loaded ≡ others ++ tables_at place given ∷ [] = ap (λ (x : ContKept _). x.loaded) c.self.view_is ∙ at in
    let was : c.last-tables.result.now ≡ given = c.last-tables.ensures others (tables_at place given) inside in
    let enters : Enters place change c.last-tables.result.now = c.in-Err.ensures.starved in
    subst (Enters place change) was enters

pub returns-then-is_err-clause-wanted : goal.returns-then-is_err-clause-wanted
returns-then-is_err-clause-wanted g c others given at =
    let place = c.args.place.now in let change = c.args.change.now in
    let inside : c.self.inside.loaded ≡ others ++ tables_at place given ∷ [] = ap (λ (x : ContKept _). x.loaded) c.self.view_is ∙ at in
    let was : c.last-tables.result.now ≡ given = c.last-tables.ensures others (tables_at place given) inside in
    makes-enters c.last-tables.result.now given place change c.in-Ok-Makes.entries c.into-batch.result.items
    (subst (IsDecided c.last-tables.result.now place change) c.in-Ok-Makes.field-0-is c.in-Ok-Makes.ensures.ok) c.into-batch.ensures
    (nonempty c.into-batch.result.items c.count_of-more.result c.count_of-more.ensures.length c.if-more-eq0.false) was

pub returns-in_default-clause-wanted : goal.returns-in_default-clause-wanted
returns-in_default-clause-wanted g c others given at =
    let place = c.args.place.now in let change = c.args.change.now in
    let inside : c.self.inside.loaded ≡ others ++ tables_at place given ∷ [] = ap (λ (x : ContKept _). x.loaded) c.self.view_is ∙ at in
    let was : c.last-tables.result.now ≡ given = c.last-tables.ensures others (tables_at place given) inside in
    makes-enters c.last-tables.result.now given place change c.in-Ok-Makes.entries c.into-batch.result.items
    (subst (IsDecided c.last-tables.result.now place change) c.in-Ok-Makes.field-0-is c.in-Ok-Makes.ensures.ok) c.into-batch.ensures
    (nonempty c.into-batch.result.items c.count_of-more.result c.count_of-more.ensures.length c.if-more-eq0.false) was

pub returns-in-Err-NoMemory-clause-wanted : goal.returns-in-Err-NoMemory-clause-wanted
returns-in-Err-NoMemory-clause-wanted g c others given at =
    let place = c.args.place.now in let change = c.args.change.now in
    let inside : c.self.inside.loaded ≡ others ++ tables_at place given ∷ [] = ap (λ (x : ContKept _). x.loaded) c.self.view_is ∙ at in
    let was : c.last-tables.result.now ≡ given = c.last-tables.ensures others (tables_at place given) inside in
    makes-enters c.last-tables.result.now given place change c.in-Ok-Makes.entries c.into-batch.result.items
    (subst (IsDecided c.last-tables.result.now place change) c.in-Ok-Makes.field-0-is c.in-Ok-Makes.ensures.ok) c.into-batch.ensures
    (nonempty c.into-batch.result.items c.count_of-more.result c.count_of-more.ensures.length c.if-more-eq0.false) was

pub returns-then-more-eq0-clause-wanted : goal.returns-then-more-eq0-clause-wanted
returns-then-more-eq0-clause-wanted g c others given at =
    let change = c.args.change.now in let front = c.count_of-count.result + c.count_of-more.result in
    let ends : cont_ending c.made_answer.result ≡ Succeeds =
    ap cont_ending (c.made_answer.ensures c.last-tables.result.now (sym c.is_present-was_there.ensures))
    ∙ made-ends c.last-tables.result.now change front in
    fine-wants c.args.place.now change given c.made_answer.result (λ wants. makes-apart (sym ends ∙ wants))

pub returns-in-Ok-commit-clause-wanted : goal.returns-in-Ok-commit-clause-wanted
returns-in-Ok-commit-clause-wanted g c others given at =
    let change = c.args.change.now in let front = c.count_of-count.result + c.count_of-more.result in
    let ends : cont_ending c.made_answer-in-Ok-commit.result ≡ Succeeds =
    ap cont_ending (c.made_answer-in-Ok-commit.ensures c.last-tables.result.now (sym c.is_present-was_there.ensures))
    ∙ made-ends c.last-tables.result.now change front in
    fine-wants c.args.place.now change given c.made_answer-in-Ok-commit.result (λ wants. makes-apart (sym ends ∙ wants))

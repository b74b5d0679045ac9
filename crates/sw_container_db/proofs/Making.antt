-- A step at tables that are loaded, with nothing in doubt: what each of its ends is, and that it leaves the lock in order.
use Rattle.std.proofs.Common.{◌≡◌, ◌≢◌, ℕ, ◌+◌, ◌-◌, ◌^◌, ◌≤◌, Bool, true, false, List, [], ◌∷◌, ◌++◌, length, nat_le, ◌&&◌, Option, Some, IsSome}
use Rattle.std.proofs.Common.{refl, sym, ◌∙◌, ap, subst, arith}
use Rattle.std.specs.List.{fold}
use Rattle.std.proofs.lemmas.List.{append-nil}
use Rattle.std.proofs.lemmas.List.Elements.{All-push}
use Rattle.sw_hashpath.specs.declared.place.Place.{Place}
use Rattle.sw_outside.specs.Faults.{HasRisen}
use Rattle.sw_keeper.specs.Changes.{IsBatch, all_changed}
use Rattle.sw_keeper.specs.Keeping.{Changes, MayChange}
use Rattle.sw_keeper.specs.declared.batch.Change.{Change}
use Rattle.sw_keeper.specs.declared.tables.Tables.{Tables}
use Rattle.sw_step.specs.Rules.{IsOf}
use Rattle.sw_container_steps.specs.Deciding.{IsDecided}
use Rattle.sw_container_steps.specs.Entries.{entered, rows_in, top_of}
use Rattle.sw_container_steps.specs.Laws.{sign_of}
use Rattle.sw_container_steps.specs.Rules.{ChangesContainer, ContJournal, cont_room, cont_rules}
use Rattle.sw_container_steps.specs.Steps.{cont_made_answer, entries_for}
use Rattle.sw_container_steps.specs.declared.cont_answer.ContAnswer.{ContAnswer}
use Rattle.sw_container_steps.specs.declared.cont_answer.ContAnswer.TheVariants as conts
use Rattle.sw_container_steps.specs.declared.cont_change.ContChange.{ContChange}
use Rattle.sw_container_steps.specs.declared.cont_entry.ContEntry.{ContEntry}
use Rattle.sw_container_steps.specs.declared.deciding.Decision.TheVariants.{Makes, Refused}
use Rattle.sw_container_db.specs.ContDirs.{ContKept, IsContDir, cont_history_of}
use Rattle.sw_container_db.specs.LoadedList.{Lacks, rows_held, tables_at, trimmed}
use Rattle.sw_container_db.specs.declared.loaded_list.Loaded.{Loaded}
use Rattle.sw_container_db.specs.declared.sign.Doubt.{Doubt}
use Rattle.sw_container_db.proofs.Commits.{kept-there, made-elsewhere, made-there, makes-entries, may-elsewhere, may-there, of-place, seen}
use Rattle.sw_container_db.proofs.Commits.{takes}
use Rattle.sw_container_db.proofs.Ends.{done, doubted, full, later, refused, wanted}
use Rattle.sw_container_db.proofs.Kept.{empty, front-is, held-parts, kept-doubted, kept-entered, last-held, nonempty, others-held, room-is, room-none}
use Rattle.sw_container_db.proofs.LoadedLists.{trimmed-all}

module _ {K : Type 0} (tells : K → Bool) (holds : K → Place → Option Tables) (faults : K → ℕ) (k : ContKept K) (doubt : Option Doubt)
    (node : IsContDir tells holds faults k doubt) (place : Place) (change : ContChange) (none : k.journal.doubts ≡ []) (others : List Loaded)
    (read : Option Tables) (at : k.loaded ≡ others ++ tables_at place read ∷ []) where
  pub held : tells k.keeper ≡ true → read ≡ holds k.keeper place
  held told = last-held tells holds faults k doubt node others place read at told

  is : tells k.began ≡ true → read ≡ holds k.keeper place
  is told = held (node.same ∙ told)

  abbrev StepTo : ContAnswer → ContJournal → ℕ → Option Tables → Type 0
  StepTo answer j f t =
      ChangesContainer true (cont_history_of tells holds faults k) (holds k.keeper) place change answer (later (cont_history_of tells holds faults k) j f) t

  pub make-refused : (answer : ContAnswer) → IsDecided read place change (Refused answer) → StepTo answer k.journal (faults k.keeper) (holds k.keeper place)
  make-refused answer stands_so = refused (cont_history_of tells holds faults k) (holds k.keeper) place change none node.fits read is answer stands_so

  pub make-wanted : (entries : List ContEntry) (f : ℕ) (t : Option Tables) → entries ≡ k.journal.entries → faults k.keeper ≤ f
      → (tells k.began ≡ true → t ≡ holds k.keeper place) → StepTo conts.NoMemory (record k.journal { entries = entries }) f t
  make-wanted entries f t are up now =
      wanted (cont_history_of tells holds faults k) (holds k.keeper) place change none node.fits read is entries f t are up now

  -- ---- it isn't refused

  module _ (batch list : List ContEntry) (decided : IsDecided read place change (Makes list)) (into : batch ≡ list) (count more : ℕ)
      (counts : count ≡ length k.journal.entries) (mores : more ≡ length batch) where
    pub are : batch ≡ entries_for read place change
    are = into ∙ decided.1

    front : (entries : List ContEntry) → entries ≡ k.journal.entries ++ batch → count + more ≡ length entries
    front entries entered_so = front-is k.journal.entries batch count more counts mores ∙ ap length (sym entered_so)

    pub make-none : (answer : ContAnswer) → more ≡ 0 → answer ≡ cont_made_answer read change (count + more)
        → StepTo answer k.journal (faults k.keeper) (holds k.keeper place)
    make-none answer zero_more so =
        let nothing : batch ≡ [] = empty batch more mores zero_more in
        let no_entries : entries_for read place change ≡ [] = sym are ∙ nothing in
        let same_entries : k.journal.entries ≡ k.journal.entries ++ batch =
        sym (append-nil k.journal.entries) ∙ ap (λ (es : List ContEntry). k.journal.entries ++ es) (sym nothing) in
        done (cont_history_of tells holds faults k) (holds k.keeper) place change none node.fits read is answer k.journal.entries (faults k.keeper)
        (holds k.keeper place) decided.0 (room-none k.journal read (entries_for read place change) no_entries)
        (same_entries ∙ ap (λ (es : List ContEntry). k.journal.entries ++ es) are)
        (so ∙ ap (cont_made_answer read change) (front k.journal.entries same_entries)) (omega arith)
        (λ told. ap (fold entered (holds k.keeper place)) (sym no_entries))

    module _ (more_is : more ≢ 0) (numbers room : Bool) (looked : List ContEntry) (look : looked ≡ batch)
        (nums : numbers ≡ nat_le (top_of read + rows_in looked) (2 ^ 64 - 1)) (roomy : room ≡ (nat_le (count + more) k.journal.max_entries && numbers)) where
      some : batch ≢ []
      some = nonempty batch more mores more_is

      room_so : cont_room k.journal read (entries_for read place change) ≡ room
      room_so = room-is k.journal read count more batch (entries_for read place change) numbers room none counts mores are some
          (nums ∙ ap (λ (es : List ContEntry). nat_le (top_of read + rows_in es) (2 ^ 64 - 1)) look) roomy

      pub make-full : room ≡ false → StepTo conts.JournalFull k.journal (faults k.keeper) (holds k.keeper place)
      make-full lacks = full (cont_history_of tells holds faults k) (holds k.keeper) place change none node.fits read is decided.0 (room_so ∙ lacks)

      module _ (has : room ≡ true) (taken : Option Tables) (turn : taken ≡ read) (given : List ContEntry) (give : given ≡ batch) (changes : List Change)
          (after : Option Tables) (makes : all_changed taken changes ≡ after) (leaves : after ≡ fold entered taken given) where
        pub make-takes : (IsSome after → IsBatch taken changes) → tells k.keeper ≡ true → IsBatch (holds k.keeper place) changes
        make-takes fits told =
            takes taken read (holds k.keeper place) after place change given changes turn decided.0 (give ∙ are) leaves fits (held told)

        all_make : all_changed read changes ≡ fold entered read batch
        all_make = makes-entries taken read after batch given changes turn makes leaves give

        -- its commit was made
        module _ (keeper : K) (told_same : tells keeper ≡ tells k.keeper) (up : faults k.keeper ≤ faults keeper)
            (ok : tells k.keeper ≡ true → Changes (holds k.keeper) (holds keeper) place changes) (entries : List ContEntry)
            (joined : entries ≡ k.journal.entries ++ batch) (answer : ContAnswer) (so : answer ≡ cont_made_answer read change (count + more)) where
          pub make-done : StepTo answer (record k.journal { entries = entries }) (faults keeper) (holds keeper place)
          make-done = done (cont_history_of tells holds faults k) (holds k.keeper) place change none node.fits read is answer entries (faults keeper)
              (holds keeper place) decided.0 (room_so ∙ has) (joined ∙ ap (λ (es : List ContEntry). k.journal.entries ++ es) are)
              (so ∙ ap (cont_made_answer read change) (front entries joined)) up
              (λ told. made-there (holds k.keeper) (holds k.keeper) (holds keeper) place changes read batch (λ p. refl) (is told) all_make
              (ok (node.same ∙ told)) ∙ ap (fold entered (holds k.keeper place)) are)

          pub done-kept : (fresh : List ContEntry) → Lacks place others → IsContDir tells holds faults (record {
            keeper = keeper;
            began = k.began;
            loaded = trimmed (rows_held after) others ++ tables_at place after ∷ [];
            fresh = fresh;
            journal = record k.journal { entries = entries };
          }) doubt
          done-kept fresh lacks = kept-entered tells holds faults k doubt node keeper fresh (trimmed (rows_held after) others ++ tables_at place after ∷ [])
              entries place change answer none told_same
              (λ told. made-elsewhere (holds k.keeper) (holds k.keeper) (holds keeper) place changes (λ p. refl) (ok told)) make-done
              (λ told. All-push (λ (l : Loaded). l.tables ≡ holds keeper l.place) (trimmed (rows_held after) others) (tables_at place after)
              (trimmed-all (λ (l : Loaded). l.tables ≡ holds keeper l.place) (rows_held after) others
              (others-held others place (holds k.keeper) (holds keeper)
              (made-elsewhere (holds k.keeper) (holds k.keeper) (holds keeper) place changes (λ p. refl) (ok (node.same ∙ told))) lacks
              (held-parts k.loaded others (tables_at place read) (holds k.keeper) at (node.held told)).0))
              (kept-there (holds k.keeper) (holds keeper) place taken read after changes turn (is told) makes (ok (node.same ∙ told))))

        -- it failed, and was made or wasn't
        module _ (keeper : K) (told_same : tells keeper ≡ tells k.keeper) (up : faults k.keeper ≤ faults keeper)
            (risen : HasRisen (faults k.keeper) (faults keeper))
            (may : tells k.keeper ≡ true → MayChange (holds k.keeper) (holds keeper) place changes) where
          pub make-doubted : StepTo conts.Failed (record k.journal { doubts = batch ∷ [] }) (faults keeper) (holds keeper place)
          make-doubted = doubted (cont_history_of tells holds faults k) (holds k.keeper) place change none node.fits read is batch (faults keeper)
              (holds keeper place) decided.0 (room_so ∙ has) are some risen up
              (λ told. may-there (holds k.keeper) (holds k.keeper) (holds keeper) place changes read batch (λ p. refl) (is told) all_make
              (may (node.same ∙ told)))

          pub doubted-kept : (d : Doubt) (fresh : List ContEntry) → Lacks place others → d.place ≡ place
              → d.batch.items ≡ batch → d.sign ≡ sign_of d.batch.items read
              → IsContDir tells holds faults (record {
                keeper = keeper;
                began = k.began;
                loaded = others;
                fresh = fresh;
                journal = record k.journal { doubts = d.batch.items ∷ [] };
              }) (Some d)
          doubted-kept d fresh lacks here items sign = kept-doubted tells holds faults k doubt node keeper fresh others d change conts.Failed none told_same
              (λ told p away. may-elsewhere (holds k.keeper) (holds k.keeper) (holds keeper) place changes (λ x. refl) (may told) p
              (λ same_place. away (same_place ∙ sym here)))
              (subst (λ (x : Place). ChangesContainer true (cont_history_of tells holds faults k) (holds k.keeper) x change conts.Failed
              (later (cont_history_of tells holds faults k) (record k.journal { doubts = d.batch.items ∷ [] }) (faults keeper)) (holds keeper x)) (sym here)
              (subst (λ (es : List ContEntry). StepTo conts.Failed (record k.journal { doubts = es ∷ [] }) (faults keeper) (holds keeper place)) (sym items)
              make-doubted))
              (λ told. sign ∙ ap (sign_of d.batch.items) (held told ∙ ap (holds k.keeper) (sym here)))
              (λ told. subst (λ (x : Place). sign_of d.batch.items (fold entered (holds k.keeper x) d.batch.items) ≢ d.sign) (sym here)
              (seen read (holds k.keeper place) place change d.batch.items d.sign decided.0 (items ∙ are) (λ nothing. some (sym items ∙ nothing)) sign
              (held told)))
              (subst (λ (x : Place). IsOf cont_rules x d.batch.items) (sym here)
              (of-place read place change d.batch.items (items ∙ are) (λ nothing. some (sym items ∙ nothing))))
              (λ told. others-held others place (holds k.keeper) (holds keeper)
              (may-elsewhere (holds k.keeper) (holds k.keeper) (holds keeper) place changes (λ p. refl) (may (node.same ∙ told))) lacks
              (held-parts k.loaded others (tables_at place read) (holds k.keeper) at (node.held told)).0)

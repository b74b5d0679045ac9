-- What a write that nothing refuses makes of a directory, where it is entered and where it is in doubt.
use Rattle.std.proofs.Common.{◌≡◌, ◌≢◌, ℕ, ◌+◌, ◌≤◌, Bool, true, false, List, [], ◌∷◌, ◌++◌, length, refl, sym, ◌∙◌, ap, subst, arith, Some, None}
use Rattle.std.proofs.Common.{◌⊎◌, inl, inr}
use Rattle.std.specs.List.{fold}
use Rattle.std.proofs.lemmas.Bool.{cases_Bool, le-leb}
use Rattle.std.proofs.lemmas.List.{append-nil, map-append}
use Rattle.sw_cleanup.specs.Cleaning.{AreListedIn, obsolete_of}
use Rattle.sw_diskfile.specs.FileNames.{name_text}
use Rattle.sw_diskfile.specs.StateFiles.{name_of}
use Rattle.sw_diskfile.specs.declared.file_name.FileName.{FileName}
use Rattle.sw_hashdir.specs.Places.{AllInOrder, dir_text, holds}
use Rattle.sw_hashdir.specs.Steps.{IsNewIn, IsOurs, Joins, JoinsAll, Keeps, MayJoin, Writes as FileWrites}
use Rattle.sw_hashpath.specs.declared.name.Name.{Name}
use Rattle.sw_journal.specs.Entries.{with_new_doubt, with_write_entered, without_last_doubt}
use Rattle.sw_metafile.specs.Texts.{file_text}
use Rattle.sw_objdir.proofs.Journaling.{after, kept-after, read_with, write-step}
use Rattle.sw_objdir.proofs.Looking.{held-told, tells-now, values-told, values-untold}
use Rattle.sw_objdir.proofs.Merging.{dir-merged, with_merged}
use Rattle.sw_objdir.proofs.Singled.{AreSingle, kept-single, write-more}
use Rattle.sw_objdir.proofs.Standing.{may-keeps, value-joins, value-kept, writes-keep}
use Rattle.sw_objdir.proofs.WriteSteps.{none-received, room-is}
use Rattle.sw_objdir.specs.Directories.{IsDir, IsKept, Kept, history_of, is_told, values_of}
use Rattle.sw_objdir.specs.Stepping.{IsSeenAs}
use Rattle.sw_objdir.specs.Writing.{DoubtsFile, PutsFile}
use Rattle.sw_object_steps.proofs.Answering.{allowed-new}
use Rattle.sw_object_steps.specs.Histories.{ChangesObject}
use Rattle.sw_object_steps.specs.Journals.{Hash, Journal, bodies, entry_size, has_room, with_doubt, with_entry, written}
use Rattle.sw_object_steps.specs.Recorded.{filed_entries}
use Rattle.sw_object_steps.specs.Rules.{obj_applied}
use Rattle.sw_object_steps.specs.Singles.{History, single_history, single_journal}
use Rattle.sw_object_steps.specs.Steps.{made_answer, refusal_of}
use Rattle.sw_object_steps.specs.Values.{ObjValue}
use Rattle.sw_object_steps.specs.declared.answer.Answer.{Answer}
use Rattle.sw_object_steps.specs.declared.answer.Answer.TheVariants as answers
use Rattle.sw_object_steps.specs.declared.change.Change.TheVariants.{Receive}
use Rattle.sw_object_steps.specs.declared.entry.ObjEntry.{ObjEntry}
use Rattle.sw_object_steps.specs.declared.entry.ObjEntry.TheVariants.{Wrote}
use Rattle.sw_object_steps.specs.declared.outline.Outline.{Outline}
use Rattle.sw_outside.specs.Counts.{raised}
use Rattle.sw_outside.specs.Faults.{HasRisen}
use Rattle.sw_pending.specs.declared.filed.Filed.{Filed}
use Rattle.sw_pending_dir.specs.Steps.{KeepsRecords}
use Rattle.sw_state.specs.States.{joined}
use Rattle.sw_state.specs.declared.state.State.{State}
use Rattle.sw_state.specs.declared.write.Write.{Write}
use Rattle.sw_step.specs.Rules.{Fails, Makes}
use Rattle.sw_volume.specs.Tree.{Folders, contents}
use Rattle.sw_volume.specs.Volume.{MaySet, raised_by}

-- ---- the journal: a write is doubted, and then entered with its records, or taken back

module _ (j d : Journal) (e : ObjEntry) (name : Name) (w : Write) (doubted : d ≡ with_new_doubt j e) (is : e ≡ Wrote name w []) where
  pub in-doubt : d ≡ with_doubt j (Wrote name w [])
  in-doubt = doubted ∙ ap (with_new_doubt j) is

  last : d.doubts ≡ j.doubts ++ e ∷ []
  last = ap (λ (x : Journal). x.doubts) doubted

  pub last-write : d.doubts ≡ j.doubts ++ Wrote name w [] ∷ []
  last-write = ap (λ (x : Journal). x.doubts) in-doubt

  pub confirmed : (records : List Filed) (before : List ObjEntry) → j.entries ≡ before ++ filed_entries name.hash records → (f : Journal)
      → ((by : Hash) (bs ds : List ObjEntry) (n : Name) (x : Write) → d.entries ≡ bs ++ filed_entries by records → d.doubts ≡ ds ++ Wrote n x [] ∷ []
      → f ≡ with_write_entered d bs ds (Wrote n x records)) → f ≡ with_merged j before (Wrote name w records)
  confirmed records before filed f confirms =
      confirms name.hash before j.doubts name w (ap (λ (x : Journal). x.entries) doubted ∙ filed) last-write
      ∙ ap (λ (x : Journal). with_write_entered x before j.doubts (Wrote name w records)) doubted

  pub withdrawn : (f : Journal) → ((ds : List ObjEntry) (x : ObjEntry) → d.doubts ≡ ds ++ x ∷ [] → f ≡ without_last_doubt d ds) → f ≡ j
  withdrawn f withdraws = withdraws j.doubts e last ∙ ap (λ (x : Journal). without_last_doubt x j.doubts) doubted

-- ---- the directory

-- nothing that stands refuses the write, with no doubt left of its name's: its name is one of the directory, and these are the files of its hash
pub record MayMake {V : Type 0} (tells : V → Bool) (files : V → Folders) (faults : V → ℕ) (k : Kept V) (name : Name) (w : Write) (path : List ℕ)
    (names : List FileName) (o : Outline) : Type 0 where
  pub settled : written name.hash k.journal.doubts ≡ []
  pub ours : IsOurs k.secrets k.power name
  pub path_is : path ≡ dir_text k.power name.hash
  pub are : tells k.volume ≡ true → AreListedIn (contents (files k.volume)) path names
  pub stood : IsSeenAs tells files faults k name.hash o (Receive w) None

module _ {V : Type 0} (tells : V → Bool) (files : V → Folders) (faults : V → ℕ) (k : Kept V) (dir : IsDir tells files faults k) (name : Name) (w : Write)
    (path : List ℕ) (names : List FileName) (o : Outline) (may_make : MayMake tells files faults k name w path names o) where
  -- the write is new in its directory
  is-new-in : is_told tells files faults k ≡ true → IsNewIn k.secrets k.power (files k.volume) path names name w
  is-new-in told = record {
    ours = may_make.ours;
    dir_is = may_make.path_is;
    order = dir.order told;
    new_to = allowed-new (holds k.secrets k.power (files k.volume) name.hash) (Receive w) refl
        (subst (λ (s : State). refusal_of s (Receive w) ≡ None)
        (may_make.stood.held_is told ∙ held-told tells files faults k name.hash told) may_make.stood.refuses);
    are = (may_make.are (tells-now tells files faults k dir told)).are_names;
  }

  abbrev stands : ObjValue
  stands = values_of tells files faults k name.hash

  -- what was read of the hash
  abbrev read : ObjValue
  read = read_with may_make.stood.state stands

  abbrev entry : ObjEntry
  entry = Wrote name w []

  -- limits don't matter to what is kept: with these there is room for the write
  abbrev widened : Journal → Journal
  widened j = record j {
    max_entries = length k.journal.entries + length k.journal.doubts + 1;
    max_bytes = bodies k.journal.entries + bodies k.journal.doubts + entry_size entry;
  }

  abbrev wide : History
  wide = record (history_of tells files faults k) { journal = widened k.journal }

  has-room : has_room (widened k.journal) entry ≡ true
  has-room =
      let n = length k.journal.entries + length k.journal.doubts + 1 in
      let m = bodies k.journal.entries + bodies k.journal.doubts + entry_size entry in
      rw (le-leb n n (omega arith), le-leb m m (omega arith)) refl

  wide-kept : IsKept wide (values_of tells files faults k)
  wide-kept = record { can = dir.kept.can; single = dir.kept.single; single_record = dir.kept.single_record; plain = dir.kept.plain }

  module _ (v : V) (told_is : tells v ≡ tells k.volume) (up : faults k.volume ≤ faults v)
      (records : is_told tells files faults k ≡ true → KeepsRecords k.secrets (files k.volume) (files v)) where
    abbrev moved : Journal → Kept V
    moved j = record k { volume = v; journal = j }

    -- where the files of a hash stand for what they stood for
    value-same : (j : Journal) (hash : Hash) (told : is_told tells files faults k ≡ true)
        → holds k.secrets k.power (files v) hash ≡ holds k.secrets k.power (files k.volume) hash
        → values_of tells files faults (moved j) hash ≡ values_of tells files faults k hash
    value-same j hash told same =
        values-told tells files faults (moved j) hash told
        ∙ (value-kept k.secrets (files k.volume) (files v) (records told) hash k.power same ∙ sym (values-told tells files faults k hash told))

    -- or where the write joined it
    value-joined : (j : Journal) (told : is_told tells files faults k ≡ true)
        → holds k.secrets k.power (files v) name.hash ≡ joined (holds k.secrets k.power (files k.volume) name.hash) w
        → values_of tells files faults (moved j) name.hash ≡ obj_applied stands entry
    value-joined j told joins =
        values-told tells files faults (moved j) name.hash told
        ∙ (value-joins k.secrets (files k.volume) (files v) (records told) name.hash k.power name w joins
        ∙ ap (λ (s : ObjValue). obj_applied s entry) (sym (values-told tells files faults k name.hash told)))

    others-same : (j : Journal) → (is_told tells files faults k ≡ true → (hash : Hash) → hash ≢ name.hash → holds k.secrets k.power (files v) hash
        ≡ holds k.secrets k.power (files k.volume) hash) → (hash : Hash) → hash ≢ name.hash
        → values_of tells files faults (moved j) hash ≡ values_of tells files faults k hash
    others-same j others hash apart = elim (cases_Bool (is_told tells files faults k)) [
      | inl told ↦ value-same j hash told (others told hash apart)
      | inr none ↦ values-untold tells files faults (moved j) hash none ∙ sym (values-untold tells files faults k hash none)
    ]

    -- a step by the rules, from the wider journal to this one with those limits
    abbrev Changes : Answer → Journal → Type 0
    Changes answer j = ChangesObject true (single_history wide) (values_of tells files faults k) name (Receive w) answer
        (single_history (after wide (widened j) (faults v))) (values_of tells files faults (moved j) name.hash)

    -- a directory that such a step left is one
    dir-left : (j : Journal) (answer : Answer) → Changes answer j
        → ((hash : Hash) → hash ≢ name.hash → values_of tells files faults (moved j) hash ≡ values_of tells files faults k hash)
        → (is_told tells files faults k ≡ true → AllInOrder k.secrets k.power (files v)) → AreSingle j.doubts → IsDir tells files faults (moved j)
    dir-left j answer step others order single = record {
      same = told_is ∙ dir.same;
      order = order;
      records_order = λ told. (records told).order (dir.records_order told);
      kept = record { can = is_kept.can; single = single.single; single_record = single.single_record; plain = single.plain };
      least = dir.least;
      greatest = dir.greatest;
    }
      where
        is_kept : IsKept (after wide (widened j) (faults v)) (values_of tells files faults (moved j))
        is_kept = kept-after wide (values_of tells files faults k) wide-kept name (Receive w) answer (after wide (widened j) (faults v))
            (values_of tells files faults (moved j)) step others (λ told. told) single

    -- the write was made and entered
    module _ (joins : is_told tells files faults k ≡ true → Joins k.secrets k.power name.hash w (files k.volume) (files v)) where
      abbrev entered : Journal
      entered = with_entry k.journal entry

      here-entered : (j : Journal) → is_told tells files faults k ≡ true → values_of tells files faults (moved j) name.hash ≡ obj_applied stands entry
      here-entered j told = value-joined j told (joins told).here

      others-entered : (j : Journal) (hash : Hash) → hash ≢ name.hash
          → values_of tells files faults (moved j) hash ≡ values_of tells files faults k hash
      others-entered j = others-same j (λ told. (joins told).others)

      changes-entered : Changes (made_answer o (Receive w) (length entered.entries)) entered
      changes-entered =
          write-step wide (values_of tells files faults k) wide-kept name (Receive w) (made_answer o (Receive w) (length entered.entries)) (widened entered)
          (faults v) (record { entries = (entry ∷ [], refl); max_entries = refl; max_bytes = refl }) up Makes refl (λ is. cc) refl may_make.settled
          may_make.stood.state may_make.stood.held_is (λ none. none-received name.hash name w k.journal.doubts) (entry ∷ [])
          (record {
            not_refused = may_make.stood.refuses;
            room = room-is read name.hash name (Receive w) refl (widened k.journal) ∙ has-room;
            is_made = refl;
            entered = refl;
            answer_is = ap (λ (x : Outline). made_answer x (Receive w) (length entered.entries)) may_make.stood.outline_is;
          })
          (values_of tells files faults (moved entered) name.hash) (here-entered entered)

      dir-entered : IsDir tells files faults (moved entered)
      dir-entered = dir-left entered (made_answer o (Receive w) (length entered.entries)) changes-entered (others-entered entered)
          (λ told. (joins told).order) (kept-single (history_of tells files faults k) (values_of tells files faults k) dir.kept)

    -- the write may have been made, and is in doubt
    module _ (may : is_told tells files faults k ≡ true → Keeps k.secrets k.power name.hash (files k.volume) (files v)
        ⊎ Joins k.secrets k.power name.hash w (files k.volume) (files v)) (risen : HasRisen (faults k.volume) (faults v)) where
      abbrev doubted : Journal
      doubted = with_doubt k.journal entry

      abbrev Either : Type 0
      Either = Keeps k.secrets k.power name.hash (files k.volume) (files v) ⊎ Joins k.secrets k.power name.hash w (files k.volume) (files v)

      either-others : Either → (hash : Hash) → hash ≢ name.hash → holds k.secrets k.power (files v) hash ≡ holds k.secrets k.power (files k.volume) hash
      either-others (inl keeps) = keeps.others
      either-others (inr joins) = joins.others

      either-order : Either → AllInOrder k.secrets k.power (files v)
      either-order (inl keeps) = keeps.order
      either-order (inr joins) = joins.order

      here-doubted : is_told tells files faults k ≡ true
          → (values_of tells files faults (moved doubted) name.hash ≡ stands) ⊎ (values_of tells files faults (moved doubted) name.hash
          ≡ obj_applied stands entry)
      here-doubted told = elim (may told) [
        | inl keeps ↦ inl (value-same doubted name.hash told keeps.here)
        | inr joins ↦ inr (value-joined doubted told joins.here)
      ]

      others-doubted : (hash : Hash) → hash ≢ name.hash
          → values_of tells files faults (moved doubted) hash ≡ values_of tells files faults k hash
      others-doubted = others-same doubted (λ told. either-others (may told))

      changed : (made : List ObjEntry) → (made ≡ []) ⊎ ((true ≡ true) × (made ≡ entry ∷ []))
          → (is_told tells files faults k ≡ true → values_of tells files faults (moved doubted) name.hash ≡ fold obj_applied stands made)
          → Changes answers.Failed doubted
      changed made is_made left =
          write-step wide (values_of tells files faults k) wide-kept name (Receive w) answers.Failed (widened doubted) (faults v)
          (record { entries = ([], sym (append-nil k.journal.entries)); max_entries = refl; max_bytes = refl }) up Fails refl (λ is. risen) refl
          may_make.settled may_make.stood.state may_make.stood.held_is (λ none. none-received name.hash name w k.journal.doubts) made
          (record {
            not_refused = may_make.stood.refuses;
            room = room-is read name.hash name (Receive w) refl (widened k.journal) ∙ has-room;
            first = [];
            here = entry ∷ [];
            behind = [];
            cut = refl;
            doubted = true;
            may_doubt = λ x. refl;
            is_made = is_made;
            entered = λ i. record (single_journal (widened k.journal)) {
              entries = sym (append-nil k.journal.entries) i;
              doubts = map-append (λ e. e ∷ []) k.journal.doubts (entry ∷ []) i;
            };
          })
          (values_of tells files faults (moved doubted) name.hash) left

      by-told : (b : Bool) → is_told tells files faults k ≡ b → Changes answers.Failed doubted
      by-told false none = changed [] (inl refl) (λ told. absurd (let clash = sym none ∙ told in cc))
      by-told true told = elim (here-doubted told) [
        | inl same ↦ changed [] (inl refl) (λ x. same)
        | inr joins ↦ changed (entry ∷ []) (inr (refl, refl)) (λ x. joins)
      ]

      dir-doubted : IsDir tells files faults (moved doubted)
      dir-doubted = dir-left doubted answers.Failed (by-told (is_told tells files faults k) refl) others-doubted (λ told. either-order (may told))
          (write-more name w k.journal.doubts may_make.settled
          (kept-single (history_of tells files faults k) (values_of tells files faults k) dir.kept))

  -- ---- its file was put, or may have been

  module _ (calls lists : V → ℕ) (v : V) (told_is : tells v ≡ tells k.volume) (up : faults k.volume ≤ faults v) (listed : lists v ≡ lists k.volume) where
    pub puts-as : (records : List Filed) (before : List ObjEntry) → k.journal.entries ≡ before ++ filed_entries name.hash records
        → (tells k.volume ≡ true → FileWrites (files k.volume) (files v) path names name w (faults k.volume) (faults v))
        → (tells k.volume ≡ true → JoinsAll (files k.volume) (files v) path names name w)
        → calls v ≡ raised_by (length (obsolete_of (names ++ name_of w ∷ []))) (raised (calls k.volume)) → (f : Journal)
        → ((bs : List ObjEntry) → k.journal.entries ≡ bs ++ filed_entries name.hash records → f ≡ with_merged k.journal bs (Wrote name w records))
        → PutsFile tells files faults calls lists k name w records names (record k { volume = v; journal = f })
    puts-as records before filed writes joins called f confirms = record {
      dir = subst (λ (x : Journal). IsDir tells files faults (record k { volume = v; journal = x })) (sym (confirms before filed))
          (dir-merged tells files faults k v name w records before filed (dir-entered v told_is up keeps joined-by));
      same = record { began = refl; secrets = refl; power = refl; told = told_is };
      later = up;
      here = here-entered v told_is up keeps joined-by f;
      others = others-entered v told_is up keeps joined-by f;
      writes = λ told. subst (λ (d : List ℕ). FileWrites (files k.volume) (files v) d names name w (faults k.volume) (faults v)) may_make.path_is
          (writes told);
      called = called;
      listed = listed;
      entered = confirms;
    }
      where
        keeps : is_told tells files faults k ≡ true → KeepsRecords k.secrets (files k.volume) (files v)
        keeps told = writes-keep k.secrets (files k.volume) (files v) k.power name.hash path may_make.path_is names name w (faults k.volume) (faults v)
            (writes (tells-now tells files faults k dir told))

        joined-by : is_told tells files faults k ≡ true → Joins k.secrets k.power name.hash w (files k.volume) (files v)
        joined-by told = joins (tells-now tells files faults k dir told) k.secrets k.power (is-new-in told)

    pub doubts-as : (tells k.volume ≡ true → MaySet (contents (files k.volume)) (contents (files v)) path (name_text (name_of w))
        (Some (file_text name.account name.container name.object w)))
        → (tells k.volume ≡ true → MayJoin (files k.volume) (files v) path names name w)
        → calls v ≡ raised (calls k.volume) → faults v ≡ raised (faults k.volume) → HasRisen (faults k.volume) (faults v) → (f : Journal)
        → f ≡ with_doubt k.journal (Wrote name w [])
        → DoubtsFile tells files faults calls lists k name w (record k { volume = v; journal = f })
    doubts-as may joins called once risen f in_doubt = record {
      dir = subst (λ (x : Journal). IsDir tells files faults (record k { volume = v; journal = x })) (sym in_doubt)
          (dir-doubted v told_is up keeps may-join risen);
      same = record { began = refl; secrets = refl; power = refl; told = told_is };
      later = up;
      here = here-doubted v told_is up keeps may-join risen;
      others = others-doubted v told_is up keeps may-join risen;
      may = λ told. subst (λ (d : List ℕ). MaySet (contents (files k.volume)) (contents (files v)) d (name_text (name_of w))
          (Some (file_text name.account name.container name.object w))) may_make.path_is (may told);
      counts = record { called = called; listed = listed; failed = once };
      in_doubt = in_doubt;
    }
      where
        keeps : is_told tells files faults k ≡ true → KeepsRecords k.secrets (files k.volume) (files v)
        keeps told = may-keeps k.secrets (files k.volume) (files v) k.power name.hash path may_make.path_is (name_text (name_of w))
            (Some (file_text name.account name.container name.object w)) (may (tells-now tells files faults k dir told))

        may-join : is_told tells files faults k ≡ true → Keeps k.secrets k.power name.hash (files k.volume) (files v)
            ⊎ Joins k.secrets k.power name.hash w (files k.volume) (files v)
        may-join told = joins (tells-now tells files faults k dir told) k.secrets k.power (is-new-in told)

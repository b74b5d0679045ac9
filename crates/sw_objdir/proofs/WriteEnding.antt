-- A write that nothing refuses, from what its parts left: it is one of its lock by the rules.
use Rattle.std.proofs.Common.{◌≡◌, ◌≢◌, ℕ, ◌≤◌, Bool, true, false, List, [], ◌∷◌, ◌++◌, length, None, Err, refl, sym, ◌∙◌, ap, subst, arith, inl, inr, ◌⊎◌}
use Rattle.std.specs.List.{fold}
use Rattle.std.specs.Str.{bytes_eq}
use Rattle.std.proofs.lemmas.List.{append-nil, map-append}
use Rattle.std.proofs.lemmas.List.Sums.{fold-append}
use Rattle.sw_diskfile.specs.declared.file_name.FileName.{FileName}
use Rattle.sw_hashpath.specs.declared.name.Name.{Name}
use Rattle.sw_object_steps.proofs.Singles.{singles}
use Rattle.sw_object_steps.specs.Journals.{Hash, Journal, has_room, with_doubt, written}
use Rattle.sw_object_steps.specs.Recorded.{filed_entries, filings, is_write, records_for}
use Rattle.sw_object_steps.specs.Rules.{Writes, obj_applied, obj_changes, obj_ending, obj_entries, obj_rules, obj_touches}
use Rattle.sw_object_steps.specs.Singles.{single_journal}
use Rattle.sw_object_steps.specs.Steps.{made_answer, write_of}
use Rattle.sw_object_steps.specs.Values.{ObjValue}
use Rattle.sw_object_steps.specs.declared.answer.Answer.{Answer}
use Rattle.sw_object_steps.specs.declared.answer.Answer.TheVariants as answers
use Rattle.sw_object_steps.specs.declared.change.Change.{Change}
use Rattle.sw_object_steps.specs.declared.entry.ObjEntry.{ObjEntry}
use Rattle.sw_object_steps.specs.declared.entry.ObjEntry.TheVariants.{Files, Wrote}
use Rattle.sw_object_steps.specs.declared.outline.Outline.{Outline}
use Rattle.sw_objdir.proofs.Deciding.{risen-after}
use Rattle.sw_objdir.proofs.Journaling.{IsLater, read_with}
use Rattle.sw_objdir.proofs.Looking.{looks-refl, looks-trans, step-after, step-unsettled, still-values, told-same}
use Rattle.sw_objdir.proofs.RecordMaking.{seen-into}
use Rattle.sw_objdir.proofs.WriteParts.{IsFiled, IsReadied, filed-so, flat-filings, own-time, readied, write-behind}
use Rattle.sw_objdir.proofs.WriteSteps.{answer-is, changes-are, entries-are, room-is, write-touches}
use Rattle.sw_objdir.specs.Calling.{entry_of}
use Rattle.sw_objdir.specs.Directories.{IsDir, Kept, history_of, is_told, values_of}
use Rattle.sw_objdir.specs.Recording.{Doubts, Wants}
use Rattle.sw_objdir.specs.Stepping.{IsSameDir, IsSeenAs, IsStep, LooksAt}
use Rattle.sw_objdir.specs.Writing.{DoubtsFile, EndsReady, HasFiled, IsFull, PutsFile, Readied, ReadyEnds, UnfiledBy, UnreadyBy}
use Rattle.sw_objdir.specs.Writing.{WantsFile, WriteEnds, filing_of}
use Rattle.sw_outside.specs.Faults.{HasRisen}
use Rattle.sw_pending.specs.Records.{key_of, new_record}
use Rattle.sw_pending.specs.declared.filed.Filed.{Filed}
use Rattle.sw_pending_dir.specs.declared.fault.ReadFault.{ReadFault}
use Rattle.sw_pending_dir.specs.declared.fault.ReadFault.TheVariants as reads
use Rattle.sw_step.specs.Journals.{flat}
use Rattle.sw_step.specs.Rules.{Damages, Ending, Fails, Makes, NoneOf, Overflows, Wants as Wanting, doubts_about}
use Rattle.sw_step.specs.Steps.{EndsSeen, EndsUnseen}
use Rattle.sw_volume.specs.Tree.{Folders}
use Rattle.sw_volume.specs.declared.errors.VolumeError.TheVariants as volumes

module _ {V : Type 0} (tells : V → Bool) (files : V → Folders) (faults calls lists : V → ℕ) (k : Kept V) (dir : IsDir tells files faults k) (name : Name)
    (undoubted : written name.hash k.journal.doubts ≡ []) (change : Change) (writes : is_write change ≡ true) (o : Outline)
    (stood : IsSeenAs tells files faults k name.hash o change None) where
  abbrev own : Hash → Bool
  own key = bytes_eq key name.hash

  abbrev records : List Filed
  records = records_for name change

  abbrev filing : List ObjEntry
  filing = filed_entries name.hash records

  -- the write alone
  abbrev wrote : ObjEntry
  wrote = Wrote name (write_of change) []

  -- ---- it wasn't answered by what stands

  unseen : (n : Kept V) → LooksAt tells files faults own k n → IsDir tells files faults n → (answer : Answer) (e : Ending) → obj_ending answer ≡ e
      → EndsUnseen obj_rules e (single_journal n.journal) [] (single_journal n.journal) → (e ≡ Damages → is_told tells files faults n ≡ false)
      → (e ≡ Fails → HasRisen (faults k.volume) (faults n.volume)) → IsStep tells files faults k name change answer n
  unseen n looks after answer e ends so orderly cause =
      step-unsettled tells files faults k n (still-values tells files faults own k n looks after) name looks change answer e ends so after orderly cause

  -- memory was wanting
  wanting : (n : Kept V) → LooksAt tells files faults own k n → IsDir tells files faults n → IsStep tells files faults k name change answers.NoMemory n
  wanting n looks after = unseen n looks after answers.NoMemory Wanting refl (record { not_made = refl; same = refl }) (λ is. cc) (λ is. cc)

  -- the file of its record couldn't be read
  own-readied : (fault : ReadFault) (n : Kept V) → UnreadyBy tells files faults calls lists k name change fault n
      → (time : ℕ) × Readied tells files faults calls lists k (new_record name time) (Err fault) n
  own-readied fault n unready =
      let own_so = own-time name change unready.filed unready.own in
      (own_so.0, subst (λ (x : Filed). Readied tells files faults calls lists k x (Err fault) n) own_so.1 unready.readied)

  -- ---- the doubts of its records were settled

  module _ (m : Kept V) (ready : IsReadied tells files faults calls lists name change k m) where
    -- what it read
    abbrev read : ObjValue
    read = read_with stood.state (values_of tells files faults m name.hash)

    still : (hash : Hash) → values_of tells files faults m hash ≡ values_of tells files faults k hash
    still = still-values tells files faults own k m ready.looks ready.dir

    read-is : is_told tells files faults m ≡ true → read ≡ values_of tells files faults m name.hash
    read-is told = λ i. record {
      state = (stood.held_is (sym (told-same tells files faults k m ready.looks.same) ∙ told) ∙ ap (λ (v : ObjValue). v.state) (sym (still name.hash))) i;
      records = (values_of tells files faults m name.hash).records;
    }

    none-left : NoneOf (obj_touches read name.hash (Writes name change)) (doubts_about obj_rules name.hash (singles m.journal.doubts))
    none-left = write-touches read name.hash name change writes m.journal.doubts ready.undoubted (λ allowed. ready.none)

    -- a step from there
    step : (answer : Answer) (e : Ending) → obj_ending answer ≡ e → (n : Kept V) → IsSameDir tells files faults m n
        → ((hash : Hash) → hash ≢ name.hash → values_of tells files faults n hash ≡ values_of tells files faults m hash) → IsLater m.journal n.journal
        → faults m.volume ≤ faults n.volume → (e ≡ Fails → HasRisen (faults m.volume) (faults n.volume)) → (made : List ObjEntry)
        → EndsSeen obj_rules e read (single_journal m.journal) name.hash (Writes name change) answer made (single_journal n.journal)
        → (is_told tells files faults m ≡ true
        → values_of tells files faults n name.hash ≡ fold obj_applied (values_of tells files faults m name.hash) made)
        → IsStep tells files faults k name change answer n
    step answer e ends n same others later up risen made so left =
        step-after tells files faults k m still name ready.looks change answer n (record {
          same = same;
          others = others;
          changes = seen-into (history_of tells files faults m) (history_of tells files faults n) (values_of tells files faults m) ready.dir.kept name
              change answer
              (record {
                told = told-same tells files faults m n same;
                opening = λ hash. rw (same.began, same.secrets, same.power) refl;
                entries = later.entries;
                max_entries = later.max_entries;
                max_bytes = later.max_bytes;
                faults = up;
              })
              e ends risen read read-is none-left made so (values_of tells files faults n name.hash) left;
        })

    -- there is no room
    full-step : (n : Kept V) → IsFull tells files faults calls lists m name change n → IsStep tells files faults k name change answers.JournalFull n
    full-step n full = subst (λ (x : Kept V). IsStep tells files faults k name change answers.JournalFull x) (sym full.same)
        (step answers.JournalFull Overflows refl m (record { began = refl; secrets = refl; power = refl; told = refl }) (λ hash apart. refl)
        (record { entries = ([], sym (append-nil m.journal.entries)); max_entries = refl; max_bytes = refl }) (omega arith) (λ is. cc) []
        (record {
          leaves = record { not_made = refl; same = refl };
          not_refused = stood.refuses;
          full = room-is read name.hash name change writes m.journal ∙ full.full;
        })
        (λ told. refl))

    -- ---- its record wasn't put

    unfiled-cut : (time : ℕ) → records ≡ new_record name time ∷ [] → obj_changes read name.hash (Writes name change)
        ≡ (Files name.hash (new_record name time) ∷ []) ∷ (wrote ∷ []) ∷ []
    unfiled-cut time one = changes-are read name.hash name change writes
        ∙ ap (λ (rs : List Filed). filings name.hash rs ++ (wrote ∷ []) ∷ []) one

    module _ (time : ℕ) (one : records ≡ new_record name time ∷ []) (n : Kept V) (room : has_room m.journal (entry_of name change) ≡ true)
        (doubts : Doubts tells files faults calls lists m (key_of (new_record name time)) (Files name.hash (new_record name time)) n) where
      abbrev e : ObjEntry
      e = Files name.hash (new_record name time)

      unfiled : (made : List ObjEntry) → (made ≡ []) ⊎ ((true ≡ true) × (made ≡ e ∷ []))
          → (is_told tells files faults m ≡ true
          → values_of tells files faults n name.hash ≡ fold obj_applied (values_of tells files faults m name.hash) made)
          → IsStep tells files faults k name change answers.Failed n
      unfiled made is_made left = step answers.Failed Fails refl n doubts.same doubts.others
          (record {
            entries = ([], ap (λ (j : Journal). j.entries) doubts.in_doubt ∙ sym (append-nil m.journal.entries));
            max_entries = ap (λ (j : Journal). j.max_entries) doubts.in_doubt;
            max_bytes = ap (λ (j : Journal). j.max_bytes) doubts.in_doubt;
          })
          doubts.later (λ is. risen-after (faults m.volume) (faults m.volume) (faults n.volume) refl doubts.counts.failed doubts.later) made
          (record {
            not_refused = stood.refuses;
            room = room-is read name.hash name change writes m.journal ∙ room;
            first = [];
            here = e ∷ [];
            behind = (wrote ∷ []) ∷ [];
            cut = unfiled-cut time one;
            doubted = true;
            may_doubt = λ x. refl;
            is_made = is_made;
            entered = ap single_journal doubts.in_doubt ∙ (λ i. record (single_journal m.journal) {
              entries = sym (append-nil m.journal.entries) i;
              doubts = map-append (λ entry. entry ∷ []) m.journal.doubts (e ∷ []) i;
            });
          })
          left

      unfiled-by : (b : Bool) → is_told tells files faults m ≡ b → IsStep tells files faults k name change answers.Failed n
      unfiled-by false none = unfiled [] (inl refl) (λ told. absurd (let clash = sym none ∙ told in cc))
      unfiled-by true told = elim (doubts.here told) [
        | inl same ↦ unfiled [] (inl refl) (λ x. same)
        | inr made ↦ unfiled (e ∷ []) (inr (refl, refl)) (λ x. made)
      ]

    unfiled-step : (n : Kept V) → UnfiledBy tells files faults calls lists m name change volumes.Failed n
        → IsStep tells files faults k name change answers.Failed n
    unfiled-step n by =
        let own_so = own-time name change by.filed by.own in
        unfiled-by own_so.0 (by.own ∙ ap (λ (x : Filed). x ∷ []) own_so.1) n by.room
        (subst (λ (x : Filed). Doubts tells files faults calls lists m (key_of x) (filing_of x) n) own_so.1 by.puts) (is_told tells files faults m) refl

    unfiled-want : (n : Kept V) → UnfiledBy tells files faults calls lists m name change volumes.NoMemory n
        → IsStep tells files faults k name change answers.NoMemory n
    unfiled-want n by =
        let own_so = own-time name change by.filed by.own in
        let wants : Wants tells files faults calls lists m name.hash (Files name.hash (new_record name own_so.0)) n =
        subst (λ (x : Filed). Wants tells files faults calls lists m x.name.hash (filing_of x) n) own_so.1 by.puts in
        wanting n (looks-trans tells files faults k m n ready.looks wants.looks) wants.dir

    -- ---- its records were put

    module _ (mid : Kept V) (has : HasFiled tells files faults calls lists m name change mid) where
      done : IsFiled tells files faults calls lists name change m records mid
      done = filed-so tells files faults calls lists name change m mid ready.dir has.are_put

      told-mid : is_told tells files faults m ≡ true → is_told tells files faults mid ≡ true
      told-mid told = told-same tells files faults m mid done.same ∙ told

      abbrev with_filing : Journal
      with_filing = record m.journal { entries = m.journal.entries ++ filing }

      others-from : (n : Kept V)
          → ((hash : Hash) → hash ≢ name.hash → values_of tells files faults n hash ≡ values_of tells files faults mid hash)
          → (hash : Hash) → hash ≢ name.hash → values_of tells files faults n hash ≡ values_of tells files faults m hash
      others-from n others hash apart = others hash apart ∙ done.others hash apart

      same-from : (n : Kept V) → IsSameDir tells files faults mid n → IsSameDir tells files faults m n
      same-from n same = record {
        began = same.began ∙ done.same.began;
        secrets = same.secrets ∙ done.same.secrets;
        power = same.power ∙ done.same.power;
        told = same.told ∙ done.same.told;
      }

      up-from : (n : Kept V) → faults mid.volume ≤ faults n.volume → faults m.volume ≤ faults n.volume
      up-from n up = let same = done.failed in omega (arith, same, up)

      room-so : obj_rules.has_room (single_journal m.journal) read (obj_entries read name.hash (Writes name change)) ≡ true
      room-so = room-is read name.hash name change writes m.journal ∙ has.room

      -- the write was made
      made-step : (names : List FileName) (answer : Answer) (n : Kept V) → obj_ending answer ≡ Makes
          → PutsFile tells files faults calls lists mid name (write_of change) records names n
          → answer ≡ made_answer o change (length n.journal.entries) → IsStep tells files faults k name change answer n
      made-step names answer n ends puts answered =
          let entered : n.journal ≡ record m.journal { entries = m.journal.entries ++ entry_of name change ∷ [] } =
          puts.entered m.journal.entries (ap (λ (j : Journal). j.entries) done.entered)
          ∙ ap (λ (j : Journal). record j { entries = m.journal.entries ++ entry_of name change ∷ [] }) done.entered in
          step answer Makes ends n (same-from n puts.same) (others-from n puts.others)
          (record {
            entries = (entry_of name change ∷ [], ap (λ (j : Journal). j.entries) entered);
            max_entries = ap (λ (j : Journal). j.max_entries) entered;
            max_bytes = ap (λ (j : Journal). j.max_bytes) entered;
          })
          (up-from n puts.later) (λ is. cc) (entry_of name change ∷ [])
          (record {
            not_refused = stood.refuses;
            room = room-so;
            is_made = sym (entries-are read name.hash name change writes);
            entered = ap single_journal entered
                ∙ ap (λ (es : List ObjEntry). record (single_journal m.journal) { entries = m.journal.entries ++ es })
                (sym (entries-are read name.hash name change writes));
            answer_is = answered
                ∙ (ap (λ (x : Outline). made_answer x change (length n.journal.entries)) stood.outline_is
                ∙ sym (answer-is read name.hash name change writes (length n.journal.entries)));
          })
          (λ told. puts.here (told-mid told)
          ∙ (ap (λ (v : ObjValue). obj_applied v wrote) (done.here told)
          ∙ write-behind (values_of tells files faults m name.hash) name.hash name (write_of change) records))

      -- it stopped at the file of the write
      later-from : (n : Kept V) → n.journal.entries ≡ mid.journal.entries → n.journal.max_entries ≡ mid.journal.max_entries
          → n.journal.max_bytes ≡ mid.journal.max_bytes → IsLater m.journal n.journal
      later-from n entries most bytes = record {
        entries = (filing, entries ∙ ap (λ (j : Journal). j.entries) done.entered);
        max_entries = most ∙ ap (λ (j : Journal). j.max_entries) done.entered;
        max_bytes = bytes ∙ ap (λ (j : Journal). j.max_bytes) done.entered;
      }

      module _ (n : Kept V) (doubts : DoubtsFile tells files faults calls lists mid name (write_of change) n) where
        unmade : (made : List ObjEntry) → (made ≡ flat (filings name.hash records)) ⊎ ((true ≡ true) × (made ≡ flat (filings name.hash records) ++ wrote ∷ []))
            → (is_told tells files faults m ≡ true
            → values_of tells files faults n name.hash ≡ fold obj_applied (values_of tells files faults m name.hash) made)
            → IsStep tells files faults k name change answers.Failed n
        unmade made is_made left =
            let in_doubt : n.journal ≡ with_doubt with_filing wrote = doubts.in_doubt ∙ ap (λ (j : Journal). with_doubt j wrote) done.entered in
            step answers.Failed Fails refl n (same-from n doubts.same) (others-from n doubts.others)
            (later-from n (ap (λ (j : Journal). j.entries) doubts.in_doubt) (ap (λ (j : Journal). j.max_entries) doubts.in_doubt)
            (ap (λ (j : Journal). j.max_bytes) doubts.in_doubt))
            (up-from n doubts.later)
            (λ is. risen-after (faults m.volume) (faults mid.volume) (faults n.volume) done.failed doubts.counts.failed doubts.later) made
            (record {
              not_refused = stood.refuses;
              room = room-so;
              first = filings name.hash records;
              here = wrote ∷ [];
              behind = [];
              cut = changes-are read name.hash name change writes;
              doubted = true;
              may_doubt = λ x. refl;
              is_made = is_made;
              entered = ap single_journal in_doubt ∙ (λ i. record (single_journal m.journal) {
                entries = m.journal.entries ++ sym (flat-filings name.hash records) i;
                doubts = map-append (λ entry. entry ∷ []) m.journal.doubts (wrote ∷ []) i;
              });
            })
            left

        unmade-by : (b : Bool) → is_told tells files faults m ≡ b → IsStep tells files faults k name change answers.Failed n
        unmade-by false none = unmade filing (inl (sym (flat-filings name.hash records))) (λ told. absurd (let clash = sym none ∙ told in cc))
        unmade-by true told = elim (doubts.here (told-mid told)) [
          | inl same ↦ unmade filing (inl (sym (flat-filings name.hash records))) (λ x. same ∙ done.here told)
          | inr made ↦ unmade (filing ++ wrote ∷ []) (inr (refl, ap (λ (es : List ObjEntry). es ++ wrote ∷ []) (sym (flat-filings name.hash records))))
              (λ x. made
              ∙ (ap (λ (v : ObjValue). obj_applied v wrote) (done.here told)
              ∙ sym (fold-append obj_applied (values_of tells files faults m name.hash) filing (wrote ∷ []))))
        ]

      -- memory was wanting for it
      want-step : (n : Kept V) → WantsFile tells files faults calls lists mid name n → IsStep tells files faults k name change answers.NoMemory n
      want-step n wants =
          let kept : n.journal ≡ with_filing = wants.kept ∙ done.entered in
          let values = still-values tells files faults own mid n wants.looks wants.dir in
          step answers.NoMemory Wanting refl n (same-from n wants.looks.same) (others-from n (λ hash apart. values hash))
          (later-from n (ap (λ (j : Journal). j.entries) wants.kept) (ap (λ (j : Journal). j.max_entries) wants.kept)
          (ap (λ (j : Journal). j.max_bytes) wants.kept))
          (up-from n wants.looks.later) (λ is. cc) filing
          (record {
            not_refused = stood.refuses;
            room = room-so;
            first = filings name.hash records;
            here = wrote ∷ [];
            behind = [];
            cut = changes-are read name.hash name change writes;
            doubted = false;
            may_doubt = λ x. cc;
            is_made = inl (sym (flat-filings name.hash records));
            entered = ap single_journal kept ∙ (λ i. record (single_journal m.journal) {
              entries = m.journal.entries ++ sym (flat-filings name.hash records) i;
              doubts = sym (append-nil (singles m.journal.doubts)) i;
            });
          })
          (λ told. values name.hash ∙ done.here told)

    -- ---- by its answer

    ready-step : (names : List FileName) (answer : Answer) (n : Kept V) → ReadyEnds tells files faults calls lists m name change names o answer n
        → IsStep tells files faults k name change answer n
    ready-step names (answers.Done front) n ends =
        made-step ends.filed ends.has_filed names (answers.Done front) n refl ends.puts ends.answered
    ready-step names (answers.Buried front) n ends =
        made-step ends.filed ends.has_filed names (answers.Buried front) n refl ends.puts ends.answered
    ready-step names answers.JournalFull n ends = full-step n ends
    ready-step names answers.Failed n ends = elim ends [
      | inl unfiled_so ↦ unfiled-step n unfiled_so
      | inr unmade_so ↦ unmade-by unmade_so.filed unmade_so.has_filed n unmade_so.puts (is_told tells files faults m) refl
    ]
    ready-step names answers.NoMemory n ends = elim ends [
      | inl unfiled_so ↦ unfiled-want n unfiled_so
      | inr unmade_so ↦ want-step unmade_so.filed unmade_so.has_filed n unmade_so.puts
    ]
    ready-step names (answers.Took is) n ends = absurd ends
    ready-step names (answers.Conflict time) n ends = absurd ends
    ready-step names (answers.NotFound time) n ends = absurd ends
    ready-step names (answers.Mismatch second) n ends = absurd ends
    ready-step names answers.Exists n ends = absurd ends
    ready-step names (answers.Damaged bad) n ends = absurd ends

  behind : (names : List FileName) (answer : Answer) (n : Kept V) → EndsReady tells files faults calls lists k name change names o answer n
      → IsStep tells files faults k name change answer n
  behind names answer n ends =
      ready-step ends.ready (readied tells files faults calls lists name change k ends.ready writes dir undoubted ends.are_ready) names answer n ends.ends

  pub ends-step : (names : List FileName) (answer : Answer) (n : Kept V) → WriteEnds tells files faults calls lists k name change names o answer n
      → IsStep tells files faults k name change answer n
  ends-step names (answers.Damaged bad) n ends =
      let so = own-readied (reads.Damaged bad) n ends in
      unseen n so.1.0.looks so.1.0.dir (answers.Damaged bad) Damages refl (record { not_made = refl; same = refl }) (λ is. so.1.2) (λ is. cc)
  ends-step names answers.Failed n ends = elim ends [
    | inl unready ↦
        let so = own-readied reads.Failed n unready in
        unseen n so.1.0.looks so.1.0.dir answers.Failed Fails refl (record { not_made = refl; same = refl }) (λ is. cc)
        (λ is. risen-after (faults k.volume) (faults k.volume) (faults n.volume) refl so.1.1.failed so.1.0.looks.later)
    | inr ready ↦ behind names answers.Failed n ready
  ]
  ends-step names answers.NoMemory n ends = elim ends [
    | inl first ↦ elim first [
      | inl wants ↦ subst (λ (x : Kept V). IsStep tells files faults k name change answers.NoMemory x) (sym wants.same)
          (wanting k (looks-refl tells files faults k) dir)
      | inr unready ↦ let so = own-readied reads.NoMemory n unready in wanting n so.1.0.looks so.1.0.dir
    ]
    | inr ready ↦ behind names answers.NoMemory n ready
  ]
  ends-step names (answers.Done front) n ends = behind names (answers.Done front) n ends
  ends-step names (answers.Buried front) n ends = behind names (answers.Buried front) n ends
  ends-step names answers.JournalFull n ends = behind names answers.JournalFull n ends
  ends-step names (answers.Took is) n ends = absurd ends.ends
  ends-step names (answers.Conflict time) n ends = absurd ends.ends
  ends-step names (answers.NotFound time) n ends = absurd ends.ends
  ends-step names (answers.Mismatch second) n ends = absurd ends.ends
  ends-step names answers.Exists n ends = absurd ends.ends

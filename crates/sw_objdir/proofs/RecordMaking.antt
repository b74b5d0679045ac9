-- A step at a record, from what its parts left: it is one of its lock by the rules, and these are its calls.
use Rattle.std.proofs.Common.{◌≡◌, ◌≢◌, ℕ, suc, ◌+◌, Bool, true, false, List, [], ◌∷◌, ◌++◌, length, Option, None, refl, sym, ◌∙◌, ap, subst}
use Rattle.std.proofs.Common.{arith, inl, inr, ◌⊎◌, Err}
use Rattle.std.specs.List.{fold}
use Rattle.std.specs.Str.{bytes_eq}
use Rattle.std.proofs.lemmas.Bool.{cases_Bool}
use Rattle.std.proofs.lemmas.List.{append-nil, map-append}
use Rattle.sw_hashpath.specs.declared.name.Name.{Name}
use Rattle.sw_history.proofs.Growing.{grows-refl}
use Rattle.sw_history.specs.Halves.{GrowsOf}
use Rattle.sw_object_steps.proofs.Hashes.{hash-same, hash-self}
use Rattle.sw_object_steps.proofs.Singles.{room-single, singles}
use Rattle.sw_object_steps.specs.Histories.{ChangesObject}
use Rattle.sw_object_steps.specs.Journals.{Hash, Journal, has_room}
use Rattle.sw_object_steps.specs.Recorded.{found, is_gone, is_taken}
use Rattle.sw_object_steps.specs.Rules.{Writes, at_once, obj_applied, obj_changes, obj_ending, obj_entries, obj_room, obj_rules, obj_touches}
use Rattle.sw_object_steps.specs.Singles.{History, single_history, single_journal}
use Rattle.sw_object_steps.specs.Values.{ObjValue}
use Rattle.sw_object_steps.specs.declared.answer.Answer.{Answer}
use Rattle.sw_object_steps.specs.declared.answer.Answer.TheVariants as answers
use Rattle.sw_object_steps.specs.declared.change.Change.{Change}
use Rattle.sw_object_steps.specs.declared.entry.ObjEntry.{ObjEntry}
use Rattle.sw_objdir.proofs.Deciding.{risen-after}
use Rattle.sw_objdir.proofs.Looking.{looks-trans, step-after, step-unsettled, still-values, told-same}
use Rattle.sw_objdir.proofs.RecordReady.{IsReady, counts-as, counts-more, no-listing}
use Rattle.sw_objdir.proofs.RecordReading.{Kind, answers-are, changes-are, entries-are, entries-by, found-guessed, gone-guessed, guessed, none-touches}
use Rattle.sw_objdir.proofs.RecordReading.{refuses-none, step_at, taken-by}
use Rattle.sw_objdir.specs.Calling.{NoListing}
use Rattle.sw_objdir.specs.Directories.{IsKept, Kept, history_of, is_told, steps_of, values_of}
use Rattle.sw_objdir.specs.Recording.{CalledFor, CallsMade, Doubts, Ends, Enters, Finds, FindsAs, FindsNot, IsFullFor, LooksNot, LooksUp, Made}
use Rattle.sw_objdir.specs.Recording.{OnlyLooked, Reads, Takes, Wants, answer_of, asks_listing, entries_by, once_if, reads_for, taken_by}
use Rattle.sw_objdir.specs.Recording.{text_left}
use Rattle.sw_objdir.specs.Stepping.{IsStep, LooksAt}
use Rattle.sw_outside.specs.Faults.{HasRisen}
use Rattle.sw_pending.specs.Names.{folder_text, name_text as record_name}
use Rattle.sw_pending.specs.Records.{key_of}
use Rattle.sw_pending.specs.declared.filed.Filed.{Filed}
use Rattle.sw_pending_dir.specs.declared.fault.ReadFault.{ReadFault}
use Rattle.sw_pending_dir.specs.declared.fault.ReadFault.TheVariants as faulted
use Rattle.sw_step.specs.Rules.{CanStand, Damages, Ending, Fails, Makes, NoneOf, Overflows, Wants as Wanting, doubts_about}
use Rattle.sw_step.specs.Steps.{EndsSeen, EndsUnseen}
use Rattle.sw_volume.specs.Tree.{Folders, contents}
use Rattle.sw_volume.specs.Volume.{MaySet, Sets}

-- ---- a step by the rules, from one history to the next

module _ (h g : History) (now : Hash → ObjValue) (kept : IsKept h now) (name : Name) (change : Change) (answer : Answer)
    (grows : GrowsOf (single_history h) (single_history g)) (e : Ending) (ends : obj_ending answer ≡ e) (risen : e ≡ Fails → HasRisen h.faults g.faults) where
  -- it was answered by what stood, with no doubt left that it touches
  pub seen-into : (read : ObjValue) → (h.told ≡ true → read ≡ now name.hash)
      → NoneOf (obj_touches read name.hash (Writes name change)) (doubts_about obj_rules name.hash (single_journal h.journal).doubts) → (made : List ObjEntry)
      → EndsSeen obj_rules e read (single_journal h.journal) name.hash (Writes name change) answer made (single_journal g.journal)
      → (t : ObjValue) → (h.told ≡ true → t ≡ fold obj_applied (now name.hash) made)
      → ChangesObject true (single_history h) now name change answer (single_history g) t
  seen-into read is settled made so t left = record {
    own = hash-self name.hash;
    before = single_history h;
    looked = true;
    read = read;
    made = made;
    follows = grows-refl (single_history h);
    settles = λ alone. (0, refl);
    settled = λ x. settled;
    answered = subst (λ (x : Ending). EndsSeen obj_rules x read (single_journal h.journal) name.hash (Writes name change) answer made
        (single_journal g.journal)) (sym ends) so;
    orderly = λ damaged. absurd (subst (λ (x : Ending). EndsSeen obj_rules x read (single_journal h.journal) name.hash (Writes name change)
        answer made (single_journal g.journal)) (sym ends ∙ damaged) so);
    after = grows;
    failed = λ is_failed. risen (sym ends ∙ is_failed);
    known = λ told x. subst (λ (v : ObjValue). CanStand obj_rules (single_history h) name.hash v) (sym (is told)) (kept.can told name.hash);
    kept = λ alone told other reached. kept.can told other;
    held = λ alone told x. is told;
    leaves = λ alone told. left told;
  }

module _ {V : Type 0} (tells : V → Bool) (files : V → Folders) (faults calls lists : V → ℕ) where
  module _ (k : Kept V) (name : Name) (filed : Filed) (kind : Kind) where
    -- ---- what such a step makes

    module _ (stood : Option Filed) (gone : Bool) (m : Kept V) (ready : IsReady tells files faults calls lists k name filed kind stood gone m)
      where
        abbrev pub looked-up : LooksUp tells files faults calls lists k name filed (step_at filed kind)
        looked-up = record { stood = stood; between = ready.between; gone = gone; journal = m.journal; read = ready.read; listed = ready.listed }

        pub only-looked : OnlyLooked tells files faults calls lists k name filed (step_at filed kind) looked-up m
        only-looked = record { same = ready.looks.still; counts = ready.counts; kept = refl }

        -- what it read
        record IsRead : Type 0 where
          value : ObjValue
          held_is : is_told tells files faults m ≡ true → value ≡ values_of tells files faults m name.hash
          found_is : found value name.hash filed ≡ stood
          entries : obj_entries value name.hash (Writes name (step_at filed kind)) ≡ entries_by name.hash (step_at filed kind) stood gone
          changes : obj_changes value name.hash (Writes name (step_at filed kind)) ≡ at_once (entries_by name.hash (step_at filed kind) stood gone)
          taken : is_taken value name.hash (step_at filed kind) ≡ taken_by (step_at filed kind) stood gone

        is-read : (x : ObjValue) → (is_told tells files faults m ≡ true → x ≡ values_of tells files faults m name.hash)
            → found x name.hash filed ≡ stood → (asks_listing (step_at filed kind) stood ≡ true → is_gone x.state filed.time ≡ gone) → IsRead
        is-read x held found_so told = record {
          value = x;
          held_is = held;
          found_is = found_so;
          entries = entries-are x name.hash name filed kind ∙ entries-by x name.hash filed stood found_so gone kind told;
          changes = changes-are x name.hash name filed kind ∙ ap at_once (entries-by x name.hash filed stood found_so gone kind told);
          taken = taken-by x name.hash filed stood found_so gone kind told;
        }

        read : IsRead
        read = elim (cases_Bool (is_told tells files faults m)) [
          | inl told ↦ is-read (values_of tells files faults m name.hash) (λ x. refl) (sym (ready.found_is told)) (λ is. sym (ready.gone_is told is))
          | inr none ↦ is-read (guessed filed stood gone) (λ told. absurd (let clash = sym none ∙ told in cc)) (found-guessed name filed stood gone ready.own)
              (λ is. gone-guessed filed stood gone)
        ]

        none-left : NoneOf (obj_touches read.value name.hash (Writes name (step_at filed kind)))
            (doubts_about obj_rules name.hash (singles m.journal.doubts))
        none-left = none-touches read.value name filed stood kind m.journal.doubts ready.dir.kept.plain read.found_is ready.writes ready.about

        abbrev h : History
        h = history_of tells files faults m

        refused-none : obj_rules.refusal read.value name.hash (Writes name (step_at filed kind)) ≡ None
        refused-none = refuses-none read.value name.hash name filed kind

        behind : (answer : Answer) (n : Kept V) → IsStep tells files faults m name (step_at filed kind) answer n
            → IsStep tells files faults k name (step_at filed kind) answer n
        behind answer n step = step-after tells files faults k m (still-values tells files faults _ k m ready.looks ready.dir) name ready.looks
            (step_at filed kind) answer n step

        -- ---- there was nothing to enter

        module _ (none : entries_by name.hash (step_at filed kind) stood gone ≡ []) where
          entries-none : obj_entries read.value name.hash (Writes name (step_at filed kind)) ≡ []
          entries-none = read.entries ∙ none

          pub idle-step : IsStep tells files faults k name (step_at filed kind) (answers.Took (taken_by (step_at filed kind) stood gone)) m
          idle-step = behind (answers.Took (taken_by (step_at filed kind) stood gone)) m (record {
            same = record { began = refl; secrets = refl; power = refl; told = refl };
            others = λ hash apart. refl;
            changes = seen-into h h (values_of tells files faults m) ready.dir.kept name (step_at filed kind)
                (answers.Took (taken_by (step_at filed kind) stood gone)) (grows-refl (single_history h)) Makes refl (λ is. cc)
                read.value read.held_is none-left []
                (record {
                  not_refused = refused-none;
                  room = ap (obj_room (single_journal m.journal) read.value) entries-none;
                  is_made = sym entries-none;
                  entered = λ i. record (single_journal m.journal) {
                    entries = (sym (append-nil m.journal.entries) ∙ ap (λ (es : List ObjEntry). m.journal.entries ++ es) (sym entries-none)) i;
                  };
                  answer_is = ap answers.Took (sym read.taken) ∙ sym (answers-are read.value name.hash name filed kind (length m.journal.entries));
                })
                (values_of tells files faults m name.hash) (λ told. refl);
          })

          pub idle-called : Takes tells files faults calls lists k name filed (step_at filed kind) (taken_by (step_at filed kind) stood gone) m
          idle-called = record {
            seen = looked-up;
            taken = refl;
            made = subst (λ (es : List ObjEntry). Made tells files faults calls lists k name filed (step_at filed kind) looked-up es m) (sym none) only-looked;
          }

        -- ---- an entry was to be made

        module _ (e : ObjEntry) (one : entries_by name.hash (step_at filed kind) stood gone ≡ e ∷ [])
            (taken : taken_by (step_at filed kind) stood gone ≡ true) (own : bytes_eq filed.name.hash name.hash ≡ true) where
          entries-one : obj_entries read.value name.hash (Writes name (step_at filed kind)) ≡ e ∷ []
          entries-one = read.entries ∙ one

          own-hash-is : filed.name.hash ≡ name.hash
          own-hash-is = hash-same filed.name.hash name.hash own

          room-is : obj_room (single_journal m.journal) read.value (obj_entries read.value name.hash (Writes name (step_at filed kind)))
              ≡ has_room m.journal e
          room-is = ap (obj_room (single_journal m.journal) read.value) entries-one ∙ room-single m.journal e

          -- there is no room
          full-step : (n : Kept V) → IsFullFor tells files faults calls lists m e n
              → IsStep tells files faults k name (step_at filed kind) answers.JournalFull n
          full-step n full = behind answers.JournalFull n
              (subst (λ (x : Kept V). IsStep tells files faults m name (step_at filed kind) answers.JournalFull x) (sym full.same) (record {
                same = record { began = refl; secrets = refl; power = refl; told = refl };
                others = λ hash apart. refl;
                changes = seen-into h h (values_of tells files faults m) ready.dir.kept name (step_at filed kind) answers.JournalFull
                    (grows-refl (single_history h)) Overflows refl (λ is. cc) read.value read.held_is none-left []
                    (record { leaves = record { not_made = refl; same = refl }; not_refused = refused-none; full = room-is ∙ full.full })
                    (values_of tells files faults m name.hash) (λ told. refl);
              }))

          others-from : (n : Kept V)
              → ((hash : Hash) → hash ≢ (key_of filed).hash → values_of tells files faults n hash ≡ values_of tells files faults m hash)
              → (hash : Hash) → hash ≢ name.hash → values_of tells files faults n hash ≡ values_of tells files faults m hash
          others-from n others hash away = others hash (λ same. away (same ∙ own-hash-is))

          -- it was made
          made-step : (n : Kept V) → has_room m.journal e ≡ true → Enters tells files faults calls lists m (key_of filed) e n
              → IsStep tells files faults k name (step_at filed kind) (answers.Took true) n
          made-step n room enters = behind (answers.Took true) n (record {
            same = enters.same;
            others = others-from n enters.others;
            changes = seen-into h (history_of tells files faults n) (values_of tells files faults m) ready.dir.kept name (step_at filed kind)
                (answers.Took true)
                (record {
                  told = told-same tells files faults m n enters.same;
                  opening = λ hash. rw (enters.same.began, enters.same.secrets, enters.same.power) refl;
                  entries = (e ∷ [], ap (λ (j : Journal). j.entries) enters.entered);
                  max_entries = ap (λ (j : Journal). j.max_entries) enters.entered;
                  max_bytes = ap (λ (j : Journal). j.max_bytes) enters.entered;
                  faults = let same = enters.counts.failed in omega (arith, same);
                })
                Makes refl (λ is. cc) read.value read.held_is none-left (e ∷ [])
                (record {
                  not_refused = refused-none;
                  room = room-is ∙ room;
                  is_made = sym entries-one;
                  entered = ap single_journal enters.entered
                      ∙ ap (λ (es : List ObjEntry). record (single_journal m.journal) { entries = m.journal.entries ++ es }) (sym entries-one);
                  answer_is = ap answers.Took (sym (read.taken ∙ taken))
                      ∙ sym (answers-are read.value name.hash name filed kind (length n.journal.entries));
                })
                (values_of tells files faults n name.hash)
                (λ told. subst (λ (x : Hash). values_of tells files faults n x ≡ obj_applied (values_of tells files faults m x) e) own-hash-is
                (enters.here told));
          })

          -- it was made or wasn't, and is in doubt
          module _ (n : Kept V) (room : has_room m.journal e ≡ true) (doubts : Doubts tells files faults calls lists m (key_of filed) e n) where
            doubted : (made : List ObjEntry) → (made ≡ []) ⊎ ((true ≡ true) × (made ≡ e ∷ []))
                → (is_told tells files faults m ≡ true
                → values_of tells files faults n name.hash ≡ fold obj_applied (values_of tells files faults m name.hash) made)
                → ChangesObject true (steps_of tells files faults m) (values_of tells files faults m) name (step_at filed kind) answers.Failed
                (steps_of tells files faults n) (values_of tells files faults n name.hash)
            doubted made is_made left = seen-into h (history_of tells files faults n) (values_of tells files faults m) ready.dir.kept name
                (step_at filed kind) answers.Failed
                (record {
                  told = told-same tells files faults m n doubts.same;
                  opening = λ hash. rw (doubts.same.began, doubts.same.secrets, doubts.same.power) refl;
                  entries = ([], ap (λ (j : Journal). j.entries) doubts.in_doubt ∙ sym (append-nil m.journal.entries));
                  max_entries = ap (λ (j : Journal). j.max_entries) doubts.in_doubt;
                  max_bytes = ap (λ (j : Journal). j.max_bytes) doubts.in_doubt;
                  faults = doubts.later;
                })
                Fails refl (λ is. risen-after (faults m.volume) (faults m.volume) (faults n.volume) refl doubts.counts.failed doubts.later)
                read.value read.held_is none-left made
                (record {
                  not_refused = refused-none;
                  room = room-is ∙ room;
                  first = [];
                  here = e ∷ [];
                  behind = [];
                  cut = read.changes ∙ ap at_once one;
                  doubted = true;
                  may_doubt = λ x. refl;
                  is_made = is_made;
                  entered = ap single_journal doubts.in_doubt ∙ (λ i. record (single_journal m.journal) {
                    entries = sym (append-nil m.journal.entries) i;
                    doubts = map-append (λ entry. entry ∷ []) m.journal.doubts (e ∷ []) i;
                  });
                })
                (values_of tells files faults n name.hash) left

            here-name : (made : List ObjEntry)
                → values_of tells files faults n (key_of filed).hash ≡ fold obj_applied (values_of tells files faults m (key_of filed).hash) made
                → values_of tells files faults n name.hash ≡ fold obj_applied (values_of tells files faults m name.hash) made
            here-name made is = subst (λ (x : Hash). values_of tells files faults n x ≡ fold obj_applied (values_of tells files faults m x) made)
                own-hash-is is

            by-told : (b : Bool) → is_told tells files faults m ≡ b
                → ChangesObject true (steps_of tells files faults m) (values_of tells files faults m) name (step_at filed kind) answers.Failed
                (steps_of tells files faults n) (values_of tells files faults n name.hash)
            by-told false none = doubted [] (inl refl) (λ told. absurd (let clash = sym none ∙ told in cc))
            by-told true told = elim (doubts.here told) [
              | inl same ↦ doubted [] (inl refl) (λ x. here-name [] same)
              | inr made ↦ doubted (e ∷ []) (inr (refl, refl)) (λ x. here-name (e ∷ []) made)
            ]

            doubt-step : IsStep tells files faults k name (step_at filed kind) answers.Failed n
            doubt-step = behind answers.Failed n (record {
              same = doubts.same;
              others = others-from n doubts.others;
              changes = by-told (is_told tells files faults m) refl;
            })

          -- memory was wanting
          want-step : (n : Kept V) → Wants tells files faults calls lists m (key_of filed).hash e n
              → IsStep tells files faults k name (step_at filed kind) answers.NoMemory n
          want-step n wants =
              let looks : LooksAt tells files faults (λ key. bytes_eq key name.hash) m n =
              subst (λ (x : Hash). LooksAt tells files faults (λ key. bytes_eq key x) m n) own-hash-is wants.looks in
              let both = looks-trans tells files faults k m n ready.looks looks in
              step-unsettled tells files faults k n (still-values tells files faults _ k n both wants.dir) name both (step_at filed kind) answers.NoMemory
              Wanting refl (record { not_made = refl; same = refl }) wants.dir (λ is. cc) (λ is. cc)

          -- ---- its calls

          abbrev most : ℕ
          most = reads_for name filed + once_if (asks_listing (step_at filed kind) stood)

          abbrev listings : ℕ
          listings = once_if (asks_listing (step_at filed kind) stood)

          counts-behind : (a f : ℕ) (n : Kept V) → NoListing tells files faults calls lists a f m n
              → CallsMade tells files faults calls lists (a + most) listings f k n
          counts-behind a f n counts = counts-as tells files faults calls lists (a + most) (0 + listings) (a + most) listings f k n refl (omega arith)
              (counts-more tells files faults calls lists a 0 most listings f k m n ready.counts (no-listing tells files faults calls lists a f m n counts))

          counts-once : (f : ℕ) (n : Kept V) → NoListing tells files faults calls lists 1 f m n
              → CallsMade tells files faults calls lists (suc most) listings f k n
          counts-once f n counts = counts-as tells files faults calls lists (1 + most) listings (suc most) listings f k n (omega arith) refl
              (counts-behind 1 f n counts)

          sets-before : (n : Kept V) (w : Option (List ℕ))
              → (tells m.volume ≡ true → Sets (contents (files m.volume)) (contents (files n.volume)) (folder_text filed.name.hash)
              (record_name (key_of filed)) w)
              → tells k.volume ≡ true → Sets (contents (files k.volume)) (contents (files n.volume)) (folder_text filed.name.hash)
              (record_name (key_of filed)) w
          sets-before n w sets told =
              let so = sets (ready.looks.same.told ∙ told) in
              record { there = so.there; elsewhere = λ d f apart. so.elsewhere d f apart ∙ ready.looks.still told d f }

          may-before : (n : Kept V) (w : Option (List ℕ))
              → (tells m.volume ≡ true → MaySet (contents (files m.volume)) (contents (files n.volume)) (folder_text filed.name.hash)
              (record_name (key_of filed)) w)
              → tells k.volume ≡ true → MaySet (contents (files k.volume)) (contents (files n.volume)) (folder_text filed.name.hash)
              (record_name (key_of filed)) w
          may-before n w may told = elim (may (ready.looks.same.told ∙ told)) [
            | inl same ↦ inl (λ d f. same d f ∙ ready.looks.still told d f)
            | inr so ↦ inr (record { there = so.there; elsewhere = λ d f apart. so.elsewhere d f apart ∙ ready.looks.still told d f })
          ]

          made-called : (n : Kept V) → Enters tells files faults calls lists m (key_of filed) e n
              → Takes tells files faults calls lists k name filed (step_at filed kind) true n
          made-called n enters = record {
            seen = looked-up;
            taken = sym taken;
            made = subst (λ (es : List ObjEntry). Made tells files faults calls lists k name filed (step_at filed kind) looked-up es n) (sym one) (record {
              sets = sets-before n (text_left e) enters.sets;
              counts = counts-once 0 n enters.counts;
              entered = enters.entered;
            });
          }

          -- ---- by its answer

          pub ends-step : (answer : Answer) (n : Kept V) → Ends tells files faults calls lists m (key_of filed) e answer n
              → IsStep tells files faults k name (step_at filed kind) answer n
          ends-step (answers.Took is) n ends =
              subst (λ (b : Bool). IsStep tells files faults k name (step_at filed kind) (answers.Took b) n) (sym ends.0) (made-step n ends.1.room ends.1.so)
          ends-step answers.JournalFull n ends = full-step n ends
          ends-step answers.Failed n ends = doubt-step n ends.room ends.so
          ends-step answers.NoMemory n ends = want-step n ends
          ends-step (answers.Done front) n ends = absurd ends
          ends-step (answers.Buried front) n ends = absurd ends
          ends-step (answers.Conflict time) n ends = absurd ends
          ends-step (answers.NotFound time) n ends = absurd ends
          ends-step (answers.Mismatch second) n ends = absurd ends
          ends-step answers.Exists n ends = absurd ends
          ends-step (answers.Damaged bad) n ends = absurd ends

          pub ends-called : (answer : Answer) (n : Kept V) → Ends tells files faults calls lists m (key_of filed) e answer n
              → CalledFor tells files faults calls lists k name filed (step_at filed kind) answer n
          ends-called (answers.Took is) n ends =
              subst (λ (b : Bool). Takes tells files faults calls lists k name filed (step_at filed kind) b n) (sym ends.0) (made-called n ends.1.so)
          ends-called answers.JournalFull n ends = record {
            seen = looked-up;
            entry = e;
            wanted = one;
            looked = subst (λ (x : Kept V). OnlyLooked tells files faults calls lists k name filed (step_at filed kind) looked-up x) (sym ends.same)
                only-looked;
          }
          ends-called answers.Failed n ends = inr (inr (record {
            seen = looked-up;
            entry = e;
            wanted = one;
            may = may-before n (text_left e) ends.so.may;
            counts = counts-once 1 n ends.so.counts;
            in_doubt = ends.so.in_doubt;
          }))
          ends-called answers.NoMemory n ends = inr (inr (record {
            seen = looked-up;
            entry = e;
            wanted = one;
            puts = ends.puts;
            within = ends.within;
            same = λ told d f. ends.looks.still (ready.looks.same.told ∙ told) d f ∙ ready.looks.still told d f;
            counts = counts-behind ends.puts 0 n ends.counts;
            kept = ends.kept;
          }))
          ends-called (answers.Done front) n ends = absurd ends
          ends-called (answers.Buried front) n ends = absurd ends
          ends-called (answers.Conflict time) n ends = absurd ends
          ends-called (answers.NotFound time) n ends = absurd ends
          ends-called (answers.Mismatch second) n ends = absurd ends
          ends-called answers.Exists n ends = absurd ends
          ends-called (answers.Damaged bad) n ends = absurd ends

    -- ---- the record couldn't be read

    unseen : (n : Kept V) → FindsNot tells files faults calls lists k name n → (answer : Answer) (e : Ending) → obj_ending answer ≡ e
        → EndsUnseen obj_rules e (single_journal n.journal) [] (single_journal n.journal)
        → (e ≡ Damages → is_told tells files faults n ≡ false) → (e ≡ Fails → HasRisen (faults k.volume) (faults n.volume))
        → IsStep tells files faults k name (step_at filed kind) answer n
    unseen n finds answer e ends so orderly cause =
        step-unsettled tells files faults k n (still-values tells files faults _ k n finds.looks finds.dir) name finds.looks (step_at filed kind) answer e ends
        so finds.dir orderly cause

    pub unread-step : (fault : ReadFault) (n : Kept V) → Finds tells files faults calls lists k name filed (Err fault) n
        → IsStep tells files faults k name (step_at filed kind) (answer_of fault) n
    unread-step (faulted.Damaged bad) n finds =
        unseen n finds.0 (answers.Damaged bad) Damages refl (record { not_made = refl; same = refl }) (λ is. finds.1) (λ is. cc)
    unread-step faulted.Failed n finds =
        unseen n finds.0 answers.Failed Fails refl (record { not_made = refl; same = refl }) (λ is. cc)
        (λ is. risen-after (faults k.volume) (faults k.volume) (faults n.volume) refl (finds.1 (step_at filed kind)).counts.failed finds.0.looks.later)
    unread-step faulted.NoMemory n finds =
        unseen n finds.0 answers.NoMemory Wanting refl (record { not_made = refl; same = refl }) (λ is. cc) (λ is. cc)

    pub unread-called : (fault : ReadFault) (n : Kept V) → Finds tells files faults calls lists k name filed (Err fault) n
        → CalledFor tells files faults calls lists k name filed (step_at filed kind) (answer_of fault) n
    unread-called (faulted.Damaged bad) n finds = finds.2 (step_at filed kind)
    unread-called faulted.Failed n finds = inl (finds.1 (step_at filed kind))
    unread-called faulted.NoMemory n finds = inl (finds.1 (step_at filed kind))

    -- ---- the directory couldn't be listed

    module _ (stood : Option Filed) (m : Kept V) (finds : FindsAs tells files faults calls lists k name filed stood m)
        (asks : asks_listing (step_at filed kind) stood ≡ true) (n : Kept V) (looks : LooksNot tells files faults calls lists m name n) where
      both : LooksAt tells files faults (λ key. bytes_eq key name.hash) k n
      both = looks-trans tells files faults k m n finds.looks looks.looks

      read-then : Reads tells files faults calls lists (bytes_eq filed.name.hash name.hash) k filed stood n.journal
      read-then = subst (λ (j : Journal). Reads tells files faults calls lists (bytes_eq filed.name.hash name.hash) k filed stood j) (sym looks.kept) finds.read

      counts-then : (a l f : ℕ) → CallsMade tells files faults calls lists a l f m n
          → CallsMade tells files faults calls lists (a + reads_for name filed) (l + 0) f k n
      counts-then a l f counts = counts-more tells files faults calls lists a l (reads_for name filed) 0 f k m n finds.counts counts

      counts-listing : (f : ℕ) → CallsMade tells files faults calls lists 1 1 f m n
          → CallsMade tells files faults calls lists (suc (reads_for name filed)) 1 f k n
      counts-listing f counts =
          counts-as tells files faults calls lists (1 + reads_for name filed) (1 + 0) (suc (reads_for name filed)) 1 f k n (omega arith) refl
          (counts-then 1 1 f counts)

      pub unlisted-step : (answer : Answer) (e : Ending) → obj_ending answer ≡ e
          → EndsUnseen obj_rules e (single_journal n.journal) [] (single_journal n.journal)
          → (e ≡ Damages → is_told tells files faults n ≡ false) → (e ≡ Fails → HasRisen (faults k.volume) (faults n.volume))
          → IsStep tells files faults k name (step_at filed kind) answer n
      unlisted-step answer e ends so orderly cause =
          step-unsettled tells files faults k n (still-values tells files faults _ k n both looks.dir) name both (step_at filed kind) answer e ends so looks.dir
          orderly cause

      pub failed-step : CallsMade tells files faults calls lists 1 1 1 m n → IsStep tells files faults k name (step_at filed kind) answers.Failed n
      failed-step counts =
          unlisted-step answers.Failed Fails refl (record { not_made = refl; same = refl }) (λ is. cc)
          (λ is. risen-after (faults k.volume) (faults m.volume) (faults n.volume) finds.counts.failed counts.failed
          looks.looks.later)

      pub failed-called : CallsMade tells files faults calls lists 1 1 1 m n
          → CalledFor tells files faults calls lists k name filed (step_at filed kind) answers.Failed n
      failed-called counts = inr (inl (record {
        stood = stood;
        asks = asks;
        read = read-then;
        same = both.still;
        counts = counts-listing 1 counts;
      }))

      pub wanting-step : IsStep tells files faults k name (step_at filed kind) answers.NoMemory n
      wanting-step = unlisted-step answers.NoMemory Wanting refl (record { not_made = refl; same = refl }) (λ is. cc) (λ is. cc)

      pub wanting-called : CallsMade tells files faults calls lists 0 0 0 m n ⊎ CallsMade tells files faults calls lists 1 1 0 m n
          → CalledFor tells files faults calls lists k name filed (step_at filed kind) answers.NoMemory n
      wanting-called counts = inr (inl (record {
        stood = stood;
        asks = asks;
        read = read-then;
        same = both.still;
        counts = elim counts [
          | inl none ↦ inl (counts-as tells files faults calls lists (0 + reads_for name filed) (0 + 0) (reads_for name filed) 0 0 k n (omega arith) refl
              (counts-then 0 0 0 none))
          | inr one ↦ inr (counts-listing 0 one)
        ];
      }))

-- What a step at a record looked at: the file of the record's key, and the name's directory.
use Rattle.std.proofs.Common.{◌≡◌, ◌≢◌, ℕ, ◌≤◌, Bool, true, false, List, [], ◌∷◌, ◌++◌, Option, None, Some, IfSome, IsSome, Err, refl, sym, ◌∙◌, ap, subst}
use Rattle.std.proofs.Common.{inl, inr, if◌then◌else◌, not}
use Rattle.std.specs.Str.{bytes_eq}
use Rattle.std.proofs.lemmas.List.Elements.{filter-append}
use Rattle.sw_cleanup.specs.Cleaning.{AreListedIn}
use Rattle.sw_diskfile.specs.Picking.{IsPicked}
use Rattle.sw_diskfile.specs.declared.file_name.FileName.{FileName}
use Rattle.sw_diskfile.specs.declared.picking.Picked.{Picked}
use Rattle.sw_hashdir.specs.Places.{dir_text}
use Rattle.sw_hashpath.specs.declared.name.Name.{Name}
use Rattle.sw_journal.specs.Entries.{about_record, is_record_of}
use Rattle.sw_journal.specs.Settling.{SettlesFirst, SettlesFirstRecord}
use Rattle.sw_object_steps.proofs.Hashes.{hash-same, hash-self}
use Rattle.sw_object_steps.proofs.Recording.{same-self}
use Rattle.sw_object_steps.specs.Journals.{Hash, Journal, written}
use Rattle.sw_object_steps.specs.Outlines.{is_before, is_new_to, outline_of, picked_outline, standing_time}
use Rattle.sw_object_steps.specs.Recorded.{of_key}
use Rattle.sw_object_steps.specs.Rules.{obj_rules}
use Rattle.sw_object_steps.specs.Singles.{single_history}
use Rattle.sw_object_steps.specs.Values.{ObjValue, is_same_key}
use Rattle.sw_object_steps.specs.declared.entry.ObjEntry.{ObjEntry}
use Rattle.sw_object_steps.specs.declared.entry.ObjEntry.TheVariants.{Wrote}
use Rattle.sw_object_steps.specs.declared.outline.Outline.{Outline}
use Rattle.sw_objdir.proofs.Looking.{dir-moved, looks-moved, looks-refl, tells-now, values-same, values-told}
use Rattle.sw_objdir.proofs.RecordSettling.{record-settles}
use Rattle.sw_objdir.specs.Directories.{IsDir, IsKept, Kept, held, history_of, is_told, values_of}
use Rattle.sw_objdir.specs.Recording.{CallsMade, Finds, FindsAs, FindsNot, LooksGone, Reads, TellsGone, once_if}
use Rattle.sw_objdir.specs.Stepping.{LooksAt, SameFiles}
use Rattle.sw_outside.specs.Counts.{raised}
use Rattle.sw_pending.specs.Outcomes.{IsName, IsRecord}
use Rattle.sw_pending.specs.Records.{key_of}
use Rattle.sw_pending.specs.declared.filed.Filed.{Filed}
use Rattle.sw_pending.specs.declared.key.RecordKey.{RecordKey}
use Rattle.sw_pending_dir.specs.Places.{AllRecordsInOrder, bytes_at, record_at}
use Rattle.sw_pending_dir.specs.Readings.{IfDamaged, IsDamaged, IsFound, OnFailedRead, OnStarvedRead, UnlessFailedRead}
use Rattle.sw_pending_dir.specs.declared.fault.ReadFault.{ReadFault}
use Rattle.sw_pending_dir.specs.declared.fault.ReadFault.TheVariants as faulted
use Rattle.sw_state.specs.Writes.{tag_of}
use Rattle.sw_state.specs.declared.write.Write.{Write}
use Rattle.sw_step.specs.Steps.{OnlySettles}
use Rattle.sw_volume.specs.Tree.{Folders, contents}
use Rattle.sw_volume.specs.Volume.{HasCause}
use Rattle.sw_volume.specs.declared.errors.VolumeError.{VolumeError}
use Rattle.sw_volume.specs.declared.errors.VolumeError.TheVariants as volumes

-- by the test that two hashes differ
pub isnt-own : (b : Bool) → not b ≡ true → b ≡ false
isnt-own true is = cc
isnt-own false is = refl

pub is-own : (b : Bool) → not b ≡ false → b ≡ true
is-own true is = refl
is-own false is = cc

module _ {V : Type 0} (tells : V → Bool) (files : V → Folders) (faults calls lists : V → ℕ) (k : Kept V) (dir : IsDir tells files faults k) (name : Name)
  where
    -- ---- the record of a key

    module _ (filed : Filed) where
      -- it is of another hash
      pub finds-none : bytes_eq filed.name.hash name.hash ≡ false → FindsAs tells files faults calls lists k name filed None k
      finds-none other = record {
        dir = dir;
        looks = looks-refl tells files faults k;
        read = subst (λ (b : Bool). Reads tells files faults calls lists b k filed None k.journal) (sym other) (record { none = refl; kept = refl });
        value = λ told. rw other refl;
        settled = λ own. cc;
        sound = tt;
        counts = subst (λ (c : ℕ). CallsMade tells files faults calls lists c 0 0 k k) (sym (ap once_if other))
            (record { called = refl; listed = refl; failed = refl });
      }

      -- memory was wanting before it was read
      pub finds-untold : bytes_eq filed.name.hash name.hash ≡ true → about_record (key_of filed) k.journal.doubts ≢ []
          → Finds tells files faults calls lists k name filed (Err faulted.NoMemory) k
      finds-untold own doubted = (
        record { dir = dir; looks = looks-refl tells files faults k },
        λ change. inl (record {
          own = own;
          doubted = doubted;
          same = λ told d f. refl;
          counts = record { called = refl; listed = refl; failed = refl };
          kept = refl;
        }),
      )

      module _ (own : bytes_eq filed.name.hash name.hash ≡ true) (v : V) (told_is : tells v ≡ tells k.volume)
          (stay : SameFiles tells files faults k (record k { volume = v })) (up : faults k.volume ≤ faults v) (called : calls v ≡ raised (calls k.volume))
          (listed : lists v ≡ lists k.volume) where
        abbrev moved : Kept V
        moved = record k { volume = v }

        dir-read : IsDir tells files faults moved
        dir-read = dir-moved tells files faults k v dir told_is stay

        own-hash-is : filed.name.hash ≡ name.hash
        own-hash-is = hash-same filed.name.hash name.hash own

        -- it couldn't be read
        pub finds-not : (fault : ReadFault)
            → IfDamaged {T = Option Filed} (Err fault) (λ bad. tells k.volume ≡ true
            → IsDamaged k.secrets (key_of filed) (bytes_at (contents (files k.volume)) (key_of filed)) bad)
            → IfDamaged {T = Option Filed} (Err fault) (λ bad. tells k.volume ≡ true → ¬ (AllRecordsInOrder k.secrets (files k.volume)))
            → OnStarvedRead {T = Option Filed} (Err fault) (tells k.volume ≡ true → IsSome (bytes_at (contents (files k.volume)) (key_of filed)))
            → OnFailedRead {T = Option Filed} (Err fault) (faults v ≡ raised (faults k.volume))
            → UnlessFailedRead {T = Option Filed} (Err fault) (faults v ≡ faults k.volume)
            → Finds tells files faults calls lists k name filed (Err fault) (record k { volume = v })
        finds-not fault = by fault
          where
            none : FindsNot tells files faults calls lists k name moved
            none = record { dir = dir-read; looks = looks-moved tells files faults k v told_is stay up }

            by : (x : ReadFault)
                → IfDamaged {T = Option Filed} (Err x) (λ bad. tells k.volume ≡ true
                → IsDamaged k.secrets (key_of filed) (bytes_at (contents (files k.volume)) (key_of filed)) bad)
                → IfDamaged {T = Option Filed} (Err x) (λ bad. tells k.volume ≡ true → ¬ (AllRecordsInOrder k.secrets (files k.volume)))
                → OnStarvedRead {T = Option Filed} (Err x) (tells k.volume ≡ true → IsSome (bytes_at (contents (files k.volume)) (key_of filed)))
                → OnFailedRead {T = Option Filed} (Err x) (faults v ≡ raised (faults k.volume))
                → UnlessFailedRead {T = Option Filed} (Err x) (faults v ≡ faults k.volume)
                → Finds tells files faults calls lists k name filed (Err x) moved
            by (faulted.Damaged bad) damaged disorder starved failed kept = (
              none,
              untold (is_told tells files faults k) refl,
              λ change. record {
                own = own;
                damaged = damaged;
                same = stay;
                counts = record { called = called; listed = listed; failed = kept };
                kept = refl;
              },
            )
              where
                untold : (b : Bool) → is_told tells files faults k ≡ b → b ≡ false
                untold true told = absurd (disorder (tells-now tells files faults k dir told) (dir.records_order told))
                untold false none_told = refl
            by faulted.Failed damaged disorder starved failed kept = (
              none,
              λ change. record { own = own; same = stay; counts = record { called = called; listed = listed; failed = failed }; kept = refl },
            )
            by faulted.NoMemory damaged disorder starved failed kept = (
              none,
              λ change. inr (record {
                own = own;
                some = starved;
                same = stay;
                counts = record { called = called; listed = listed; failed = kept };
                kept = refl;
              }),
            )

        -- it was read
        module _ (fine : faults v ≡ faults k.volume) (stood : Option Filed)
            (found_so : tells k.volume ≡ true → IsFound k.secrets (key_of filed) (bytes_at (contents (files k.volume)) (key_of filed)) stood)
            (value : tells k.volume ≡ true → stood ≡ record_at k.secrets (files k.volume) (key_of filed))
            (keyed : IfSome stood (λ other. key_of other ≡ key_of filed)) (sound : IfSome stood (λ other. IsRecord k.secrets other)) (j : Journal)
            (settles : SettlesFirstRecord (key_of filed) stood k.journal j) where
          -- it is what stands for the key under its hash
          records-told : is_told tells files faults k ≡ true → stood ≡ (values_of tells files faults k filed.name.hash).records (key_of filed)
          records-told told =
              value (tells-now tells files faults k dir told)
              ∙ (rw (hash-self filed.name.hash) refl
              ∙ ap (λ (x : ObjValue). x.records (key_of filed)) (sym (values-told tells files faults k filed.name.hash told)))

          seen : is_told tells files faults moved ≡ true → stood ≡ (values_of tells files faults moved filed.name.hash).records (key_of filed)
          seen told = records-told told
              ∙ ap (λ (x : ObjValue). x.records (key_of filed)) (sym (values-same tells files faults k moved dir
              (record { began = refl; secrets = refl; power = refl; told = told_is }) stay filed.name.hash))

          settled-so : IsKept (record (history_of tells files faults moved) { journal = j }) (values_of tells files faults moved)
              × OnlySettles obj_rules (λ x. bytes_eq x (key_of filed).hash) (single_history (history_of tells files faults moved))
              (single_history (record (history_of tells files faults moved) { journal = j })) × (about_record (key_of filed) j.doubts ≡ [])
          settled-so = record-settles (history_of tells files faults moved) (values_of tells files faults moved) dir-read.kept (key_of filed) stood seen j
              settles

          pub dir-found : IsDir tells files faults (record k { volume = v; journal = j })
          dir-found = record {
            same = dir-read.same;
            order = dir-read.order;
            records_order = dir-read.records_order;
            kept = settled-so.0;
            least = dir-read.least;
            greatest = dir-read.greatest;
          }

          of-key : (o : Option Filed) → IfSome o (λ other. key_of other ≡ key_of filed) → of_key (key_of filed) o ≡ o
          of-key None is = refl
          of-key (Some s) is =
              let same : is_same_key (key_of s) (key_of filed) ≡ true =
              subst (λ (x : RecordKey). is_same_key x (key_of filed) ≡ true) (sym is) (same-self (key_of filed)) in
              rw same refl

          named : (o : Option Filed) → IfSome o (λ other. IsRecord k.secrets other) → IfSome o (λ other. IsName k.secrets other.name)
          named None is = tt
          named (Some s) is = is.name

          pub finds-as : FindsAs tells files faults calls lists k name filed stood (record k { volume = v; journal = j })
          finds-as = record {
            dir = dir-found;
            looks = record {
              same = record { began = refl; secrets = refl; power = refl; told = told_is };
              settles = subst (λ (x : Hash). OnlySettles obj_rules (λ y. bytes_eq y x) (single_history (history_of tells files faults moved))
                  (single_history (record (history_of tells files faults moved) { journal = j }))) own-hash-is settled-so.1;
              still = stay;
              later = up;
            };
            read = subst (λ (b : Bool). Reads tells files faults calls lists b k filed stood j) (sym own)
                (record { stands = found_so; keyed = keyed; settles = settles });
            value = λ told.
                sym (of-key stood keyed)
                ∙ (ap (of_key (key_of filed)) (records-told told
                ∙ ap (λ (x : Hash). (values_of tells files faults k x).records (key_of filed)) own-hash-is)
                ∙ rw own refl);
            settled = λ is. settled-so.2;
            sound = named stood sound;
            counts = subst (λ (c : ℕ). CallsMade tells files faults calls lists c 0 0 k (record k { volume = v; journal = j })) (sym (ap once_if own))
                (record { called = called; listed = listed; failed = fine });
          }

    -- ---- the directory of the name

    about-wrote : (key : RecordKey) (before : List ObjEntry) (other : Name) (w : Write) (records : List Filed) (behind : List ObjEntry)
        → about_record key (before ++ behind) ≡ about_record key (before ++ Wrote other w records ∷ behind)
    about-wrote key before other w records behind =
        filter-append (is_record_of key) before behind ∙ sym (filter-append (is_record_of key) before (Wrote other w records ∷ behind))

    -- settling a write leaves the doubts of records
    records-left : (hash : Hash) (o : Outline) (j : Journal) → SettlesFirst hash o k.journal j → (key : RecordKey)
        → about_record key k.journal.doubts ≡ [] → about_record key j.doubts ≡ []
    records-left hash o j (inl none) key is = ap (λ (x : Journal). about_record key x.doubts) none.1 ∙ is
    records-left hash o j (inr one) key is =
        ap (λ (x : Journal). about_record key x.doubts) one.settled
        ∙ (by (is_new_to o one.write.time (tag_of one.write.kind))
        ∙ (about-wrote key one.before one.name one.write one.records one.behind ∙ (ap (about_record key) (sym one.among) ∙ is)))
      where
        by : (b : Bool)
            → about_record key (if b then record k.journal { doubts = one.before ++ one.behind }
            else record k.journal { entries = k.journal.entries ++ Wrote one.name one.write one.records ∷ []; doubts = one.before ++ one.behind }).doubts
            ≡ about_record key (one.before ++ one.behind)
        by true = refl
        by false = refl

    module _ (time : ℕ) (n : Kept V) (after : IsDir tells files faults n) (looks : LooksAt tells files faults (λ key. bytes_eq key name.hash) k n) where
      pub looks-gone : (gone : Bool) (names : List FileName) (picked : Picked) (o : Outline) → gone ≡ is_before (standing_time o) time
          → (tells k.volume ≡ true → AreListedIn (contents (files k.volume)) (dir_text k.power name.hash) names) → IsPicked names picked
          → o ≡ picked_outline picked → (is_told tells files faults k ≡ true → o ≡ outline_of (held tells files faults k name.hash))
          → SettlesFirst name.hash o k.journal n.journal → written name.hash n.journal.doubts ≡ []
          → calls n.volume ≡ raised (calls k.volume) → lists n.volume ≡ raised (lists k.volume) → faults n.volume ≡ faults k.volume
          → LooksGone tells files faults calls lists k name time gone n
      looks-gone gone names picked o gone_is are picks shape outline settles none called listed fine = record {
        dir = after;
        looks = looks;
        listed = record {
          seen = record {
            names = names;
            picked = picked;
            are = are;
            picks = picks;
            journal = n.journal;
            settles = subst (λ (x : Outline). SettlesFirst name.hash x k.journal n.journal) shape settles;
          };
          gone_is = gone_is ∙ ap (λ (x : Outline). is_before (standing_time x) time) shape;
          kept = refl;
        };
        value = λ told. gone_is ∙ ap (λ (x : Outline). is_before (standing_time x) time) (outline told);
        settled = none;
        records = records-left name.hash o n.journal settles;
        counts = record { called = called; listed = listed; failed = fine };
      }

      pub looks-not : (error : VolumeError) → n.journal ≡ k.journal → calls n.volume ≡ raised (calls k.volume) → lists n.volume ≡ raised (lists k.volume)
          → HasCause {T = Bool} (faults k.volume) (faults n.volume) (Err error) → TellsGone tells files faults calls lists k name time (Err error) n
      looks-not volumes.Failed same called listed cause = (
        record { dir = after; looks = looks; kept = same },
        record { called = called; listed = listed; failed = cause.once },
      )
      looks-not volumes.NoMemory same called listed cause = (
        record { dir = after; looks = looks; kept = same },
        inr (record { called = called; listed = listed; failed = cause.memory }),
      )

    -- memory was wanting before it was listed
    pub looks-wants : (time : ℕ) → TellsGone tells files faults calls lists k name time (Err volumes.NoMemory) k
    looks-wants time = (
      record { dir = dir; looks = looks-refl tells files faults k; kept = refl },
      inl (record { called = refl; listed = refl; failed = refl }),
    )

-- Where a change of a record is in doubt its file is read, and the doubt settled by what the read told.
use Rattle.std.proofs.Common.{◌≡◌, ◌≢◌, ℕ, Bool, List, [], ◌∷◌, Option, None, Some, Result, Ok, Err, refl, sym, subst, inl, inr}
use Rattle.std.proofs.lemmas.Bool.{cases_Bool}
use Rattle.std.specs.Bool.{⊤}
use Rattle.sw_journal.specs.Entries.{about_record, first_about, is_record_of}
use Rattle.sw_object_steps.proofs.Hashes.{hash-self}
use Rattle.sw_object_steps.specs.declared.change.Change.TheVariants.{MarkRecord}
use Rattle.sw_object_steps.specs.declared.entry.ObjEntry.{ObjEntry}
use Rattle.sw_objdir.proofs.FilingSettling.{read-writes}
use Rattle.sw_objdir.proofs.Looking.{looks-refl}
use Rattle.sw_objdir.specs.Calling.{NoListing}
use Rattle.sw_objdir.specs.Directories.{IsDir, Kept}
use Rattle.sw_objdir.specs.Recording.{CallsMade, Finds, Reads, ReadsAs, once_if}
use Rattle.sw_objdir.specs.Writing.{Readied, Readies, reads_about}
use Rattle.sw_pending.specs.Records.{key_of}
use Rattle.sw_pending.specs.declared.filed.Filed.{Filed}
use Rattle.sw_pending.specs.declared.key.RecordKey.{RecordKey}
use Rattle.sw_pending_dir.specs.declared.fault.ReadFault.{ReadFault}
use Rattle.sw_pending_dir.specs.declared.fault.ReadFault.TheVariants as reads
use Rattle.sw_volume.specs.Tree.{Folders}

-- where there is no first one there is none
pub none-about : (key : RecordKey) (ds : List ObjEntry) → first_about key ds ≡ None → about_record key ds ≡ []
none-about key [] none = refl
none-about key (d ∷ ds) none = elim (cases_Bool (is_record_of key d)) [
  | inl is ↦ let no : Some d ≡ None = rw is at none in cc
  | inr isnt ↦ rw isnt (none-about key ds (rw isnt at none))
]

once-about : (ds : List ObjEntry) → ds ≢ [] → reads_about ds ≡ 1
once-about [] some = absurd (some refl)
once-about (d ∷ ds) some = refl

-- what a read of a record's file is told as, where what stands there isn't asked for
abbrev pub readying : Result (Option Filed) ReadFault → Result ⊤ ReadFault
readying (Ok stood) = Ok tt
readying (Err fault) = Err fault

module _ {V : Type 0} (tells : V → Bool) (files : V → Folders) (faults calls lists : V → ℕ) (k : Kept V) (filed : Filed) where
  -- no change of it is in doubt: nothing is read
  pub ready-none : IsDir tells files faults k → about_record (key_of filed) k.journal.doubts ≡ [] → Readies tells files faults calls lists k filed k
  ready-none dir none = record {
    dir = dir;
    looks = looks-refl tells files faults k;
    stood = None;
    stands = λ some told. absurd (some none);
    settles = inl (none, refl);
    settled = none;
    writes = λ hash. refl;
    counts = rw none (record { called = refl; listed = refl; failed = refl });
  }

  module _ (doubted : about_record (key_of filed) k.journal.doubts ≢ []) where
    -- memory was wanting before the read
    pub unready : IsDir tells files faults k → Readied tells files faults calls lists k filed (Err reads.NoMemory) k
    unready dir = (
      record { doubted = doubted; dir = dir; looks = looks-refl tells files faults k; kept = refl },
      inl (record { called = refl; listed = refl; failed = refl }),
    )

    module _ (n : Kept V) where
      only-read : (x fails : ℕ) → CallsMade tells files faults calls lists x 0 fails k n → NoListing tells files faults calls lists x fails k n
      only-read x fails made = record { called = made.called; listed = made.listed; failed = made.failed }

      -- by what the read of its file told
      pub readied : (r : Result (Option Filed) ReadFault) → Finds tells files faults calls lists k filed.name filed r n
          → Readied tells files faults calls lists k filed (readying r) n
      readied (Ok stood) finds =
          let read : ReadsAs tells files faults calls lists k filed stood n.journal =
          subst (λ (b : Bool). Reads tells files faults calls lists b k filed stood n.journal) (hash-self filed.name.hash) finds.read in
          let once : CallsMade tells files faults calls lists 1 0 0 k n =
          subst (λ (b : Bool). CallsMade tells files faults calls lists (once_if b) 0 0 k n) (hash-self filed.name.hash) finds.counts in
          record {
            dir = finds.dir;
            looks = finds.looks;
            stood = stood;
            stands = λ some told. read.stands told;
            settles = read.settles;
            settled = finds.settled (hash-self filed.name.hash);
            writes = read-writes tells files faults calls lists k n filed (Ok stood) finds;
            counts = subst (λ (x : ℕ). NoListing tells files faults calls lists x 0 k n)
                (sym (once-about (about_record (key_of filed) k.journal.doubts) doubted)) (only-read 1 0 once);
          }
      readied (Err (reads.Damaged bad)) finds =
          let bad_is = finds.2 (MarkRecord filed 0) in (
            record { doubted = doubted; dir = finds.0.dir; looks = finds.0.looks; kept = bad_is.kept },
            only-read 1 0 bad_is.counts,
            finds.1,
            bad_is.damaged,
          )
      readied (Err reads.Failed) finds =
          let fails = finds.1 (MarkRecord filed 0) in (
            record { doubted = doubted; dir = finds.0.dir; looks = finds.0.looks; kept = fails.kept },
            only-read 1 1 fails.counts,
          )
      readied (Err reads.NoMemory) finds = elim (finds.1 (MarkRecord filed 0)) [
        | inl unread ↦ (
          record { doubted = doubted; dir = finds.0.dir; looks = finds.0.looks; kept = unread.kept },
          inl (only-read 0 0 unread.counts),
        )
        | inr read ↦ (
          record { doubted = doubted; dir = finds.0.dir; looks = finds.0.looks; kept = read.kept },
          inr (only-read 1 0 read.counts),
        )
      ]

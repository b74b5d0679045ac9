-- A record is put and its entry made: of an entry that leaves one, whichever that is.
use Rattle.std.proofs.Common.{◌≡◌, ℕ, ◌≤◌, Bool, true, List, [], ◌∷◌, ◌++◌, Some, Result, Ok, Err, sym, ap, subst, ◌⊎◌}
use Rattle.std.specs.Result.{IsErrAnd}
use Rattle.std.specs.Bool.{⊤}
use Rattle.sw_journal.specs.Entries.{about_record, record_left, with_last_entered, with_new_doubt, without_last_doubt}
use Rattle.sw_object_steps.proofs.Recording.{same-self}
use Rattle.sw_object_steps.specs.Journals.{Journal, with_doubt, with_entry}
use Rattle.sw_object_steps.specs.Rules.{obj_key}
use Rattle.sw_object_steps.specs.declared.entry.ObjEntry.{ObjEntry}
use Rattle.sw_object_steps.specs.declared.entry.ObjEntry.TheVariants.{Dropped, Files, Marked, Wrote}
use Rattle.sw_objdir.proofs.RecordEnding.{confirms-as, doubts-as, enters-as, wants-first, wants-once, withdraws-as}
use Rattle.sw_objdir.proofs.RecordSettling.{IsOne}
use Rattle.sw_objdir.specs.Directories.{IsDir, Kept}
use Rattle.sw_objdir.specs.Recording.{Doubts, Enters, Wants, puts_for}
use Rattle.sw_objdir.specs.Stepping.{SameFiles}
use Rattle.sw_objdir.specs.Writing.{PutsOne, PutsRecord}
use Rattle.sw_outside.specs.Counts.{raised}
use Rattle.sw_pending.specs.Names.{folder_text, name_text}
use Rattle.sw_pending.specs.Records.{key_of}
use Rattle.sw_pending.specs.Texts.{record_text}
use Rattle.sw_pending.specs.declared.filed.Filed.{Filed}
use Rattle.sw_pending_dir.specs.Steps.{FilesRecord, MayFileRecord}
use Rattle.sw_volume.specs.Tree.{Folders, contents}
use Rattle.sw_volume.specs.Volume.{MaySet, Sets}
use Rattle.sw_volume.specs.declared.errors.VolumeError.{VolumeError}
use Rattle.sw_volume.specs.declared.errors.VolumeError.TheVariants as volumes

-- an entry that leaves a record, under its hash, is one of that record
one-left : (e : ObjEntry) (filed : Filed) → record_left e ≡ Some filed → obj_key e ≡ filed.name.hash → IsOne (key_of filed) e
one-left (Wrote name w records) filed leaves plain = cc
one-left (Files by it) filed leaves plain =
    let same : it ≡ filed = cc in
    subst (λ (x : Filed). by ≡ x.name.hash → IsOne (key_of x) (Files by it)) same (λ own. record { of = same-self (key_of it); plain = own }) plain
one-left (Marked by it device) filed leaves plain =
    let same : it ≡ filed = cc in
    subst (λ (x : Filed). by ≡ x.name.hash → IsOne (key_of x) (Marked by it device)) same
    (λ own. record { of = same-self (key_of it); plain = own }) plain
one-left (Dropped by it) filed leaves plain = cc

-- of a directory k, which is that one at the start
module _ {V : Type 0} (tells : V → Bool) (files : V → Folders) (faults calls lists : V → ℕ) (k start : Kept V) (view : k ≡ start)
    (dir : IsDir tells files faults k) (e : ObjEntry) where
  -- memory was wanting for the doubt
  pub puts-none : (j : Journal) → j ≡ k.journal → (r : Result ⊤ VolumeError) → IsErrAnd r (λ error. error ≡ volumes.NoMemory) → (filed : Filed)
      → PutsRecord tells files faults calls lists start e filed r (record k { journal = j })
  puts-none j same (Ok done) is filed = absurd is
  puts-none j same (Err volumes.Failed) is filed = cc
  puts-none j same (Err volumes.NoMemory) is filed =
      subst (λ (x : Kept V). Wants tells files faults calls lists x filed.name.hash e (record k { journal = j })) view
      (subst (λ (x : Journal). Wants tells files faults calls lists k filed.name.hash e (record k { journal = x })) (sym same)
      (wants-first tells files faults calls lists k dir (key_of filed) e))

  -- it was doubted, and this is the record that it leaves
  module _ (d : Journal) (doubted : d ≡ with_new_doubt k.journal e) (puts : (filed : Filed) × PutsOne start.secrets e filed) (left : Filed)
      (leaves : record_left e ≡ Some left) (v : V) (told_is : tells v ≡ tells k.volume) (listed : lists v ≡ lists k.volume) where
    own : PutsOne k.secrets e left
    own =
        let same : puts.0 ≡ left = let is = puts.1.leaves in cc in
        subst (λ (x : Kept V). PutsOne x.secrets e left) (sym view) (subst (λ (x : Filed). PutsOne start.secrets e x) same puts.1)

    one : IsOne (key_of left) e
    one = one-left e left leaves own.plain

    -- memory was wanting for its text, or for the put
    pub puts-wanting : SameFiles tells files faults k (record k { volume = v }) → faults k.volume ≤ faults v
        → (calls v ≡ calls k.volume) ⊎ (calls v ≡ raised (calls k.volume)) → faults v ≡ faults k.volume → (j : Journal)
        → ((ds : List ObjEntry) (x : ObjEntry) → d.doubts ≡ ds ++ x ∷ [] → j ≡ without_last_doubt d ds) → (filed : Filed) → record_left e ≡ Some filed
        → Wants tells files faults calls lists start filed.name.hash e (record k { volume = v; journal = j })
    puts-wanting stay up called fine j withdraws filed is =
        subst (λ (x : Kept V). Wants tells files faults calls lists x filed.name.hash e (record k { volume = v; journal = j })) view
        (subst (λ (x : Journal). Wants tells files faults calls lists k filed.name.hash e (record k { volume = v; journal = x }))
        (sym (withdraws-as k.journal d e doubted j withdraws))
        (wants-once tells files faults calls lists k dir (key_of filed) e (ap puts_for is) v told_is stay up called listed fine))

    module _ (settled : (filed : Filed) → record_left e ≡ Some filed → about_record (key_of filed) start.journal.doubts ≡ [])
        (called : calls v ≡ raised (calls k.volume)) where
      none : about_record (key_of left) k.journal.doubts ≡ []
      none = subst (λ (x : Kept V). about_record (key_of left) x.journal.doubts ≡ []) (sym view) (settled left leaves)

      -- it was put
      pub puts-enters : (tells k.volume ≡ true → Sets (contents (files k.volume)) (contents (files v)) (folder_text left.name.hash)
          (name_text (key_of left)) (Some (record_text left)))
          → (tells k.volume ≡ true → FilesRecord left (files k.volume) (files v)) → faults v ≡ faults k.volume → (j : Journal)
          → ((ds : List ObjEntry) (x : ObjEntry) → d.doubts ≡ ds ++ x ∷ [] → j ≡ with_last_entered d ds x) → (filed : Filed) → record_left e ≡ Some filed
          → Enters tells files faults calls lists start (key_of filed) e (record k { volume = v; journal = j })
      puts-enters sets files_it fine j confirms filed is =
          let same : left ≡ filed = cc in
          let enters : Enters tells files faults calls lists k (key_of left) e (record k { volume = v; journal = with_entry k.journal e }) =
          enters-as tells files faults calls lists k dir (key_of left) e one none v told_is listed called (λ told. rw leaves (sets told))
          (λ told. rw leaves (files_it told k.secrets own.name)) fine in
          subst (λ (x : Filed). Enters tells files faults calls lists start (key_of x) e (record k { volume = v; journal = j })) same
          (subst (λ (x : Kept V). Enters tells files faults calls lists x (key_of left) e (record k { volume = v; journal = j })) view
          (subst (λ (x : Journal). Enters tells files faults calls lists k (key_of left) e (record k { volume = v; journal = x }))
          (sym (confirms-as k.journal d e doubted j confirms)) enters))

      -- it was or wasn't
      pub puts-doubts : (tells k.volume ≡ true → MaySet (contents (files k.volume)) (contents (files v)) (folder_text left.name.hash)
          (name_text (key_of left)) (Some (record_text left)))
          → (tells k.volume ≡ true → MayFileRecord left (files k.volume) (files v)) → faults v ≡ raised (faults k.volume) → faults k.volume ≤ faults v
          → (filed : Filed) → record_left e ≡ Some filed
          → Doubts tells files faults calls lists start (key_of filed) e (record k { volume = v; journal = d })
      puts-doubts may files_it once up filed is =
          let same : left ≡ filed = cc in
          let doubts : Doubts tells files faults calls lists k (key_of left) e (record k { volume = v; journal = with_doubt k.journal e }) =
          doubts-as tells files faults calls lists k dir (key_of left) e one none v told_is listed called (λ told. rw leaves (may told))
          (λ told. rw leaves (files_it told k.secrets own.name)) once up in
          subst (λ (x : Filed). Doubts tells files faults calls lists start (key_of x) e (record k { volume = v; journal = d })) same
          (subst (λ (x : Kept V). Doubts tells files faults calls lists x (key_of left) e (record k { volume = v; journal = d })) view
          (subst (λ (x : Journal). Doubts tells files faults calls lists k (key_of left) e (record k { volume = v; journal = x })) (sym doubted) doubts))

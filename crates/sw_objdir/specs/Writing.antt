-- The calls of the volume that a write makes behind its listing, in their order, and what they leave of the directory. A put or deletion of a client files a
-- record first: it reads the file of that record where a change of it is in doubt, and puts it. Then each write puts its own file, and unlinks what is
-- obsolete by that. (This project's own; the files are those of OpenStack Swift's object server.)
use Rattle.std.specs.Prelude.{◌≡◌, ◌≢◌, ℕ, ◌≤◌, Bool, true, false, List, [], ◌∷◌, ◌++◌, length, Option, Some, None, Result, Ok, Err, ◌⊎◌}
use Rattle.std.specs.Str.{bytes_eq}
use Rattle.sw_cleanup.specs.Cleaning.{obsolete_of}
use Rattle.sw_diskfile.specs.FileNames.{name_text}
use Rattle.sw_diskfile.specs.StateFiles.{name_of}
use Rattle.sw_diskfile.specs.declared.file_name.FileName.{FileName}
use Rattle.sw_hashdir.specs.Places.{dir_text}
use Rattle.sw_hashdir.specs.Steps.{Writes}
use Rattle.sw_hashpath.specs.declared.name.Name.{Name}
use Rattle.sw_hashpath.specs.declared.secrets.Secrets.{Secrets}
use Rattle.sw_journal.specs.Entries.{about_record, record_left}
use Rattle.sw_journal.specs.Settling.{SettlesFirstRecord}
use Rattle.sw_metafile.specs.Texts.{file_text}
use Rattle.sw_objdir.specs.Calling.{ListFails, Looked, NoListing, ReadFails, ReadsDamage, Wanted, entry_of}
use Rattle.sw_objdir.specs.Directories.{IsDir, Kept, is_told, values_of}
use Rattle.sw_objdir.specs.Recording.{Doubts, Enters, Wants}
use Rattle.sw_objdir.specs.Stepping.{IsSameDir, LooksAt}
use Rattle.sw_object_steps.specs.Journals.{Hash, has_room, with_doubt, written}
use Rattle.sw_object_steps.specs.Outlines.{picked_outline}
use Rattle.sw_object_steps.specs.Recorded.{filed_entries, records_for}
use Rattle.sw_object_steps.specs.Rules.{obj_applied, obj_key}
use Rattle.sw_object_steps.specs.Steps.{made_answer, write_of}
use Rattle.sw_object_steps.specs.declared.answer.Answer.{Answer}
use Rattle.sw_object_steps.specs.declared.answer.Answer.TheVariants as answers
use Rattle.sw_object_steps.specs.declared.change.Change.{Change}
use Rattle.sw_object_steps.specs.declared.entry.ObjEntry.{ObjEntry}
use Rattle.sw_object_steps.specs.declared.entry.ObjEntry.TheVariants.{Files, Wrote}
use Rattle.sw_object_steps.specs.declared.outline.Outline.{Outline}
use Rattle.sw_outside.specs.Counts.{raised}
use Rattle.sw_pending.specs.Outcomes.{IsName}
use Rattle.sw_pending.specs.Records.{key_of}
use Rattle.sw_pending.specs.declared.filed.Filed.{Filed}
use Rattle.sw_pending_dir.specs.Places.{bytes_at}
use Rattle.sw_pending_dir.specs.Readings.{IsDamaged, IsFound}
use Rattle.sw_pending_dir.specs.declared.fault.ReadFault.{ReadFault}
use Rattle.sw_pending_dir.specs.declared.fault.ReadFault.TheVariants as reads
use Rattle.sw_state.specs.declared.write.Write.{Write}
use Rattle.sw_volume.specs.Tree.{Folders, contents}
use Rattle.sw_volume.specs.Volume.{MaySet, raised_by}
use Rattle.sw_volume.specs.declared.errors.VolumeError.{VolumeError}
use Rattle.sw_volume.specs.declared.errors.VolumeError.TheVariants as volumes

-- how often the file of a record is read of which these changes are in doubt
abbrev pub reads_about : List ObjEntry → ℕ
reads_about [] = 0
reads_about (doubt ∷ doubts) = 1

-- what a step is answered of which a call wasn't
abbrev pub answer_in : VolumeError → Answer
answer_in volumes.Failed = answers.Failed
answer_in volumes.NoMemory = answers.NoMemory

-- the entry of a record that a step files
abbrev pub filing_of : Filed → ObjEntry
filing_of filed = Files filed.name.hash filed

-- the entry leaves this record, under the hash of its name, which has that hash
pub record PutsOne (secrets : Secrets) (entry : ObjEntry) (filed : Filed) : Type 0 where
  pub leaves : record_left entry ≡ Some filed
  pub plain : obj_key entry ≡ filed.name.hash
  pub name : IsName secrets filed.name

module _ {V : Type 0} (tells : V → Bool) (files : V → Folders) (faults calls lists : V → ℕ) where
  -- ---- the doubt of a record

  -- it is settled, by a read of the record's file, where there was one
  pub record Readies (k : Kept V) (filed : Filed) (n : Kept V) : Type 0 where
    pub dir : IsDir tells files faults n
    pub looks : LooksAt tells files faults (λ key. bytes_eq key filed.name.hash) k n
    pub stood : Option Filed
    pub stands : about_record (key_of filed) k.journal.doubts ≢ [] → tells k.volume ≡ true
        → IsFound k.secrets (key_of filed) (bytes_at (contents (files k.volume)) (key_of filed)) stood
    pub settles : SettlesFirstRecord (key_of filed) stood k.journal n.journal
    pub settled : about_record (key_of filed) n.journal.doubts ≡ []
    pub writes : (hash : Hash) → written hash n.journal.doubts ≡ written hash k.journal.doubts
    pub counts : NoListing tells files faults calls lists (reads_about (about_record (key_of filed) k.journal.doubts)) 0 k n

  -- it stays: the file wasn't read
  pub record ReadiesNot (k : Kept V) (filed : Filed) (n : Kept V) : Type 0 where
    pub doubted : about_record (key_of filed) k.journal.doubts ≢ []
    pub dir : IsDir tells files faults n
    pub looks : LooksAt tells files faults (λ key. bytes_eq key filed.name.hash) k n
    pub kept : n.journal ≡ k.journal

  abbrev pub Readied : Kept V → Filed → Result (Unit {0}) ReadFault → Kept V → Type 0
  Readied k filed (Ok done) n = Readies k filed n
  Readied k filed (Err (reads.Damaged bad)) n =
      ReadiesNot k filed n × NoListing tells files faults calls lists 1 0 k n × (is_told tells files faults n ≡ false)
      × (tells k.volume ≡ true → IsDamaged k.secrets (key_of filed) (bytes_at (contents (files k.volume)) (key_of filed)) bad)
  Readied k filed (Err reads.Failed) n = ReadiesNot k filed n × NoListing tells files faults calls lists 1 1 k n
  Readied k filed (Err reads.NoMemory) n =
      ReadiesNot k filed n × (NoListing tells files faults calls lists 0 0 k n ⊎ NoListing tells files faults calls lists 1 0 k n)

  -- that of each of these, one after the other
  abbrev pub AreReady : List Filed → Kept V → Kept V → Type 0
  AreReady [] k n = n ≡ k
  AreReady (filed ∷ more) k n = (mid : Kept V) × Readies k filed mid × AreReady more mid n

  -- ---- the file of a record

  -- the record was put, and entered
  abbrev pub PutsRecord : Kept V → ObjEntry → Filed → Result (Unit {0}) VolumeError → Kept V → Type 0
  PutsRecord k entry filed (Ok done) n = Enters tells files faults calls lists k (key_of filed) entry n
  PutsRecord k entry filed (Err volumes.Failed) n = Doubts tells files faults calls lists k (key_of filed) entry n
  PutsRecord k entry filed (Err volumes.NoMemory) n = Wants tells files faults calls lists k filed.name.hash entry n

  -- each of these was, one after the other
  abbrev pub ArePut : List Filed → Kept V → Kept V → Type 0
  ArePut [] k n = n ≡ k
  ArePut (filed ∷ more) k n = (mid : Kept V) × Enters tells files faults calls lists k (key_of filed) (filing_of filed) mid × ArePut more mid n

  -- ---- the file of the write

  -- it was put, and what is obsolete by it unlinked. The write is one entry with its records, which were the last ones
  pub record PutsFile (k : Kept V) (name : Name) (w : Write) (records : List Filed) (names : List FileName) (n : Kept V) : Type 0 where
    pub dir : IsDir tells files faults n
    pub same : IsSameDir tells files faults k n
    pub later : faults k.volume ≤ faults n.volume
    pub here : is_told tells files faults k ≡ true
        → values_of tells files faults n name.hash ≡ obj_applied (values_of tells files faults k name.hash) (Wrote name w [])
    pub others : (hash : Hash) → hash ≢ name.hash → values_of tells files faults n hash ≡ values_of tells files faults k hash
    pub writes : tells k.volume ≡ true → Writes (files k.volume) (files n.volume) (dir_text k.power name.hash) names name w (faults k.volume) (faults n.volume)
    pub called : calls n.volume ≡ raised_by (length (obsolete_of (names ++ name_of w ∷ []))) (raised (calls k.volume))
    pub listed : lists n.volume ≡ lists k.volume
    pub entered : (before : List ObjEntry) → k.journal.entries ≡ before ++ filed_entries name.hash records
        → n.journal ≡ record k.journal { entries = before ++ Wrote name w records ∷ [] }

  -- it stands or doesn't, nothing was unlinked, and the write is in doubt
  pub record DoubtsFile (k : Kept V) (name : Name) (w : Write) (n : Kept V) : Type 0 where
    pub dir : IsDir tells files faults n
    pub same : IsSameDir tells files faults k n
    pub later : faults k.volume ≤ faults n.volume
    pub here : is_told tells files faults k ≡ true → (values_of tells files faults n name.hash ≡ values_of tells files faults k name.hash)
        ⊎ (values_of tells files faults n name.hash ≡ obj_applied (values_of tells files faults k name.hash) (Wrote name w []))
    pub others : (hash : Hash) → hash ≢ name.hash → values_of tells files faults n hash ≡ values_of tells files faults k hash
    pub may : tells k.volume ≡ true → MaySet (contents (files k.volume)) (contents (files n.volume)) (dir_text k.power name.hash) (name_text (name_of w))
        (Some (file_text name.account name.container name.object w))
    pub counts : NoListing tells files faults calls lists 1 1 k n
    pub in_doubt : n.journal ≡ with_doubt k.journal (Wrote name w [])

  -- memory was wanting for it
  pub record WantsFile (k : Kept V) (name : Name) (n : Kept V) : Type 0 where
    pub dir : IsDir tells files faults n
    pub looks : LooksAt tells files faults (λ key. bytes_eq key name.hash) k n
    pub counts : NoListing tells files faults calls lists 0 0 k n ⊎ NoListing tells files faults calls lists 1 0 k n
    pub kept : n.journal ≡ k.journal

  abbrev pub PutsWrite : Kept V → Name → Write → List Filed → List FileName → Result (Unit {0}) VolumeError → Kept V → Type 0
  PutsWrite k name w records names (Ok done) n = PutsFile k name w records names n
  PutsWrite k name w records names (Err volumes.Failed) n = DoubtsFile k name w n
  PutsWrite k name w records names (Err volumes.NoMemory) n = WantsFile k name n

  -- ---- a write that nothing refuses, over a listing that told these files, with this outline

  -- its records were put, for which there is room
  pub record HasFiled (k : Kept V) (name : Name) (change : Change) (n : Kept V) : Type 0 where
    pub room : has_room k.journal (entry_of name change) ≡ true
    pub are_put : ArePut (records_for name change) k n

  pub record MakesWrite (k : Kept V) (name : Name) (change : Change) (names : List FileName) (o : Outline) (answer : Answer) (n : Kept V) : Type 0 where
    pub filed : Kept V
    pub has_filed : HasFiled k name change filed
    pub puts : PutsFile filed name (write_of change) (records_for name change) names n
    pub answered : answer ≡ made_answer o change (length n.journal.entries)

  pub record IsFull (k : Kept V) (name : Name) (change : Change) (n : Kept V) : Type 0 where
    pub full : has_room k.journal (entry_of name change) ≡ false
    pub same : n ≡ k

  -- its record wasn't put, or is in doubt
  pub record UnfiledBy (k : Kept V) (name : Name) (change : Change) (error : VolumeError) (n : Kept V) : Type 0 where
    pub room : has_room k.journal (entry_of name change) ≡ true
    pub filed : Filed
    pub own : records_for name change ≡ filed ∷ []
    pub puts : PutsRecord k (filing_of filed) filed (Err error) n

  -- its file wasn't put, or the write is in doubt
  pub record UnmadeBy (k : Kept V) (name : Name) (change : Change) (names : List FileName) (error : VolumeError) (n : Kept V) : Type 0 where
    pub filed : Kept V
    pub has_filed : HasFiled k name change filed
    pub puts : PutsWrite filed name (write_of change) (records_for name change) names (Err error) n

  -- where none of its records is in doubt, by its answer
  abbrev pub ReadyEnds : Kept V → Name → Change → List FileName → Outline → Answer → Kept V → Type 0
  ReadyEnds k name change names o (answers.Done front) n = MakesWrite k name change names o (answers.Done front) n
  ReadyEnds k name change names o (answers.Buried front) n = MakesWrite k name change names o (answers.Buried front) n
  ReadyEnds k name change names o answers.JournalFull n = IsFull k name change n
  ReadyEnds k name change names o answers.Failed n = UnfiledBy k name change volumes.Failed n ⊎ UnmadeBy k name change names volumes.Failed n
  ReadyEnds k name change names o answers.NoMemory n = UnfiledBy k name change volumes.NoMemory n ⊎ UnmadeBy k name change names volumes.NoMemory n
  ReadyEnds k name change names o (answers.Took is) n = ⊥
  ReadyEnds k name change names o (answers.Conflict time) n = ⊥
  ReadyEnds k name change names o (answers.NotFound time) n = ⊥
  ReadyEnds k name change names o (answers.Mismatch second) n = ⊥
  ReadyEnds k name change names o answers.Exists n = ⊥
  ReadyEnds k name change names o (answers.Damaged bad) n = ⊥

  -- the doubts of its records were settled first
  pub record EndsReady (k : Kept V) (name : Name) (change : Change) (names : List FileName) (o : Outline) (answer : Answer) (n : Kept V) : Type 0 where
    pub ready : Kept V
    pub are_ready : AreReady (records_for name change) k ready
    pub ends : ReadyEnds ready name change names o answer n

  -- or the file of its record couldn't be read
  pub record UnreadyBy (k : Kept V) (name : Name) (change : Change) (fault : ReadFault) (n : Kept V) : Type 0 where
    pub filed : Filed
    pub own : records_for name change ≡ filed ∷ []
    pub readied : Readied k filed (Err fault) n

  -- or memory was wanting for its record
  pub record WantsRecord (k : Kept V) (name : Name) (change : Change) (n : Kept V) : Type 0 where
    pub some : records_for name change ≢ []
    pub same : n ≡ k

  -- by its answer
  abbrev pub WriteEnds : Kept V → Name → Change → List FileName → Outline → Answer → Kept V → Type 0
  WriteEnds k name change names o (answers.Damaged bad) n = UnreadyBy k name change (reads.Damaged bad) n
  WriteEnds k name change names o answers.Failed n = UnreadyBy k name change reads.Failed n ⊎ EndsReady k name change names o answers.Failed n
  WriteEnds k name change names o answers.NoMemory n =
      (WantsRecord k name change n ⊎ UnreadyBy k name change reads.NoMemory n) ⊎ EndsReady k name change names o answers.NoMemory n
  WriteEnds k name change names o answer n = EndsReady k name change names o answer n

  -- ---- all of it

  -- nothing that was listed or read refused it, and it ended behind that
  pub record Behind (k : Kept V) (name : Name) (change : Change) (answer : Answer) (n : Kept V) : Type 0 where
    pub listed : Kept V
    pub same : IsSameDir tells files faults k listed
    pub looked : Looked tells files faults calls lists k name change None listed
    pub ends : WriteEnds listed name change looked.seen.names (picked_outline looked.seen.picked) answer n

  -- THE relation: the calls of a write, by its answer
  abbrev pub Called : Kept V → Name → Change → Answer → Kept V → Type 0
  Called k name change (answers.Done front) n = Behind k name change (answers.Done front) n
  Called k name change (answers.Buried front) n = Behind k name change (answers.Buried front) n
  Called k name change (answers.Took is) n = ⊥
  Called k name change (answers.Conflict time) n = Looked tells files faults calls lists k name change (Some (answers.Conflict time)) n
  Called k name change (answers.NotFound time) n = Looked tells files faults calls lists k name change (Some (answers.NotFound time)) n
  Called k name change (answers.Mismatch second) n = Looked tells files faults calls lists k name change (Some (answers.Mismatch second)) n
  Called k name change answers.Exists n = Looked tells files faults calls lists k name change (Some answers.Exists) n
  Called k name change answers.JournalFull n = Behind k name change answers.JournalFull n
  Called k name change (answers.Damaged bad) n =
      ReadsDamage tells files faults calls lists k name change bad n ⊎ Behind k name change (answers.Damaged bad) n
  Called k name change answers.Failed n =
      (ListFails tells files faults calls lists k n ⊎ ReadFails tells files faults calls lists k name change n) ⊎ Behind k name change answers.Failed n
  Called k name change answers.NoMemory n = Wanted tells files faults calls lists k name n ⊎ Behind k name change answers.NoMemory n

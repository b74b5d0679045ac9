-- The calls of the volume that a step at a record makes, in their order, and what they leave of the files: it reads the file of the record's key, lists
-- the name's directory where the record alone doesn't tell whether it may go, and puts or unlinks that one file. (This project's own; the files are those
-- of OpenStack Swift's object server.)
use Rattle.std.specs.Prelude.{◌≡◌, ◌≢◌, ℕ, suc, ◌+◌, ◌≤◌, Bool, true, false, List, [], ◌∷◌, Option, Some, None, IfSome, IsSome, Result, Ok, Err, ◌⊎◌}
use Rattle.std.specs.Prelude.{if◌then◌else◌}
use Rattle.std.specs.Option.{option_map}
use Rattle.std.specs.Str.{bytes_eq}
use Rattle.sw_hashpath.specs.declared.decode_error.BadFile.{BadFile}
use Rattle.sw_hashpath.specs.declared.name.Name.{Name}
use Rattle.sw_journal.specs.Entries.{about_record, record_left}
use Rattle.sw_journal.specs.Settling.{SettlesFirstRecord}
use Rattle.sw_objdir.specs.Calling.{Listed, NoListing}
use Rattle.sw_objdir.specs.Directories.{IsDir, Kept, is_told, values_of}
use Rattle.sw_objdir.specs.Stepping.{IsSameDir, LooksAt, SameFiles}
use Rattle.sw_object_steps.specs.Journals.{Hash, Journal, has_room, with_doubt, with_entry, written}
use Rattle.sw_object_steps.specs.Outlines.{is_before, picked_outline, standing_time}
use Rattle.sw_object_steps.specs.Recorded.{asks_base, dropping_entries, found, is_gone, is_there, marking_entries, may_go}
use Rattle.sw_object_steps.specs.Rules.{obj_applied}
use Rattle.sw_object_steps.specs.declared.answer.Answer.{Answer}
use Rattle.sw_object_steps.specs.declared.answer.Answer.TheVariants as answers
use Rattle.sw_object_steps.specs.declared.change.Change.{Change}
use Rattle.sw_object_steps.specs.declared.change.Change.TheVariants.{MarkRecord, DropRecord}
use Rattle.sw_object_steps.specs.declared.entry.ObjEntry.{ObjEntry}
use Rattle.sw_pending.specs.Names.{folder_text, name_text}
use Rattle.sw_pending.specs.Outcomes.{IsName}
use Rattle.sw_pending.specs.Records.{key_of}
use Rattle.sw_pending.specs.Texts.{record_text}
use Rattle.sw_pending.specs.declared.filed.Filed.{Filed}
use Rattle.sw_pending.specs.declared.key.RecordKey.{RecordKey}
use Rattle.sw_pending_dir.specs.Places.{bytes_at}
use Rattle.sw_pending_dir.specs.Readings.{IsDamaged, IsFound}
use Rattle.sw_pending_dir.specs.declared.fault.ReadFault.{ReadFault}
use Rattle.sw_pending_dir.specs.declared.fault.ReadFault.TheVariants as reads
use Rattle.sw_volume.specs.Tree.{Folders, contents}
use Rattle.sw_volume.specs.Volume.{MaySet, Sets, raised_by}
use Rattle.sw_volume.specs.declared.errors.VolumeError.{VolumeError}
use Rattle.sw_volume.specs.declared.errors.VolumeError.TheVariants as volumes

-- ---- what the step makes of the record that stood, where nothing as late as it was listed, or something was

abbrev pub entries_by : Hash → Change → Option Filed → Bool → List ObjEntry
entries_by hash (MarkRecord filed device) stood gone = marking_entries hash stood device
entries_by hash (DropRecord filed all) stood gone = dropping_entries hash stood (may_go stood all gone)
entries_by hash change stood gone = []

-- of a mark whether the record stood, of a drop whether it goes
abbrev pub taken_by : Change → Option Filed → Bool → Bool
taken_by (MarkRecord filed device) stood gone = is_there stood
taken_by (DropRecord filed all) stood gone = may_go stood all gone
taken_by change stood gone = false

-- whether it lists the name's directory
abbrev pub asks_listing : Change → Option Filed → Bool
asks_listing (DropRecord filed all) stood = asks_base stood all
asks_listing change stood = false

abbrev pub once_if : Bool → ℕ
once_if b = if b then 1 else 0

-- what the step is answered where the record can't be read
abbrev pub answer_of : ReadFault → Answer
answer_of (reads.Damaged bad) = answers.Damaged bad
answer_of reads.Failed = answers.Failed
answer_of reads.NoMemory = answers.NoMemory

-- how often the file of the key is read: once where the record is one of the name's hash
abbrev pub reads_for : Name → Filed → ℕ
reads_for name filed = once_if (bytes_eq filed.name.hash name.hash)

-- what stands at the place of its record once the entry is made
abbrev pub text_left : ObjEntry → Option (List ℕ)
text_left entry = option_map record_text (record_left entry)

-- how many calls that want memory change its file: a record is put, and one that goes is unlinked
abbrev pub puts_for : Option Filed → ℕ
puts_for None = 0
puts_for (Some filed) = 1

module _ {V : Type 0} (tells : V → Bool) (files : V → Folders) (faults calls lists : V → ℕ) where
  -- so many calls, of which so many were listings, and so many failed
  pub record CallsMade (count listings fails : ℕ) (k n : Kept V) : Type 0 where
    pub called : calls n.volume ≡ raised_by count (calls k.volume)
    pub listed : lists n.volume ≡ raised_by listings (lists k.volume)
    pub failed : faults n.volume ≡ raised_by fails (faults k.volume)

  -- ---- what a step looks at

  -- the file of the record's key told that this stood there, and the doubt of that record was settled by it
  pub record ReadsAs (k : Kept V) (filed : Filed) (stood : Option Filed) (after : Journal) : Type 0 where
    pub stands : tells k.volume ≡ true → IsFound k.secrets (key_of filed) (bytes_at (contents (files k.volume)) (key_of filed)) stood
    pub keyed : IfSome stood (λ other. key_of other ≡ key_of filed)
    pub settles : SettlesFirstRecord (key_of filed) stood k.journal after

  -- the record is none of the name's hash: nothing was read
  pub record ReadsNone (k : Kept V) (stood : Option Filed) (after : Journal) : Type 0 where
    pub none : stood ≡ None
    pub kept : after ≡ k.journal

  abbrev pub Reads : Bool → Kept V → Filed → Option Filed → Journal → Type 0
  Reads true k filed stood after = ReadsAs k filed stood after
  Reads false k filed stood after = ReadsNone k stood after

  -- the name's directory was listed: it told whether nothing stands there that is as late as this time, and settled the doubt of the hash's write
  pub record ListsAs (k : Kept V) (name : Name) (time : ℕ) (gone : Bool) (after : Journal) : Type 0 where
    pub seen : Listed tells files faults calls lists k name
    pub gone_is : gone ≡ is_before (standing_time (picked_outline seen.picked)) time
    pub kept : after ≡ seen.journal

  abbrev pub Lists : Bool → Kept V → Name → ℕ → Bool → Journal → Type 0
  Lists true k name time gone after = ListsAs k name time gone after
  Lists false k name time gone after = after ≡ k.journal

  abbrev pub with_journal : Kept V → Journal → Kept V
  with_journal k journal = record k { journal = journal }

  -- what the step looked at: the file of the record's key, and then the name's directory where it asks for that
  pub record LooksUp (k : Kept V) (name : Name) (filed : Filed) (change : Change) : Type 0 where
    pub stood : Option Filed
    pub between : Journal
    pub gone : Bool
    pub journal : Journal
    pub read : Reads (bytes_eq filed.name.hash name.hash) k filed stood between
    pub listed : Lists (asks_listing change stood) (with_journal k between) name filed.time gone journal

  module _ (k : Kept V) (name : Name) (filed : Filed) (change : Change) where
    abbrev pub entries_of : LooksUp k name filed change → List ObjEntry
    entries_of seen = entries_by name.hash change seen.stood seen.gone

    abbrev pub listings_of : LooksUp k name filed change → ℕ
    listings_of seen = once_if (asks_listing change seen.stood)

    abbrev pub looks_of : LooksUp k name filed change → ℕ
    looks_of seen = reads_for name filed + listings_of seen

    -- ---- what came of it

    -- no file has changed
    pub record OnlyLooked (seen : LooksUp k name filed change) (n : Kept V) : Type 0 where
      pub same : SameFiles tells files faults k n
      pub counts : CallsMade (looks_of seen) (listings_of seen) 0 k n
      pub kept : n.journal ≡ seen.journal

    -- the file of the record was put or unlinked, and no other has changed
    pub record ChangedRecord (seen : LooksUp k name filed change) (entry : ObjEntry) (n : Kept V) : Type 0 where
      pub sets : tells k.volume ≡ true → Sets (contents (files k.volume)) (contents (files n.volume)) (folder_text filed.name.hash)
          (name_text (key_of filed)) (text_left entry)
      pub counts : CallsMade (suc (looks_of seen)) (listings_of seen) 0 k n
      pub entered : n.journal ≡ with_entry seen.journal entry

    abbrev pub Made : LooksUp k name filed change → List ObjEntry → Kept V → Type 0
    Made seen [] n = OnlyLooked seen n
    Made seen (entry ∷ entries) n = ChangedRecord seen entry n

    pub record Takes (is : Bool) (n : Kept V) : Type 0 where
      pub seen : LooksUp k name filed change
      pub taken : is ≡ taken_by change seen.stood seen.gone
      pub made : Made seen (entries_of seen) n

    -- there was something to enter, and nothing was changed
    pub record Overflows (n : Kept V) : Type 0 where
      pub seen : LooksUp k name filed change
      pub entry : ObjEntry
      pub wanted : entries_of seen ≡ entry ∷ []
      pub looked : OnlyLooked seen n

    -- the file of the key is damaged
    pub record ReadsDamage (bad : BadFile) (n : Kept V) : Type 0 where
      pub own : bytes_eq filed.name.hash name.hash ≡ true
      pub damaged : tells k.volume ≡ true → IsDamaged k.secrets (key_of filed) (bytes_at (contents (files k.volume)) (key_of filed)) bad
      pub same : SameFiles tells files faults k n
      pub counts : CallsMade 1 0 0 k n
      pub kept : n.journal ≡ k.journal

    -- the read failed
    pub record FailsToRead (n : Kept V) : Type 0 where
      pub own : bytes_eq filed.name.hash name.hash ≡ true
      pub same : SameFiles tells files faults k n
      pub counts : CallsMade 1 0 1 k n
      pub kept : n.journal ≡ k.journal

    -- the listing behind the read failed: the read has settled the doubt of the record
    pub record FailsToList (n : Kept V) : Type 0 where
      pub stood : Option Filed
      pub asks : asks_listing change stood ≡ true
      pub read : Reads (bytes_eq filed.name.hash name.hash) k filed stood n.journal
      pub same : SameFiles tells files faults k n
      pub counts : CallsMade (suc (reads_for name filed)) 1 1 k n

    -- the put or unlink failed: it was done or wasn't, and is in doubt
    pub record FailsToChange (n : Kept V) : Type 0 where
      pub seen : LooksUp k name filed change
      pub entry : ObjEntry
      pub wanted : entries_of seen ≡ entry ∷ []
      pub may : tells k.volume ≡ true → MaySet (contents (files k.volume)) (contents (files n.volume)) (folder_text filed.name.hash)
          (name_text (key_of filed)) (text_left entry)
      pub counts : CallsMade (suc (looks_of seen)) (listings_of seen) 1 k n
      pub in_doubt : n.journal ≡ with_doubt seen.journal entry

    -- memory was wanting before the read, for what a trail shows of a doubt of this record
    pub record WantsToTell (n : Kept V) : Type 0 where
      pub own : bytes_eq filed.name.hash name.hash ≡ true
      pub doubted : about_record (key_of filed) k.journal.doubts ≢ []
      pub same : SameFiles tells files faults k n
      pub counts : CallsMade 0 0 0 k n
      pub kept : n.journal ≡ k.journal

    -- for what the read found: where the volume tells its files, one stands there
    pub record WantsToRead (n : Kept V) : Type 0 where
      pub own : bytes_eq filed.name.hash name.hash ≡ true
      pub some : tells k.volume ≡ true → IsSome (bytes_at (contents (files k.volume)) (key_of filed))
      pub same : SameFiles tells files faults k n
      pub counts : CallsMade 1 0 0 k n
      pub kept : n.journal ≡ k.journal

    -- for the listing, before it was made or behind it
    pub record WantsToList (n : Kept V) : Type 0 where
      pub stood : Option Filed
      pub asks : asks_listing change stood ≡ true
      pub read : Reads (bytes_eq filed.name.hash name.hash) k filed stood n.journal
      pub same : SameFiles tells files faults k n
      pub counts : CallsMade (reads_for name filed) 0 0 k n ⊎ CallsMade (suc (reads_for name filed)) 1 0 k n

    -- for the change. Nothing is in doubt that wasn't
    pub record WantsToChange (n : Kept V) : Type 0 where
      pub seen : LooksUp k name filed change
      pub entry : ObjEntry
      pub wanted : entries_of seen ≡ entry ∷ []
      pub puts : ℕ
      pub within : puts ≤ puts_for (record_left entry)
      pub same : SameFiles tells files faults k n
      pub counts : CallsMade (puts + looks_of seen) (listings_of seen) 0 k n
      pub kept : n.journal ≡ seen.journal

    -- by its answer
    abbrev pub CalledFor : Answer → Kept V → Type 0
    CalledFor (answers.Took is) n = Takes is n
    CalledFor answers.JournalFull n = Overflows n
    CalledFor (answers.Damaged bad) n = ReadsDamage bad n
    CalledFor answers.Failed n = FailsToRead n ⊎ (FailsToList n ⊎ FailsToChange n)
    CalledFor answers.NoMemory n = (WantsToTell n ⊎ WantsToRead n) ⊎ (WantsToList n ⊎ WantsToChange n)
    CalledFor answer n = ⊥

  -- THE relation: a step at a record, from one directory to the next
  abbrev pub RecordCalled : Kept V → Name → Change → Answer → Kept V → Type 0
  RecordCalled k name (MarkRecord filed device) answer n = CalledFor k name filed (MarkRecord filed device) answer n
  RecordCalled k name (DropRecord filed all) answer n = CalledFor k name filed (DropRecord filed all) answer n
  RecordCalled k name change answer n = ⊥

  -- ---- the parts of a step: what each leaves of the directory

  -- the record was looked for
  pub record FindsAs (k : Kept V) (name : Name) (filed : Filed) (stood : Option Filed) (n : Kept V) : Type 0 where
    pub dir : IsDir tells files faults n
    pub looks : LooksAt tells files faults (λ key. bytes_eq key name.hash) k n
    pub read : Reads (bytes_eq filed.name.hash name.hash) k filed stood n.journal
    pub value : is_told tells files faults k ≡ true → stood ≡ found (values_of tells files faults k name.hash) name.hash filed
    pub settled : bytes_eq filed.name.hash name.hash ≡ true → about_record (key_of filed) n.journal.doubts ≡ []
    pub sound : IfSome stood (λ other. IsName k.secrets other.name)
    pub counts : CallsMade (reads_for name filed) 0 0 k n

  -- it wasn't found out
  pub record FindsNot (k : Kept V) (name : Name) (n : Kept V) : Type 0 where
    pub dir : IsDir tells files faults n
    pub looks : LooksAt tells files faults (λ key. bytes_eq key name.hash) k n

  abbrev pub Finds : Kept V → Name → Filed → Result (Option Filed) ReadFault → Kept V → Type 0
  Finds k name filed (Ok stood) n = FindsAs k name filed stood n
  Finds k name filed (Err (reads.Damaged bad)) n =
      FindsNot k name n × (is_told tells files faults n ≡ false) × ((change : Change) → ReadsDamage k name filed change bad n)
  Finds k name filed (Err reads.Failed) n = FindsNot k name n × ((change : Change) → FailsToRead k name filed change n)
  Finds k name filed (Err reads.NoMemory) n =
      FindsNot k name n × ((change : Change) → WantsToTell k name filed change n ⊎ WantsToRead k name filed change n)

  -- the name's directory was listed
  pub record LooksGone (k : Kept V) (name : Name) (time : ℕ) (gone : Bool) (n : Kept V) : Type 0 where
    pub dir : IsDir tells files faults n
    pub looks : LooksAt tells files faults (λ key. bytes_eq key name.hash) k n
    pub listed : ListsAs k name time gone n.journal
    pub value : is_told tells files faults k ≡ true → gone ≡ is_gone (values_of tells files faults k name.hash).state time
    pub settled : written name.hash n.journal.doubts ≡ []
    pub records : (key : RecordKey) → about_record key k.journal.doubts ≡ [] → about_record key n.journal.doubts ≡ []
    pub counts : CallsMade 1 1 0 k n

  pub record LooksNot (k : Kept V) (name : Name) (n : Kept V) : Type 0 where
    pub dir : IsDir tells files faults n
    pub looks : LooksAt tells files faults (λ key. bytes_eq key name.hash) k n
    pub kept : n.journal ≡ k.journal

  abbrev pub TellsGone : Kept V → Name → ℕ → Result Bool VolumeError → Kept V → Type 0
  TellsGone k name time (Ok gone) n = LooksGone k name time gone n
  TellsGone k name time (Err volumes.Failed) n = LooksNot k name n × CallsMade 1 1 1 k n
  TellsGone k name time (Err volumes.NoMemory) n = LooksNot k name n × (CallsMade 0 0 0 k n ⊎ CallsMade 1 1 0 k n)

  -- whether a record that stands goes: nothing was listed where all these devices are done
  pub record GoesUnlisted (goes : Bool) (k n : Kept V) : Type 0 where
    pub goes_is : goes ≡ true
    pub same : n ≡ k

  abbrev pub Decides : Bool → Kept V → Name → ℕ → Result Bool VolumeError → Kept V → Type 0
  Decides true k name time (Ok goes) n = GoesUnlisted goes k n
  Decides true k name time (Err error) n = ⊥
  Decides false k name time result n = TellsGone k name time result n

  -- the entry's change was made: the value of its hash is what it leaves, that of each other hash what it was
  pub record Enters (k : Kept V) (key : RecordKey) (entry : ObjEntry) (n : Kept V) : Type 0 where
    pub dir : IsDir tells files faults n
    pub same : IsSameDir tells files faults k n
    pub here : is_told tells files faults k ≡ true
        → values_of tells files faults n key.hash ≡ obj_applied (values_of tells files faults k key.hash) entry
    pub others : (hash : Hash) → hash ≢ key.hash → values_of tells files faults n hash ≡ values_of tells files faults k hash
    pub sets : tells k.volume ≡ true → Sets (contents (files k.volume)) (contents (files n.volume)) (folder_text key.hash) (name_text key) (text_left entry)
    pub counts : NoListing tells files faults calls lists 1 0 k n
    pub entered : n.journal ≡ with_entry k.journal entry

  -- it was made or wasn't, and is in doubt
  pub record Doubts (k : Kept V) (key : RecordKey) (entry : ObjEntry) (n : Kept V) : Type 0 where
    pub dir : IsDir tells files faults n
    pub same : IsSameDir tells files faults k n
    pub here : is_told tells files faults k ≡ true → (values_of tells files faults n key.hash ≡ values_of tells files faults k key.hash)
        ⊎ (values_of tells files faults n key.hash ≡ obj_applied (values_of tells files faults k key.hash) entry)
    pub others : (hash : Hash) → hash ≢ key.hash → values_of tells files faults n hash ≡ values_of tells files faults k hash
    pub may : tells k.volume ≡ true → MaySet (contents (files k.volume)) (contents (files n.volume)) (folder_text key.hash) (name_text key) (text_left entry)
    pub counts : NoListing tells files faults calls lists 1 1 k n
    pub later : faults k.volume ≤ faults n.volume
    pub in_doubt : n.journal ≡ with_doubt k.journal entry

  -- memory was wanting for it
  pub record Wants (k : Kept V) (hash : Hash) (entry : ObjEntry) (n : Kept V) : Type 0 where
    pub dir : IsDir tells files faults n
    pub looks : LooksAt tells files faults (λ key. bytes_eq key hash) k n
    pub puts : ℕ
    pub within : puts ≤ puts_for (record_left entry)
    pub counts : NoListing tells files faults calls lists puts 0 k n
    pub kept : n.journal ≡ k.journal

  pub record IsFullFor (k : Kept V) (entry : ObjEntry) (n : Kept V) : Type 0 where
    pub full : has_room k.journal entry ≡ false
    pub same : n ≡ k

  pub record HasRoomFor (k : Kept V) (entry : ObjEntry) (P : Type 0) : Type 0 where
    pub room : has_room k.journal entry ≡ true
    pub so : P

  -- an entry was to be made, of the record of this key
  abbrev pub Ends : Kept V → RecordKey → ObjEntry → Answer → Kept V → Type 0
  Ends k key entry (answers.Took is) n = (is ≡ true) × HasRoomFor k entry (Enters k key entry n)
  Ends k key entry answers.JournalFull n = IsFullFor k entry n
  Ends k key entry answers.Failed n = HasRoomFor k entry (Doubts k key entry n)
  Ends k key entry answers.NoMemory n = Wants k key.hash entry n
  Ends k key entry answer n = ⊥

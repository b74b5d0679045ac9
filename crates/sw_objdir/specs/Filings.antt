-- What a read of all records of a directory is, which doubts it settles, and which calls of the volume that takes. (This project's own; the files are
-- those of OpenStack Swift's object server.)
use Rattle.std.specs.Prelude.{◌≡◌, ◌≢◌, ℕ, suc, ◌+◌, ◌≤◌, Bool, true, false, List, [], length, find, Option, None, Some, Result, Ok, Err, ◌⊎◌, ⊤}
use Rattle.std.specs.List.{filter}
use Rattle.std.specs.declared.alloc.Global.{Global}
use Rattle.std.specs.declared.vec.Vec.{Vec}
use Rattle.sw_hashpath.specs.declared.decode_error.BadFile.{BadFile}
use Rattle.sw_hashpath.specs.declared.secrets.Secrets.{Secrets}
use Rattle.sw_journal.specs.Entries.{about_record}
use Rattle.sw_objdir.specs.Directories.{Kept, is_told, steps_of, values_of}
use Rattle.sw_objdir.specs.Recording.{CallsMade}
use Rattle.sw_objdir.specs.Stepping.{IsSameDir}
use Rattle.sw_object_steps.specs.Histories.{ReadsRecords}
use Rattle.sw_object_steps.specs.Journals.{Hash}
use Rattle.sw_object_steps.specs.Values.{Records}
use Rattle.sw_object_steps.specs.declared.dir_fault.DirFault.{DirFault}
use Rattle.sw_object_steps.specs.declared.dir_fault.DirFault.TheVariants as faulted
use Rattle.sw_object_steps.specs.declared.entry.ObjEntry.{ObjEntry}
use Rattle.sw_object_steps.specs.declared.entry.ObjEntry.TheVariants.{Dropped, Files, Marked, Wrote}
use Rattle.sw_pending.specs.Records.{key_of}
use Rattle.sw_pending.specs.declared.filed.Filed.{Filed}
use Rattle.sw_pending.specs.declared.key.RecordKey.{RecordKey}
use Rattle.sw_pending_dir.specs.Places.{bytes_at}
use Rattle.sw_pending_dir.specs.Readings.{IsDamaged}
use Rattle.sw_pending_dir.specs.Walks.{IsCourse, IsFirstDamage}
use Rattle.sw_pending_dir.specs.declared.fault.ReadFault.{ReadFault}
use Rattle.sw_pending_dir.specs.declared.fault.ReadFault.TheVariants as reads
use Rattle.sw_volume.specs.Tree.{Folders, contents}
use Rattle.sw_volume.specs.Volume.{Contents, raised_by}

-- the fault as which that of a record's file is told
abbrev pub fault_of_record : ReadFault → DirFault
fault_of_record (reads.Damaged bad) = faulted.Damaged bad
fault_of_record reads.Failed = faulted.Failed
fault_of_record reads.NoMemory = faulted.NoMemory

-- ---- doubts

-- whether an entry is a change of a record
abbrev pub is_filing : ObjEntry → Bool
is_filing (Wrote name w records) = false
is_filing (Files by filed) = true
is_filing (Marked by filed device) = true
is_filing (Dropped by filed) = true

abbrev pub filings : List ObjEntry → List ObjEntry
filings entries = filter is_filing entries

-- the key of the record that it changes
abbrev pub filing_key : ObjEntry → Option RecordKey
filing_key (Wrote name w records) = None
filing_key (Files by filed) = Some (key_of filed)
filing_key (Marked by filed device) = Some (key_of filed)
filing_key (Dropped by filed) = Some (key_of filed)

abbrev pub key_in : Option ObjEntry → Option RecordKey
key_in None = None
key_in (Some entry) = filing_key entry

-- the key of the first of them
abbrev pub first_key : List ObjEntry → Option RecordKey
first_key entries = key_in (find is_filing entries)

-- ---- steps

module _ {V : Type 0} (tells : V → Bool) (files : V → Folders) (faults : V → ℕ) where
  -- a read of the records of all hashes; under every hash stands what stood there
  pub record IsFilingsStep {A : Type 0} (k : Kept V) (reading : Bool → (Hash → Records) → A → Type 0) (got : Result A DirFault) (n : Kept V)
      : Type 0 where
    pub same : IsSameDir tells files faults k n
    pub all : (hash : Hash) → values_of tells files faults n hash ≡ values_of tells files faults k hash
    pub reads : ReadsRecords true (steps_of tells files faults k) (λ hash. true) (reading (is_told tells files faults n)) got
        (steps_of tells files faults n) (values_of tells files faults n)

-- ---- calls

-- how many calls of a read that ended so have failed
abbrev pub fails_of : ReadFault → ℕ
fails_of (reads.Damaged bad) = 0
fails_of reads.Failed = 1
fails_of reads.NoMemory = 0

-- how many reads it takes to end so, at least
abbrev pub least_for : ReadFault → ℕ
least_for (reads.Damaged bad) = 1
least_for reads.Failed = 1
least_for reads.NoMemory = 0

-- the file of a record of which a change is in doubt is damaged in this way
pub record IsDoubtedDamage (secrets : Secrets) (stood : Contents) (doubts : List ObjEntry) (bad : BadFile) : Type 0 where
  pub key : RecordKey
  pub doubted : about_record key doubts ≢ []
  pub damaged : IsDamaged secrets key (bytes_at stood key) bad

-- or it is the first of all files of records that is damaged
abbrev pub IsDamageIn : Secrets → Contents → List ObjEntry → BadFile → Type 0
IsDamageIn secrets stood doubts bad = IsDoubtedDamage secrets stood doubts bad ⊎ IsFirstDamage secrets stood bad

module _ {V : Type 0} (tells : V → Bool) (files : V → Folders) (faults calls lists : V → ℕ) where
  -- a file of a record in doubt was damaged
  pub record ReadsBad (k : Kept V) (bad : BadFile) (n : Kept V) : Type 0 where
    pub untold : is_told tells files faults n ≡ false
    pub damaged : tells k.volume ≡ true → IsDoubtedDamage k.secrets (contents (files k.volume)) k.journal.doubts bad

  abbrev pub IsSound : Kept V → ReadFault → Kept V → Type 0
  IsSound k (reads.Damaged bad) n = ReadsBad k bad n
  IsSound k reads.Failed n = ⊤
  IsSound k reads.NoMemory n = ⊤

  -- changes of records were in doubt, and of the reads that settle them so many at most were made when one couldn't be
  pub record StopsAt (most : ℕ) (k : Kept V) (fault : ReadFault) (n : Kept V) : Type 0 where
    pub doubted : filings k.journal.doubts ≢ []
    pub count : ℕ
    pub made : least_for fault ≤ count
    pub within : count ≤ most
    pub counts : CallsMade tells files faults calls lists count 0 (fails_of fault) k n
    pub sound : IsSound k fault n

  -- a file was read, and the doubt of a change of its record settled
  pub record SettlesFiling (k n : Kept V) : Type 0 where
    pub fewer : suc (length (filings n.journal.doubts)) ≡ length (filings k.journal.doubts)
    pub still : (key : RecordKey) → about_record key n.journal.doubts ≢ [] → about_record key k.journal.doubts ≢ []
    pub counts : CallsMade tells files faults calls lists 1 0 0 k n

  -- there was none
  pub record NoFiling (k n : Kept V) : Type 0 where
    pub none : filings k.journal.doubts ≡ []
    pub same : n ≡ k

  -- by its answer, whether there was one
  abbrev pub SettlesOneFiling : Kept V → Result Bool ReadFault → Kept V → Type 0
  SettlesOneFiling k (Ok true) n = SettlesFiling k n
  SettlesOneFiling k (Ok false) n = NoFiling k n
  SettlesOneFiling k (Err fault) n = StopsAt 1 k fault n

  -- all were settled, each by one read
  pub record SettlesFilings (k n : Kept V) : Type 0 where
    pub none : filings n.journal.doubts ≡ []
    pub counts : CallsMade tells files faults calls lists (length (filings k.journal.doubts)) 0 0 k n

  abbrev pub SettlesAllFilings : Kept V → Result (Unit {0}) ReadFault → Kept V → Type 0
  SettlesAllFilings k (Ok done) n = SettlesFilings k n
  SettlesAllFilings k (Err fault) n = StopsAt (length (filings k.journal.doubts)) k fault n

  -- a file of a record in doubt couldn't be read: of the reads that settle at least so many were made, and nothing was listed
  pub record EndsSettling (least : ℕ) (k n : Kept V) : Type 0 where
    pub doubted : filings k.journal.doubts ≢ []
    pub count : ℕ
    pub made : least ≤ count
    pub within : count ≤ length (filings k.journal.doubts)
    pub called : calls n.volume ≡ raised_by count (calls k.volume)
    pub listed : lists n.volume ≡ lists k.volume

  -- one read for each change of a record that was in doubt, and then the walk through all records: so many folders, and so many files
  pub record Walks (k : Kept V) (result : Result (Vec Filed Global) ReadFault) (n : Kept V) : Type 0 where
    pub folders : ℕ
    pub reads : ℕ
    pub called : calls n.volume ≡ raised_by (suc (folders + reads)) (raised_by (length (filings k.journal.doubts)) (calls k.volume))
    pub listed : lists n.volume ≡ raised_by (suc folders) (lists k.volume)
    pub course : tells k.volume ≡ true → IsCourse k.secrets (contents (files k.volume)) folders reads result

  abbrev pub FilingsCalled : Kept V → Result (Vec Filed Global) DirFault → Kept V → Type 0
  FilingsCalled k (Ok records) n = Walks k (Ok records) n
  FilingsCalled k (Err (faulted.Damaged bad)) n = EndsSettling 1 k n ⊎ Walks k (Err (reads.Damaged bad)) n
  FilingsCalled k (Err faulted.Failed) n = EndsSettling 1 k n ⊎ Walks k (Err reads.Failed) n
  FilingsCalled k (Err faulted.NoMemory) n = EndsSettling 0 k n ⊎ Walks k (Err reads.NoMemory) n

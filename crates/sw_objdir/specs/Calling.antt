-- The calls of the volume that a write makes until it is answered by what stands, or a read of an object, in their order, and what they leave of the
-- files: a write lists the name's directory, and reads the file that a deletion compares. (This project's own; the files are those of OpenStack Swift's
-- object server.)
use Rattle.std.specs.Prelude.{◌≡◌, ℕ, suc, ◌≤◌, Bool, true, List, [], length, Option, Some, None, ◌⊎◌, if◌then◌else◌}
use Rattle.sw_cleanup.specs.Cleaning.{AreListedIn}
use Rattle.sw_diskfile.specs.Picking.{IsPicked}
use Rattle.sw_diskfile.specs.declared.file_name.FileName.{FileName}
use Rattle.sw_diskfile.specs.declared.picking.Picked.{Picked}
use Rattle.sw_hashdir.specs.Places.{dir_text}
use Rattle.sw_hashdir.specs.Readings.{IsDamageShown, IsDamagedAt, IsSecondRead, IsShown, data_of, expiry_file}
use Rattle.sw_object_steps.specs.Outlines.{picked_outline}
use Rattle.sw_hashpath.specs.declared.decode_error.BadFile.{BadFile}
use Rattle.sw_hashpath.specs.declared.name.Name.{Name}
use Rattle.sw_journal.specs.Settling.{SettlesFirst}
use Rattle.sw_objdir.specs.Directories.{Kept}
use Rattle.sw_objdir.specs.Stepping.{SameFiles}
use Rattle.sw_outside.specs.Counts.{raised}
use Rattle.sw_object_steps.specs.Journals.{Journal, written}
use Rattle.sw_object_steps.specs.Steps.{asks_expiry, refusal_by, write_of}
use Rattle.sw_object_steps.specs.declared.answer.Answer.{Answer}
use Rattle.sw_object_steps.specs.declared.change.Change.{Change}
use Rattle.sw_object_steps.specs.Recorded.{records_for}
use Rattle.sw_object_steps.specs.declared.entry.ObjEntry.{ObjEntry}
use Rattle.sw_object_steps.specs.declared.entry.ObjEntry.TheVariants.{Wrote}
use Rattle.sw_object_steps.specs.declared.got.Got.{Got}
use Rattle.sw_object_steps.specs.declared.got.Got.TheVariants as gots
use Rattle.sw_volume.specs.Tree.{Folders, contents}
use Rattle.sw_volume.specs.Volume.{raised_by}

-- the entry of a write that was made
abbrev pub entry_of : Name → Change → ObjEntry
entry_of name change = Wrote name (write_of change) (records_for name change)

-- one call where there is a file to be read
abbrev pub read_calls : Option FileName → ℕ
read_calls None = 0
read_calls (Some file) = 1

-- how many files a changing step reads: the one that tells when the object expires, where the step asks for that
abbrev pub reads_of : Picked → Change → ℕ
reads_of p change = if asks_expiry (picked_outline p) change then read_calls (expiry_file p) else 0

-- how many files a read of the object reads: that of its data, and that of its metadata where there is one; none where it has no data
abbrev pub object_reads : Option FileName → Option FileName → ℕ
object_reads None meta = 0
object_reads (Some file) meta = suc (read_calls meta)

module _ {V : Type 0} (tells : V → Bool) (files : V → Folders) (faults calls lists : V → ℕ) where
  -- the files of writes in the name's directory, as its listing told them, those that make the object, and the journal once they settled the
  -- name's doubt
  pub record Listed (k : Kept V) (name : Name) : Type 0 where
    pub names : List FileName
    pub picked : Picked
    pub are : tells k.volume ≡ true → AreListedIn (contents (files k.volume)) (dir_text k.power name.hash) names
    pub picks : IsPicked names picked
    pub journal : Journal
    pub settles : SettlesFirst name.hash (picked_outline picked) k.journal journal

  -- one listing, so many calls after it, and so many calls that failed
  pub record Counts (more fails : ℕ) (k n : Kept V) : Type 0 where
    pub called : calls n.volume ≡ raised_by more (raised (calls k.volume))
    pub listed : lists n.volume ≡ raised (lists k.volume)
    pub failed : faults n.volume ≡ raised_by fails (faults k.volume)

  -- what was listed refuses the step so, or doesn't, with the second of expiry that was read where the step asks for it
  pub record Decides (k : Kept V) (name : Name) (seen : Listed k name) (change : Change) (refused : Option Answer) : Type 0 where
    pub second : Option ℕ
    pub read : tells k.volume ≡ true → asks_expiry (picked_outline seen.picked) change ≡ true
        → IsSecondRead k.secrets name.hash (files k.volume) (dir_text k.power name.hash) seen.picked second
    pub decided : refusal_by (picked_outline seen.picked) second change ≡ refused

  -- the step was answered from what the listing and the file that it read told
  pub record Looked (k : Kept V) (name : Name) (change : Change) (refused : Option Answer) (n : Kept V) : Type 0 where
    pub seen : Listed k name
    pub decides : Decides k name seen change refused
    pub same : SameFiles tells files faults k n
    pub counts : Counts (reads_of seen.picked change) 0 k n
    pub kept : n.journal ≡ seen.journal

  -- the file that it read is damaged
  pub record ReadsDamage (k : Kept V) (name : Name) (change : Change) (bad : BadFile) (n : Kept V) : Type 0 where
    pub seen : Listed k name
    pub damaged : tells k.volume ≡ true → IsDamagedAt k.secrets name.hash (files k.volume) (dir_text k.power name.hash) (expiry_file seen.picked) bad
    pub reads : reads_of seen.picked change ≡ 1
    pub same : SameFiles tells files faults k n
    pub counts : Counts 1 0 k n
    pub kept : n.journal ≡ seen.journal

  -- the listing failed: nothing has changed
  pub record ListFails (k n : Kept V) : Type 0 where
    pub same : SameFiles tells files faults k n
    pub counts : Counts 0 1 k n
    pub journal : n.journal ≡ k.journal

  -- the read failed: no file has changed, and the listing settled the name's doubt
  pub record ReadFails (k : Kept V) (name : Name) (change : Change) (n : Kept V) : Type 0 where
    pub seen : Listed k name
    pub reads : reads_of seen.picked change ≡ 1
    pub same : SameFiles tells files faults k n
    pub counts : Counts 1 1 k n
    pub settled : written name.hash n.journal.doubts ≡ []
    pub kept : n.journal ≡ seen.journal

  -- memory ran out: no file has changed, no call failed, and nothing is in doubt that wasn't
  pub record Wanted (k : Kept V) (name : Name) (n : Kept V) : Type 0 where
    pub same : SameFiles tells files faults k n
    pub failed : faults n.volume ≡ faults k.volume
    pub called : ((calls n.volume ≡ calls k.volume) × (lists n.volume ≡ lists k.volume))
        ⊎ ((after : ℕ) × (after ≤ 2) × (calls n.volume ≡ raised_by after (raised (calls k.volume))) × (lists n.volume ≡ raised (lists k.volume)))
    pub journal : (n.journal ≡ k.journal) ⊎ ((seen : Listed k name) × (n.journal ≡ seen.journal))

  -- ---- a step that lists nothing

  -- so many calls, none of them a listing, of which so many failed
  pub record NoListing (count fails : ℕ) (k n : Kept V) : Type 0 where
    pub called : calls n.volume ≡ raised_by count (calls k.volume)
    pub listed : lists n.volume ≡ lists k.volume
    pub failed : faults n.volume ≡ raised_by fails (faults k.volume)

  -- ---- a step that reads the name

  -- the directory was listed, and so many files were read, of which so many failed
  pub record ReadsFiles (k : Kept V) (name : Name) (most : Picked → ℕ) (fails : ℕ) (n : Kept V) : Type 0 where
    pub seen : Listed k name
    pub reads : ℕ
    pub within : reads ≤ most seen.picked
    pub same : SameFiles tells files faults k n
    pub counts : Counts reads fails k n
    pub kept : n.journal ≡ seen.journal

  abbrev pub files_of : Picked → ℕ
  files_of p = object_reads (data_of p.base) p.meta

  -- an object is shown after all its files were read
  pub record ShowsObject (k : Kept V) (name : Name) (got : Got) (n : Kept V) : Type 0 where
    pub seen : Listed k name
    pub shown : tells k.volume ≡ true
        → IsShown k.secrets name.hash (files k.volume) (dir_text k.power name.hash) (length n.journal.entries) seen.picked got
    pub same : SameFiles tells files faults k n
    pub counts : Counts (files_of seen.picked) 0 k n
    pub kept : n.journal ≡ seen.journal

  -- there is none where there is no data to be read; or the listed data was gone, over a volume that doesn't tell
  pub record ShowsNone (k : Kept V) (name : Name) (got : Got) (n : Kept V) : Type 0 where
    pub seen : Listed k name
    pub shown : tells k.volume ≡ true
        → IsShown k.secrets name.hash (files k.volume) (dir_text k.power name.hash) (length n.journal.entries) seen.picked got
    pub same : SameFiles tells files faults k n
    pub counts : Counts (read_calls (data_of seen.picked.base)) 0 k n
    pub kept : n.journal ≡ seen.journal

  -- the file of its data is damaged, and no other was read; or that of its metadata, which was read behind it
  pub record ShowsDamage (k : Kept V) (name : Name) (bad : BadFile) (n : Kept V) : Type 0 where
    pub reads : ReadsFiles k name files_of 0 n
    pub damaged : tells k.volume ≡ true
        → IsDamageShown k.secrets name.hash (files k.volume) (dir_text k.power name.hash) (data_of reads.seen.picked.base) reads.seen.picked.meta
        (raised (calls k.volume)) (calls n.volume) bad

  -- by what it got
  abbrev pub ReadCalled : Kept V → Name → Got → Kept V → Type 0
  ReadCalled k name (gots.Found time content heads front) n = ShowsObject k name (gots.Found time content heads front) n
  ReadCalled k name (gots.NotFound time) n = ShowsNone k name (gots.NotFound time) n
  ReadCalled k name (gots.Damaged bad) n = ShowsDamage k name bad n
  ReadCalled k name gots.Failed n = ListFails k n ⊎ ReadsFiles k name files_of 1 n
  ReadCalled k name gots.NoMemory n = Wanted k name n

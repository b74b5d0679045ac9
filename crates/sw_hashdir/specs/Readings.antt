-- What the files of a hash directory are read as. (OpenStack Swift's object server sets a file aside that says that it is of another path.
-- Which faults there are, and that a file of another write in its place is one, is this project's own.)
use Rattle.std.specs.Prelude.{◌≡◌, ◌≢◌, ℕ, ⊤, true, List, Option, Some, None, Result, Ok, Err, ◌⊎◌, if◌then◌else◌}
use Rattle.std.specs.Option.{option_and_then, option_map, unwrap_or}
use Rattle.sw_cleanup.specs.Directories.{AreNamesIn}
use Rattle.sw_diskfile.specs.StateFiles.{name_of}
use Rattle.sw_cleanup.specs.Obsolete.{is_put}
use Rattle.sw_diskfile.specs.FileNames.{name_text}
use Rattle.sw_diskfile.specs.Picking.{IsPicked}
use Rattle.sw_diskfile.specs.declared.file_name.FileName.{FileName}
use Rattle.sw_diskfile.specs.declared.picking.Picked.{Picked}
use Rattle.sw_hashpath.specs.Paths.{hash_of}
use Rattle.sw_hashpath.specs.declared.decode_error.BadFile.{BadFile}
use Rattle.sw_hashpath.specs.declared.decode_error.BadFile.TheVariants.{Field}
use Rattle.sw_hashpath.specs.declared.decode_error.DecodeError.{DecodeError}
use Rattle.sw_hashpath.specs.declared.decode_error.DecodeError.TheVariants as decodings
use Rattle.sw_hashpath.specs.declared.secrets.Secrets.{Secrets}
use Rattle.sw_metafile.specs.Decoding.{decoded}
use Rattle.sw_metafile.specs.declared.file_body.FileBody.{FileBody}
use Rattle.sw_outside.specs.Counts.{raised}
use Rattle.sw_state.specs.Bases.{base_at}
use Rattle.sw_state.specs.Metas.{Meta, meta_at}
use Rattle.sw_state.specs.declared.write.Kind.{Kind}
use Rattle.sw_state.specs.declared.write.Kind.TheVariants as kinds
use Rattle.sw_state.specs.declared.write.Write.{Write}
use Rattle.sw_volume.specs.Tree.{Folders, contents}
use Rattle.sw_volume.specs.declared.errors.VolumeError.{VolumeError}
use Rattle.sw_volume.specs.declared.errors.VolumeError.TheVariants as volumes
use Rattle.sw_object_steps.specs.Journals.{Hash}
use Rattle.sw_object_steps.specs.Outlines.{standing_expiry}
use Rattle.sw_object_steps.specs.Steps.{got_beside, got_of}
use Rattle.sw_object_steps.specs.declared.got.Got.{Got}
use Rattle.sw_object_steps.specs.declared.got.Got.TheVariants as gots
use Rattle.sw_hashdir.specs.Places.{AllInOrder, dir_text, holds, is_place}
use Rattle.sw_hashdir.specs.declared.reading.ReadFault.{ReadFault}
use Rattle.sw_hashdir.specs.declared.showing.Object.{Object}
use Rattle.sw_hashdir.specs.declared.reading.ReadFault.TheVariants.{Damaged, Failed, NoMemory}

-- ---- answers

-- the fault as which a volume's error is told
abbrev pub fault_of_volume : VolumeError → ReadFault
fault_of_volume volumes.Failed = Failed
fault_of_volume volumes.NoMemory = NoMemory

-- the fault as which an error of decoding is told
abbrev pub fault_of_decoding : DecodeError → ReadFault
fault_of_decoding (decodings.Bad bad) = Damaged bad
fault_of_decoding decodings.NoMemory = NoMemory

module _ {T : Type 0} where
  -- P holds of the fault, where the answer is that a file is damaged
  abbrev pub IfDamaged : Result T ReadFault → (BadFile → Type 0) → Type 0
  IfDamaged (Ok found) P = ⊤
  IfDamaged (Err (Damaged bad)) P = P bad
  IfDamaged (Err Failed) P = ⊤
  IfDamaged (Err NoMemory) P = ⊤

  -- P holds, where the answer is that the volume failed
  abbrev pub OnFailedRead : Result T ReadFault → Type 0 → Type 0
  OnFailedRead (Ok found) P = ⊤
  OnFailedRead (Err (Damaged bad)) P = ⊤
  OnFailedRead (Err Failed) P = P
  OnFailedRead (Err NoMemory) P = ⊤

  -- P holds, where the answer is another one
  abbrev pub UnlessFailedRead : Result T ReadFault → Type 0 → Type 0
  UnlessFailedRead (Ok found) P = P
  UnlessFailedRead (Err (Damaged bad)) P = P
  UnlessFailedRead (Err Failed) P = ⊤
  UnlessFailedRead (Err NoMemory) P = P

  -- P holds of the fault, where bytes were decoded as none of a file
  abbrev pub IfBad : Result T DecodeError → (BadFile → Type 0) → Type 0
  IfBad (Ok found) P = ⊤
  IfBad (Err (decodings.Bad bad)) P = P bad
  IfBad (Err decodings.NoMemory) P = ⊤

-- ---- one file

module _ (secrets : Secrets) (hash : Hash) (file : FileName) where
  -- the hash of the names that the file says
  abbrev pub hash_said : FileBody → Hash
  hash_said body = hash_of secrets body.account (Some body.container) (Some body.object)

  -- the bytes are the file of this write, of a name of the hash, and it stands under its own name
  pub record IsFileOf (bytes : List ℕ) (w : Write) : Type 0 where
    pub body : FileBody
    pub decodes : decoded bytes ≡ Ok body
    pub write : body.write ≡ w
    pub hashed : hash_said body ≡ hash
    pub named : name_of w ≡ file

  -- no file stands there, or the file of this write does
  abbrev pub IsFound : Option (List ℕ) → Option Write → Type 0
  IsFound None None = ⊤
  IsFound None (Some w) = ⊥
  IsFound (Some bytes) None = ⊥
  IsFound (Some bytes) (Some w) = IsFileOf bytes w

  -- the bytes are a file, of a name of another hash or of a write of another name
  pub record IsMisplaced (bytes : List ℕ) : Type 0 where
    pub body : FileBody
    pub decodes : decoded bytes ≡ Ok body
    pub elsewhere : (hash_said body ≢ hash) ⊎ (name_of body.write ≢ file)

  -- the bytes are no file, and this is their fault; or a misplaced one, which counts as one with a bad field
  abbrev pub IsDamage : List ℕ → BadFile → Type 0
  IsDamage bytes bad = (decoded bytes ≡ Err bad) ⊎ ((bad ≡ Field) × IsMisplaced bytes)

  -- a file stands there, and is damaged in this way
  pub record IsDamaged (stands : Option (List ℕ)) (bad : BadFile) : Type 0 where
    pub bytes : List ℕ
    pub is_there : stands ≡ Some bytes
    pub damage : IsDamage bytes bad

-- ---- the files that are picked

-- all is in order, this is the directory of the hash, and of the files in it these are picked
pub record IsPickedIn (secrets : Secrets) (power : ℕ) (folders : Folders) (hash : Hash) (dir : List ℕ) (picked : Picked) : Type 0 where
  pub place : is_place power hash ≡ true
  pub dir_is : dir ≡ dir_text power hash
  pub order : AllInOrder secrets power folders
  pub names : List FileName
  pub are : AreNamesIn (contents folders) dir names
  pub picks : IsPicked names picked

-- nowhere is all in order where this is the directory of the hash and these are picked of its files
abbrev pub IsOutOfOrder : Secrets → Hash → Folders → List ℕ → Picked → Type 0
IsOutOfOrder secrets hash folders dir picked = (power : ℕ) → ¬ (IsPickedIn secrets power folders hash dir picked)

-- the file of data that is picked: none where that of a tombstone is
abbrev pub data_of : Option FileName → Option FileName
data_of None = None
data_of (Some base) = if is_put base.tag then Some base else None

-- one call more, where there is a file to be read
abbrev pub raised_where : Option FileName → ℕ → ℕ
raised_where None calls = calls
raised_where (Some file) calls = raised calls

module _ (secrets : Secrets) (hash : Hash) (folders : Folders) (dir : List ℕ) where
  -- what is read of a file of the directory, where there is one to be read
  abbrev pub IsFoundAt : Option FileName → Option Write → Type 0
  IsFoundAt None found = found ≡ None
  IsFoundAt (Some file) found = IsFound secrets hash file (contents folders dir (name_text file)) found

  -- the file that was to be read is damaged in this way
  abbrev pub IsDamagedAt : Option FileName → BadFile → Type 0
  IsDamagedAt None bad = ⊥
  IsDamagedAt (Some file) bad = IsDamaged secrets hash file (contents folders dir (name_text file)) bad

-- ---- the second of expiry

-- the file that says when the object expires: that of its metadata, and without one that of its data
abbrev pub expiry_file : Picked → Option FileName
expiry_file picked = option_map (λ base. unwrap_or picked.meta base) (data_of picked.base)

-- the second that data or metadata says; a tombstone says none
abbrev pub second_in : Kind → Option ℕ
second_in (kinds.Put content) = content.heads.delete_at
second_in kinds.Del = None
second_in (kinds.Meta heads) = heads.delete_at

-- the second that a write says
abbrev pub second_of : Option Write → Option ℕ
second_of found = option_and_then (λ w. second_in w.kind) found

-- the second is the one that the file says which decides
abbrev pub IsSecondRead : Secrets → Hash → Folders → List ℕ → Picked → Option ℕ → Type 0
IsSecondRead secrets hash folders dir picked second =
    (found : Option Write) × IsFoundAt secrets hash folders dir (expiry_file picked) found × (second ≡ second_of found)

-- the second is one that some write says, and none where there is no file that says one
abbrev pub IsSecondOf : Option FileName → Option ℕ → Type 0
IsSecondOf file second = (found : Option Write) × (file ≡ None → found ≡ None) × (second ≡ second_of found)

-- in whatever ring: where all is in order, the second is that of what the hash stands for
abbrev pub IsExpiryIn : Secrets → Hash → Folders → List ℕ → Picked → Option ℕ → Type 0
IsExpiryIn secrets hash folders dir picked second =
    (power : ℕ) → IsPickedIn secrets power folders hash dir picked → second ≡ standing_expiry (holds secrets power folders hash)

-- ---- what a read of the object shows

-- P holds, where the object is shown, or that there is none
abbrev pub OnShown : Got → Type 0 → Type 0
OnShown (gots.Found time content heads front) P = P
OnShown (gots.NotFound time) P = P
OnShown (gots.Damaged bad) P = ⊤
OnShown gots.Failed P = ⊤
OnShown gots.NoMemory P = ⊤

-- P holds of the fault, where a file is told to be damaged
abbrev pub IfShownDamaged : Got → (BadFile → Type 0) → Type 0
IfShownDamaged (gots.Found time content heads front) P = ⊤
IfShownDamaged (gots.NotFound time) P = ⊤
IfShownDamaged (gots.Damaged bad) P = P bad
IfShownDamaged gots.Failed P = ⊤
IfShownDamaged gots.NoMemory P = ⊤

-- the faults that are counted: one where the volume failed, and none else
abbrev pub CountsFault : ℕ → ℕ → Got → Type 0
CountsFault before now (gots.Found time content heads front) = now ≡ before
CountsFault before now (gots.NotFound time) = now ≡ before
CountsFault before now (gots.Damaged bad) = now ≡ before
CountsFault before now gots.Failed = now ≡ raised before
CountsFault before now gots.NoMemory = now ≡ before

-- an object that is shown has this front
abbrev pub HasFront : ℕ → Got → Type 0
HasFront front (gots.Found time content heads at) = at ≡ front
HasFront front (gots.NotFound time) = ⊤
HasFront front (gots.Damaged bad) = ⊤
HasFront front gots.Failed = ⊤
HasFront front gots.NoMemory = ⊤

-- the calls where there is data: of it, and then of the metadata that was picked; only the first where it finds nothing; and after a call
-- that gave no write none
abbrev pub CallsWith : Option FileName → ℕ → ℕ → Got → Type 0
CallsWith meta before now (gots.Found time content heads front) = now ≡ raised_where meta (raised before)
CallsWith meta before now (gots.NotFound time) = now ≡ raised before
CallsWith meta before now (gots.Damaged bad) = (now ≡ raised before) ⊎ (now ≡ raised_where meta (raised before))
CallsWith meta before now gots.Failed = (now ≡ raised before) ⊎ (now ≡ raised_where meta (raised before))
CallsWith meta before now gots.NoMemory = (now ≡ raised before) ⊎ (now ≡ raised_where meta (raised before))

-- the same of what was picked: none where there is no data
abbrev pub CallsFor : Option FileName → Option FileName → ℕ → ℕ → Got → Type 0
CallsFor None meta before now got = now ≡ before
CallsFor (Some file) meta before now got = CallsWith meta before now got

-- the same of what was read of both files
abbrev pub CallsReading : Option FileName → ℕ → ℕ → Result (Option Object) ReadFault → Type 0
CallsReading meta before now (Ok (Some object)) = now ≡ raised_where meta (raised before)
CallsReading meta before now (Ok None) = now ≡ raised before
CallsReading meta before now (Err fault) = (now ≡ raised before) ⊎ (now ≡ raised_where meta (raised before))

-- the metadata that a write is
abbrev pub meta_in : Option Write → Option Meta
meta_in found = option_and_then (λ w. meta_at w.time w.kind) found

-- what the write of data shows, with that of the metadata beside it
abbrev pub got_read : Write → Option Write → ℕ → Got
got_read w beside front = got_beside (base_at w.time w.kind) (meta_in beside) front

module _ (secrets : Secrets) (hash : Hash) (folders : Folders) (dir : List ℕ) where
  -- what is read of the file of data, and, where it is there, of that of the metadata
  abbrev pub IsWholeAt : FileName → Option FileName → Option Object → Type 0
  IsWholeAt file meta None = IsFound secrets hash file (contents folders dir (name_text file)) None
  IsWholeAt file meta (Some object) =
      IsFound secrets hash file (contents folders dir (name_text file)) (Some object.data) × IsFoundAt secrets hash folders dir meta object.meta

  -- the file of data is damaged, and no other was read; or it was found, and then that of the metadata is damaged
  abbrev pub IsDamagedOf : FileName → Option FileName → ℕ → ℕ → BadFile → Type 0
  IsDamagedOf file meta before now bad =
      (IsDamagedAt secrets hash folders dir (Some file) bad × (now ≡ raised before))
      ⊎ ((w : Write) × IsFoundAt secrets hash folders dir (Some file) (Some w) × IsDamagedAt secrets hash folders dir meta bad
      × (now ≡ raised_where meta (raised before)))

  -- the same of the files that are picked
  abbrev pub IsDamageShown : Option FileName → Option FileName → ℕ → ℕ → BadFile → Type 0
  IsDamageShown None meta before now bad = ⊥
  IsDamageShown (Some file) meta before now bad = IsDamagedOf file meta before now bad

module _ (secrets : Secrets) (hash : Hash) (folders : Folders) (dir : List ℕ) (front : ℕ) where
  -- data that is gone shows nothing, whatever is beside it
  abbrev pub IsShownBeside : Option FileName → Option Write → Got → Type 0
  IsShownBeside meta None got = got ≡ gots.NotFound None
  IsShownBeside meta (Some w) got = (beside : Option Write) × IsFoundAt secrets hash folders dir meta beside × (got ≡ got_read w beside front)

  -- without data the base's time is shown, which is a tombstone's, or none
  abbrev pub IsShownWith : Option FileName → Picked → Got → Type 0
  IsShownWith None picked got = got ≡ gots.NotFound (option_map (λ f. f.time) picked.base)
  IsShownWith (Some file) picked got =
      (found : Option Write) × IsFound secrets hash file (contents folders dir (name_text file)) found × IsShownBeside picked.meta found got

  -- what is shown is what the picked files say
  abbrev pub IsShown : Picked → Got → Type 0
  IsShown picked got = IsShownWith (data_of picked.base) picked got

  -- in whatever ring: where all is in order, it is what the hash stands for
  abbrev pub IsGotIn : Picked → Got → Type 0
  IsGotIn picked got = (power : ℕ) → IsPickedIn secrets power folders hash dir picked → got ≡ got_of (holds secrets power folders hash) front

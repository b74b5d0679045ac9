-- Where the files of a partition's hashes are, and what a listing of them tells. (The directories are OpenStack Swift's.)
use Rattle.std.specs.Prelude.{◌≡◌, ◌<◌, ◌≤◌, ℕ, ◌/◌, ◌%◌, List, [], ◌∷◌, ◌++◌, codes, decimal, slice_index, Option, None, Some}
use Rattle.std.specs.List.{All, Contains}
use Rattle.hex.specs.Hex.{encode_lower, lower_digits}
use Rattle.sw_cleanup.specs.Directories.{AreNamesIn}
use Rattle.sw_diskfile.specs.Picking.{IsPicked}
use Rattle.sw_diskfile.specs.declared.file_name.FileName.{FileName}
use Rattle.sw_diskfile.specs.declared.picking.Picked.{Picked}
use Rattle.sw_hashpath.specs.HashParts.{partition_of, suffix_of}
use Rattle.sw_object_steps.specs.Journals.{Hash}
use Rattle.sw_object_steps.specs.Parts.{IsOfPart, picked_in, suffix_md5}
use Rattle.sw_suffix.specs.SuffixLines.{AreSuffixLines, HasKinds}
use Rattle.sw_suffix.specs.SuffixTexts.{files}
use Rattle.sw_suffix.specs.declared.dir_line.DirLine.{DirLine}
use Rattle.sw_suffix.specs.declared.told.SuffixHash.{SuffixHash}
use Rattle.sw_volume.specs.Volume.{Contents}
use Rattle.sw_hashdir.specs.Places.{dir_text}

-- ---- directories

-- the directory of a partition
abbrev pub part_dir_text : ℕ → List ℕ
part_dir_text part = codes "objects/" ++ decimal part

-- the three lower-case digits of a suffix
abbrev pub suffix_digits : ℕ → List ℕ
suffix_digits suffix = slice_index lower_digits (suffix / 256) ∷ slice_index lower_digits (suffix / 16 % 16) ∷ slice_index lower_digits (suffix % 16) ∷ []

-- the directory of a suffix in a partition
abbrev pub suffix_dir_text : ℕ → ℕ → List ℕ
suffix_dir_text part suffix = part_dir_text part ++ 47 ∷ suffix_digits suffix

-- ---- folders

-- this is the name of the suffix's folder
pub record IsSuffixName (name : List ℕ) (suffix : ℕ) : Type 0 where
  pub below : suffix < 4096
  pub digits : name ≡ suffix_digits suffix

-- this is the name of the folder of a hash of the partition and the suffix
pub record IsHashName (power part suffix : ℕ) (name : List ℕ) (hash : Hash) : Type 0 where
  pub of_part : IsOfPart power part hash
  pub suffix_is : suffix_of hash ≡ suffix
  pub digits : name ≡ encode_lower hash

-- one of the folders has a name of x
abbrev pub HasFolder : {X : Type 0} → (List ℕ → X → Type 0) → List (List ℕ) → X → Type 0
HasFolder IsName folders x = (name : List ℕ) × Contains folders name × IsName name x

-- ---- lines

-- of the files of writes in dir these are picked
pub record IsPickedOf (holds : Contents) (dir : List ℕ) (picked : Picked) : Type 0 where
  pub names : List FileName
  pub are : AreNamesIn holds dir names
  pub picks : IsPicked names picked

-- the line of a hash, where it has a file
abbrev pub line_with : Hash → Picked → List FileName → List DirLine
line_with hash picked [] = []
line_with hash picked (file ∷ more) = record { hash = hash; picked = picked } ∷ []

-- the line of a hash was added, where it has a file
pub record AddsLine (hash : Hash) (old new : List DirLine) (shown : Picked → Type 0) : Type 0 where
  pub picked : Picked
  pub kinds : HasKinds picked
  pub times : All (λ file. file.time ≤ 999999999999999) (files picked)
  pub is_shown : shown picked
  pub adds : new ≡ old ++ line_with hash picked (files picked)

-- the lines tell of each hash of the suffix what is picked of its files
abbrev pub AreListedLines : ℕ → ℕ → ℕ → Contents → List DirLine → Type 0
AreListedLines power part suffix holds lines =
    (hash : Hash) → IsOfPart power part hash → suffix_of hash ≡ suffix → IsPickedOf holds (dir_text power hash) (picked_in lines hash)

-- lines of hashes of the suffix, in order
pub record AreOfSuffix (power part suffix : ℕ) (lines : List DirLine) : Type 0 where
  pub are : AreSuffixLines lines
  pub within : All (λ line. (partition_of line.hash power ≡ part) × (suffix_of line.hash ≡ suffix)) lines

-- ---- what is compared of a suffix

-- what is compared of a suffix, where it has a file
abbrev pub hash_with : ℕ → Option (List ℕ) → List SuffixHash
hash_with suffix None = []
hash_with suffix (Some md5) = record { suffix = suffix; md5 = md5 } ∷ []

-- what is compared of a suffix was added, where it has a file
pub record AddsHash (power part suffix : ℕ) (old new : List SuffixHash) (shown : List DirLine → Type 0) : Type 0 where
  pub lines : List DirLine
  pub are : AreOfSuffix power part suffix lines
  pub is_shown : shown lines
  pub adds : new ≡ old ++ hash_with suffix (suffix_md5 lines)

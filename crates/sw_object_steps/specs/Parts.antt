-- What a read of a partition tells of what its hashes stand for. (Suffixes, their hashes, and that nodes compare them, are OpenStack
-- Swift's; that the files that count are told by their names is this project's own.)
use Rattle.std.specs.Prelude.{◌≡◌, ℕ, ◌<◌, ◌==◌, Bool, true, List, [], ◌∷◌, map, Option, None, Some, find, if◌then◌else◌, ◌⊎◌}
use Rattle.std.specs.Prelude.{Contains}
use Rattle.std.specs.List.{All}
use Rattle.std.specs.List.Sorted.{IsStrictlySortedBy}
use Rattle.std.specs.Option.{option_map_or}
use Rattle.std.specs.Ordering.{nat_cmp}
use Rattle.std.specs.Str.{bytes_eq}
use Rattle.md5.specs.Md5.{md5}
use Rattle.sw_diskfile.specs.StateFiles.{name_of, picked_of}
use Rattle.sw_diskfile.specs.declared.file_name.FileName.{FileName}
use Rattle.sw_diskfile.specs.declared.picking.Picked.{Picked}
use Rattle.sw_hashpath.specs.HashParts.{IsDigest, partition_of, suffix_of}
use Rattle.sw_hashpath.specs.declared.name.Name.{Name}
use Rattle.sw_state.specs.States.{joined, writes_of}
use Rattle.sw_state.specs.declared.state.State.{State}
use Rattle.sw_suffix.specs.SuffixLines.{AreSuffixLines}
use Rattle.sw_suffix.specs.SuffixTexts.{suffix_text}
use Rattle.sw_suffix.specs.declared.dir_line.DirLine.{DirLine}
use Rattle.sw_suffix.specs.declared.told.SuffixHash.{SuffixHash}
use Rattle.sw_object_steps.specs.Journals.{Hash}
use Rattle.sw_object_steps.specs.declared.stored.Stored.{Stored}

-- ---- which hashes

-- a hash of the partition, where there are 2 to this power of them
pub record IsOfPart (power part : ℕ) (hash : Hash) : Type 0 where
  pub digest : IsDigest hash
  pub part_is : partition_of hash power ≡ part

-- ---- the files of a suffix

abbrev pub nothing_picked : Picked
nothing_picked = record { base = None; meta = None }

-- the files of a hash among the lines
abbrev pub picked_in : List DirLine → Hash → Picked
picked_in lines hash = option_map_or (λ line. line.picked) (find (λ line. bytes_eq line.hash hash) lines) nothing_picked

-- the lines of a suffix of the partition, where its hashes stand for s: one for each hash that has a file, in order of the hashes. So a
-- hash without a line stands for nothing
pub record AreLines (power part suffix : ℕ) (told : Bool) (s : Hash → State) (lines : List DirLine) : Type 0 where
  pub are : AreSuffixLines lines
  pub within : All (λ line. (partition_of line.hash power ≡ part) × (suffix_of line.hash ≡ suffix)) lines
  pub shown : told ≡ true → (hash : Hash) → IsOfPart power part hash → suffix_of hash ≡ suffix → picked_in lines hash ≡ picked_of (s hash)

-- ---- what is compared

-- the MD5 of a suffix's text, where it has a file
abbrev pub suffix_md5 : List DirLine → Option (List ℕ)
suffix_md5 [] = None
suffix_md5 (line ∷ lines) = Some (md5 (suffix_text (line ∷ lines)))

abbrev pub md5_in : List SuffixHash → ℕ → Option (List ℕ)
md5_in [] suffix = None
md5_in (one ∷ more) suffix = if one.suffix == suffix then Some one.md5 else md5_in more suffix

-- what is compared of a partition, where its hashes stand for s: of each suffix that has a file its MD5, in order of the suffixes. So a
-- suffix that isn't named has no file
pub record AreHashes (power part : ℕ) (told : Bool) (s : Hash → State) (hashes : List SuffixHash) : Type 0 where
  pub ascending : IsStrictlySortedBy nat_cmp (map (λ one. one.suffix) hashes)
  pub below : All (λ one. one.suffix < 4096) hashes
  pub shown : told ≡ true → (suffix : ℕ) → suffix < 4096
      → (lines : List DirLine) × AreLines power part suffix true s lines × (md5_in hashes suffix ≡ suffix_md5 lines)

-- ---- one file

-- the file is the one of the state's base, or of its meta
abbrev pub Counts : State → FileName → Type 0
Counts s file = ((picked_of s).base ≡ Some file) ⊎ ((picked_of s).meta ≡ Some file)

-- a file of this name is read as this write, of a name of this hash. What it is adds nothing to what the hash stands for, and where the
-- file counts it is the write of that
pub record IsStored (fits : Name → Bool) (hash : Hash) (file : FileName) (told : Bool) (s : Hash → State) (stored : Stored) : Type 0 where
  pub hash_is : stored.name.hash ≡ hash
  pub fits_is : fits stored.name ≡ true
  pub named : name_of stored.write ≡ file
  pub adds_nothing : told ≡ true → joined (s hash) stored.write ≡ s hash
  pub counts : told ≡ true → Counts (s hash) file → Contains (writes_of (s hash)) stored.write

-- what a read of a file gives: none where the file isn't there, so that it doesn't count
abbrev pub IsFile : (Name → Bool) → Hash → FileName → Bool → (Hash → State) → Option Stored → Type 0
IsFile fits hash file told s None = told ≡ true → ¬ (Counts (s hash) file)
IsFile fits hash file told s (Some stored) = IsStored fits hash file told s stored

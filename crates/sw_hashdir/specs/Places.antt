-- Where the files of a hash are, and what the hash stands for. (The directories and names of files are OpenStack Swift's.)
use Rattle.std.specs.Prelude.{◌≡◌, ℕ, ◌-◌, Bool, true, false, ◌&&◌, nat_le, List, [], ◌∷◌, ◌++◌, length, map, take, drop, codes, decimal, Option, None, Some}
use Rattle.std.specs.Prelude.{Result, Ok, Err, if◌then◌else◌}
use Rattle.std.specs.List.{filter_map, list_all}
use Rattle.std.specs.Option.{unwrap_or}
use Rattle.std.specs.Str.{bytes_eq}
use Rattle.hex.specs.Hex.{encode_lower}
use Rattle.sw_hashpath.specs.HashParts.{partition_of}
use Rattle.sw_hashpath.specs.Paths.{hash_of}
use Rattle.sw_hashpath.specs.declared.decode_error.BadFile.{BadFile}
use Rattle.sw_hashpath.specs.declared.secrets.Secrets.{Secrets}
use Rattle.sw_state.specs.States.{state_of}
use Rattle.sw_state.specs.declared.state.State.{State}
use Rattle.sw_state.specs.declared.write.Write.{Write}
use Rattle.sw_volume.specs.Tree.{Files, Folders, at, contents}
use Rattle.sw_diskfile.specs.FileNames.{is_name_of, name_text, named}
use Rattle.sw_diskfile.specs.declared.file_name.FileName.{FileName}
use Rattle.sw_metafile.specs.Decoding.{decoded}
use Rattle.sw_metafile.specs.Reading.{digest_of}
use Rattle.sw_metafile.specs.declared.file_body.FileBody.{FileBody}
use Rattle.sw_cleanup.specs.Directories.{IsInOrder}
use Rattle.sw_diskfile.specs.StateFiles.{name_of}
use Rattle.sw_object_steps.specs.Journals.{Hash}

-- ---- directories

-- the directory of a hash: its partition, its last three digits, and its digits
abbrev pub dir_text : ℕ → Hash → List ℕ
dir_text power hash = (codes "objects/" ++ decimal (partition_of hash power) ++ 47 ∷ take 3 (drop 29 (encode_lower hash)) ++ 47 ∷ []) ++ encode_lower hash

abbrev pub placed_at : ℕ → List ℕ → Option Hash → Option Hash
placed_at power dir None = None
placed_at power dir (Some hash) = if bytes_eq (dir_text power hash) dir then Some hash else None

-- the hash whose directory this is, where it is one's
abbrev pub hash_in : ℕ → List ℕ → Option Hash
hash_in power dir = placed_at power dir (digest_of (drop (length dir - 32) dir))

abbrev pub is_that : Hash → Option Hash → Bool
is_that hash None = false
is_that hash (Some h) = bytes_eq h hash

-- whether the hash has a directory: each MD5 does
unfoldable pub is_place : ℕ → Hash → Bool
is_place power hash = is_that hash (hash_in power (dir_text power hash))

-- ---- files

abbrev pub write_with : Secrets → Hash → Result FileBody BadFile → Option Write
write_with secrets hash (Ok file) = if bytes_eq (hash_of secrets file.account (Some file.container) (Some file.object)) hash then Some file.write else None
write_with secrets hash (Err bad) = None

-- the write that the bytes are in a directory of this hash: of a file whose names have the hash
abbrev pub write_in : Secrets → Hash → List ℕ → Option Write
write_in secrets hash bytes = write_with secrets hash (decoded bytes)

-- ---- what a directory stands for

module _ (decode : List ℕ → Option Write) where
  abbrev pub read_from : Option (List ℕ) → Option Write
  read_from None = None
  read_from (Some bytes) = decode bytes

  -- the write, where its file has this name
  abbrev pub own_write : List ℕ → Option Write → Option Write
  own_write name None = None
  own_write name (Some w) = if is_name_of name (name_of w) then Some w else None

  abbrev pub file_names : Folders → List ℕ → List (List ℕ)
  file_names folders dir = map (λ (e : List ℕ × List ℕ). e.0) (unwrap_or (at folders dir) [])

  unfoldable pub state_in : Folders → List ℕ → State
  state_in folders dir = state_of (filter_map (λ name. own_write name (read_from (contents folders dir name))) (file_names folders dir))

  abbrev pub is_read_as : FileName → Option Write → Bool
  is_read_as file None = false
  is_read_as file (Some w) = bytes_eq (name_text (name_of w)) (name_text file) && nat_le w.time 999999999999999

  -- whether what stands is in order under this name: a file that isn't named as a write's is passed over
  abbrev pub is_right : Option FileName → Option (List ℕ) → Bool
  is_right None bytes = true
  is_right (Some file) None = true
  is_right (Some file) (Some bytes) = is_read_as file (decode bytes)

  abbrev pub is_dir_right : Folders → List ℕ → Bool
  is_dir_right folders dir = list_all (λ name. is_right (named name) (contents folders dir name)) (file_names folders dir)

-- what a hash stands for
abbrev pub holds : Secrets → ℕ → Folders → Hash → State
holds secrets power folders hash = if is_place power hash then state_in (write_in secrets hash) folders (dir_text power hash) else state_of []

abbrev pub is_right_at : Secrets → Folders → List ℕ → Option Hash → Bool
is_right_at secrets folders dir None = true
is_right_at secrets folders dir (Some hash) = is_dir_right (write_in secrets hash) folders dir

-- whether each file that is named as a write's in a hash directory is read as that write of a name of the hash
unfoldable pub in_order : Secrets → ℕ → Folders → Bool
in_order secrets power folders = list_all (λ (e : List ℕ × Files). is_right_at secrets folders e.0 (hash_in power e.0)) folders

-- the same, said of each hash
abbrev pub AllInOrder : Secrets → ℕ → Folders → Type 0
AllInOrder secrets power folders = (hash : Hash) → is_place power hash ≡ true → IsInOrder (write_in secrets hash) (contents folders) (dir_text power hash)

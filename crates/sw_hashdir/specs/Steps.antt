-- What calls of a volume make of what all hashes stand for.
use Rattle.std.specs.Prelude.{◌≡◌, ◌≢◌, ℕ, Bool, true, ◌&&◌, is_none, List, [], ◌∷◌, ◌++◌, Some, None, ◌⊎◌}
use Rattle.std.specs.Str.{bytes_eq}
use Rattle.sw_diskfile.specs.FileNames.{name_text}
use Rattle.sw_metafile.specs.Texts.{file_text}
use Rattle.sw_object_steps.specs.Outlines.{outline_of}
use Rattle.sw_object_steps.specs.declared.outline.Outline.{Outline}
use Rattle.sw_cleanup.specs.Cleaning.{Unlinks, obsolete_of}
use Rattle.sw_cleanup.specs.Directories.{AreNamesIn}
use Rattle.sw_diskfile.specs.StateFiles.{name_of}
use Rattle.sw_diskfile.specs.declared.file_name.FileName.{FileName}
use Rattle.sw_hashpath.specs.BadNames.{bad_name}
use Rattle.sw_hashpath.specs.Paths.{hash_of}
use Rattle.sw_hashpath.specs.declared.name.Name.{Name}
use Rattle.sw_hashpath.specs.declared.secrets.Secrets.{Secrets}
use Rattle.sw_state.specs.States.{is_new, joined}
use Rattle.sw_state.specs.Writes.{tag_of}
use Rattle.sw_state.specs.declared.write.Write.{Write}
use Rattle.sw_volume.specs.Tree.{Folders, contents}
use Rattle.sw_volume.specs.Volume.{Sets}
use Rattle.sw_object_steps.specs.Journals.{Hash}
use Rattle.sw_hashdir.specs.Places.{AllInOrder, dir_text, holds, is_place}

-- each hash stands for what it stood for
pub record Keeps (secrets : Secrets) (power : ℕ) (hash : Hash) (old new : Folders) : Type 0 where
  pub order : AllInOrder secrets power new
  pub here : holds secrets power new hash ≡ holds secrets power old hash
  pub others : (k : Hash) → k ≢ hash → holds secrets power new k ≡ holds secrets power old k

-- one hash stands for one write more
pub record Joins (secrets : Secrets) (power : ℕ) (hash : Hash) (w : Write) (old new : Folders) : Type 0 where
  pub order : AllInOrder secrets power new
  pub here : holds secrets power new hash ≡ joined (holds secrets power old hash) w
  pub others : (k : Hash) → k ≢ hash → holds secrets power new k ≡ holds secrets power old k

-- the name is a good one, and its hash is that of its path
pub record IsHashed (secrets : Secrets) (name : Name) : Type 0 where
  pub hashed : hash_of secrets name.account (Some name.container) (Some name.object) ≡ name.hash
  pub good : bad_name name.account (Some name.container) (Some name.object) ≡ None

-- whether that is so
abbrev pub is_hashed : Secrets → Name → Bool
is_hashed secrets name =
    bytes_eq (hash_of secrets name.account (Some name.container) (Some name.object)) name.hash
    && is_none (bad_name name.account (Some name.container) (Some name.object))

-- and its hash has a directory
pub record IsOurs (secrets : Secrets) (power : ℕ) (name : Name) : Type 0 where
  pub place : is_place power name.hash ≡ true
  pub hashed : hash_of secrets name.account (Some name.container) (Some name.object) ≡ name.hash
  pub good : bad_name name.account (Some name.container) (Some name.object) ≡ None

-- all is in order, these are the files of the name's directory, and the write would change what it stands for
pub record IsNewIn (secrets : Secrets) (power : ℕ) (old : Folders) (dir : List ℕ) (names : List FileName) (name : Name) (w : Write) : Type 0 where
  pub ours : IsOurs secrets power name
  pub dir_is : dir ≡ dir_text power name.hash
  pub order : AllInOrder secrets power old
  pub new_to : is_new (holds secrets power old name.hash) w.time (tag_of w.kind) ≡ true
  pub are : AreNamesIn (contents old) dir names

-- under whatever secrets: the write joins what its name stands for, or may have
abbrev pub JoinsAll : Folders → Folders → List ℕ → List FileName → Name → Write → Type 0
JoinsAll old new dir names name w = (secrets : Secrets) (power : ℕ) → IsNewIn secrets power old dir names name w → Joins secrets power name.hash w old new

abbrev pub MayJoin : Folders → Folders → List ℕ → List FileName → Name → Write → Type 0
MayJoin old new dir names name w = (secrets : Secrets) (power : ℕ) → IsNewIn secrets power old dir names name w
    → Keeps secrets power name.hash old new ⊎ Joins secrets power name.hash w old new

-- at the files: the write's file was put, and then what it makes obsolete among these names was unlinked. The counts are those of faults
pub record Writes (old new : Folders) (dir : List ℕ) (names : List FileName) (name : Name) (w : Write) (before now : ℕ) : Type 0 where
  pub between : Folders
  pub puts : Sets (contents old) (contents between) dir (name_text (name_of w)) (Some (file_text name.account name.container name.object w))
  pub unlinks : Unlinks (contents between) (contents new) dir (obsolete_of (names ++ name_of w ∷ [])) before now

-- under whatever secrets: the outline is that of what the directory's hash stands for
abbrev pub IsOutlineIn : Folders → List ℕ → Outline → Type 0
IsOutlineIn folders dir outline = (secrets : Secrets) (power : ℕ) (hash : Hash) → is_place power hash ≡ true → dir ≡ dir_text power hash
    → AllInOrder secrets power folders
    → outline ≡ outline_of (holds secrets power folders hash)

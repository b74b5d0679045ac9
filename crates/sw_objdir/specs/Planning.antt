-- What a write found when all of it was made but its file. (This project's own.)
use Rattle.std.specs.Prelude.{◌≡◌, ℕ, Bool, true, [], None}
use Rattle.std.specs.Str.{bytes_eq}
use Rattle.sw_cleanup.specs.Cleaning.{AreListedIn}
use Rattle.sw_hashdir.specs.Places.{dir_text}
use Rattle.sw_hashdir.specs.Steps.{IsOurs}
use Rattle.sw_hashpath.specs.declared.name.Name.{Name}
use Rattle.sw_objdir.specs.Calling.{Looked}
use Rattle.sw_objdir.specs.Directories.{Kept, values_of}
use Rattle.sw_objdir.specs.Stepping.{IsSeenAs, LooksAt}
use Rattle.sw_objdir.specs.declared.changing.Plan.{Plan}
use Rattle.sw_object_steps.specs.Journals.{Hash, written}
use Rattle.sw_object_steps.specs.Outlines.{picked_outline}
use Rattle.sw_object_steps.specs.declared.change.Change.{Change}
use Rattle.sw_volume.specs.Tree.{Folders, contents}

-- no doubt of the name's writes is left, these are the files of its directory, and nothing that stands refuses the write
pub record IsPlanned {V : Type 0} (tells : V → Bool) (files : V → Folders) (faults calls lists : V → ℕ) (k : Kept V) (name : Name) (change : Change)
    (plan : Plan) (n : Kept V) : Type 0 where
  pub looks : LooksAt tells files faults (λ key. bytes_eq key name.hash) k n
  pub values : (hash : Hash) → values_of tells files faults n hash ≡ values_of tells files faults k hash
  pub settled : written name.hash n.journal.doubts ≡ []
  pub ours : IsOurs n.secrets n.power name
  pub dir : plan.dir.items ≡ dir_text n.power name.hash
  pub names : tells n.volume ≡ true → AreListedIn (contents (files n.volume)) plan.dir.items plan.seen.names.items
  pub stood : IsSeenAs tells files faults n name.hash plan.seen.outline change None
  pub looked : Looked tells files faults calls lists k name change None n
  pub names_are : looked.seen.names ≡ plan.seen.names.items
  pub shape : plan.seen.outline ≡ picked_outline looked.seen.picked

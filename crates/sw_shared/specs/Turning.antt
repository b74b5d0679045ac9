-- A step of an object directory in a turn at its lock, and what a pass has seen of it. (This project's own.)
use Rattle.std.specs.Prelude.{◌≡◌, ℕ, Bool, true, Some}
use Rattle.sw_hashpath.specs.declared.secrets.Secrets.{Secrets}
use Rattle.sw_objdir.specs.Directories.{Kept, is_told, steps_of, values_of}
use Rattle.sw_object_steps.specs.Journals.{Hash}
use Rattle.sw_object_steps.specs.Rules.{obj_rules}
use Rattle.sw_object_steps.specs.declared.entry.ObjEntry.{ObjEntry}
use Rattle.sw_shared.specs.Books.{book_of}
use Rattle.sw_shared.specs.declared.booked.Began.{Began}
use Rattle.sw_shared.specs.declared.booked.BookedObjects.{BookedObjects}
use Rattle.sw_step.specs.Rules.{CanStand}
use Rattle.sw_turn.specs.Known.{Tells, first_of, taken_in}
use Rattle.sw_turn.specs.Rule.{Finds, idle}
use Rattle.sw_turn.specs.declared.booked.Book.{Book}
use Rattle.sw_turn.specs.declared.booked.Known.{Known}
use Rattle.sw_turn.specs.declared.booked.View.{View}
use Rattle.sw_volume.specs.Tree.{Folders}

abbrev pub ObjKnown : Type 0 → Type 0
ObjKnown V = Known (BookedObjects V) ObjEntry (Began V)

abbrev pub ObjView : Type 0 → Type 0
ObjView V = View (BookedObjects V) ObjEntry (Began V)

abbrev pub booked : {V : Type 0} → Kept V → BookedObjects V
booked k = record { dir = k }

-- what the directory began from is known, and is so
abbrev pub BeganSo : {V : Type 0} → (Began V → Type 0) → ObjKnown V → Type 0
BeganSo {V} P k = (b : Began V) × (k.opening ≡ Some b) × P b

module _ {V : Type 0} (tells : V → Bool) (files : V → Folders) (faults : V → ℕ) where
  -- the history of a directory, put in the words of a lock
  abbrev pub history_in : BookedObjects V → Book ObjEntry (Began V)
  history_in b = book_of faults b.dir

  -- under each hash stands what may stand there
  abbrev pub MayStandIn : Kept V → Type 0
  MayStandIn k = is_told tells files faults k ≡ true → (hash : Hash)
      → CanStand obj_rules (steps_of tells files faults k) hash (values_of tells files faults k hash)

  -- a pass with the view v came in, found the directory k, and gave it back as n: then it has the view w, and the entries that n has more have its first
  -- number as maker
  pub record Turns (v : ObjView V) (k n : Kept V) (w : ObjView V) : Type 0 where
    pub found : ObjKnown V
    pub finds : Finds history_in v found (booked k)
    pub left : w ≡ idle (taken_in found (first_of v.numbers) (booked n) (book_of faults n)) v.seats v.numbers
    pub stands : MayStandIn n

  -- a step of the directory in one turn
  abbrev pub InTurn : (Kept V → Kept V → Type 0) → ObjView V → ObjView V → Type 0
  InTurn step v w = (k : Kept V) × (n : Kept V) × Turns v k n w × step k n

  -- what a pass of a directory with these secrets and this part power has seen between its turns
  pub record HasSeen (secrets : Secrets) (power : ℕ) (v : ObjView V) : Type 0 where
    pub last : Kept V  -- the directory as it was when the pass last knew all
    pub last_is : v.known.last ≡ Some (booked last)
    pub tells_all : Tells (book_of faults last) v.known
    pub stands : MayStandIn last
    pub secrets_are : last.secrets ≡ secrets
    pub power_is : last.power ≡ power

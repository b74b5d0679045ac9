-- A step at one lock, with its line. (This project's own.)
use Rattle.std.specs.Prelude.{◌≡◌, ℕ, Bool, Result}
use Rattle.std.specs.declared.alloc.Global.{Global}
use Rattle.std.specs.declared.vec.Vec.{Vec}
use Rattle.sw_hashpath.specs.declared.name.Name.{Name}
use Rattle.sw_objdir.specs.Directories.{Kept}
use Rattle.sw_objdir.specs.Filings.{IsFilingsStep}
use Rattle.sw_objdir.specs.Stepping.{IsPartStep, IsReadStep, IsStep}
use Rattle.sw_object_steps.specs.declared.answer.Answer.{Answer}
use Rattle.sw_object_steps.specs.declared.change.Change.{Change}
use Rattle.sw_object_steps.specs.declared.got.Got.{Got}
use Rattle.sw_peer.specs.declared.line.Event.TheVariants.{Changed, Read, ReadPart}
use Rattle.sw_peer.specs.declared.line.Line.{Line}
use Rattle.sw_peer.specs.declared.link.Link.{Link}
use Rattle.sw_object_steps.specs.Filings.{AreFiled}
use Rattle.sw_object_steps.specs.Journals.{Hash}
use Rattle.sw_object_steps.specs.Rules.{obj_rules}
use Rattle.sw_object_steps.specs.declared.dir_fault.DirFault.{DirFault}
use Rattle.sw_peer.specs.declared.part_read.PartRead.{PartRead}
use Rattle.sw_peer.specs.declared.part_read.PartRead.TheVariants.{Records}
use Rattle.sw_pending.specs.declared.filed.Filed.{Filed}
use Rattle.sw_state.specs.declared.state.State.{State}
use Rattle.sw_step.specs.Steps.{added_by}
use Rattle.sw_volume.specs.Tree.{Folders}

module _ {V : Type 0} (tells : V → Bool) (files : V → Folders) (faults : V → ℕ) where
  -- a step that may change the name
  pub record IsChangedIn (k : Kept V) (link : Link) (device : ℕ) (name : Name) (change : Change) (answer : Answer) (n : Kept V) (line : Line) : Type 0 where
    pub step : IsStep tells files faults k name change answer n
    pub line_is : line ≡ record { device = device; link = link; event = Changed name change answer; added = added_by obj_rules step.changes }

  -- a read
  pub record IsGotIn (k : Kept V) (link : Link) (device : ℕ) (name : Name) (got : Got) (n : Kept V) (line : Line) : Type 0 where
    pub step : IsReadStep tells files faults k name got n
    pub line_is : line ≡ record { device = device; link = link; event = Read name got; added = step.reads.follows.entries.0 }

  -- a read of all records that are filed under these hashes, of a stripe
  pub record IsRecordsIn (k : Kept V) (link : Link) (device : ℕ) (at : Hash → Bool) (stripe : ℕ) (got : Result (Vec Filed Global) DirFault) (n : Kept V)
      (line : Line) : Type 0 where
    pub step : IsFilingsStep tells files faults k (λ told records list. AreFiled k.secrets at told records list.items) got n
    pub line_is : line ≡ record { device = device; link = link; event = ReadPart (Records stripe got); added = step.reads.follows.entries.0 }

  -- a read of these hashes of a partition
  pub record IsPartIn {A : Type 0} (k : Kept V) (link : Link) (device : ℕ) (at : Hash → Bool) (damages : Bool) (reading : Bool → (Hash → State) → A → Type 0)
      (read : Result A DirFault → PartRead) (got : Result A DirFault) (n : Kept V) (line : Line) : Type 0 where
    pub step : IsPartStep tells files faults k at damages reading got n
    pub line_is : line ≡ record { device = device; link = link; event = ReadPart (read got); added = step.reads.follows.entries.0 }

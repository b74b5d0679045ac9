-- What a step of an object directory is: one of its lock, by the rules of objects. (This project's own.)
use Rattle.std.specs.Prelude.{◌≡◌, ◌≢◌, ℕ, ◌≤◌, Bool, true, false, List, [], ◌∷◌, ◌++◌, ◌-◌, length, map, take, Option, Some, None, Result, Err, if◌then◌else◌}
use Rattle.sw_hashpath.specs.declared.decode_error.BadFile.{BadFile}
use Rattle.sw_hashpath.specs.declared.name.Name.{Name}
use Rattle.sw_objdir.specs.Directories.{Kept, held, is_told, steps_of, values_of}
use Rattle.sw_object_steps.specs.Histories.{ChangesObject, ReadsObject, ReadsPart}
use Rattle.sw_object_steps.specs.Rules.{obj_rules}
use Rattle.sw_object_steps.specs.Briefs.{brief_of}
use Rattle.sw_object_steps.specs.Journals.{Hash}
use Rattle.sw_object_steps.specs.Outlines.{outline_of}
use Rattle.sw_object_steps.specs.Steps.{own_by, refusal_of}
use Rattle.sw_object_steps.specs.declared.answer.Answer.{Answer}
use Rattle.sw_object_steps.specs.declared.change.Change.{Change}
use Rattle.sw_object_steps.specs.declared.dir_fault.DirFault.{DirFault}
use Rattle.sw_object_steps.specs.declared.dir_fault.DirFault.TheVariants.{Damaged}
use Rattle.sw_object_steps.specs.declared.entry.Brief.{Brief}
use Rattle.sw_object_steps.specs.declared.entry.ObjEntry.{ObjEntry}
use Rattle.sw_object_steps.specs.declared.got.Got.{Got}
use Rattle.sw_object_steps.specs.declared.outline.Outline.{Outline}
use Rattle.sw_state.specs.declared.state.State.{State}
use Rattle.sw_step.specs.Steps.{OnlySettles}
use Rattle.sw_volume.specs.Tree.{Folders, contents}
use Rattle.sw_volume.specs.Volume.{IsSame}

-- what a trail shows of the entries that were added
abbrev pub AddsBriefs : List ObjEntry → List ObjEntry → List Brief → List Brief → Type 0
AddsBriefs old new before after = (added : List ObjEntry) → new ≡ old ++ added → after ≡ before ++ map brief_of added

-- what it shows of those of a step with this answer: of all but the write's own, which comes last where the write was made
abbrev pub TellsOthers : Answer → List ObjEntry → List ObjEntry → List Brief → List Brief → Type 0
TellsOthers answer old new before after =
    (added : List ObjEntry) → new ≡ old ++ added → after ≡ before ++ map brief_of (take (length added - own_by answer) added)

-- what it shows of a doubt with this brief that was settled: nothing where no entry came of it
abbrev pub told_of : Option Brief → Bool → List Brief
told_of None came = []
told_of (Some brief) came = if came then brief ∷ [] else []

module _ {V : Type 0} (tells : V → Bool) (files : V → Folders) (faults : V → ℕ) where
  -- at every path stands what stood there
  abbrev pub SameFiles : Kept V → Kept V → Type 0
  SameFiles k n = tells k.volume ≡ true → IsSame (contents (files k.volume)) (contents (files n.volume))

  -- what no step changes
  pub record IsSameDir (k n : Kept V) : Type 0 where
    pub began : n.began ≡ k.began
    pub secrets : n.secrets ≡ k.secrets
    pub power : n.power ≡ k.power
    pub told : tells n.volume ≡ tells k.volume

  -- files were looked at, and of the doubts only such of these hashes settled
  pub record LooksAt (at : Hash → Bool) (k n : Kept V) : Type 0 where
    pub same : IsSameDir k n
    pub settles : OnlySettles obj_rules at (steps_of tells files faults k) (steps_of tells files faults n)
    pub still : SameFiles k n
    pub later : faults k.volume ≤ faults n.volume

  -- files were looked at, and no doubt was settled
  abbrev pub OnlyLooks : Kept V → Kept V → Type 0
  OnlyLooks k n = LooksAt (λ hash. false) k n

  -- what stood under a hash as a step read it, by what it saw of its files: where the directory is told, that is what the hash stands for
  pub record IsSeenAs (k : Kept V) (hash : Hash) (o : Outline) (change : Change) (refused : Option Answer) : Type 0 where
    pub state : State
    pub held_is : is_told tells files faults k ≡ true → state ≡ held tells files faults k hash
    pub outline_is : o ≡ outline_of state
    pub refuses : refusal_of state change ≡ refused

  -- a step that may change what stands under the name; under every other hash stands what stood there
  pub record IsStep (k : Kept V) (name : Name) (change : Change) (answer : Answer) (n : Kept V) : Type 0 where
    pub same : IsSameDir k n
    pub others : (hash : Hash) → hash ≢ name.hash → values_of tells files faults n hash ≡ values_of tells files faults k hash
    pub changes : ChangesObject true (steps_of tells files faults k) (values_of tells files faults k) name change answer
        (steps_of tells files faults n) (values_of tells files faults n name.hash)

  -- a step that reads the name; under every hash stands what stood there
  pub record IsReadStep (k : Kept V) (name : Name) (got : Got) (n : Kept V) : Type 0 where
    pub same : IsSameDir k n
    pub all : (hash : Hash) → values_of tells files faults n hash ≡ values_of tells files faults k hash
    pub reads : ReadsObject true (steps_of tells files faults k) name.hash got (steps_of tells files faults n) (values_of tells files faults n)

  -- a read of these hashes of a partition; under every hash stands what stood there. Only a read that `damages` may find a file damaged
  pub record IsPartStep {A : Type 0} (k : Kept V) (at : Hash → Bool) (damages : Bool) (reading : Bool → (Hash → State) → A → Type 0)
      (got : Result A DirFault) (n : Kept V) : Type 0 where
    pub same : IsSameDir k n
    pub all : (hash : Hash) → values_of tells files faults n hash ≡ values_of tells files faults k hash
    pub reads : ReadsPart true (steps_of tells files faults k) at (reading (is_told tells files faults n)) got (steps_of tells files faults n)
        (values_of tells files faults n)
    pub sound : (bad : BadFile) → got ≡ Err (Damaged bad) → damages ≡ true

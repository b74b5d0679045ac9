-- One step at one object lock by its rules. (This project's own.)
use Rattle.std.specs.Prelude.{Bool, true, false, Result, Ok, Err}
use Rattle.std.specs.Str.{bytes_eq}
use Rattle.sw_hashpath.specs.declared.name.Name.{Name}
use Rattle.sw_object_steps.specs.Journals.{Hash, Shows}
use Rattle.sw_object_steps.specs.declared.answer.Answer.{Answer}
use Rattle.sw_object_steps.specs.declared.change.Change.{Change}
use Rattle.sw_object_steps.specs.declared.dir_fault.DirFault.{DirFault}
use Rattle.sw_object_steps.specs.declared.dir_fault.DirFault.TheVariants as faults
use Rattle.sw_object_steps.specs.declared.got.Got.{Got}
use Rattle.sw_object_steps.specs.declared.got.Got.TheVariants as gots
use Rattle.sw_state.specs.declared.state.State.{State}
use Rattle.sw_step.specs.Steps.{IsDamaged, IsLost, IsWanting, Look, StepChanges, StepReads, Tells}
use Rattle.sw_object_steps.specs.Recorded.{doubts_records, doubts_write}
use Rattle.sw_object_steps.specs.Rules.{ObjHistory, Writes, obj_rules}
use Rattle.sw_object_steps.specs.Values.{ObjValue, Records}

-- a step that may change what stands under a name
abbrev pub ChangesObject : Bool → ObjHistory → (Hash → ObjValue) → Name → Change → Answer → ObjHistory → ObjValue → Type 0
ChangesObject alone h s name change answer g t = StepChanges obj_rules alone h s name.hash (Writes name change) answer g t

-- how a read ended
abbrev pub got_look : Got → Look
got_look (gots.Found time content heads front) = Tells
got_look (gots.NotFound time) = Tells
got_look (gots.Damaged bad) = IsDamaged
got_look gots.Failed = IsLost
got_look gots.NoMemory = IsWanting

-- whether memory was wanting
abbrev pub is_wanting_by : Look → Bool
is_wanting_by IsWanting = true
is_wanting_by look = false

-- a step that reads what stands under a hash: where the lock is told, the answer is that of one value
abbrev pub ReadsObject : Bool → ObjHistory → Hash → Got → ObjHistory → (Hash → ObjValue) → Type 0
ReadsObject alone h hash got g t =
    StepReads obj_rules alone h (λ key. bytes_eq key hash) doubts_write got_look (λ read front x. Shows g.told (read hash).state front x) got g t

module _ {A : Type 0} where
  abbrev pub part_look : Result A DirFault → Look
  part_look (Ok got) = Tells
  part_look (Err (faults.Damaged bad)) = IsDamaged
  part_look (Err faults.Failed) = IsLost
  part_look (Err faults.NoMemory) = IsWanting

  -- the answer is right of these states
  abbrev pub IsGiven : ((Hash → State) → A → Type 0) → (Hash → ObjValue) → Result A DirFault → Type 0
  IsGiven reading read (Ok got) = reading (λ hash. (read hash).state) got
  IsGiven reading read (Err fault) = ⊥

  -- a step that reads these hashes of a partition, where `reading` tells which answers are right
  abbrev pub ReadsPart : Bool → ObjHistory → (Hash → Bool) → ((Hash → State) → A → Type 0) → Result A DirFault → ObjHistory → (Hash → ObjValue) → Type 0
  ReadsPart alone h at reading got g t =
      StepReads obj_rules alone h at doubts_write part_look (λ read front x. IsGiven reading read x) got g t

  -- the answer is right of these records
  abbrev pub IsRecorded : ((Hash → Records) → A → Type 0) → (Hash → ObjValue) → Result A DirFault → Type 0
  IsRecorded reading read (Ok got) = reading (λ hash. (read hash).records) got
  IsRecorded reading read (Err fault) = ⊥

  -- a step that reads the records that are filed under these hashes
  abbrev pub ReadsRecords : Bool → ObjHistory → (Hash → Bool) → ((Hash → Records) → A → Type 0) → Result A DirFault → ObjHistory → (Hash → ObjValue)
      → Type 0
  ReadsRecords alone h at reading got g t =
      StepReads obj_rules alone h at doubts_records part_look (λ read front x. IsRecorded reading read x) got g t

-- What a pass came to, and what each event counts for. (This project's own.)
use Rattle.std.specs.Prelude.{◌≡◌, ◌==◌, ◌&&◌, ℕ, Bool, true, false, if◌then◌else◌, Option, None, Some}
use Rattle.sw_outside.specs.Counts.{raised}
use Rattle.sw_container_steps.specs.Rules.{cont_ending}
use Rattle.sw_container_steps.specs.declared.cont_answer.ContAnswer.{ContAnswer}
use Rattle.sw_container_steps.specs.declared.cont_answer.ContAnswer.TheVariants as conts
use Rattle.sw_object_steps.specs.declared.answer.Answer.{Answer}
use Rattle.sw_object_steps.specs.declared.answer.Answer.TheVariants as answers
use Rattle.sw_object_steps.specs.declared.dir_fault.DirFault.{DirFault}
use Rattle.sw_object_steps.specs.declared.dir_fault.DirFault.TheVariants as faults
use Rattle.sw_step.specs.Rules.{has_made}
use Rattle.sw_pass.specs.declared.hindrance.Hindrance.{Hindrance}
use Rattle.sw_pass.specs.declared.hindrance.Hindrance.TheVariants.{Conflict, Failed, JournalFull, Missing}
use Rattle.sw_pass.specs.declared.outcome.Outcome.{Outcome}

-- ---- hindrances

abbrev pub status_of : Hindrance → ℕ
status_of Missing = 404
status_of Conflict = 409
status_of JournalFull = 503
status_of Failed = 507

-- want of memory hinders no pass, but ends it
abbrev pub fault_hindrance : DirFault → Option Hindrance
fault_hindrance (faults.Damaged bad) = Some Failed
fault_hindrance faults.Failed = Some Failed
fault_hindrance faults.NoMemory = None

-- answers that acknowledge a transfer hinder it neither. A node refuses none by another answer than a conflict
abbrev pub answer_hindrance : Answer → Option Hindrance
answer_hindrance (answers.Done front) = None
answer_hindrance (answers.Buried front) = None
answer_hindrance (answers.Took is) = None
answer_hindrance (answers.Conflict time) = None
answer_hindrance (answers.NotFound time) = Some Missing
answer_hindrance (answers.Mismatch second) = Some Missing
answer_hindrance answers.Exists = Some Missing
answer_hindrance answers.JournalFull = Some JournalFull
answer_hindrance (answers.Damaged bad) = Some Failed
answer_hindrance answers.Failed = Some Failed
answer_hindrance answers.NoMemory = None

-- the same of a step at a container. What stands refuses it where it isn't earlier than the step, or has live rows
abbrev pub cont_hindrance : ContAnswer → Option Hindrance
cont_hindrance (conts.New front) = None
cont_hindrance (conts.There front) = None
cont_hindrance (conts.Done front) = None
cont_hindrance conts.Absent = Some Missing
cont_hindrance (conts.Stale time) = Some Conflict
cont_hindrance (conts.NotEmpty count) = Some Conflict
cont_hindrance conts.HasRanges = Some Conflict
cont_hindrance conts.NoRanges = Some Missing
cont_hindrance (conts.Redirect shard) = Some Conflict
cont_hindrance (conts.StillOpen cursor) = Some Conflict
cont_hindrance (conts.Later number) = Some Conflict
cont_hindrance (conts.NotAcked lagging) = Some Conflict
cont_hindrance conts.JournalFull = Some JournalFull
cont_hindrance conts.Failed = Some Failed
cont_hindrance conts.NoMemory = None

-- a step at a container is acknowledged where it was made, or had nothing to change: the device has what it brought
abbrev pub is_acknowledged : ContAnswer → Bool
is_acknowledged answer = has_made (cont_ending answer)

-- ---- counts

abbrev pub nothing_yet : Outcome
nothing_yet = record { done = false; lost = 0; kept = None; later = None; asked = 0; sent = 0; left = 0 }

abbrev pub asking : Outcome → Outcome
asking o = record o { asked = raised o.asked }

abbrev pub sending : Outcome → Outcome
sending o = record o { sent = raised o.sent }

abbrev pub losing : Outcome → Outcome
losing o = record o { lost = raised o.lost; left = raised o.left }

-- a message wasn't answered, in a pass that doesn't count what is left by its messages
abbrev pub unanswered : Outcome → Outcome
unanswered o = record o { lost = raised o.lost }

-- a row came too late, under this number
abbrev pub putting_off : Outcome → ℕ → Outcome
putting_off o rowid = record o { later = Some rowid }

abbrev pub first_kept : Option Hindrance → Hindrance → Option Hindrance
first_kept None hindrance = Some hindrance
first_kept (Some kept) hindrance = Some kept

abbrev pub keeping : Outcome → Hindrance → Outcome
keeping o hindrance = record o { kept = first_kept o.kept hindrance }

abbrev pub hindered : Outcome → Hindrance → Outcome
hindered o hindrance = record o { kept = first_kept o.kept hindrance; left = raised o.left }

-- what something was missed for is left
abbrev pub leaving : Bool → Outcome → Outcome
leaving missed o = if missed then record o { left = raised o.left } else o

-- done exactly where nothing is left
abbrev pub finished : Outcome → Outcome
finished o = record o { done = (o.left == 0) }

-- done exactly where nothing is left, and a condition of the pass holds
abbrev pub finished_where : Bool → Outcome → Outcome
finished_where holds o = record o { done = (o.left == 0) && holds }

-- as the pass itself tells it
abbrev pub ended : Bool → ℕ → Outcome → Outcome
ended done left o = record o { done = done; left = left }

-- an answer that gave nothing hinders the pass. Want of memory counts for nothing, and ends it: it doesn't go on
abbrev pub Hinders : Option Hindrance → Outcome → Outcome → Bool → Type 0
Hinders (Some hindrance) o p on = (p ≡ hindered o hindrance) × (on ≡ true)
Hinders None o p on = (p ≡ o) × (on ≡ false)

-- an answer hindered the pass, and is kept where it is the first. Nothing that is counted is left by it. Want of memory ends the pass
abbrev pub Keeps : Option Hindrance → Outcome → Outcome → Bool → Type 0
Keeps (Some hindrance) o p on = (p ≡ keeping o hindrance) × (on ≡ true)
Keeps None o p on = (p ≡ o) × (on ≡ false)

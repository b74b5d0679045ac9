-- What the answers count for in passes that split a container. (This project's own.)
use Rattle.std.specs.Prelude.{◌≡◌, Bool, true, false, ◌⊎◌, Result, Ok, Err}
use Rattle.sw_container_steps.specs.declared.cont_answer.ContAnswer.{ContAnswer}
use Rattle.sw_outside.specs.declared.errors.NoMemory.{NoMemory}
use Rattle.sw_pass.specs.Outcomes.{Keeps, cont_hindrance, ended, is_acknowledged}
use Rattle.sw_pass.specs.declared.outcome.Outcome.{Outcome}
use Rattle.sw_cleave.specs.declared.counting.Came.{Came}

-- an answer that acknowledges the step counts for nothing, and one that doesn't is kept
abbrev pub Counts : ContAnswer → Outcome → Outcome → Bool → Type 0
Counts answer o p on =
    ((is_acknowledged answer ≡ true) × (p ≡ o) × (on ≡ true))
    ⊎ ((is_acknowledged answer ≡ false) × Keeps (cont_hindrance answer) o p on)

-- what a part of a pass came to, or that memory was wanted in it
abbrev pub ComesTo : (Came → Bool → Type 0) → Result Came NoMemory → Type 0
ComesTo part (Ok came) = part came true
ComesTo part (Err wanting) = (came : Came) × part came false

-- what it is answered where it came to this, with these counts; none where memory was wanted
abbrev pub IsOutcome : (Outcome → Came → Bool → Type 0) → Result Outcome NoMemory → Type 0
IsOutcome run (Ok outcome) = (p : Outcome) × (came : Came) × run p came true × (outcome ≡ ended came.done came.left p)
IsOutcome run (Err wanting) = (p : Outcome) × (came : Came) × run p came false

-- The text of what a pass came to. (This project's own.)
use Rattle.std.specs.Prelude.{ℕ, Bool, true, false, List, ◌++◌, codes, decimal, Option, None, Some}
use Rattle.sw_pass.specs.Outcomes.{status_of}
use Rattle.sw_pass.specs.declared.hindrance.Hindrance.{Hindrance}
use Rattle.sw_pass.specs.declared.outcome.Outcome.{Outcome}

abbrev pub done_text : Bool → List ℕ
done_text false = codes "0"
done_text true = codes "1"

-- the status of the first answer that hindered the pass, or a hyphen
abbrev pub kept_text : Option Hindrance → List ℕ
kept_text None = codes "-"
kept_text (Some hindrance) = decimal (status_of hindrance)

-- the number of the row that came too late for the pass, or a hyphen
abbrev pub later_text : Option ℕ → List ℕ
later_text None = codes "-"
later_text (Some rowid) = decimal rowid

-- the text line of an outcome
abbrev pub outcome_text : Outcome → List ℕ
outcome_text o =
    codes "done=" ++ (done_text o.done ++ (codes " lost=" ++ (decimal o.lost ++ (codes " kept=" ++ (kept_text o.kept
    ++ (codes " later=" ++ (later_text o.later ++ (codes " asked=" ++ (decimal o.asked
    ++ (codes " sent=" ++ (decimal o.sent ++ (codes " left=" ++ (decimal o.left ++ codes "\n")))))))))))))

-- A row that is sent on to each replica of a shard, and what that counts for. (OpenStack Swift's updater follows a redirect; that the row has to be
-- acknowledged by each replica of the shard is this project's own.)
use Rattle.std.specs.Prelude.{◌≡◌, ℕ, Bool, true, false, Some, ◌⊎◌, Result, Ok, Err}
use Rattle.sw_container_steps.specs.declared.cont_answer.ContAnswer.{ContAnswer}
use Rattle.sw_container_steps.specs.declared.cont_change.ContChange.TheVariants.{MergeRow}
use Rattle.sw_hashpath.specs.declared.place.Place.{Place}
use Rattle.sw_pass.specs.Outcomes.{Keeps, cont_hindrance, is_acknowledged, sending, unanswered}
use Rattle.sw_pass.specs.Rings.{is_place, replicas_in}
use Rattle.sw_pass.specs.Turns.{InTurn}
use Rattle.sw_pass.specs.declared.hindrance.Hindrance.TheVariants.{Failed}
use Rattle.sw_pass.specs.declared.outcome.Outcome.{Outcome}
use Rattle.sw_peer.specs.ContSights.{IsContMade}
use Rattle.sw_peer.specs.Sights.{Calls, Sight}
use Rattle.sw_peer.specs.declared.link.Link.TheVariants.{Sent}
use Rattle.sw_peer.specs.declared.link.Lost.{Lost}
use Rattle.sw_ring.specs.declared.ring.Ring.{Ring}
use Rattle.sw_rows.specs.declared.row.Row.{Row}

-- what is known of the nodes, and whether anything was missed for the thing at hand so far
pub record Course : Type 0 where
  pub sight : Sight
  pub missed : Bool

abbrev pub course : Sight → Bool → Course
course s missed = record { sight = s; missed = missed }

-- what a replica of the shard answered: it acknowledged the row, or something was missed
abbrev pub IsAnswered : Result ContAnswer Lost → Sight → Bool → Outcome → Course → Outcome → Bool → Type 0
IsAnswered (Ok answer) t missed o d p on =
    ((is_acknowledged answer ≡ true) × (d ≡ course t missed) × (p ≡ o) × (on ≡ true))
    ⊎ ((is_acknowledged answer ≡ false) × (d ≡ course t true) × Keeps (cont_hindrance answer) o p on)
IsAnswered (Err lost) t missed o d p on = (d ≡ course t true) × (p ≡ unanswered o) × (on ≡ true)

-- the row is sent to it
abbrev pub IsSentTo : Place → Row → ℕ → Course → Outcome → Course → Outcome → Bool → Type 0
IsSentTo shard row to c o d p on =
    (answer : Result ContAnswer Lost) × (mid : Sight) × Calls (IsContMade Sent to shard (MergeRow row)) c.sight Sent answer mid
    × IsAnswered answer mid c.missed (sending o) d p on

-- it is sent to all of them in their order, where the nodes know the shard; a replica that names another place is at fault
abbrev pub IsSentOn : Ring → Place → Row → Sight → Outcome → Course → Outcome → Bool → Type 0
IsSentOn ring shard row s o d p on =
    ((is_place ring.secrets shard ≡ true) × InTurn (IsSentTo shard row) (replicas_in ring shard) (course s false) o d p on)
    ⊎ ((is_place ring.secrets shard ≡ false) × (d ≡ course s true) × Keeps (Some Failed) o p on)

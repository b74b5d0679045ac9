-- What a listing across shards, or a count, leaves of the nodes, by what it is refused, and what the trail tells of it. (This project's own.)
use Rattle.std.specs.Prelude.{◌≡◌, ⊤, ℕ, ◌≤◌, true, List, [], ◌++◌, Some, Err}
use Rattle.sw_container_steps.specs.declared.cont_answer.ContAnswer.{ContAnswer}
use Rattle.sw_container_steps.specs.declared.cont_answer.ContAnswer.TheVariants as answers
use Rattle.sw_hashpath.specs.declared.place.Place.{Place}
use Rattle.sw_listing.specs.declared.query.Query.{Query}
use Rattle.sw_peer.specs.ContSights.{HoldsTables}
use Rattle.sw_peer.specs.Sights.{Sight}
use Rattle.sw_peer.specs.declared.line.Line.{Line}
use Rattle.sw_ring.specs.declared.ring.Ring.{Ring}
use Rattle.sw_sharded_listing.specs.Across.{IsListedAcross, Listing}
use Rattle.sw_sharded_listing.specs.Counts.{Count, IsCountedAcross}

-- ---- what is left

-- nothing was changed: the objects are what they were, and every device holds the tables that it held
pub record LeavesAll (old new : Sight) : Type 0 where
  pub nodes : new.nodes ≡ old.nodes
  pub objects : new.objects ≡ old.objects
  pub holds_all : HoldsTables old new
  pub alone : new.alone ≡ true → old.alone ≡ true
  pub faults : old.faults ≤ new.faults

-- whatever is told, listings and counts across shards change nothing
pub record ReadsLeaveAll : Type 0 where
  pub listing : (ring : Ring) (device : ℕ) (place : Place) (query : Query) (replica : ℕ) (old : Sight) (got : Listing) (new : Sight)
      → IsListedAcross ring device place query replica old got new → LeavesAll old new
  pub count : (ring : Ring) (device : ℕ) (place : Place) (replica : ℕ) (old : Sight) (got : Count) (new : Sight)
      → IsCountedAcross ring device place replica old got new → LeavesAll old new

-- ---- refusals

-- no other answer refuses a read
abbrev pub IsOfRead : ContAnswer → Type 0
IsOfRead answers.Absent = ⊤
IsOfRead answers.Failed = ⊤
IsOfRead answers.NoMemory = ⊤
IsOfRead answer = ⊥

pub record RefusalsAreFew : Type 0 where
  pub listing : (ring : Ring) (device : ℕ) (place : Place) (query : Query) (replica : ℕ) (old : Sight) (answer : ContAnswer) (new : Sight)
      → IsListedAcross ring device place query replica old (Err answer) new → IsOfRead answer
  pub count : (ring : Ring) (device : ℕ) (place : Place) (replica : ℕ) (old : Sight) (answer : ContAnswer) (new : Sight)
      → IsCountedAcross ring device place replica old (Err answer) new → IsOfRead answer

-- ---- trails

-- a door that keeps these lines has some more behind them
abbrev pub AddsLines : List Line → Sight → Type 0
AddsLines lines new = (more : List Line) × (new.trail ≡ Some (lines ++ more))

-- A trail tells what a container was listed as, and how it was counted: two that leave the same lines of the same container were told the same. Of a
-- listing that found no memory nothing is said, since it may have been its own. Behind a count other lines may stand, but where it found no memory
pub record TrailsTellOne : Type 0 where
  pub listing : (ring : Ring) (device : ℕ) (place : Place) (query : Query) (replica : ℕ) (lines : List Line) (old other : Sight) (got told : Listing)
      (new now : Sight) → old.trail ≡ Some lines → other.trail ≡ Some lines → IsListedAcross ring device place query replica old got new
      → IsListedAcross ring device place query replica other told now → ¬ (got ≡ Err answers.NoMemory) → ¬ (told ≡ Err answers.NoMemory)
      → new.trail ≡ now.trail → got ≡ told
  pub adds : (ring : Ring) (device : ℕ) (place : Place) (query : Query) (replica : ℕ) (lines : List Line) (old : Sight) (got : Listing) (new : Sight)
      → old.trail ≡ Some lines → IsListedAcross ring device place query replica old got new → AddsLines lines new
  pub count : (ring : Ring) (device : ℕ) (place : Place) (replica : ℕ) (lines : List Line) (old other : Sight) (got told : Count) (new now : Sight)
      (more others behind beyond : List Line) → old.trail ≡ Some lines → other.trail ≡ Some lines → IsCountedAcross ring device place replica old got new
      → IsCountedAcross ring device place replica other told now → new.trail ≡ Some (lines ++ more) → now.trail ≡ Some (lines ++ others)
      → (got ≡ Err answers.NoMemory → behind ≡ []) → (told ≡ Err answers.NoMemory → beyond ≡ []) → more ++ behind ≡ others ++ beyond
      → (got ≡ told) × (more ≡ others)
  pub counts : (ring : Ring) (device : ℕ) (place : Place) (replica : ℕ) (lines : List Line) (old : Sight) (got : Count) (new : Sight)
      → old.trail ≡ Some lines → IsCountedAcross ring device place replica old got new → AddsLines lines new

-- That no keeper of the nodes fails, where their count of faults is the constant 0. (This project's own.)
use Rattle.std.specs.Prelude.{◌≡◌, ℕ, Bool, Option, Result, Err}
use Rattle.sw_container_steps.specs.declared.cont_answer.ContAnswer.{ContAnswer}
use Rattle.sw_container_steps.specs.declared.cont_answer.ContAnswer.TheVariants as answers
use Rattle.sw_container_steps.specs.declared.cont_change.ContChange.{ContChange}
use Rattle.sw_core.specs.Worlds.{AllNodes, KeeperSeen, sight_of}
use Rattle.sw_hashpath.specs.declared.place.Place.{Place}
use Rattle.sw_keeper.specs.declared.tables.Tables.{Tables}
use Rattle.sw_peer.specs.ContSights.{IsContMade, IsLooked}
use Rattle.sw_peer.specs.declared.cont_event.ContEvent.{ContEvent}
use Rattle.sw_peer.specs.declared.link.Link.{Link}
use Rattle.sw_volume.specs.Tree.{Folders}

module _ {V K : Type 0} (tells : V → Bool) (files : V → Folders) (faults : V → ℕ) (keeps : KeeperSeen K) where
  -- no step that may change a container is answered that its keeper failed, whatever nodes it leaves
  abbrev pub NoChangeFails : Type 0
  NoChangeFails = ((keeper : K) → keeps.faults keeper ≡ 0) → (link : Link) (device : ℕ) (place : Place) (change : ContChange) (w after : AllNodes V K)
      → IsContMade link device place change (sight_of tells files faults keeps w) answers.Failed (sight_of tells files faults keeps after) → ⊥

  -- nor is a read
  abbrev pub NoLookFails : Type 0 → Type 0
  NoLookFails A = ((keeper : K) → keeps.faults keeper ≡ 0) → (link : Link) (device : ℕ) (place : Place) (reading : Option Tables → ℕ → Result A ContAnswer)
      (event : Result A ContAnswer → ContEvent)
      (w after : AllNodes V K)
      → IsLooked link device place reading event (sight_of tells files faults keeps w) (Err answers.Failed) (sight_of tells files faults keeps after) → ⊥

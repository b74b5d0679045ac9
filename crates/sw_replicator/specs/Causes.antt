-- How often a push asks, and why it isn't done. (This project's own.)
use Rattle.std.specs.Prelude.{◌≡◌, ◌≢◌, ◌==◌, ℕ, ◌+◌, ◌-◌, ◌^◌, min, false, length, List, Some, ◌⊎◌}
use Rattle.sw_outside.specs.Faults.{HasRisen}
use Rattle.sw_pass.specs.declared.hindrance.Hindrance.{Hindrance}
use Rattle.sw_pass.specs.declared.outcome.Outcome.{Outcome}
use Rattle.sw_object_steps.specs.Parts.{AreHashes}
use Rattle.sw_object_steps.specs.Rules.{ObjHistory}
use Rattle.sw_peer.specs.Sights.{Sight}
use Rattle.sw_replicator.specs.Meeting.{Between, state_by}
use Rattle.sw_replicator.specs.Pushing.{differing}
use Rattle.sw_suffix.specs.declared.told.SuffixHash.{SuffixHash}

-- both hashes were answered: one message asked for the hashes, and one for each differing suffix
pub record AsksEach (from to part : ℕ) (old new : Sight) (o : Outcome) : Type 0 where
  pub ours : List SuffixHash
  pub theirs : List SuffixHash
  pub our_history : ObjHistory
  pub their_history : ObjHistory
  pub ours_were : Between from part old new our_history
  pub theirs_were : Between to part old new their_history
  pub ours_are : AreHashes old.nodes.power part our_history.told (state_by our_history) ours
  pub theirs_are : AreHashes old.nodes.power part their_history.told (state_by their_history) theirs
  pub asked_is : o.asked ≡ min (1 + length (differing ours theirs)) (2 ^ 64 - 1)
  pub asks : new.asks ≡ min (old.asks + (1 + length (differing ours theirs))) (2 ^ 64 - 1)

-- or one of them wasn't, and the push ended
pub record AsksOnce (old new : Sight) (o : Outcome) : Type 0 where
  pub left : o.left ≡ 1
  pub asks : ((o.asked ≡ 0) × (new.asks ≡ old.asks)) ⊎ ((o.asked ≡ 1) × (new.asks ≡ min (old.asks + 1) (2 ^ 64 - 1)))

-- it is done exactly where nothing is left; and where it isn't, an answer was lost, which the door counted, or one hindered it
pub record HasCauses (old new : Sight) (o : Outcome) : Type 0 where
  pub done : o.done ≡ (o.left == 0)
  pub lost : o.lost ≢ 0 → HasRisen old.faults new.faults
  pub hindered : o.done ≡ false → (o.lost ≢ 0) ⊎ ((hindrance : Hindrance) × (o.kept ≡ Some hindrance))

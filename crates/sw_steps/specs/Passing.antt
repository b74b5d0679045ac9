-- A pass through a door that loses and repeats messages. (This project's own.)
use Rattle.std.specs.Prelude.{ℕ, Result}
use Rattle.sw_cleave.specs.Cleaving.{IsCleave}
use Rattle.sw_cleave.specs.Creating.{IsCreate}
use Rattle.sw_cont_replicator.specs.Pushing as rows
use Rattle.sw_hashpath.specs.declared.place.Place.{Place}
use Rattle.sw_lossy.specs.Losses.{around, begun}
use Rattle.sw_lossy.specs.declared.acts.Acts.{Acts}
use Rattle.sw_outside.specs.declared.errors.NoMemory.{NoMemory}
use Rattle.sw_pass.specs.declared.outcome.Outcome.{Outcome}
use Rattle.sw_peer.specs.Sights.{Sight}
use Rattle.sw_replicator.specs.Pushing.{IsPush}
use Rattle.sw_ring.specs.declared.ring.Ring.{Ring}
use Rattle.sw_updater.specs.Updating.{IsUpdate}

-- A push through such a door, around nodes that were seen so before it, and so after it. The door counts from 0 and delivers the messages of
-- the push as the acts say; what it says of messages behind the push tells nothing
pub record IsPushedOver (from to part : ℕ) (acts : Acts) (s : Sight) (result : Result Outcome NoMemory) (t : Sight) : Type 0 where
  pub acts_behind : Acts
  pub messages : ℕ
  pub faults : ℕ
  pub asks : ℕ
  pub pushes : IsPush from to part (begun acts s) result (around t acts_behind messages faults asks)

-- the same of a push of rows
pub record AreRowsPushedOver (ring : Ring) (from to : ℕ) (place : Place) (acts : Acts) (s : Sight) (result : Result Outcome NoMemory) (t : Sight) : Type 0 where
  pub acts_behind : Acts
  pub messages : ℕ
  pub faults : ℕ
  pub asks : ℕ
  pub pushes : rows.IsPush from to place ring (begun acts s) result (around t acts_behind messages faults asks)

-- the same of an update of the containers of a ring
pub record IsUpdateOver (ring : Ring) (device : ℕ) (acts : Acts) (s : Sight) (result : Result Outcome NoMemory) (t : Sight) : Type 0 where
  pub acts_behind : Acts
  pub messages : ℕ
  pub faults : ℕ
  pub asks : ℕ
  pub updates : IsUpdate ring device (begun acts s) result (around t acts_behind messages faults asks)

-- the same of a pass that moves a container's first open range to its shard, or takes its rows away
pub record IsCleftOver (ring : Ring) (device : ℕ) (place : Place) (acts : Acts) (s : Sight) (result : Result Outcome NoMemory) (t : Sight) : Type 0 where
  pub acts_behind : Acts
  pub messages : ℕ
  pub faults : ℕ
  pub asks : ℕ
  pub cleaves : IsCleave ring device place (begun acts s) result (around t acts_behind messages faults asks)

-- the same of a pass that splits a container into shards of so many live names, which are named by this time
pub record AreShardsCreatedOver (ring : Ring) (device : ℕ) (place : Place) (per_shard time : ℕ) (acts : Acts) (s : Sight) (result : Result Outcome NoMemory)
    (t : Sight) : Type 0 where
  pub acts_behind : Acts
  pub messages : ℕ
  pub faults : ℕ
  pub asks : ℕ
  pub creates : IsCreate ring device place per_shard time (begun acts s) result (around t acts_behind messages faults asks)

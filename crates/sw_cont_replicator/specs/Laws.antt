-- What is promised of pushes of rows, at nodes that nobody else changes meanwhile, to replicas that have left no name to a shard. (This project's own.)
use Rattle.std.specs.Prelude.{◌≡◌, ◌≢◌, ℕ, ◌<◌, true, List, All, None, Result}
use Rattle.sw_container_steps.specs.Entries.{rows_of}
use Rattle.sw_container_steps.specs.declared.cont_answer.ContAnswer.{ContAnswer}
use Rattle.sw_container_steps.specs.declared.cont_change.ContChange.{ContChange}
use Rattle.sw_container_steps.specs.declared.cont_change.ContChange.TheVariants.{EmptyOut, SetSync}
use Rattle.sw_cont_replicator.specs.Meeting.{Agree, GoesAlone, HasRow, IsDone, PointsTell, IsTold, TellsTruly, greatest, owed_above, replica, row_in}
use Rattle.sw_cont_replicator.specs.Pushing.{IsPush}
use Rattle.sw_hashpath.specs.declared.place.Place.{Place}
use Rattle.sw_outside.specs.declared.errors.NoMemory.{NoMemory}
use Rattle.sw_pass.specs.declared.outcome.Outcome.{Outcome}
use Rattle.sw_peer.specs.ContSights.{IsContMade}
use Rattle.sw_peer.specs.Sights.{Restarts, Sight}
use Rattle.sw_peer.specs.declared.link.Link.{Link}
use Rattle.sw_ring.specs.declared.ring.Ring.{Ring}

-- ---- one push

-- Where it is done the receiver has each row that the sender had above its sync point as the push began
abbrev pub PushesReach : Type 0
PushesReach = (from to : ℕ) (place : Place) (s t : Sight) → IsDone from to place s t
    → All (λ n. owed_above (replica s from place) to < n.rowid → HasRow (replica t to place) n.row) (rows_of (replica s from place)).list

-- Where moreover that point told truly, the receiver then has of each name the greatest of both rows, and the sender the row that it had
abbrev pub PushesMeet : Type 0
PushesMeet = (from to : ℕ) (place : Place) (s t : Sight) → IsDone from to place s t → TellsTruly to (replica s from place) (replica s to place)
    → (name : List ℕ)
    → (row_in (replica t to place) name ≡ greatest (row_in (replica s to place) name) (row_in (replica s from place) name))
    × (row_in (replica t from place) name ≡ row_in (replica s from place) name)

-- Sync points that told truly do so after a push, whatever came of it: with messages or answers lost, messages that came twice, refusals, calls that failed
-- or wanted memory
abbrev pub PushesKeepPoints : Type 0
PushesKeepPoints = (from to : ℕ) (place : Place) (ring : Ring) (s : Sight) (result : Result Outcome NoMemory) (t : Sight) → GoesAlone from to place s t
    → IsPush from to place ring s result t → PointsTell place s → PointsTell place t

-- ---- two pushes, there and back

-- A push from a to b that is done, from the sight s to m, and later one from b to a that is done, from n to t. In between nothing changed the container at
-- the two
pub record IsExchange (a b : ℕ) (place : Place) (s m n t : Sight) : Type 0 where
  pub there : IsDone a b place s m
  pub back : IsDone b a place n t
  pub a_same : replica n a place ≡ replica m a place
  pub b_same : replica n b place ≡ replica m b place

-- Where all points told truly as they began, both then have of each name the greatest of the rows of both; of rows that count the same, each the one that
-- it had
abbrev pub ExchangesMeet : Type 0
ExchangesMeet = (a b : ℕ) (place : Place) (s m n t : Sight) → IsExchange a b place s m n t → PointsTell place s → (name : List ℕ)
    → (row_in (replica t b place) name ≡ greatest (row_in (replica s b place) name) (row_in (replica s a place) name))
    × (row_in (replica t a place) name ≡ greatest (row_in (replica s a place) name) (row_in (replica t b place) name))

-- So where rows of a name that count the same are one, both then have the same row of it
abbrev pub ExchangesAgree : Type 0
ExchangesAgree = (a b : ℕ) (place : Place) (s m n t : Sight) → IsExchange a b place s m n t → PointsTell place s → (name : List ℕ)
    → Agree (row_in (replica s a place) name) (row_in (replica s b place) name)
    → (row_in (replica t a place) name ≡ greatest (row_in (replica s b place) name) (row_in (replica s a place) name))
    × (row_in (replica t b place) name ≡ greatest (row_in (replica s b place) name) (row_in (replica s a place) name))

-- ---- what else keeps points

-- where no device holds anything of the container
abbrev pub PointsBegin : Type 0
PointsBegin = (place : Place) (s : Sight) → ((d : ℕ) → replica s d place ≡ None) → PointsTell place s

-- A step at any container of any device keeps them, however it ends, but one that sets a point, and one that takes the rows away: a device whose rows are at
-- the shards has none of those that others know it to have
abbrev pub StepsKeepPoints : Type 0
StepsKeepPoints = (link : Link) (device : ℕ) (at : Place) (change : ContChange) (s : Sight) (answer : ContAnswer) (t : Sight) (place : Place)
    → IsContMade link device at change s answer t → ((to point : ℕ) → change ≢ SetSync to point) → change ≢ EmptyOut → IsTold device at s → t.alone ≡ true
    → PointsTell place s → PointsTell place t

-- and so does a restart
abbrev pub RestartsKeepPoints : Type 0
RestartsKeepPoints = (device : ℕ) (s t : Sight) (place : Place) → Restarts device s t → IsTold device place s → t.alone ≡ true
    → PointsTell place s → PointsTell place t

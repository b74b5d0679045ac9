-- The calls by which a container's first open range is moved to its shard, one after the other, and what they count for. (OpenStack Swift's sharder cleaves a
-- range at a time; that every device of the shard is asked, and acknowledged by itself, is this project's own.)
use Rattle.std.specs.Prelude.{◌≡◌, ℕ, ◌-◌, Bool, true, false, List, length, Option, None, Some, ◌⊎◌, Result, Ok, Err}
use Rattle.std.specs.List.{slice_get}
use Rattle.sw_container_steps.specs.Reads.{range_parcel_of, sharding_of}
use Rattle.sw_container_steps.specs.declared.cont_answer.ContAnswer.{ContAnswer}
use Rattle.sw_container_steps.specs.declared.cont_answer.ContAnswer.TheVariants.{Later}
use Rattle.sw_container_steps.specs.declared.cont_change.ContChange.{ContChange}
use Rattle.sw_container_steps.specs.declared.cont_change.ContChange.TheVariants.{Ack, CloseRange, EmptyOut, MergeRows}
use Rattle.sw_container_steps.specs.declared.sharding.Sharding.{Sharding}
use Rattle.sw_container_steps.specs.declared.syncing.Parcel.{Parcel}
use Rattle.sw_hashpath.specs.declared.place.Place.{Place}
use Rattle.sw_outside.specs.declared.errors.NoMemory.{NoMemory}
use Rattle.sw_pass.specs.Outcomes.{Keeps, cont_hindrance, is_acknowledged, nothing_yet, putting_off, sending, unanswered}
use Rattle.sw_pass.specs.Rings.{is_place, replicas_in}
use Rattle.sw_pass.specs.Turns.{InTurn}
use Rattle.sw_pass.specs.declared.hindrance.Hindrance.TheVariants.{Failed, Missing}
use Rattle.sw_pass.specs.declared.outcome.Outcome.{Outcome}
use Rattle.sw_peer.specs.ContSights.{IsContMade, IsLooked}
use Rattle.sw_peer.specs.Sights.{Calls, Sight}
use Rattle.sw_peer.specs.declared.cont_event.ContEvent.TheVariants.{Cleft, Sharded}
use Rattle.sw_peer.specs.declared.link.Link.TheVariants.{Local, Sent}
use Rattle.sw_peer.specs.declared.link.Lost.{Lost}
use Rattle.sw_ring.specs.declared.ring.Ring.{Ring}
use Rattle.sw_shard_range.specs.declared.range.Range.{Range}
use Rattle.sw_sync.specs.Points.{PointList}
use Rattle.sw_cleave.specs.Counting.{Counts, IsOutcome}
use Rattle.sw_cleave.specs.Shards.{least_point}
use Rattle.sw_cleave.specs.declared.counting.Came.{Came}

-- what it came to where it isn't done and this much is left
abbrev pub leaves : ℕ → Came
leaves left = record { done = false; left = left }

-- ---- one range

-- a range with this index, and the greatest number given out as its rows were read
module _ (device : ℕ) (place : Place) (range top : ℕ) where
  -- the container itself keeps that a device of the shard has the rows
  abbrev pub IsAcked : ℕ → Sight → Outcome → Sight → Outcome → Bool → Type 0
  IsAcked to s o t p on =
      (answer : ContAnswer) × Calls (IsContMade Local device place (Ack range to top)) s Local (Ok answer) t × Counts answer o p on

  -- only where the device acknowledged them, and before another one is asked
  abbrev pub IsHeard : ℕ → Result ContAnswer Lost → Sight → Outcome → Sight → Outcome → Bool → Type 0
  IsHeard to (Ok answer) s o t p on =
      ((is_acknowledged answer ≡ true) × IsAcked to s o t p on)
      ⊎ ((is_acknowledged answer ≡ false) × (t ≡ s) × Keeps (cont_hindrance answer) o p on)
  IsHeard to (Err lost) s o t p on = (t ≡ s) × (p ≡ unanswered o) × (on ≡ true)

  -- a device of the shard is sent them
  abbrev pub IsOffered : Place → ContChange → ℕ → Sight → Outcome → Sight → Outcome → Bool → Type 0
  IsOffered shard sent to s o t p on =
      (answer : Result ContAnswer Lost) × (mid : Sight) × Calls (IsContMade Sent to shard sent) s Sent answer mid × IsHeard to answer mid (sending o) t p on

-- what the answer to closing a range with so many open ones comes to
abbrev pub IsClosedBy : ℕ → ContAnswer → Outcome → Outcome → Came → Bool → Type 0
IsClosedBy open_ranges (Later rowid) o p came on = (p ≡ putting_off o rowid) × (came ≡ leaves open_ranges) × (on ≡ true)
IsClosedBy open_ranges answer o p came on =
    ((is_acknowledged answer ≡ true) × (came ≡ record { done = true; left = open_ranges - 1 }) × (p ≡ o) × (on ≡ true))
    ⊎ ((is_acknowledged answer ≡ false) × (came ≡ leaves open_ranges) × Keeps (cont_hindrance answer) o p on)

module _ (device : ℕ) (place : Place) where
  -- the container itself closes the range, for which it is told the devices of the shard
  abbrev pub IsClosed : ℕ → List ℕ → ℕ → Sight → Outcome → Sight → Outcome → Came → Bool → Type 0
  IsClosed range devices open_ranges s o t p came on =
      (answer : ContAnswer) × Calls (IsContMade Local device place (CloseRange range devices)) s Local (Ok answer) t
      × IsClosedBy open_ranges answer o p came on

  module _ (shard : Place) (range : ℕ) (devices : List ℕ) (open_ranges : ℕ) where
    -- all rows go to the devices of the shard in their order, each in one message, and then the range is closed, whatever they answered
    abbrev pub IsParcelMoved : Parcel → Sight → Outcome → Sight → Outcome → Came → Bool → Type 0
    IsParcelMoved parcel s o t p came on =
        ((mid : Sight) × (between : Outcome)
        × InTurn (IsOffered device place range parcel.top shard (MergeRows parcel.rows)) devices s o mid between true
        × IsClosed range devices open_ranges mid between t p came on)
        ⊎ (InTurn (IsOffered device place range parcel.top shard (MergeRows parcel.rows)) devices s o t p false × (on ≡ false))

    -- where its rows weren't read nothing is sent
    abbrev pub IsReadNext : Result Parcel ContAnswer → Sight → Outcome → Sight → Outcome → Came → Bool → Type 0
    IsReadNext (Ok parcel) s o t p came on = IsParcelMoved parcel s o t p came on
    IsReadNext (Err answer) s o t p came on = (t ≡ s) × (came ≡ leaves open_ranges) × Keeps (cont_hindrance answer) o p on

    -- the rows of the range above the least point of the shard's devices
    abbrev pub IsMoved : ℕ → Sight → Outcome → Sight → Outcome → Came → Bool → Type 0
    IsMoved above s o t p came on =
        (got : Result Parcel ContAnswer) × (mid : Sight)
        × Calls (IsLooked Local device place (range_parcel_of range above) (λ read. Cleft place range above read)) s Local (Ok got) mid
        × IsReadNext got mid o t p came on

-- ---- where all ranges are closed

-- what the answer to taking the rows away comes to
abbrev pub IsEmptiedBy : ContAnswer → Outcome → Outcome → Came → Bool → Type 0
IsEmptiedBy answer o p came on =
    ((is_acknowledged answer ≡ true) × (came ≡ record { done = true; left = 0 }) × (p ≡ o) × (on ≡ true))
    ⊎ ((is_acknowledged answer ≡ false) × (came ≡ leaves 1) × Keeps (cont_hindrance answer) o p on)

abbrev pub IsEmptied : ℕ → Place → Sight → Outcome → Sight → Outcome → Came → Bool → Type 0
IsEmptied device place s o t p came on =
    (answer : ContAnswer) × Calls (IsContMade Local device place EmptyOut) s Local (Ok answer) t × IsEmptiedBy answer o p came on

-- ---- the whole

module _ (ring : Ring) (device : ℕ) (place : Place) where
  -- memory ran out before a call
  abbrev pub Wants : Sight → Outcome → Sight → Outcome → Bool → Type 0
  Wants s o t p on = (t ≡ s) × (p ≡ o) × (on ≡ false)

  -- the range, where the nodes know its shard; a list that names another place is a fault
  abbrev pub IsRangeMoved : Range → ℕ → PointList → ℕ → Sight → Outcome → Sight → Outcome → Came → Bool → Type 0
  IsRangeMoved range cursor points open_ranges s o t p came on =
      ((is_place ring.secrets range.shard ≡ true)
      × (IsMoved device place range.shard cursor (replicas_in ring range.shard) open_ranges (least_point points cursor (replicas_in ring range.shard))
      s o t p came on ⊎ Wants s o t p on))
      ⊎ ((is_place ring.secrets range.shard ≡ false) × (t ≡ s) × (came ≡ leaves open_ranges) × Keeps (Some Failed) o p on)

  abbrev pub IsRangeNext : Option Range → ℕ → PointList → ℕ → Sight → Outcome → Sight → Outcome → Came → Bool → Type 0
  IsRangeNext (Some range) cursor points open_ranges s o t p came on = IsRangeMoved range cursor points open_ranges s o t p came on
  IsRangeNext None cursor points open_ranges s o t p came on = IsEmptied device place s o t p came on

  -- the range at the cursor, where it is there
  abbrev pub IsSplitNext : Option (List Range) → ℕ → PointList → Sight → Outcome → Sight → Outcome → Came → Bool → Type 0
  IsSplitNext None cursor points s o t p came on = (t ≡ s) × (came ≡ leaves 1) × Keeps (Some Missing) o p on
  IsSplitNext (Some ranges) cursor points s o t p came on =
      IsRangeNext (slice_get ranges cursor) cursor points (length ranges - cursor) s o t p came on

  abbrev pub IsShardingNext : Result Sharding ContAnswer → Sight → Outcome → Sight → Outcome → Came → Bool → Type 0
  IsShardingNext (Ok sharding) s o t p came on = IsSplitNext sharding.ranges sharding.cursor sharding.points s o t p came on
  IsShardingNext (Err answer) s o t p came on = (t ≡ s) × (came ≡ leaves 1) × Keeps (cont_hindrance answer) o p on

  -- first the container itself tells how far it is split
  abbrev pub IsRun : Sight → Sight → Outcome → Came → Bool → Type 0
  IsRun s t p came on =
      (got : Result Sharding ContAnswer) × (mid : Sight)
      × Calls (IsLooked Local device place sharding_of (λ read. Sharded place read)) s Local (Ok got) mid × IsShardingNext got mid nothing_yet t p came on

  -- and what it is answered
  abbrev pub IsCleave : Sight → Result Outcome NoMemory → Sight → Type 0
  IsCleave s result t = IsOutcome (IsRun s t) result

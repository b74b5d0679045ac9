-- No step at a container tells of a restart: so no pass that splits one does, and no read of how it is split.
use Rattle.std.proofs.Common.{ℕ, ◌-◌, Bool, true, false, List, [], ◌∷◌, length, refl, inl, inr, Option, Some, None, Result, Ok, Err}
use Rattle.std.specs.List.{slice_get}
use Rattle.sw_cleave.specs.Cleaving as cleaving
use Rattle.sw_cleave.specs.Cleaving.{IsClosed, IsHeard, IsMoved, IsOffered, IsParcelMoved, IsRangeMoved, IsRangeNext, IsReadNext, IsSplitNext}
use Rattle.sw_cleave.specs.Creating as creating
use Rattle.sw_cleave.specs.Creating.{AreCreated, IsCreated, IsCreatedAt, IsCutNext, IsFound, IsFoundNext, IsListGiven, IsListNext, IsListSent, IsListSet}
use Rattle.sw_cleave.specs.Creating.{IsSetNext, IsSplit, UpToFirst, others}
use Rattle.sw_container_steps.specs.Reads.{parcel_of, range_parcel_of, sharding_of}
use Rattle.sw_container_steps.specs.declared.cont_answer.ContAnswer.{ContAnswer}
use Rattle.sw_container_steps.specs.declared.cont_change.ContChange.{ContChange}
use Rattle.sw_container_steps.specs.declared.cont_change.ContChange.TheVariants.{Ack, CloseRange, Create, EmptyOut, MergeRows, SetRanges}
use Rattle.sw_container_steps.specs.declared.sharding.Sharding.{Sharding}
use Rattle.sw_container_steps.specs.declared.syncing.Parcel.{Parcel}
use Rattle.sw_hashpath.specs.declared.place.Place.{Place}
use Rattle.sw_keeper.specs.declared.tables.Tables.{Tables}
use Rattle.sw_outside.specs.declared.errors.NoMemory.{NoMemory}
use Rattle.sw_pass.specs.Outcomes.{nothing_yet, sending}
use Rattle.sw_pass.specs.Rings.{replicas_in}
use Rattle.sw_pass.specs.declared.outcome.Outcome.{Outcome}
use Rattle.sw_peer.specs.ContSights.{IsLooked}
use Rattle.sw_peer.specs.Sights.{Calls, Sight}
use Rattle.sw_peer.specs.declared.cont_event.ContEvent.{ContEvent}
use Rattle.sw_peer.specs.declared.cont_event.ContEvent.TheVariants.{Cleft, Parceled, Sharded}
use Rattle.sw_peer.specs.declared.link.Link.TheVariants.{Local, Sent}
use Rattle.sw_peer.specs.declared.link.Lost.{Lost}
use Rattle.sw_ring.specs.declared.ring.Ring.{Ring}
use Rattle.sw_shard_range.specs.declared.range.Range.{Range}
use Rattle.sw_sync.specs.Points.{PointList}
use Rattle.sw_nodes.proofs.Calming.{IsCalm, calm-calls, calm-join, calm-same, calm-trails, changed-calm, turn-calm}

looked-calm : {A : Type 0} (device : ℕ) (place : Place) (reading : Option Tables → ℕ → Result A ContAnswer) (event : Result A ContAnswer → ContEvent)
    (s : Sight) (r : Result (Result A ContAnswer) Lost) (t : Sight) → Calls (IsLooked Local device place reading event) s Local r t → IsCalm s t
looked-calm {A} device place reading event s r t p =
    calm-calls (IsLooked Local device place reading event) (λ a x b made. calm-trails a b _ _ refl made.trail) s Local r t p

-- things that are created in their order, up to the first that isn't made
up-to-first-calm : {A : Type 0} (one : A → Sight → Outcome → Sight → Outcome → Bool → Bool → Type 0)
    → ((x : A) (s : Sight) (o : Outcome) (t : Sight) (p : Outcome) (made on : Bool) → one x s o t p made on → IsCalm s t)
    → (xs : List A) (s : Sight) (o : Outcome) (t : Sight) (p : Outcome) (made on : Bool) → UpToFirst one xs s o t p made on → IsCalm s t
up-to-first-calm {A} one each [] s o t p made on is = calm-same s t is.0
up-to-first-calm {A} one each (x ∷ xs) s o t p made on (inl went) =
    calm-join s went.0 t (each x s o went.0 went.1 true true went.2) (up-to-first-calm one each xs went.0 went.1 t p made on went.3)
up-to-first-calm {A} one each (x ∷ xs) s o t p made on (inr stopped) = each x s o t p false on stopped.0

module _ (device : ℕ) (place : Place) where
  pub sharding-calm : (s : Sight) (got : Result Sharding ContAnswer) (t : Sight)
      → Calls (IsLooked Local device place sharding_of (λ read. Sharded place read)) s Local (Ok got) t → IsCalm s t
  sharding-calm s got t call = looked-calm device place sharding_of (λ read. Sharded place read) s (Ok got) t call

  -- ---- rows of a range go to its shard

  heard-calm : (range top to : ℕ) (r : Result ContAnswer Lost) (s : Sight) (o : Outcome) (t : Sight) (p : Outcome) (on : Bool)
      → IsHeard device place range top to r s o t p on → IsCalm s t
  heard-calm range top to (Ok answer) s o t p on (inl acked) = changed-calm Local device place (Ack range to top) s (Ok acked.1.0) t acked.1.1
  heard-calm range top to (Ok answer) s o t p on (inr hindered) = calm-same s t hindered.1
  heard-calm range top to (Err lost) s o t p on is = calm-same s t is.0

  offered-calm : (range top : ℕ) (shard : Place) (sent : ContChange) (to : ℕ) (s : Sight) (o : Outcome) (t : Sight) (p : Outcome) (on : Bool)
      → IsOffered device place range top shard sent to s o t p on → IsCalm s t
  offered-calm range top shard sent to s o t p on is =
      calm-join s is.1 t (changed-calm Sent to shard sent s is.0 is.1 is.2) (heard-calm range top to is.0 is.1 (sending o) t p on is.3)

  closed-calm : (range : ℕ) (devices : List ℕ) (open_ranges : ℕ) (s : Sight) (o : Outcome) (t : Sight) (p : Outcome) (came : _) (on : Bool)
      → IsClosed device place range devices open_ranges s o t p came on → IsCalm s t
  closed-calm range devices open_ranges s o t p came on is = changed-calm Local device place (CloseRange range devices) s (Ok is.0) t is.1

  module _ (shard : Place) (range : ℕ) (devices : List ℕ) (open_ranges : ℕ) where
    parcel-calm : (parcel : Parcel) (s : Sight) (o : Outcome) (t : Sight) (p : Outcome) (came : _) (on : Bool)
        → IsParcelMoved device place shard range devices open_ranges parcel s o t p came on → IsCalm s t
    parcel-calm parcel s o t p came on (inl went) =
        calm-join s went.0 t
        (turn-calm (IsOffered device place range parcel.top shard (MergeRows parcel.rows)) (offered-calm range parcel.top shard (MergeRows parcel.rows))
        devices s o went.0 went.1 true went.2)
        (closed-calm range devices open_ranges went.0 went.1 t p came on went.3)
    parcel-calm parcel s o t p came on (inr stopped) =
        turn-calm (IsOffered device place range parcel.top shard (MergeRows parcel.rows)) (offered-calm range parcel.top shard (MergeRows parcel.rows))
        devices s o t p false stopped.0

    rows-read-calm : (got : Result Parcel ContAnswer) (s : Sight) (o : Outcome) (t : Sight) (p : Outcome) (came : _) (on : Bool)
        → IsReadNext device place shard range devices open_ranges got s o t p came on → IsCalm s t
    rows-read-calm (Ok parcel) s o t p came on is = parcel-calm parcel s o t p came on is
    rows-read-calm (Err answer) s o t p came on is = calm-same s t is.0

    moved-calm : (above : ℕ) (s : Sight) (o : Outcome) (t : Sight) (p : Outcome) (came : _) (on : Bool)
        → IsMoved device place shard range devices open_ranges above s o t p came on → IsCalm s t
    moved-calm above s o t p came on is =
        calm-join s is.1 t
        (looked-calm device place (range_parcel_of range above) (λ read. Cleft place range above read) s (Ok is.0) is.1 is.2)
        (rows-read-calm is.0 is.1 o t p came on is.3)

  -- ---- a cleaving, whatever came of it

  module _ (ring : Ring) where
    range-calm : (range : Range) (cursor : ℕ) (points : PointList) (open_ranges : ℕ) (s : Sight) (o : Outcome) (t : Sight) (p : Outcome) (came : _)
        (on : Bool) → IsRangeMoved ring device place range cursor points open_ranges s o t p came on → IsCalm s t
    range-calm range cursor points open_ranges s o t p came on (inl (is, inl moved)) = moved-calm range.shard cursor _ open_ranges _ s o t p came on moved
    range-calm range cursor points open_ranges s o t p came on (inl (is, inr wants)) = calm-same s t wants.0
    range-calm range cursor points open_ranges s o t p came on (inr faulty) = calm-same s t faulty.1

    range-next-calm : (found : Option Range) (cursor : ℕ) (points : PointList) (open_ranges : ℕ) (s : Sight) (o : Outcome) (t : Sight) (p : Outcome)
        (came : _) (on : Bool) → IsRangeNext ring device place found cursor points open_ranges s o t p came on → IsCalm s t
    range-next-calm (Some range) cursor points open_ranges s o t p came on is = range-calm range cursor points open_ranges s o t p came on is
    range-next-calm None cursor points open_ranges s o t p came on is = changed-calm Local device place EmptyOut s (Ok is.0) t is.1

    split-next-calm : (ranges : Option (List Range)) (cursor : ℕ) (points : PointList) (s : Sight) (o : Outcome) (t : Sight) (p : Outcome) (came : _)
        (on : Bool) → IsSplitNext ring device place ranges cursor points s o t p came on → IsCalm s t
    split-next-calm None cursor points s o t p came on is = calm-same s t is.0
    split-next-calm (Some ranges) cursor points s o t p came on is =
        range-next-calm (slice_get ranges cursor) cursor points (length ranges - cursor) s o t p came on is

    cleaving-next-calm : (got : Result Sharding ContAnswer) (s : Sight) (o : Outcome) (t : Sight) (p : Outcome) (came : _) (on : Bool)
        → cleaving.IsShardingNext ring device place got s o t p came on → IsCalm s t
    cleaving-next-calm (Ok sharding) s o t p came on is = split-next-calm sharding.ranges sharding.cursor sharding.points s o t p came on is
    cleaving-next-calm (Err answer) s o t p came on is = calm-same s t is.0

    cleaving-calm : (s t : Sight) (p : Outcome) (came : _) (on : Bool) → cleaving.IsRun ring device place s t p came on → IsCalm s t
    cleaving-calm s t p came on is =
        calm-join s is.1 t (sharding-calm s is.0 is.1 is.2) (cleaving-next-calm is.0 is.1 nothing_yet t p came on is.3)

    pub cleave-calm : (s : Sight) (result : Result Outcome NoMemory) (t : Sight) → cleaving.IsCleave ring device place s result t → IsCalm s t
    cleave-calm s (Ok outcome) t is = cleaving-calm s t is.0 is.1 true is.2
    cleave-calm s (Err wanting) t is = cleaving-calm s t is.0 is.1 false is.2

    -- ---- a list of ranges is set, and goes to other devices

    list-sent-calm : (list : ContChange) (to : ℕ) (s : Sight) (o : Outcome) (t : Sight) (p : Outcome) (on : Bool) → IsListSent place list to s o t p on
        → IsCalm s t
    list-sent-calm list to s o t p on is = changed-calm Sent to place list s is.0 t is.1

    given-calm : (list : ContChange) (s : Sight) (o : Outcome) (t : Sight) (p : Outcome) (came : _) (on : Bool)
        → IsListGiven ring device place list s o t p came on → IsCalm s t
    given-calm list s o t p came on is =
        turn-calm (IsListSent place list) (list-sent-calm list) (others ring device place) s o t p on is.0

    set-next-calm : (list : ContChange) (answer : ContAnswer) (s : Sight) (o : Outcome) (t : Sight) (p : Outcome) (came : _) (on : Bool)
        → IsSetNext ring device place list answer s o t p came on → IsCalm s t
    set-next-calm list answer s o t p came on (inl given) = given-calm list s o t p came on given.1
    set-next-calm list answer s o t p came on (inr hindered) = calm-same s t hindered.1

    list-set-calm : (list : ContChange) (s : Sight) (o : Outcome) (t : Sight) (p : Outcome) (came : _) (on : Bool)
        → IsListSet ring device place list s o t p came on → IsCalm s t
    list-set-calm list s o t p came on is =
        calm-join s is.1 t (changed-calm Local device place list s (Ok is.0) is.1 is.2) (set-next-calm list is.0 is.1 o t p came on is.3)

    -- ---- shards are created

    module _ (time : ℕ) where
      created-calm : (shard : Place) (to : ℕ) (s : Sight) (o : Outcome) (t : Sight) (p : Outcome) (made on : Bool) → IsCreated time shard to s o t p made on
          → IsCalm s t
      created-calm shard to s o t p made on is = changed-calm Sent to shard (Create time) s is.0 t is.1

      created-at-calm : (shard : Place) (devices : List ℕ) (s : Sight) (o : Outcome) (t : Sight) (p : Outcome) (made on : Bool)
          → IsCreatedAt time shard devices s o t p made on → IsCalm s t
      created-at-calm shard devices s o t p made on is = up-to-first-calm (IsCreated time shard) (created-calm shard) devices s o t p made on is

      all-created-calm : (ranges : List Range) (s : Sight) (o : Outcome) (t : Sight) (p : Outcome) (made on : Bool)
          → AreCreated time ring ranges s o t p made on
          → IsCalm s t
      all-created-calm ranges s o t p made on is =
          up-to-first-calm (λ (range : Range). IsCreatedAt time range.shard (replicas_in ring range.shard))
          (λ range. created-at-calm range.shard (replicas_in ring range.shard)) ranges s o t p made on is

      split-calm : (ranges : List Range) (s : Sight) (o : Outcome) (t : Sight) (p : Outcome) (came : _) (on : Bool)
          → IsSplit ring device place time ranges s o t p came on → IsCalm s t
      split-calm ranges s o t p came on (inl went) =
          calm-join s went.0 t (all-created-calm ranges s o went.0 went.1 true true went.2)
          (list-set-calm (SetRanges ranges) went.0 went.1 t p came on went.3)
      split-calm ranges s o t p came on (inr stopped) = all-created-calm ranges s o t p false on stopped.0

      cut-calm : (cut : Option (List Range)) (s : Sight) (o : Outcome) (t : Sight) (p : Outcome) (came : _) (on : Bool)
          → IsCutNext ring device place time cut s o t p came on → IsCalm s t
      cut-calm (Some ranges) s o t p came on is = split-calm ranges s o t p came on is
      cut-calm None s o t p came on is = calm-same s t is.0

    -- ---- a creation, whatever came of it

    module _ (per_shard time : ℕ) where
      found-next-calm : (got : Result Parcel ContAnswer) (s : Sight) (o : Outcome) (t : Sight) (p : Outcome) (came : _) (on : Bool)
          → IsFoundNext ring device place per_shard time got s o t p came on → IsCalm s t
      found-next-calm (Ok parcel) s o t p came on (inl is) = cut-calm time is.0 s o t p came on is.2
      found-next-calm (Ok parcel) s o t p came on (inr wants) = calm-same s t wants.0
      found-next-calm (Err answer) s o t p came on is = calm-same s t is.0

      found-calm : (s : Sight) (o : Outcome) (t : Sight) (p : Outcome) (came : _) (on : Bool) → IsFound ring device place per_shard time s o t p came on
          → IsCalm s t
      found-calm s o t p came on is =
          calm-join s is.1 t (looked-calm device place (parcel_of device) (λ read. Parceled place device read) s (Ok is.0) is.1 is.2)
          (found-next-calm is.0 is.1 o t p came on is.3)

      list-next-calm : (ranges : Option (List Range)) (s : Sight) (o : Outcome) (t : Sight) (p : Outcome) (came : _) (on : Bool)
          → IsListNext ring device place per_shard time ranges s o t p came on → IsCalm s t
      list-next-calm None s o t p came on is = found-calm s o t p came on is
      list-next-calm (Some ranges) s o t p came on is = given-calm (SetRanges ranges) s o t p came on is

      creating-next-calm : (got : Result Sharding ContAnswer) (s : Sight) (o : Outcome) (t : Sight) (p : Outcome) (came : _) (on : Bool)
          → creating.IsShardingNext ring device place per_shard time got s o t p came on → IsCalm s t
      creating-next-calm (Ok sharding) s o t p came on is = list-next-calm sharding.ranges s o t p came on is
      creating-next-calm (Err answer) s o t p came on is = calm-same s t is.0

      creating-calm : (s t : Sight) (p : Outcome) (came : _) (on : Bool) → creating.IsRun ring device place per_shard time s t p came on → IsCalm s t
      creating-calm s t p came on is =
          calm-join s is.1 t (sharding-calm s is.0 is.1 is.2) (creating-next-calm is.0 is.1 nothing_yet t p came on is.3)

      pub creation-calm : (s : Sight) (result : Result Outcome NoMemory) (t : Sight) → creating.IsCreate ring device place per_shard time s result t
          → IsCalm s t
      creation-calm s (Ok outcome) t is = creating-calm s t is.0 is.1 true is.2
      creation-calm s (Err wanting) t is = creating-calm s t is.0 is.1 false is.2

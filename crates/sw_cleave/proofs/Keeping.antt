-- What each part of a pass keeps: the nodes and the objects; faults don't fall, each loss has one, and no message asked for hashes or files.
use Rattle.std.proofs.Common.{◌≡◌, ◌⊎◌, ◌∙◌, ℕ, Bool, true, false, List, [], ◌∷◌, Option, Some, None, Result, Ok, Err}
use Rattle.std.proofs.Common.{ap, arith, inl, inr, refl, subst, sym}
use Rattle.std.specs.List.{slice_get}
use Rattle.std.specs.Prelude.{◌-◌, length}
use Rattle.sw_cleave.proofs.Calling.{Anywhere, look-moves, made-moves}
use Rattle.sw_cleave.specs.Cleaving.{IsAcked, IsClosed, IsClosedBy, IsEmptied, IsEmptiedBy, IsHeard, IsMoved, IsOffered, IsParcelMoved, IsRangeMoved}
use Rattle.sw_cleave.specs.Cleaving.{IsRangeNext, IsReadNext, IsRun, IsShardingNext, IsSplitNext, Wants}
use Rattle.sw_cleave.specs.Counting as counting
use Rattle.sw_cleave.specs.Shards.{least_point}
use Rattle.sw_cleave.specs.declared.counting.Came.{Came}
use Rattle.sw_container_steps.specs.Reads.{range_parcel_of, sharding_of}
use Rattle.sw_container_steps.specs.declared.cont_answer.ContAnswer.{ContAnswer}
use Rattle.sw_container_steps.specs.declared.cont_answer.ContAnswer.TheVariants as conts
use Rattle.sw_container_steps.specs.declared.cont_change.ContChange.{ContChange}
use Rattle.sw_container_steps.specs.declared.cont_change.ContChange.TheVariants.{Ack, CloseRange, EmptyOut, MergeRows}
use Rattle.sw_container_steps.specs.declared.sharding.Sharding.{Sharding}
use Rattle.sw_container_steps.specs.declared.syncing.Parcel.{Parcel}
use Rattle.sw_hashpath.specs.declared.place.Place.{Place}
use Rattle.sw_pass.proofs.Counts.{Counts, counts-keeping, counts-same, counts-sending, counts-trans}
use Rattle.sw_pass.specs.Outcomes.{Keeps, cont_hindrance, nothing_yet, sending, unanswered}
use Rattle.sw_pass.specs.Rings.{replicas_in}
use Rattle.sw_pass.specs.Turns.{InTurn}
use Rattle.sw_pass.specs.declared.hindrance.Hindrance.{Hindrance}
use Rattle.sw_pass.specs.declared.hindrance.Hindrance.TheVariants.{Failed, Missing}
use Rattle.sw_pass.specs.declared.outcome.Outcome.{Outcome}
use Rattle.sw_peer.proofs.ContCalls.{cont-moves-refl, cont-moves-trans}
use Rattle.sw_peer.specs.ContSights.{ContMoves, IsContMade}
use Rattle.sw_peer.specs.Sights.{Calls, Sight}
use Rattle.sw_peer.specs.declared.cont_event.ContEvent.TheVariants.{Cleft, Sharded}
use Rattle.sw_peer.specs.declared.link.Link.TheVariants.{Local, Sent}
use Rattle.sw_peer.specs.declared.link.Lost.{Lost}
use Rattle.sw_ring.specs.declared.ring.Ring.{Ring}
use Rattle.sw_shard_range.specs.declared.range.Range.{Range}
use Rattle.sw_sync.specs.Points.{PointList}

pub record Passes (s : Sight) (o : Outcome) (t : Sight) (p : Outcome) : Type 0 where
  pub moves : ContMoves Anywhere s t
  pub counts : Counts s.faults t.faults o p
  pub asked : p.asked ≡ o.asked

pub passes-same : (s : Sight) (o : Outcome) (t : Sight) (p : Outcome) → ContMoves Anywhere s t → p ≡ o → Passes s o t p
passes-same s o t p moves same = record {
  moves = moves;
  counts = counts-same s.faults t.faults o p same;
  asked = ap (λ (x : Outcome). x.asked) same;
}

pub passes-trans : (a : Sight) (o : Outcome) (b : Sight) (p : Outcome) (c : Sight) (q : Outcome) → Passes a o b p → Passes b p c q → Passes a o c q
passes-trans a o b p c q one two = record {
  moves = cont-moves-trans Anywhere a b c one.moves two.moves;
  counts = counts-trans a.faults b.faults c.faults o p q one.moves.faults two.moves.faults one.counts two.counts;
  asked = two.asked ∙ one.asked;
}

pub stays : (s t : Sight) → t ≡ s → ContMoves Anywhere s t
stays s t same = subst (ContMoves Anywhere s) (sym same) (cont-moves-refl Anywhere s)

-- ---- counts

pub passes-keeping : (h : Option Hindrance) (s : Sight) (o : Outcome) (t : Sight) (p : Outcome) (on : Bool) → ContMoves Anywhere s t → Keeps h o p on
    → Passes s o t p
passes-keeping (Some hindrance) s o t p on moves keeps =
    subst (λ (x : Outcome). Passes s o t x) (sym keeps.0)
    (record { moves = moves; counts = counts-keeping s.faults t.faults o hindrance; asked = refl })
passes-keeping None s o t p on moves keeps = passes-same s o t p moves keeps.0

passes-counted : (answer : ContAnswer) (s : Sight) (o : Outcome) (t : Sight) (p : Outcome) (on : Bool) → ContMoves Anywhere s t
    → counting.Counts answer o p on → Passes s o t p
passes-counted answer s o t p on moves (inl held) = passes-same s o t p moves held.1
passes-counted answer s o t p on moves (inr other) = passes-keeping (cont_hindrance answer) s o t p on moves other.1

passes-closed : (open_ranges : ℕ) (answer : ContAnswer) (s : Sight) (o : Outcome) (t : Sight) (p : Outcome) (came : Came) (on : Bool) → ContMoves Anywhere s t
    → IsClosedBy open_ranges answer o p came on → Passes s o t p
passes-closed open_ranges (conts.Later rowid) s o t p came on moves is =
    subst (λ (x : Outcome). Passes s o t x) (sym is.0)
    (record { moves = moves; counts = record { lost = inl refl; left = inl refl; lasts = λ cause. cause }; asked = refl })
passes-closed open_ranges answer s o t p came on moves (inl held) = passes-same s o t p moves held.2
passes-closed open_ranges answer s o t p came on moves (inr other) = passes-keeping (cont_hindrance answer) s o t p on moves other.2

passes-emptied : (answer : ContAnswer) (s : Sight) (o : Outcome) (t : Sight) (p : Outcome) (came : Came) (on : Bool) → ContMoves Anywhere s t
    → IsEmptiedBy answer o p came on → Passes s o t p
passes-emptied answer s o t p came on moves (inl held) = passes-same s o t p moves held.2
passes-emptied answer s o t p came on moves (inr other) = passes-keeping (cont_hindrance answer) s o t p on moves other.2

-- ---- one device of the shard

module _ (device : ℕ) (place : Place) (range top : ℕ) where
  ack-passes : (to : ℕ) (s : Sight) (o : Outcome) (t : Sight) (p : Outcome) (on : Bool) → IsAcked device place range top to s o t p on → Passes s o t p
  ack-passes to s o t p on is =
      passes-counted is.0 s o t p on (made-moves Local device place (Ack range to top) s (Ok is.0) t is.1) is.2

  hear-passes : (to : ℕ) (answer : Result ContAnswer Lost) (s : Sight) (o : Outcome) (t : Sight) (p : Outcome) (on : Bool) (a : Sight) → ContMoves Anywhere a s
      → ((lost : Lost) → answer ≡ Err lost → Counts a.faults s.faults o (unanswered o)) → IsHeard device place range top to answer s o t p on
      → Passes a o t p
  hear-passes to (Ok answer) s o t p on a moves risen (inl held) =
      passes-trans a o s o t p (passes-same a o s o moves refl) (ack-passes to s o t p on held.1)
  hear-passes to (Ok answer) s o t p on a moves risen (inr other) =
      passes-trans a o s o t p (passes-same a o s o moves refl) (passes-keeping (cont_hindrance answer) s o t p on (stays s t other.1) other.2)
  hear-passes to (Err lost) s o t p on a moves risen is =
      passes-trans a o s (unanswered o) t p (record { moves = moves; counts = risen lost refl; asked = refl })
      (passes-same s (unanswered o) t p (stays s t is.0) is.1)

  pub offer-passes : (shard : Place) (sent : ContChange) (to : ℕ) (s : Sight) (o : Outcome) (t : Sight) (p : Outcome) (on : Bool)
      → IsOffered device place range top shard sent to s o t p on → Passes s o t p
  offer-passes shard sent to s o t p on is =
      passes-trans s o s (sending o) t p
      (record { moves = cont-moves-refl Anywhere s; counts = counts-sending s.faults s.faults o; asked = refl })
      (hear-passes to is.0 is.1 (sending o) t p on s (made-moves Sent to shard sent s is.0 is.1 is.2) (losses is.0 is.2) is.3)
    where
      losses : (answer : Result ContAnswer Lost) → Calls (IsContMade Sent to shard sent) s Sent answer is.1 → (lost : Lost) → answer ≡ Err lost
          → Counts s.faults is.1.faults (sending o) (unanswered (sending o))
      losses (Ok answer) call lost same = cc
      losses (Err gone) call lost same = record { lost = inr call.1; left = inl refl; lasts = λ cause. inl (omega arith) }

  pub offers-pass : (shard : Place) (sent : ContChange) (devices : List ℕ) (s : Sight) (o : Outcome) (t : Sight) (p : Outcome) (on : Bool)
      → InTurn (IsOffered device place range top shard sent) devices s o t p on → Passes s o t p
  offers-pass shard sent [] s o t p on is = passes-same s o t p (stays s t is.0) is.1
  offers-pass shard sent (to ∷ devices) s o t p on (inl went) =
      passes-trans s o went.0 went.1 t p (offer-passes shard sent to s o went.0 went.1 true went.2) (offers-pass shard sent devices went.0 went.1 t p on went.3)
  offers-pass shard sent (to ∷ devices) s o t p on (inr stopped) = offer-passes shard sent to s o t p false stopped.0

-- ---- the container itself

module _ (device : ℕ) (place : Place) where
  close-passes : (range : ℕ) (devices : List ℕ) (open_ranges : ℕ) (s : Sight) (o : Outcome) (t : Sight) (p : Outcome) (came : Came) (on : Bool)
      → IsClosed device place range devices open_ranges s o t p came on → Passes s o t p
  close-passes range devices open_ranges s o t p came on is =
      passes-closed open_ranges is.0 s o t p came on (made-moves Local device place (CloseRange range devices) s (Ok is.0) t is.1) is.2

  empty-passes : (s : Sight) (o : Outcome) (t : Sight) (p : Outcome) (came : Came) (on : Bool) → IsEmptied device place s o t p came on → Passes s o t p
  empty-passes s o t p came on is = passes-emptied is.0 s o t p came on (made-moves Local device place EmptyOut s (Ok is.0) t is.1) is.2

  module _ (shard : Place) (range : ℕ) (devices : List ℕ) (open_ranges : ℕ) where
    parcel-passes : (parcel : Parcel) (s : Sight) (o : Outcome) (t : Sight) (p : Outcome) (came : Came) (on : Bool)
        → IsParcelMoved device place shard range devices open_ranges parcel s o t p came on → Passes s o t p
    parcel-passes parcel s o t p came on (inl went) =
        passes-trans s o went.0 went.1 t p
        (offers-pass device place range parcel.top shard (MergeRows parcel.rows) devices s o went.0 went.1 true went.2)
        (close-passes range devices open_ranges went.0 went.1 t p came on went.3)
    parcel-passes parcel s o t p came on (inr stopped) =
        offers-pass device place range parcel.top shard (MergeRows parcel.rows) devices s o t p false stopped.0

    read-passes : (got : Result Parcel ContAnswer) (s : Sight) (o : Outcome) (t : Sight) (p : Outcome) (came : Came) (on : Bool)
        → IsReadNext device place shard range devices open_ranges got s o t p came on → Passes s o t p
    read-passes (Ok parcel) s o t p came on is = parcel-passes parcel s o t p came on is
    read-passes (Err answer) s o t p came on is = passes-keeping (cont_hindrance answer) s o t p on (stays s t is.0) is.2

    move-passes : (above : ℕ) (s : Sight) (o : Outcome) (t : Sight) (p : Outcome) (came : Came) (on : Bool)
        → IsMoved device place shard range devices open_ranges above s o t p came on → Passes s o t p
    move-passes above s o t p came on is =
        let moves = look-moves Local device place (range_parcel_of range above) (λ read. Cleft place range above read) s (Ok is.0) is.1 is.2 in
        passes-trans s o is.1 o t p (passes-same s o is.1 o moves refl) (read-passes is.0 is.1 o t p came on is.3)

-- ---- the whole

module _ (ring : Ring) (device : ℕ) (place : Place) where
  range-passes : (range : Range) (cursor : ℕ) (points : PointList) (open_ranges : ℕ) (s : Sight) (o : Outcome) (t : Sight) (p : Outcome) (came : Came)
      (on : Bool) → IsRangeMoved ring device place range cursor points open_ranges s o t p came on → Passes s o t p
  range-passes range cursor points open_ranges s o t p came on (inr other) = passes-keeping (Some Failed) s o t p on (stays s t other.1) other.3
  range-passes range cursor points open_ranges s o t p came on (inl known) = by known.1
    where
      by : IsMoved device place range.shard cursor (replicas_in ring range.shard) open_ranges (least_point points cursor (replicas_in ring range.shard))
          s o t p came on ⊎ Wants ring device place s o t p on → Passes s o t p
      by (inl moved) =
          move-passes device place range.shard cursor (replicas_in ring range.shard) open_ranges (least_point points cursor (replicas_in ring range.shard))
          s o t p came on moved
      by (inr wanting) = passes-same s o t p (stays s t wanting.0) wanting.1

  next-passes : (next : Option Range) (cursor : ℕ) (points : PointList) (open_ranges : ℕ) (s : Sight) (o : Outcome) (t : Sight) (p : Outcome) (came : Came)
      (on : Bool) → IsRangeNext ring device place next cursor points open_ranges s o t p came on → Passes s o t p
  next-passes (Some range) cursor points open_ranges s o t p came on is = range-passes range cursor points open_ranges s o t p came on is
  next-passes None cursor points open_ranges s o t p came on is = empty-passes device place s o t p came on is

  split-passes : (ranges : Option (List Range)) (cursor : ℕ) (points : PointList) (s : Sight) (o : Outcome) (t : Sight) (p : Outcome) (came : Came) (on : Bool)
      → IsSplitNext ring device place ranges cursor points s o t p came on → Passes s o t p
  split-passes None cursor points s o t p came on is = passes-keeping (Some Missing) s o t p on (stays s t is.0) is.2
  split-passes (Some ranges) cursor points s o t p came on is =
      next-passes (slice_get ranges cursor) cursor points (length ranges - cursor) s o t p came on is

  pub told-passes : (got : Result Sharding ContAnswer) (s : Sight) (o : Outcome) (t : Sight) (p : Outcome) (came : Came) (on : Bool)
      → IsShardingNext ring device place got s o t p came on → Passes s o t p
  told-passes (Ok sharding) s o t p came on is = split-passes sharding.ranges sharding.cursor sharding.points s o t p came on is
  told-passes (Err answer) s o t p came on is = passes-keeping (cont_hindrance answer) s o t p on (stays s t is.0) is.2

  pub run-passes : (s t : Sight) (p : Outcome) (came : Came) (on : Bool) → IsRun ring device place s t p came on → Passes s nothing_yet t p
  run-passes s t p came on is =
      let moves = look-moves Local device place sharding_of (λ read. Sharded place read) s (Ok is.0) is.1 is.2 in
      passes-trans s nothing_yet is.1 nothing_yet t p (passes-same s nothing_yet is.1 nothing_yet moves refl)
      (told-passes is.0 is.1 nothing_yet t p came on is.3)

-- A pass that is done: its container has gone on.
use Rattle.std.proofs.Common.{◌≡◌, ◌<◌, ◌⊎◌, ◌∙◌, ℕ, Bool, true, false, List, [], ◌∷◌, ◌++◌, length, Option, Some, None, Result, Ok, Err}
use Rattle.std.proofs.Common.{ap, cond, inl, inr, refl, subst, sym, true≢false}
use Rattle.std.specs.List.{slice_get}
use Rattle.std.specs.Prelude.{◌-◌}
use Rattle.sw_cleave.proofs.Calling.{Anywhere, look-moves, made-moves}
use Rattle.sw_cleave.proofs.Leaving.{ClosesAbove, HasEmptied, closing-leaves, emptying-leaves, made-leaves}
use Rattle.sw_cleave.proofs.Keeping.{run-passes, told-passes}
use Rattle.sw_cleave.specs.Cleaving.{IsClosed, IsClosedBy, IsEmptied, IsEmptiedBy, IsMoved, IsParcelMoved, IsRangeMoved, IsRangeNext, IsReadNext, IsRun}
use Rattle.sw_cleave.specs.Cleaving.{IsShardingNext, IsSplitNext, Wants, leaves}
use Rattle.sw_cleave.specs.Laws.{DonePassesGoOn, HasGoneOn, IsTold}
use Rattle.sw_cleave.specs.Shards.{least_point}
use Rattle.sw_cleave.specs.declared.counting.Came.{Came}
use Rattle.sw_container_steps.specs.Laws.{left}
use Rattle.sw_container_steps.specs.Presence.{deletion_after, is_no_time}
use Rattle.sw_container_steps.specs.Reads.{sharding_of}
use Rattle.sw_container_steps.specs.Steps.{cont_refusal}
use Rattle.sw_container_steps.specs.declared.cont_answer.ContAnswer.{ContAnswer}
use Rattle.sw_container_steps.specs.declared.cont_answer.ContAnswer.TheVariants as conts
use Rattle.sw_container_steps.specs.declared.cont_change.ContChange.{ContChange}
use Rattle.sw_container_steps.specs.declared.cont_change.ContChange.TheVariants.{CloseRange, EmptyOut}
use Rattle.sw_container_steps.specs.declared.sharding.Sharding.{Sharding}
use Rattle.sw_container_steps.specs.declared.syncing.Parcel.{Parcel}
use Rattle.sw_hashpath.specs.declared.place.Place.{Place}
use Rattle.sw_keeper.specs.declared.tables.Tables.{Tables}
use Rattle.sw_pass.specs.Outcomes.{is_acknowledged, nothing_yet}
use Rattle.sw_pass.specs.Rings.{replicas_in}
use Rattle.sw_pass.specs.declared.outcome.Outcome.{Outcome}
use Rattle.sw_peer.specs.ContSights.{ContMoves, IsContMade, IsLooked}
use Rattle.sw_peer.specs.Sights.{Calls, Comes, IsSame, Nodes, Sight, cont_lock}
use Rattle.sw_peer.specs.declared.cont_event.ContEvent.TheVariants.{Sharded}
use Rattle.sw_peer.specs.declared.link.Link.TheVariants.{Local}
use Rattle.sw_ring.specs.declared.ring.Ring.{Ring}
use Rattle.sw_shard_range.specs.declared.range.Range.{Range}
use Rattle.sw_sync.specs.Points.{PointList}

-- ---- calls at the device itself

-- its step comes once
local-once : {A : Type 0} (step : Sight → A → Sight → Type 0) (a : Sight) (answer : A) (b : Sight) → Calls step a Local (Ok answer) b
    → (mid : Sight) × step a answer mid × IsSame mid b
local-once {A} step a answer b call =
    let came : Comes step a (answer ∷ []) b = subst (λ (earlier : List A). Comes step a (earlier ++ answer ∷ []) b) (call.1 refl) call.2 in
    (came.0, came.1, came.2)

-- nobody else changes the nodes, and the device tells what it has
abbrev pub Sure : ℕ → Place → Sight → Type 0
Sure device place s = (s.alone ≡ true) × IsTold device place s

sure-before : (device : ℕ) (place : Place) (a b : Sight) → ContMoves Anywhere a b → Sure device place b → Sure device place a
sure-before device place a b moves sure = (
  moves.alone sure.0,
  sym ((moves.containers.grows (cont_lock a.nodes device place)).told)
      ∙ (ap (λ (n : Nodes). (b.containers.seen (cont_lock n device place)).told) (sym moves.nodes) ∙ sure.1),
)

told-after : (device : ℕ) (place : Place) (a b : Sight) → ContMoves Anywhere a b → IsTold device place a → IsTold device place b
told-after device place a b moves told =
    ap (λ (n : Nodes). (b.containers.seen (cont_lock n device place)).told) moves.nodes
    ∙ ((moves.containers.grows (cont_lock a.nodes device place)).told ∙ told)

module _ (device : ℕ) (place : Place) where
  -- an acknowledged step wasn't refused, and left what it leaves
  call-leaves : (change : ContChange) (P : Option Tables → Type 0) → ((t : Option Tables) → cont_refusal t place change ≡ None → P (left t place change))
      → (a : Sight) (answer : ContAnswer) (b : Sight) → Calls (IsContMade Local device place change) a Local (Ok answer) b
      → is_acknowledged answer ≡ true → Sure device place b → P (b.containers.holds device place)
  call-leaves change P leaving a answer b call acknowledged sure = by (local-once (IsContMade Local device place change) a answer b call)
    where
      was : Sure device place a
      was = sure-before device place a b (made-moves Local device place change a (Ok answer) b call) sure

      by : (mid : Sight) × IsContMade Local device place change a answer mid × IsSame mid b → P (b.containers.holds device place)
      by came =
          let mid = came.0 in
          let made : IsContMade Local device place change a answer mid = came.1 in
          let alone : mid.alone ≡ true = sym (ap (λ (x : Sight). x.alone) came.2.same) ∙ sure.0 in
          let found =
          made-leaves mid.alone (a.containers.seen (cont_lock a.nodes device place)) made.step.held place change answer
          (mid.containers.seen (cont_lock a.nodes device place)) (mid.containers.holds device place) made.step.step alone was.1 acknowledged in
          subst P (sym (ap (λ (x : Sight). x.containers.holds device place) came.2.same ∙ found.1)) (leaving (made.step.held place) found.0)

  -- what was told of how far the container is split is what it holds
  abbrev Looks : Sight → Result Sharding ContAnswer → Sight → Type 0
  Looks = IsLooked Local device place sharding_of (λ read. Sharded place read)

  look-tells : (a : Sight) (sharding : Sharding) (b : Sight) → Calls Looks a Local (Ok (Ok sharding)) b → Sure device place b
      → (held : Tables) × (a.containers.holds device place ≡ Some held) × (sharding.cursor ≡ held.cursor)
  look-tells a sharding b call sure = by (local-once Looks a (Ok sharding) b call)
    where
      told : (t : Option Tables) (front : ℕ) → Ok sharding ≡ sharding_of t front → (held : Tables) × (t ≡ Some held) × (sharding.cursor ≡ held.cursor)
      told None front is = cc
      told (Some t) front is = at (is_no_time (deletion_after t.put_time t.delete_time)) is
        where
          split : Sharding
          split = record { ranges = t.ranges; cursor = t.cursor; points = t.points; emptied = t.emptied }

          at : (b : Bool) → Ok sharding ≡ cond b (Ok split) (Err conts.Absent) → (held : Tables) × (Some t ≡ Some held) × (sharding.cursor ≡ held.cursor)
          at true is = (t, refl, cc)
          at false is = cc

      by : (mid : Sight) × Looks a (Ok sharding) mid × IsSame mid b
          → (held : Tables) × (a.containers.holds device place ≡ Some held) × (sharding.cursor ≡ held.cursor)
      by came =
          let mid = came.0 in
          let looked : Looks a (Ok sharding) mid = came.1 in
          let alone : mid.alone ≡ true = sym (ap (λ (x : Sight). x.alone) came.2.same) ∙ sure.0 in
          let was : Sure device place a =
          sure-before device place a b (look-moves Local device place sharding_of (λ read. Sharded place read) a (Ok (Ok sharding)) b call) sure in
          let telling : (mid.containers.seen (cont_lock a.nodes device place)).told ≡ true =
          (looked.moves.containers.grows (cont_lock a.nodes device place)).told ∙ was.1 in
          let front : ℕ = length (mid.containers.seen (cont_lock a.nodes device place)).journal.entries in
          told (a.containers.holds device place) front
          (looked.step.step.shown refl
          ∙ ap (λ (t : Option Tables). sharding_of t front)
          (looked.step.step.held alone telling refl place refl ∙ (looked.step.is_held alone place refl ∙ looked.holds_all alone device place)))

-- ---- what one that is done came to

not-left : (came : Came) (left : ℕ) → came ≡ leaves left → came.done ≡ true → ⊥
not-left came left is done = true≢false (sym done ∙ ap (λ (x : Came). x.done) is)

never : true ≡ false → ⊥
never is = cc

closed-acks : (open_ranges : ℕ) (answer : ContAnswer) (o p : Outcome) (came : Came) (on : Bool) → IsClosedBy open_ranges answer o p came on
    → came.done ≡ true → is_acknowledged answer ≡ true
closed-acks open_ranges (conts.Later rowid) o p came on is done = absurd (not-left came open_ranges is.1 done)
closed-acks open_ranges answer o p came on (inl held) done = held.0
closed-acks open_ranges answer o p came on (inr other) done = absurd (not-left came open_ranges other.1 done)

emptied-acks : (answer : ContAnswer) (o p : Outcome) (came : Came) (on : Bool) → IsEmptiedBy answer o p came on → came.done ≡ true
    → is_acknowledged answer ≡ true
emptied-acks answer o p came on (inl held) done = held.0
emptied-acks answer o p came on (inr other) done = absurd (not-left came 1 other.1 done)

module _ (device : ℕ) (place : Place) (t : Sight) (sure : Sure device place t) where
  -- with this many closed as it began
  abbrev pub Further : ℕ → Type 0
  Further cursor = HasEmptied (t.containers.holds device place) ⊎ ClosesAbove cursor (t.containers.holds device place)

  close-further : (range : ℕ) (devices : List ℕ) (open_ranges : ℕ) (s : Sight) (o p : Outcome) (came : Came) (on : Bool)
      → IsClosed device place range devices open_ranges s o t p came on → came.done ≡ true → Further range
  close-further range devices open_ranges s o p came on is done =
      inr (call-leaves device place (CloseRange range devices) (ClosesAbove range) (λ x allowed. closing-leaves x place range devices allowed) s is.0 t is.1
      (closed-acks open_ranges is.0 o p came on is.2 done) sure)

  empty-further : (cursor : ℕ) (s : Sight) (o p : Outcome) (came : Came) (on : Bool) → IsEmptied device place s o t p came on → came.done ≡ true
      → Further cursor
  empty-further cursor s o p came on is done =
      inl (call-leaves device place EmptyOut HasEmptied (λ x allowed. emptying-leaves x place allowed) s is.0 t is.1
      (emptied-acks is.0 o p came on is.2 done) sure)

  read-further : (shard : Place) (range : ℕ) (devices : List ℕ) (open_ranges : ℕ) (got : Result Parcel ContAnswer) (s : Sight) (o p : Outcome) (came : Came)
      → IsReadNext device place shard range devices open_ranges got s o t p came true → came.done ≡ true → Further range
  read-further shard range devices open_ranges (Err answer) s o p came is done = absurd (not-left came open_ranges is.1 done)
  read-further shard range devices open_ranges (Ok parcel) s o p came is done = by is
    where
      by : IsParcelMoved device place shard range devices open_ranges parcel s o t p came true → Further range
      by (inl went) = close-further range devices open_ranges went.0 went.1 p came true went.3 done
      by (inr stopped) = absurd (never stopped.1)

  module _ (ring : Ring) where
    range-further : (range : Range) (cursor : ℕ) (points : PointList) (open_ranges : ℕ) (s : Sight) (o p : Outcome) (came : Came)
        → IsRangeMoved ring device place range cursor points open_ranges s o t p came true → came.done ≡ true → Further cursor
    range-further range cursor points open_ranges s o p came (inr other) done = absurd (not-left came open_ranges other.2 done)
    range-further range cursor points open_ranges s o p came (inl known) done = by known.1
      where
        by : IsMoved device place range.shard cursor (replicas_in ring range.shard) open_ranges (least_point points cursor (replicas_in ring range.shard))
            s o t p came true ⊎ Wants ring device place s o t p true → Further cursor
        by (inl moved) =
            read-further range.shard cursor (replicas_in ring range.shard) open_ranges moved.0 moved.1 o p came moved.3 done
        by (inr wanting) = absurd (never wanting.2)

    next-further : (next : Option Range) (cursor : ℕ) (points : PointList) (open_ranges : ℕ) (s : Sight) (o p : Outcome) (came : Came)
        → IsRangeNext ring device place next cursor points open_ranges s o t p came true → came.done ≡ true → Further cursor
    next-further (Some range) cursor points open_ranges s o p came is done = range-further range cursor points open_ranges s o p came is done
    next-further None cursor points open_ranges s o p came is done = empty-further cursor s o p came true is done

    split-further : (ranges : Option (List Range)) (cursor : ℕ) (points : PointList) (s : Sight) (o p : Outcome) (came : Came)
        → IsSplitNext ring device place ranges cursor points s o t p came true → came.done ≡ true → Further cursor
    split-further None cursor points s o p came is done = absurd (not-left came 1 is.1 done)
    split-further (Some ranges) cursor points s o p came is done =
        next-further (slice_get ranges cursor) cursor points (length ranges - cursor) s o p came is done

-- ---- the whole

module _ (ring : Ring) (device : ℕ) (place : Place) where
  joined : (s t : Sight) (cursor : ℕ) → (held : Tables) × (s.containers.holds device place ≡ Some held) × (cursor ≡ held.cursor)
      → HasEmptied (t.containers.holds device place) ⊎ ClosesAbove cursor (t.containers.holds device place)
      → HasGoneOn (s.containers.holds device place) (t.containers.holds device place)
  joined s t cursor was (inl gone) = record { before = was.0; after = gone.0; held = was.1; holds = gone.1; further = inl gone.2 }
  joined s t cursor was (inr more) = record {
    before = was.0;
    after = more.0;
    held = was.1;
    holds = more.1;
    further = inr (subst (λ (n : ℕ). n < more.0.cursor) was.2 more.2);
  }

  told-goes : (got : Result Sharding ContAnswer) (s mid t : Sight) (o p : Outcome) (came : Came)
      → Calls (Looks device place) s Local (Ok got) mid → IsShardingNext ring device place got mid o t p came true → came.done ≡ true
      → Sure device place t → HasGoneOn (s.containers.holds device place) (t.containers.holds device place)
  told-goes (Err answer) s mid t o p came call is done sure = absurd (not-left came 1 is.1 done)
  told-goes (Ok sharding) s mid t o p came call is done sure =
      joined s t sharding.cursor
      (look-tells device place s sharding mid call
      (sure-before device place mid t (told-passes ring device place (Ok sharding) mid o t p came true is).moves sure))
      (split-further device place t sure ring sharding.ranges sharding.cursor sharding.points mid o p came is done)

pub done-passes-go-on : DonePassesGoOn
done-passes-go-on ring device place s t outcome is done told alone =
    let p = is.0 in
    let came = is.1 in
    let run : IsRun ring device place s t p came true = is.2 in
    told-goes ring device place run.0 s run.1 t nothing_yet p came run.2 run.3 (ap (λ (x : Outcome). x.done) (sym is.3) ∙ done)
    (alone, told-after device place s t (run-passes ring device place s t p came true run).moves told)

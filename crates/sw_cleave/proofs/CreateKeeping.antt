-- What each part of a pass that creates shards keeps.
use Rattle.std.proofs.Common.{◌≡◌, ℕ, Bool, false, true, List, [], ◌∷◌, Option, Some, None, Result, Ok, Err, ap, arith, inl, inr, refl, subst, sym}
use Rattle.sw_cleave.proofs.Calling.{Anywhere, look-moves, made-moves}
use Rattle.sw_cleave.proofs.Keeping.{Passes, passes-keeping, passes-same, passes-trans, stays}
use Rattle.sw_cleave.specs.Creating.{AreCreated, IsCreated, IsCreatedAt, IsCreationHeard, IsCutNext, IsFound, IsFoundNext, IsListGiven, IsListHeard, IsListNext}
use Rattle.sw_cleave.specs.Creating.{IsListSent, IsListSet, IsRun, IsSetNext, IsShardingNext, IsSplit, UpToFirst, others}
use Rattle.sw_cleave.specs.declared.counting.Came.{Came}
use Rattle.sw_container_steps.specs.Reads.{parcel_of, sharding_of}
use Rattle.sw_container_steps.specs.declared.cont_answer.ContAnswer.{ContAnswer}
use Rattle.sw_container_steps.specs.declared.cont_change.ContChange.{ContChange}
use Rattle.sw_container_steps.specs.declared.cont_change.ContChange.TheVariants.{Create, SetRanges}
use Rattle.sw_container_steps.specs.declared.sharding.Sharding.{Sharding}
use Rattle.sw_container_steps.specs.declared.syncing.Parcel.{Parcel}
use Rattle.sw_hashpath.specs.declared.place.Place.{Place}
use Rattle.sw_pass.proofs.Counts.{counts-hinders, counts-losing, counts-sending}
use Rattle.sw_pass.specs.Outcomes.{Hinders, cont_hindrance, nothing_yet, sending}
use Rattle.sw_pass.specs.Rings.{replicas_in}
use Rattle.sw_pass.specs.Turns.{InTurn}
use Rattle.sw_pass.specs.declared.hindrance.Hindrance.{Hindrance}
use Rattle.sw_pass.specs.declared.hindrance.Hindrance.TheVariants.{Failed}
use Rattle.sw_pass.specs.declared.outcome.Outcome.{Outcome}
use Rattle.sw_peer.proofs.ContCalls.{cont-moves-refl}
use Rattle.sw_peer.specs.ContSights.{ContMoves, IsContMade}
use Rattle.sw_peer.specs.Sights.{Calls, Sight}
use Rattle.sw_peer.specs.declared.cont_event.ContEvent.TheVariants.{Parceled, Sharded}
use Rattle.sw_peer.specs.declared.link.Link.TheVariants.{Local, Sent}
use Rattle.sw_peer.specs.declared.link.Lost.{Lost}
use Rattle.sw_ring.specs.declared.ring.Ring.{Ring}
use Rattle.sw_shard_range.specs.declared.range.Range.{Range}

-- ---- one after the other

-- a message is counted before it is sent
sending-passes : (s : Sight) (o : Outcome) → Passes s o s (sending o)
sending-passes s o = record { moves = cont-moves-refl Anywhere s; counts = counts-sending s.faults s.faults o; asked = refl }

module _ {A : Type 0} where
  first-pass : (one : A → Sight → Outcome → Sight → Outcome → Bool → Bool → Type 0)
      → ((x : A) (s : Sight) (o : Outcome) (t : Sight) (p : Outcome) (made on : Bool) → one x s o t p made on → Passes s o t p)
      → (xs : List A) (s : Sight) (o : Outcome) (t : Sight) (p : Outcome) (made on : Bool) → UpToFirst one xs s o t p made on → Passes s o t p
  first-pass one each [] s o t p made on is = passes-same s o t p (stays s t is.0) is.1
  first-pass one each (x ∷ xs) s o t p made on (inl went) =
      passes-trans s o went.0 went.1 t p (each x s o went.0 went.1 true true went.2) (first-pass one each xs went.0 went.1 t p made on went.3)
  first-pass one each (x ∷ xs) s o t p made on (inr stopped) = each x s o t p false on stopped.0

  turns-pass : (one : A → Sight → Outcome → Sight → Outcome → Bool → Type 0)
      → ((x : A) (s : Sight) (o : Outcome) (t : Sight) (p : Outcome) (on : Bool) → one x s o t p on → Passes s o t p)
      → (xs : List A) (s : Sight) (o : Outcome) (t : Sight) (p : Outcome) (on : Bool) → InTurn one xs s o t p on → Passes s o t p
  turns-pass one each [] s o t p on is = passes-same s o t p (stays s t is.0) is.1
  turns-pass one each (x ∷ xs) s o t p on (inl went) =
      passes-trans s o went.0 went.1 t p (each x s o went.0 went.1 true went.2) (turns-pass one each xs went.0 went.1 t p on went.3)
  turns-pass one each (x ∷ xs) s o t p on (inr stopped) = each x s o t p false stopped.0

-- ---- shards

create-passes : (time : ℕ) (shard : Place) (to : ℕ) (s : Sight) (o : Outcome) (t : Sight) (p : Outcome) (made on : Bool)
    → IsCreated time shard to s o t p made on → Passes s o t p
create-passes time shard to s o t p made on is = passes-trans s o s (sending o) t p (sending-passes s o) (by is.0 is.1 is.2)
  where
    by : (answer : Result ContAnswer Lost) → Calls (IsContMade Sent to shard (Create time)) s Sent answer t → IsCreationHeard answer (sending o) p made on
        → Passes s (sending o) t p
    by (Ok answer) call (inl held) = passes-same s (sending o) t p (made-moves Sent to shard (Create time) s (Ok answer) t call) held.1
    by (Ok answer) call (inr other) =
        passes-keeping (cont_hindrance answer) s (sending o) t p on (made-moves Sent to shard (Create time) s (Ok answer) t call) other.1
    by (Err lost) call gone =
        subst (λ (x : Outcome). Passes s (sending o) t x) (sym gone.0)
        (record {
          moves = made-moves Sent to shard (Create time) s (Err lost) t call;
          counts = record { lost = inr call.1; left = inl refl; lasts = λ cause. inl (omega arith) };
          asked = refl;
        })

create-at-passes : (time : ℕ) (shard : Place) (devices : List ℕ) (s : Sight) (o : Outcome) (t : Sight) (p : Outcome) (made on : Bool)
    → IsCreatedAt time shard devices s o t p made on → Passes s o t p
create-at-passes time shard devices s o t p made on is =
    first-pass (IsCreated time shard) (create-passes time shard) devices s o t p made on is

creates-pass : (time : ℕ) (ring : Ring) (ranges : List Range) (s : Sight) (o : Outcome) (t : Sight) (p : Outcome) (made on : Bool)
    → AreCreated time ring ranges s o t p made on → Passes s o t p
creates-pass time ring ranges s o t p made on is =
    first-pass (λ (range : Range). IsCreatedAt time range.shard (replicas_in ring range.shard))
    (λ range. create-at-passes time range.shard (replicas_in ring range.shard)) ranges s o t p made on is

-- ---- the list

passes-hinders : (h : Option Hindrance) (s : Sight) (o : Outcome) (t : Sight) (p : Outcome) (on : Bool) → ContMoves Anywhere s t → Hinders h o p on
    → Passes s o t p
passes-hinders h s o t p on moves hinders =
    record { moves = moves; counts = counts-hinders s.faults t.faults h o p on hinders; asked = by h hinders }
  where
    by : (k : Option Hindrance) → Hinders k o p on → p.asked ≡ o.asked
    by (Some hindrance) is = ap (λ (x : Outcome). x.asked) is.0
    by None is = ap (λ (x : Outcome). x.asked) is.0

send-passes : (place : Place) (list : ContChange) (to : ℕ) (s : Sight) (o : Outcome) (t : Sight) (p : Outcome) (on : Bool)
    → IsListSent place list to s o t p on → Passes s o t p
send-passes place list to s o t p on is = passes-trans s o s (sending o) t p (sending-passes s o) (by is.0 is.1 is.2)
  where
    by : (answer : Result ContAnswer Lost) → Calls (IsContMade Sent to place list) s Sent answer t → IsListHeard answer (sending o) p on
        → Passes s (sending o) t p
    by (Ok answer) call (inl held) = passes-same s (sending o) t p (made-moves Sent to place list s (Ok answer) t call) held.1
    by (Ok answer) call (inr other) =
        passes-hinders (cont_hindrance answer) s (sending o) t p on (made-moves Sent to place list s (Ok answer) t call) other.1
    by (Err lost) call gone =
        subst (λ (x : Outcome). Passes s (sending o) t x) (sym gone.0)
        (record {
          moves = made-moves Sent to place list s (Err lost) t call;
          counts = counts-losing s.faults t.faults (sending o) call.1;
          asked = refl;
        })

module _ (ring : Ring) (device : ℕ) (place : Place) where
  give-passes : (list : ContChange) (s : Sight) (o : Outcome) (t : Sight) (p : Outcome) (came : Came) (on : Bool)
      → IsListGiven ring device place list s o t p came on → Passes s o t p
  give-passes list s o t p came on is = turns-pass (IsListSent place list) (send-passes place list) (others ring device place) s o t p on is.0

  next-passes : (list : ContChange) (answer : ContAnswer) (s : Sight) (o : Outcome) (t : Sight) (p : Outcome) (came : Came) (on : Bool)
      → IsSetNext ring device place list answer s o t p came on → Passes s o t p
  next-passes list answer s o t p came on (inl held) = give-passes list s o t p came on held.1
  next-passes list answer s o t p came on (inr other) = passes-keeping (cont_hindrance answer) s o t p on (stays s t other.1) other.3

  set-passes : (list : ContChange) (s : Sight) (o : Outcome) (t : Sight) (p : Outcome) (came : Came) (on : Bool)
      → IsListSet ring device place list s o t p came on → Passes s o t p
  set-passes list s o t p came on is =
      passes-trans s o is.1 o t p (passes-same s o is.1 o (made-moves Local device place list s (Ok is.0) is.1 is.2) refl)
      (next-passes list is.0 is.1 o t p came on is.3)

  module _ (time : ℕ) where
    split-passes : (ranges : List Range) (s : Sight) (o : Outcome) (t : Sight) (p : Outcome) (came : Came) (on : Bool)
        → IsSplit ring device place time ranges s o t p came on → Passes s o t p
    split-passes ranges s o t p came on (inl went) =
        passes-trans s o went.0 went.1 t p (creates-pass time ring ranges s o went.0 went.1 true true went.2)
        (set-passes (SetRanges ranges) went.0 went.1 t p came on went.3)
    split-passes ranges s o t p came on (inr stopped) = creates-pass time ring ranges s o t p false on stopped.0

    cut-passes : (cut : Option (List Range)) (s : Sight) (o : Outcome) (t : Sight) (p : Outcome) (came : Came) (on : Bool)
        → IsCutNext ring device place time cut s o t p came on → Passes s o t p
    cut-passes (Some ranges) s o t p came on is = split-passes ranges s o t p came on is
    cut-passes None s o t p came on is = passes-keeping (Some Failed) s o t p on (stays s t is.0) is.2

  module _ (per_shard time : ℕ) where
    found-passes : (got : Result Parcel ContAnswer) (s : Sight) (o : Outcome) (t : Sight) (p : Outcome) (came : Came) (on : Bool)
        → IsFoundNext ring device place per_shard time got s o t p came on → Passes s o t p
    found-passes (Ok parcel) s o t p came on (inl went) = cut-passes time went.0 s o t p came on went.2
    found-passes (Ok parcel) s o t p came on (inr wanting) = passes-same s o t p (stays s t wanting.0) wanting.1
    found-passes (Err answer) s o t p came on is = passes-keeping (cont_hindrance answer) s o t p on (stays s t is.0) is.2

    find-passes : (s : Sight) (o : Outcome) (t : Sight) (p : Outcome) (came : Came) (on : Bool)
        → IsFound ring device place per_shard time s o t p came on → Passes s o t p
    find-passes s o t p came on is =
        passes-trans s o is.1 o t p
        (passes-same s o is.1 o (look-moves Local device place (parcel_of device) (λ read. Parceled place device read) s (Ok is.0) is.1 is.2) refl)
        (found-passes is.0 is.1 o t p came on is.3)

    list-passes : (ranges : Option (List Range)) (s : Sight) (o : Outcome) (t : Sight) (p : Outcome) (came : Came) (on : Bool)
        → IsListNext ring device place per_shard time ranges s o t p came on → Passes s o t p
    list-passes None s o t p came on is = find-passes s o t p came on is
    list-passes (Some ranges) s o t p came on is = give-passes (SetRanges ranges) s o t p came on is

    told-passes : (got : Result Sharding ContAnswer) (s : Sight) (o : Outcome) (t : Sight) (p : Outcome) (came : Came) (on : Bool)
        → IsShardingNext ring device place per_shard time got s o t p came on → Passes s o t p
    told-passes (Ok sharding) s o t p came on is = list-passes sharding.ranges s o t p came on is
    told-passes (Err answer) s o t p came on is = passes-keeping (cont_hindrance answer) s o t p on (stays s t is.0) is.2

    pub run-passes : (s t : Sight) (p : Outcome) (came : Came) (on : Bool) → IsRun ring device place per_shard time s t p came on
        → Passes s nothing_yet t p
    run-passes s t p came on is =
        let moves = look-moves Local device place sharding_of (λ read. Sharded place read) s (Ok is.0) is.1 is.2 in
        passes-trans s nothing_yet is.1 nothing_yet t p (passes-same s nothing_yet is.1 nothing_yet moves refl)
        (told-passes is.0 is.1 nothing_yet t p came on is.3)

-- Why a pass isn't done.
use Rattle.std.proofs.Common.{◌≡◌, ◌≢◌, ◌⊎◌, ◌∙◌, ℕ, Bool, true, false, List, Option, Some, None, Result, Ok, Err}
use Rattle.std.proofs.Common.{ap, inl, inr, refl, subst, sym, true≢false}
use Rattle.std.specs.List.{slice_get}
use Rattle.std.specs.Prelude.{◌-◌, length}
use Rattle.sw_cleave.proofs.Keeping.{Passes, run-passes}
use Rattle.sw_cleave.specs.Causes.{HasCauses}
use Rattle.sw_cleave.specs.Cleaving.{IsClosedBy, IsEmptiedBy, IsMoved, IsParcelMoved, IsRangeMoved, IsRangeNext, IsReadNext, IsRun, IsShardingNext}
use Rattle.sw_cleave.specs.Cleaving.{IsSplitNext, Wants}
use Rattle.sw_cleave.specs.Shards.{least_point}
use Rattle.sw_cleave.specs.declared.counting.Came.{Came}
use Rattle.sw_container_steps.specs.declared.cont_answer.ContAnswer.{ContAnswer}
use Rattle.sw_container_steps.specs.declared.cont_answer.ContAnswer.TheVariants as conts
use Rattle.sw_container_steps.specs.declared.sharding.Sharding.{Sharding}
use Rattle.sw_container_steps.specs.declared.syncing.Parcel.{Parcel}
use Rattle.sw_hashpath.specs.declared.place.Place.{Place}
use Rattle.sw_outside.specs.Faults.{HasRisen}
use Rattle.sw_pass.proofs.Counts.{HasCause, keeping-causes}
use Rattle.sw_pass.specs.Outcomes.{Keeps, cont_hindrance, ended, nothing_yet}
use Rattle.sw_pass.specs.Rings.{replicas_in}
use Rattle.sw_pass.specs.declared.hindrance.Hindrance.{Hindrance}
use Rattle.sw_pass.specs.declared.hindrance.Hindrance.TheVariants.{Failed, Missing}
use Rattle.sw_pass.specs.declared.outcome.Outcome.{Outcome}
use Rattle.sw_peer.specs.Sights.{Sight}
use Rattle.sw_ring.specs.declared.ring.Ring.{Ring}
use Rattle.sw_shard_range.specs.declared.range.Range.{Range}
use Rattle.sw_sync.specs.Points.{PointList}

-- an answer was lost or hindered it, or a row came too late
abbrev pub IsWhy : Outcome → Type 0
IsWhy o = (o.lost ≢ 0) ⊎ (((hindrance : Hindrance) × (o.kept ≡ Some hindrance)) ⊎ ((rowid : ℕ) × (o.later ≡ Some rowid)))

pub why-cause : (o : Outcome) → HasCause o → IsWhy o
why-cause o (inl lost) = inl lost
why-cause o (inr kept) = inr (inl kept)

pub why-kept : (h : Option Hindrance) (o p : Outcome) (on : Bool) → Keeps h o p on → on ≡ true → IsWhy p
why-kept (Some hindrance) o p on keeps went = why-cause p (subst HasCause (sym keeps.0) (keeping-causes o hindrance))
why-kept None o p on keeps went = absurd (true≢false (sym went ∙ keeps.1))

-- a whole pass that has a cause where it isn't done
pub causes-of : (s t : Sight) (p : Outcome) (came : Came) (o : Outcome) → Passes s nothing_yet t p → (came.done ≡ false → IsWhy p)
    → o ≡ ended came.done came.left p → HasCauses s t o
causes-of s t p came o passes why same =
    subst (λ (x : Outcome). HasCauses s t x) (sym same)
    (record { asked = passes.asked; lost = λ some. losses some passes.counts.lost; hindered = why })
  where
    losses : p.lost ≢ 0 → (p.lost ≡ 0) ⊎ HasRisen s.faults t.faults → HasRisen s.faults t.faults
    losses some (inl none) = absurd (some none)
    losses some (inr risen) = risen

-- what is done isn't undone
done-is : (came : Came) (left : ℕ) → came ≡ record { done = true; left = left } → came.done ≡ false → ⊥
done-is came left same undone = true≢false (sym (ap (λ (x : Came). x.done) same) ∙ undone)

closed-why : (open_ranges : ℕ) (answer : ContAnswer) (o p : Outcome) (came : Came) (on : Bool) → IsClosedBy open_ranges answer o p came on
    → came.done ≡ false → on ≡ true → IsWhy p
closed-why open_ranges (conts.Later rowid) o p came on is undone went = inr (inr (rowid, ap (λ (x : Outcome). x.later) is.0))
closed-why open_ranges answer o p came on (inl held) undone went = absurd (done-is came (open_ranges - 1) held.1 undone)
closed-why open_ranges answer o p came on (inr other) undone went = why-kept (cont_hindrance answer) o p on other.2 went

emptied-why : (answer : ContAnswer) (o p : Outcome) (came : Came) (on : Bool) → IsEmptiedBy answer o p came on → came.done ≡ false → on ≡ true → IsWhy p
emptied-why answer o p came on (inl held) undone went = absurd (done-is came 0 held.1 undone)
emptied-why answer o p came on (inr other) undone went = why-kept (cont_hindrance answer) o p on other.2 went

module _ (device : ℕ) (place shard : Place) (range : ℕ) (devices : List ℕ) (open_ranges : ℕ) where
  parcel-why : (parcel : Parcel) (s : Sight) (o : Outcome) (t : Sight) (p : Outcome) (came : Came) (on : Bool)
      → IsParcelMoved device place shard range devices open_ranges parcel s o t p came on → came.done ≡ false → on ≡ true → IsWhy p
  parcel-why parcel s o t p came on (inl went) undone on_is = closed-why open_ranges went.3.0 went.1 p came on went.3.2 undone on_is
  parcel-why parcel s o t p came on (inr stopped) undone on_is = absurd (true≢false (sym on_is ∙ stopped.1))

  read-why : (got : Result Parcel ContAnswer) (s : Sight) (o : Outcome) (t : Sight) (p : Outcome) (came : Came) (on : Bool)
      → IsReadNext device place shard range devices open_ranges got s o t p came on → came.done ≡ false → on ≡ true → IsWhy p
  read-why (Ok parcel) s o t p came on is undone went = parcel-why parcel s o t p came on is undone went
  read-why (Err answer) s o t p came on is undone went = why-kept (cont_hindrance answer) o p on is.2 went

module _ (ring : Ring) (device : ℕ) (place : Place) where
  range-why : (range : Range) (cursor : ℕ) (points : PointList) (open_ranges : ℕ) (s : Sight) (o : Outcome) (t : Sight) (p : Outcome) (came : Came)
      (on : Bool) → IsRangeMoved ring device place range cursor points open_ranges s o t p came on → came.done ≡ false → on ≡ true → IsWhy p
  range-why range cursor points open_ranges s o t p came on (inr other) undone went = why-kept (Some Failed) o p on other.3 went
  range-why range cursor points open_ranges s o t p came on (inl known) undone went = by known.1
    where
      by : IsMoved device place range.shard cursor (replicas_in ring range.shard) open_ranges (least_point points cursor (replicas_in ring range.shard))
          s o t p came on ⊎ Wants ring device place s o t p on → IsWhy p
      by (inl moved) =
          read-why device place range.shard cursor (replicas_in ring range.shard) open_ranges moved.0 moved.1 o t p came on moved.3 undone went
      by (inr wanting) = absurd (true≢false (sym went ∙ wanting.2))

  next-why : (next : Option Range) (cursor : ℕ) (points : PointList) (open_ranges : ℕ) (s : Sight) (o : Outcome) (t : Sight) (p : Outcome) (came : Came)
      (on : Bool) → IsRangeNext ring device place next cursor points open_ranges s o t p came on → came.done ≡ false → on ≡ true → IsWhy p
  next-why (Some range) cursor points open_ranges s o t p came on is undone went = range-why range cursor points open_ranges s o t p came on is undone went
  next-why None cursor points open_ranges s o t p came on is undone went = emptied-why is.0 o p came on is.2 undone went

  split-why : (ranges : Option (List Range)) (cursor : ℕ) (points : PointList) (s : Sight) (o : Outcome) (t : Sight) (p : Outcome) (came : Came) (on : Bool)
      → IsSplitNext ring device place ranges cursor points s o t p came on → came.done ≡ false → on ≡ true → IsWhy p
  split-why None cursor points s o t p came on is undone went = why-kept (Some Missing) o p on is.2 went
  split-why (Some ranges) cursor points s o t p came on is undone went =
      next-why (slice_get ranges cursor) cursor points (length ranges - cursor) s o t p came on is undone went

  told-why : (got : Result Sharding ContAnswer) (s : Sight) (o : Outcome) (t : Sight) (p : Outcome) (came : Came) (on : Bool)
      → IsShardingNext ring device place got s o t p came on → came.done ≡ false → on ≡ true → IsWhy p
  told-why (Ok sharding) s o t p came on is undone went =
      split-why sharding.ranges sharding.cursor sharding.points s o t p came on is undone went
  told-why (Err answer) s o t p came on is undone went = why-kept (cont_hindrance answer) o p on is.2 went

  pub run-causes : (s t : Sight) (p : Outcome) (came : Came) (o : Outcome) → IsRun ring device place s t p came true → o ≡ ended came.done came.left p
      → HasCauses s t o
  run-causes s t p came o is same =
      causes-of s t p came o (run-passes ring device place s t p came true is)
      (λ undone. told-why is.0 is.1 nothing_yet t p came true is.3 undone refl) same

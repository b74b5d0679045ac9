-- What a pass goes on with, from what it was told.
use Rattle.std.proofs.Common.{◌≡◌, ◌-◌, ◌∙◌, ℕ, Bool, true, List, Option, Some, ap, inl, length, subst, sym}
use Rattle.std.specs.List.{slice_get}
use Rattle.sw_cleave.specs.Cleaving.{IsMoved, IsRangeMoved, IsRangeNext, IsSplitNext}
use Rattle.sw_cleave.specs.Shards.{least_point}
use Rattle.sw_cleave.specs.declared.counting.Came.{Came}
use Rattle.sw_hashpath.specs.declared.place.Place.{Place}
use Rattle.sw_pass.specs.Rings.{is_place, replicas_in}
use Rattle.sw_pass.specs.declared.outcome.Outcome.{Outcome}
use Rattle.sw_peer.specs.Sights.{Sight}
use Rattle.sw_ring.specs.declared.ring.Ring.{Ring}
use Rattle.sw_shard_range.specs.declared.range.Range.{Range}
use Rattle.sw_sync.specs.Points.{PointList}

module _ (ring : Ring) (device : ℕ) (place : Place) (points : PointList) (open_ranges : ℕ) (s : Sight) (o : Outcome) (t : Sight) (p : Outcome) (came : Came)
    (on : Bool) where
  -- the place was tested, these are the devices of its shard, and this is the least of what is kept for these
  pub moved-from : (range : Range) (index : ℕ) (all of : List ℕ) (above : ℕ) (test : Bool) → test ≡ is_place ring.secrets range.shard → test ≡ true
      → all ≡ replicas_in ring range.shard → of ≡ all → above ≡ least_point points index of
      → IsMoved device place range.shard index all open_ranges above s o t p came on
      → IsRangeMoved ring device place range index points open_ranges s o t p came on
  moved-from range index all of above test named tested same are least is =
      inl (
        sym named ∙ tested,
        inl (subst
            (λ (devices : List ℕ). IsMoved device place range.shard index devices open_ranges (least_point points index devices) s o t p came on) same
            (subst (λ (n : ℕ). IsMoved device place range.shard index all open_ranges n s o t p came on) (least ∙ ap (least_point points index) are) is)),
      )

  -- there are ranges, and this is the one at the cursor
  pub split-from : (got : Option (List Range)) (ranges : List Range) (cursor : ℕ) (next : Option Range) → got ≡ Some ranges → slice_get ranges cursor ≡ next
      → open_ranges ≡ length ranges - cursor → IsRangeNext ring device place next cursor points open_ranges s o t p came on
      → IsSplitNext ring device place got cursor points s o t p came on
  split-from got ranges cursor next some at open_are is =
      subst (λ (x : Option (List Range)). IsSplitNext ring device place x cursor points s o t p came on) (sym some)
      (subst (λ (x : Option Range). IsRangeNext ring device place x cursor points (length ranges - cursor) s o t p came on) (sym at)
      (subst (λ (n : ℕ). IsRangeNext ring device place next cursor points n s o t p came on) open_are is))

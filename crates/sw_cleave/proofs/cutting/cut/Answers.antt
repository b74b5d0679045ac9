use Rattle.std.proofs.Common.{◌≡◌, ◌↔◌, ◌+◌, ◌∙◌, ◌++◌, ◌∷◌, [], ℕ, List, Option, None, Some, Result, Ok, Err, ap, arith, inl, inr, length, refl, sym}
use Rattle.std.proofs.Common.{subst, take}
use Rattle.std.proofs.lemmas.List.{length-take-le, length_push, take_all, take_more}
use Rattle.std.specs.Prelude.{IfOk, MatchOption}
use Rattle.std.specs.Result.{result_ok}
use Rattle.sw_cleave.proofs.Ranging.{AreBelow, below-last, below-more, end-more, end_of}
use Rattle.sw_cleave.specs.Cutting.{AreCut, CantCut, IsBadShard, IsRangeBetween}
use Rattle.sw_hashpath.specs.declared.place.Place.{Place}
use Rattle.sw_hashpath.specs.declared.secrets.Secrets.{Secrets}
use Rattle.sw_shard_range.specs.Laws.{AreTiled}
use Rattle.sw_shard_range.specs.Ranges.{first_fault}
use Rattle.sw_shard_range.specs.declared.range.Range.{Range}
use Rattle.sw_shard_range.specs.declared.ranges.NotTiled.{NotTiled}
use Rattle.sw_cleave.proofs.cutting.cut.Goals as goal

-- the range that was made, between these bounds
module _ (secrets : Secrets) (place : Place) (time index : ℕ) where
  made-between : (got : Option Range) (range : Range) (lower from upper to : List ℕ) → got ≡ Some range → lower ≡ from → upper ≡ to
      → MatchOption got (IsBadShard secrets place time index) (λ r. IsRangeBetween secrets place time index lower upper r)
      → IsRangeBetween secrets place time index from to range
  made-between got range lower from upper to some begins ends is =
      subst (λ (x : List ℕ). IsRangeBetween secrets place time index x to range) begins
      (subst (λ (x : List ℕ). IsRangeBetween secrets place time index lower x range) ends
      (subst (λ (o : Option Range). MatchOption o (IsBadShard secrets place time index) (λ r. IsRangeBetween secrets place time index lower upper r)) some
      is))

-- ranges that were found good have no fault
no-fault : (r : Result (List Range) NotTiled) (ranges : List Range) → r ≡ Ok ranges → (o : Option ℕ)
    → ((index : ℕ) → o ≡ Some index → r ≡ Err (record { 0 = index })) → o ≡ None
no-fault r ranges good (Some index) at =
    let bad : r ≡ Err (record { 0 = index }) = at index refl in
    cc
no-fault r ranges good None at = refl

module _ (secrets : Secrets) (place : Place) (time : ℕ) (bounds : List (List ℕ)) where
  -- what the test of these ranges came to
  tested : (r : Result (List Range) NotTiled) (got : Option (List Range)) (items : List Range) → got ≡ result_ok r → IfOk r (λ ranges. ranges ≡ items)
      → ((index : ℕ) → (r ≡ Err (record { 0 = index })) ↔ (first_fault items ≡ Some index)) → AreCut secrets place time bounds items
      → MatchOption got (CantCut secrets place time bounds) (λ ranges. AreCut secrets place time bounds ranges × AreTiled ranges)
  tested (Ok ranges) got items is same fault are =
      subst
      (λ (o : Option (List Range)). MatchOption o (CantCut secrets place time bounds) (λ ranges. AreCut secrets place time bounds ranges × AreTiled ranges))
      (sym is)
      (subst (λ (x : List Range). AreCut secrets place time bounds x × AreTiled x) (sym same)
      (are, no-fault (Ok ranges) ranges refl (first_fault items) (λ index. (fault index).1)))
  tested (Err n) got items is same fault are =
      subst
      (λ (o : Option (List Range)). MatchOption o (CantCut secrets place time bounds) (λ ranges. AreCut secrets place time bounds ranges × AreTiled ranges))
      (sym is) (inr (inl (items, are, n.0, (fault n.0).0 refl)))

pub loop-upper-preserved : goal.loop-upper-preserved
loop-upper-preserved c =
    let bounds = c.args.bounds.now in
    let i = c.loop-upper.upper-index in
    let before = take i bounds in
    let ranges = c.loop-upper.list.items in
    let upper = c.upper-item.result in
    let range = c.in-Some.range in
    let grown : take (i + 1) bounds ≡ before ++ upper ∷ [] =
    take_more bounds i upper c.loop-upper-test.true ∙ ap (λ (x : List ℕ). before ++ x ∷ []) (sym c.upper-item.is) in
    let long : length before ≡ i = length-take-le i bounds (omega arith) in
    record {
      below = subst (λ (bs : List (List ℕ)). AreBelow c.args.secrets.now c.args.place.now c.args.time 0 [] bs c.push.new.self.items) (sym grown)
          (subst (λ (rs : List Range). AreBelow c.args.secrets.now c.args.place.now c.args.time 0 [] (before ++ upper ∷ []) rs)
          (sym c.in_ok-push.ensures.items)
          (below-more c.args.secrets.now c.args.place.now c.args.time 0 [] before ranges c.len-index.result upper range c.loop-upper.invariant.below
          (omega (arith, long, c.len-index.ensures, c.loop-upper.invariant.count))
          (made-between c.args.secrets.now c.args.place.now c.args.time c.len-index.result c.in_ok-range.field-0 range c.loop-upper.lower.now
          (end_of [] before) c.as_slice.result.now upper c.in-Some.is c.loop-upper.invariant.lower c.as_slice.ensures c.in_ok-range.ensures)));
      lower = c.as_slice-lower.ensures ∙ sym (ap (end_of []) grown ∙ end-more [] before upper);
      count = omega (arith, c.loop-upper.invariant.count, ap length c.in_ok-push.ensures.items, length_push ranges range);
    }

pub returns : goal.returns
returns c =
    let bounds = c.args.bounds.now in
    let ranges = c.loop-upper.list.items in
    let range = c.in-Some-2.range in
    let whole : take c.loop-upper.upper-index bounds ≡ bounds = take_all c.loop-upper.upper-index bounds (omega arith) in
    let ended : c.loop-upper.lower.now ≡ end_of [] bounds = c.loop-upper.invariant.lower ∙ ap (end_of []) whole in
    let below : AreBelow c.args.secrets.now c.args.place.now c.args.time 0 [] bounds ranges =
    subst (λ (bs : List (List ℕ)). AreBelow c.args.secrets.now c.args.place.now c.args.time 0 [] bs ranges) whole c.loop-upper.invariant.below in
    tested c.args.secrets.now c.args.place.now c.args.time bounds c.new.result c.ok.result c.push-2.new.self.items c.ok.ensures.value c.new.ensures.ranges
    c.new.ensures.fault
    (subst (λ (rs : List Range). AreCut c.args.secrets.now c.args.place.now c.args.time bounds rs) (sym c.in_ok-push-2.ensures.items)
    (below-last c.args.secrets.now c.args.place.now c.args.time 0 [] bounds ranges c.len-index-2.result range below
    (omega (arith, c.len-index-2.ensures, c.loop-upper.invariant.count))
    (made-between c.args.secrets.now c.args.place.now c.args.time c.len-index-2.result c.in_ok-range-2.field-0 range c.loop-upper.lower.now
    (end_of [] bounds) [] [] c.in-Some-2.is ended refl c.in_ok-range-2.ensures)))

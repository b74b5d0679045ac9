use Rattle.std.proofs.Common.{◌≡◌, ◌-◌, ◌∙◌, ℕ, List, length, ap, refl, subst, None, Some}
use Rattle.std.proofs.lemmas.Option.{slice_get_past, slice_get_read}
use Rattle.std.specs.List.{slice_get}
use Rattle.sw_cleave.proofs.Coming.{comes-then}
use Rattle.sw_cleave.proofs.Moving.{split-from}
use Rattle.sw_cleave.specs.Cleaving.{IsEmptied, IsRangeMoved, IsSplitNext}
use Rattle.sw_shard_range.specs.declared.range.Range.{Range}
use Rattle.sw_cleave.proofs.cleaving.go_on.Goals as goal

pub returns-in-Some-get-clause-cleaves : goal.returns-in-Some-get-clause-cleaves
returns-in-Some-get-clause-cleaves g c =
    let s = g.D.Door.sight in
    let split = c.args.sharding in
    let all = c.as_slice.result.now in
    let range = c.in-Some-get.range.now in
    let found = c.in-Some-get.ensures.lookup in
    let at : slice_get c.in-Some.ranges split.cursor ≡ Some range =
    subst (λ (ranges : List Range). slice_get ranges split.cursor ≡ Some range) c.as_slice.ensures.value
    (slice_get_read all (length all) split.cursor range refl found.3.0 found.1) in
    comes-then (IsRangeMoved c.args.ring.now c.args.device c.args.place.now range split.cursor split.points c.from-open_ranges.result (s c.args.door.now)
    c.args.outcome.now (s c.move_range.new.door) c.move_range.new.outcome)
    (IsSplitNext c.args.ring.now c.args.device c.args.place.now split.ranges split.cursor split.points (s c.args.door.now) c.args.outcome.now
    (s c.move_range.new.door) c.move_range.new.outcome)
    (λ came on is. split-from c.args.ring.now c.args.device c.args.place.now split.points c.from-open_ranges.result (s c.args.door.now)
    c.args.outcome.now (s c.move_range.new.door) c.move_range.new.outcome came on split.ranges c.in-Some.ranges split.cursor (Some range) c.in-Some.is at
    (c.from-open_ranges.ensures ∙ ap (λ (n : ℕ). n - split.cursor) c.len.ensures.value) is)
    c.move_range.result c.move_range.ensures.cleaves

pub returns-clause-cleaves : goal.returns-clause-cleaves
returns-clause-cleaves g c =
    let s = g.D.Door.sight in
    let split = c.args.sharding in
    let at : slice_get c.in-Some.ranges split.cursor ≡ None =
    subst (λ (ranges : List Range). slice_get ranges split.cursor ≡ None) c.as_slice.ensures.value
    (slice_get_past c.as_slice.result.now split.cursor c.in-None.ensures.lookup.3) in
    comes-then (IsEmptied c.args.device c.args.place.now (s c.args.door.now) c.args.outcome.now (s c.empty_out.new.door) c.empty_out.new.outcome)
    (IsSplitNext c.args.ring.now c.args.device c.args.place.now split.ranges split.cursor split.points (s c.args.door.now) c.args.outcome.now
    (s c.empty_out.new.door) c.empty_out.new.outcome)
    (λ came on is. split-from c.args.ring.now c.args.device c.args.place.now split.points (length c.in-Some.ranges - split.cursor) (s c.args.door.now)
    c.args.outcome.now (s c.empty_out.new.door) c.empty_out.new.outcome came on split.ranges c.in-Some.ranges split.cursor None c.in-Some.is at refl is)
    c.empty_out.result c.empty_out.ensures.empties

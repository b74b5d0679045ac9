use Rattle.std.proofs.Common.{◌≡◌, ◌∙◌, ◌+◌, ◌%◌, ◌∷◌, [], length, length-append, zip, sym, ap, subst, not, true, false, arith}
use Rattle.std.specs.Prelude.{◌&&◌, ◌||◌}
use Rattle.sw_volume.proofs.Counting.{one_more_call}
use Rattle.sw_stores.specs.Places.{is_among}
use Rattle.sw_stores.proofs.InRange.{begun-next, IsBegun, next-home, undone-others, undone-out, undone-rests}
use Rattle.sw_stores.proofs.Pairs.{zip-more}
use Rattle.sw_stores.proofs.ranges.start_range.Goals as goal

pub start-requires : goal.start-requires
start-requires g c =
    let s = g.S.Stores in
    let place = c.args.first + c.loop-index.index in
    let home = next-home s.first (s.rests c.args.stores.now) (s.rests c.loop-index.stores) (s.out c.args.stores.now) (s.out c.loop-index.stores)
    c.args.stripes c.args.first c.loop-index.index c.args.count (zip c.loop-index.volumes.items c.loop-index.keepers.items) (omega arith) (omega arith)
    c.requires.home
    c.loop-index.invariant.begun in
    subst (λ x. s.out c.loop-index.stores c.pair_of-device.result.0 x ≡ false) (sym c.pair_of-device.ensures.stripe)
    (subst (λ x. s.out c.loop-index.stores x (place % c.args.stripes) ≡ false) (sym c.pair_of-device.ensures.device) home)

-- those that were started are out, also once the next start has failed
pub give_range-requires-clause-out : goal.give_range-requires-clause-out
give_range-requires-clause-out g c =
    let s = g.S.Stores in
    let begun = subst (λ l. IsBegun s.first (s.rests c.args.stores.now) (s.rests c.loop-index.stores) (s.out c.args.stores.now) (s.out c.loop-index.stores)
    c.args.stripes c.args.first c.loop-index.index l) (sym c.of.ensures) c.loop-index.invariant.begun in
    λ d t among.
    let among_begun = subst (λ n. is_among c.args.stripes c.args.first n d t ≡ true) begun.length_is among in
    c.in-Err.ensures.not_out d t ∙ begun.gone d t ∙ ap (λ b. b || s.out c.args.stores.now d t) among_begun

pub returns-in-Err-clause-not_out : goal.returns-in-Err-clause-not_out
returns-in-Err-clause-not_out g c =
    let s = g.S.Stores in
    let begun = subst (λ l. IsBegun s.first (s.rests c.args.stores.now) (s.rests c.loop-index.stores) (s.out c.args.stores.now) (s.out c.loop-index.stores)
    c.args.stripes c.args.first c.loop-index.index l) (sym c.of.ensures) c.loop-index.invariant.begun in
    undone-out s.first (s.rests c.args.stores.now) (s.rests c.loop-index.stores) (s.rests c.loop-index.stores) (s.out c.args.stores.now)
    (s.out c.loop-index.stores) (s.out c.give_range.new.stores) c.args.stripes c.args.first c.loop-index.index c.args.count c.of.result (omega arith)
    c.requires.home begun
    (λ d t. c.give_range.ensures.home d t ∙ ap (λ b. not (is_among c.args.stripes c.args.first (length c.of.result) d t) && b) (c.in-Err.ensures.not_out d t))

pub returns-in-Err-clause-others : goal.returns-in-Err-clause-others
returns-in-Err-clause-others g c =
    let s = g.S.Stores in
    let begun = subst (λ l. IsBegun s.first (s.rests c.args.stores.now) (s.rests c.loop-index.stores) (s.out c.args.stores.now) (s.out c.loop-index.stores)
    c.args.stripes c.args.first c.loop-index.index l) (sym c.of.ensures) c.loop-index.invariant.begun in
    undone-others s.first (s.rests c.args.stores.now) (s.rests c.loop-index.stores) (s.rests c.give_range.new.stores) (s.out c.args.stores.now)
    (s.out c.loop-index.stores) c.args.stripes c.args.first c.loop-index.index c.args.count c.of.result (omega arith) begun
    (λ d t apart. c.give_range.ensures.others d t apart ∙ c.in-Err.ensures.rests d t)

pub returns-in-Err-clause-rests : goal.returns-in-Err-clause-rests
returns-in-Err-clause-rests g c =
    let s = g.S.Stores in
    let begun = subst (λ l. IsBegun s.first (s.rests c.args.stores.now) (s.rests c.loop-index.stores) (s.out c.args.stores.now) (s.out c.loop-index.stores)
    c.args.stripes c.args.first c.loop-index.index l) (sym c.of.ensures) c.loop-index.invariant.begun in
    undone-rests s.first (s.rests c.args.stores.now) (s.rests c.loop-index.stores) (s.rests c.give_range.new.stores) (s.out c.args.stores.now)
    (s.out c.loop-index.stores)
    c.args.stripes c.args.first c.loop-index.index c.args.count c.of.result (omega arith) begun
    (λ d t apart. c.give_range.ensures.others d t apart ∙ c.in-Err.ensures.rests d t) c.give_range.ensures.rests

pub returns-in-Err-clause-tried : goal.returns-in-Err-clause-tried
returns-in-Err-clause-tried g c = (
  c.loop-index.index + 1,
  omega arith,
  c.give_range.ensures.calls ∙ c.in-Err.ensures.calls ∙ one_more_call c.loop-index.index _ _
      c.loop-index.invariant.calls,
)

pub loop-index-preserved : goal.loop-index-preserved
loop-index-preserved g c =
    let s = g.S.Stores in
    record {
      begun = begun-next s.first (s.rests c.args.stores.now) (s.rests c.loop-index.stores) (s.rests c.start.new.self)
          (s.out c.args.stores.now) (s.out c.loop-index.stores) (s.out c.start.new.self) c.args.stripes c.args.first c.loop-index.index
          c.pair_of-device.result.0 c.pair_of-device.result.1 (zip c.loop-index.volumes.items c.loop-index.keepers.items)
          (zip c.add.new.list.items c.add-in-Ok.new.list.items)
          (c.in-Ok.volume, c.in-Ok.keeper)
          (omega arith) c.loop-index.invariant.begun c.pair_of-device.ensures.device c.pair_of-device.ensures.stripe
          c.in-Ok.ensures.part c.in-Ok.ensures.others c.in-Ok.ensures.out
          (rw (c.add.ensures.items, c.add-in-Ok.ensures.items)
          (zip-more c.loop-index.volumes.items c.loop-index.keepers.items c.in-Ok.volume c.in-Ok.keeper c.loop-index.invariant.same));
      same = rw (c.add.ensures.items, c.add-in-Ok.ensures.items)
          (length-append c.loop-index.volumes.items (c.in-Ok.volume ∷ []) ∙ ap (λ n. n + 1) c.loop-index.invariant.same
          ∙ sym (length-append c.loop-index.keepers.items (c.in-Ok.keeper ∷ [])));
      each = rw c.add.ensures.items (length-append c.loop-index.volumes.items (c.in-Ok.volume ∷ []) ∙ ap (λ n. n + 1) c.loop-index.invariant.each);
      room = omega (arith, c.loop-index.invariant.room, c.add.ensures.capacity);
      beside = omega (arith, c.loop-index.invariant.beside, c.add-in-Ok.ensures.capacity);
      kept = λ other. c.in-Ok.ensures.kept other ∙ c.loop-index.invariant.kept other;
      faults = c.in-Ok.ensures.cause ∙ c.loop-index.invariant.faults;
      calls = c.in-Ok.ensures.calls ∙ one_more_call c.loop-index.index _ _ c.loop-index.invariant.calls;
    }

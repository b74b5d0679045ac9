use Rattle.std.proofs.Common.{◌≡◌, ◌∙◌, ◌+◌, ◌-◌, ◌%◌, true, refl, sym, subst, arith}
use Rattle.sw_stores.proofs.InRange.{giving-more, giving-none, giving-out}
use Rattle.sw_stores.proofs.ranges.give_last.Goals as goal

pub loop-index-init : goal.loop-index-init
loop-index-init g c =
    let s = g.S.Stores in
    record {
      giving = giving-none (s.rests c.args.stores.now) (s.out c.args.stores.now) c.args.stripes c.args.first c.args.count c.args.parts.now;
      kept = λ other. refl;
      faults = refl;
      calls = refl;
    }

pub give_back-requires : goal.give_back-requires
give_back-requires g c =
    let s = g.S.Stores in
    let place = c.args.first + (c.loop-index.index - 1) in
    let out = giving-out (s.rests c.args.stores.now) (s.rests c.loop-index.stores) (s.out c.args.stores.now) (s.out c.loop-index.stores)
    c.args.stripes c.args.first c.args.count c.loop-index.index (c.loop-index.index - 1) place c.args.parts.now c.loop-index.parts
    (omega arith) c.requires.out c.loop-index.invariant.giving (omega (arith, c.loop-index-test.true)) refl in
    subst (λ x. s.out c.loop-index.stores c.pair_of-device.result.0 x ≡ true) (sym c.pair_of-device.ensures.stripe)
    (subst (λ x. s.out c.loop-index.stores x (place % c.args.stripes) ≡ true) (sym c.pair_of-device.ensures.device) out)

pub loop-index-preserved : goal.loop-index-preserved
loop-index-preserved g c =
    let s = g.S.Stores in
    record {
      giving = giving-more (s.rests c.args.stores.now) (s.rests c.loop-index.stores) (s.rests c.give_back.new.self)
          (s.out c.args.stores.now) (s.out c.loop-index.stores) (s.out c.give_back.new.self) c.args.stripes c.args.first c.args.count
          c.loop-index.index (c.loop-index.index - 1) (c.args.first + (c.loop-index.index - 1)) c.pair_of-device.result.0 c.pair_of-device.result.1
          c.args.parts.now c.loop-index.parts c.pop.new.self (c.in-Some.volume, c.in-Some.keeper)
          (omega arith) c.loop-index.invariant.giving (omega (arith, c.loop-index-test.true)) c.in-Some.ensures.some refl
          c.pair_of-device.ensures.device c.pair_of-device.ensures.stripe c.give_back.ensures.rests c.give_back.ensures.others c.give_back.ensures.home;
      kept = λ other. c.give_back.ensures.kept other ∙ c.loop-index.invariant.kept other;
      faults = c.give_back.ensures.faults ∙ c.loop-index.invariant.faults;
      calls = c.give_back.ensures.calls ∙ c.loop-index.invariant.calls;
    }

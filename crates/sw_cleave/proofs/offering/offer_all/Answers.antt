use Rattle.std.proofs.Common.{◌≡◌, ◌∙◌, get_or}
use Rattle.std.proofs.lemmas.List.{get_or_default}
use Rattle.sw_cleave.specs.Cleaving.{IsOffered}
use Rattle.sw_pass.proofs.Turns.{turn-ended, turn-more}
use Rattle.sw_cleave.proofs.offering.offer_all.Goals as goal

pub loop-to-preserved : goal.loop-to-preserved
loop-to-preserved g c =
    let s = g.D.Door.sight in
    let moving = c.args.moving.now in
    let all = c.args.devices.now in
    let i = c.loop-to.to-index in
    let to = get_or all i 0 in
    let is : to ≡ get_or all i to = get_or_default all i 0 to c.loop-to-test.true in
    record {
      offers = turn-more (IsOffered moving.device moving.place.now moving.range c.args.top moving.shard.now c.args.sent.now) all i to (s c.args.door.now)
          c.args.outcome.now (s c.loop-to.door) c.loop-to.outcome (s c.offer.new.door) c.offer.new.outcome c.loop-to-test.true is c.loop-to.invariant.offers
          c.in_ok-offer.ensures.offers;
      nodes = c.offer.ensures.nodes ∙ c.loop-to.invariant.nodes;
      asks = c.offer.ensures.asks ∙ c.loop-to.invariant.asks;
    }

pub returns-in_err-offer-clause-offers : goal.returns-in_err-offer-clause-offers
returns-in_err-offer-clause-offers g c =
    let s = g.D.Door.sight in
    let moving = c.args.moving.now in
    let all = c.args.devices.now in
    let i = c.loop-to.to-index in
    let to = get_or all i 0 in
    let is : to ≡ get_or all i to = get_or_default all i 0 to c.loop-to-test.true in
    turn-ended (IsOffered moving.device moving.place.now moving.range c.args.top moving.shard.now c.args.sent.now) c.from_residual.result all i to
    (s c.args.door.now) c.args.outcome.now (s c.loop-to.door) c.loop-to.outcome (s c.offer.new.door) c.offer.new.outcome c.from_residual.ensures.0
    c.loop-to-test.true is c.loop-to.invariant.offers c.in_err-offer.ensures.offers

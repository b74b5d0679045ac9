use Rattle.std.proofs.Common.{◌≡◌, ◌∙◌, List, false, true, get_or, inl, subst, sym}
use Rattle.std.proofs.lemmas.List.{get_or_default, take_all}
use Rattle.std.specs.Result.{is_ok}
use Rattle.sw_pass.proofs.Turns.{turn-ended, turn-more}
use Rattle.sw_pass.specs.Turns.{InTurn}
use Rattle.sw_redirect.specs.Sending.{IsSentTo, course}
use Rattle.sw_redirect.proofs.sending.send_on.Goals as goal

pub loop-to-preserved : goal.loop-to-preserved
loop-to-preserved g c =
    let s = g.D.Door.sight in
    let all = c.devices_of-to-items.result.now in
    let i = c.loop-to.to-index in
    let to = get_or all i 0 in
    let is : to ≡ get_or all i to = get_or_default all i 0 to c.loop-to-test.true in
    record {
      sends = λ row same. turn-more (IsSentTo c.args.shard.now row) all i to (course (s c.args.door.now) false) c.args.outcome.now
          (course (s c.loop-to.door) c.loop-to.missed) c.loop-to.outcome (course (s c.send.new.door) c.send.new.missed) c.send.new.outcome
          c.loop-to-test.true is (c.loop-to.invariant.sends row same) (c.in_ok-send.ensures.sends row same);
      nodes = c.send.ensures.nodes ∙ c.loop-to.invariant.nodes;
      asks = c.send.ensures.asks ∙ c.loop-to.invariant.asks;
    }

pub returns-in_err-send-clause-sends : goal.returns-in_err-send-clause-sends
returns-in_err-send-clause-sends g c row same =
    let s = g.D.Door.sight in
    let all = c.devices_of-to-items.result.now in
    let i = c.loop-to.to-index in
    let to = get_or all i 0 in
    let is : to ≡ get_or all i to = get_or_default all i 0 to c.loop-to-test.true in
    inl (
      sym c.is_place.ensures ∙ c.if-not-is_place.false,
      subst (λ (xs : List _). InTurn (IsSentTo c.args.shard.now row) xs (course (s c.args.door.now) false) c.args.outcome.now
          (course (s c.send.new.door) c.send.new.missed) c.send.new.outcome (is_ok c.from_residual.result)) c.devices_of-to-items.ensures.value
          (turn-ended (IsSentTo c.args.shard.now row) c.from_residual.result all i to (course (s c.args.door.now) false) c.args.outcome.now
          (course (s c.loop-to.door) c.loop-to.missed) c.loop-to.outcome (course (s c.send.new.door) c.send.new.missed) c.send.new.outcome
          c.from_residual.ensures.0 c.loop-to-test.true is (c.loop-to.invariant.sends row same) (c.in_err-send.ensures.sends row same)),
    )

pub returns-clause-sends : goal.returns-clause-sends
returns-clause-sends g c row same =
    let s = g.D.Door.sight in
    let all = c.devices_of-to-items.result.now in
    inl (
      sym c.is_place.ensures ∙ c.if-not-is_place.false,
      subst (λ (xs : List _). InTurn (IsSentTo c.args.shard.now row) xs (course (s c.args.door.now) false) c.args.outcome.now
          (course (s c.loop-to.door) c.loop-to.missed) c.loop-to.outcome true) c.devices_of-to-items.ensures.value
          (subst (λ (xs : List _). InTurn (IsSentTo c.args.shard.now row) xs (course (s c.args.door.now) false) c.args.outcome.now
          (course (s c.loop-to.door) c.loop-to.missed) c.loop-to.outcome true) (take_all c.loop-to.to-index all c.loop-to-test.false)
          (c.loop-to.invariant.sends row same)),
    )

use Rattle.std.proofs.Common.{◌≡◌, ℕ, Bool, List, false, true, not, get_or, sym, subst, ◌∙◌, ap}
use Rattle.std.proofs.lemmas.List.{get_or_default}
use Rattle.std.specs.Result.{is_ok}
use Rattle.sw_pass.proofs.Turns.{turn-broken, turn-passed}
use Rattle.sw_pass.specs.Turns.{InTurn}
use Rattle.sw_pending.specs.Rules.{is_done}
use Rattle.sw_redirect.specs.Sending.{course}
use Rattle.sw_updater.specs.Updating.{IsTold, to_tell}
use Rattle.sw_updater.proofs.telling.tell_all.Goals as goal

abbrev lacks : List ℕ → ℕ → Bool
lacks done device = not (is_done device done)

unmarked : (done : List ℕ) (device : ℕ) (marked : Bool) → marked ≡ is_done device done → marked ≡ false → lacks done device ≡ true
unmarked done device marked same is = ap not (sym same ∙ is)

pub loop-to-preserved : goal.loop-to-preserved
loop-to-preserved g c =
    let s = g.D.Door.sight in
    let task = c.args.task.now in
    let all = c.as_slice-to-items.result.now in
    let i = c.loop-to.to-index in
    let to = get_or all i 0 in
    let is : to ≡ get_or all i to = get_or_default all i 0 to c.loop-to-test.true in
    let own : lacks task.filed.done to ≡ true = unmarked task.filed.done to c.is_done.result c.is_done.ensures c.if-is_done.false in
    record {
      tells = turn-passed (IsTold task.device task.filed c.args.ring.now task.place c.args.row) (lacks task.filed.done) all i to
          (course (s c.args.door.now) c.args.missed.now) c.args.outcome.now (course (s c.loop-to.door) c.loop-to.missed) c.loop-to.outcome
          (course (s c.tell.new.door) c.tell.new.missed) c.tell.new.outcome c.loop-to-test.true is own c.loop-to.invariant.tells
          (c.in_ok-tell.ensures.tells c.args.row c.loop-to.invariant.change);
      change = c.loop-to.invariant.change;
      nodes = c.tell.ensures.nodes ∙ c.loop-to.invariant.nodes;
      asks = c.tell.ensures.asks ∙ c.loop-to.invariant.asks;
    }

pub returns-in_err-tell-clause-tells : goal.returns-in_err-tell-clause-tells
returns-in_err-tell-clause-tells g c =
    let s = g.D.Door.sight in
    let task = c.args.task.now in
    let all = c.as_slice-to-items.result.now in
    let i = c.loop-to.to-index in
    let to = get_or all i 0 in
    let is : to ≡ get_or all i to = get_or_default all i 0 to c.loop-to-test.true in
    let own : lacks task.filed.done to ≡ true = unmarked task.filed.done to c.is_done.result c.is_done.ensures c.if-is_done.false in
    subst (λ (devices : List ℕ). InTurn (IsTold task.device task.filed c.args.ring.now task.place c.args.row) (to_tell task.filed.done devices)
    (course (s c.args.door.now) c.args.missed.now) c.args.outcome.now (course (s c.tell.new.door) c.tell.new.missed) c.tell.new.outcome
    (is_ok c.from_residual.result)) c.as_slice-to-items.ensures
    (turn-broken (IsTold task.device task.filed c.args.ring.now task.place c.args.row) (lacks task.filed.done) c.from_residual.result all i to
    (course (s c.args.door.now) c.args.missed.now) c.args.outcome.now (course (s c.loop-to.door) c.loop-to.missed) c.loop-to.outcome
    (course (s c.tell.new.door) c.tell.new.missed) c.tell.new.outcome c.from_residual.ensures.0 c.loop-to-test.true is own c.loop-to.invariant.tells
    (c.in_err-tell.ensures.tells c.args.row c.loop-to.invariant.change))

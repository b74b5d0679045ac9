use Rattle.std.proofs.Common.{◌≡◌, ◌∙◌, ℕ, Bool, List, false, true, not, get_or, refl, subst, sym, true≢false}
use Rattle.std.proofs.lemmas.Bool.{eqb-true}
use Rattle.std.proofs.lemmas.List.{get_or_default}
use Rattle.std.specs.Prelude.{◌==◌}
use Rattle.std.specs.Result.{is_ok}
use Rattle.sw_cleave.proofs.Coming.{comes-ended, ended}
use Rattle.sw_cleave.specs.Cleaving.{leaves}
use Rattle.sw_cleave.specs.Creating.{IsListGiven, IsListSent, others_of}
use Rattle.sw_pass.proofs.Turns.{turn-broken, turn-passed}
use Rattle.sw_pass.specs.Rings.{replicas_in}
use Rattle.sw_pass.specs.Turns.{InTurn}
use Rattle.sw_cleave.proofs.creating.give_list.Goals as goal

-- another device
abbrev is_other : ℕ → ℕ → Bool
is_other device d = not (d == device)

other : (d device : ℕ) → (d ≡ device → ⊥) → is_other device d ≡ true
other d device apart = by (d == device) refl
  where
    by : (b : Bool) → (d == device) ≡ b → not b ≡ true
    by true same = absurd (apart (eqb-true d device same))
    by false differ = refl

pub loop-to-preserved : goal.loop-to-preserved
loop-to-preserved g c =
    let s = g.D.Door.sight in
    let all = c.devices_of-to-items.result.now in
    let i = c.loop-to.to-index in
    let to = get_or all i 0 in
    let is : to ≡ get_or all i to = get_or_default all i 0 to c.loop-to-test.true in
    record {
      gives = turn-passed (IsListSent c.args.place.now c.args.list.now) (is_other c.args.device) all i to (s c.args.door.now) c.args.outcome.now
          (s c.loop-to.door) c.loop-to.outcome (s c.send_list.new.door) c.send_list.new.outcome c.loop-to-test.true is
          (other to c.args.device c.if-to-device.false) c.loop-to.invariant.gives c.in_ok-send_list.ensures.sends;
      nodes = c.send_list.ensures.nodes ∙ c.loop-to.invariant.nodes;
      asks = c.send_list.ensures.asks ∙ c.loop-to.invariant.asks;
    }

pub returns-in_err-send_list-clause-gives : goal.returns-in_err-send_list-clause-gives
returns-in_err-send_list-clause-gives g c =
    let s = g.D.Door.sight in
    let all = c.devices_of-to-items.result.now in
    let i = c.loop-to.to-index in
    let to = get_or all i 0 in
    let is : to ≡ get_or all i to = get_or_default all i 0 to c.loop-to-test.true in
    comes-ended (IsListGiven c.args.ring.now c.args.device c.args.place.now c.args.list.now (s c.args.door.now) c.args.outcome.now
    (s c.send_list.new.door) c.send_list.new.outcome) c.from_residual.result c.from_residual.ensures.0 (leaves 0) (
      subst (λ (on : Bool). InTurn (IsListSent c.args.place.now c.args.list.now)
          (others_of c.args.device (replicas_in c.args.ring.now c.args.place.now)) (s c.args.door.now) c.args.outcome.now (s c.send_list.new.door)
          c.send_list.new.outcome on) (ended c.from_residual.result c.from_residual.ensures.0)
          (subst (λ (devices : List ℕ). InTurn (IsListSent c.args.place.now c.args.list.now) (others_of c.args.device devices) (s c.args.door.now)
          c.args.outcome.now (s c.send_list.new.door) c.send_list.new.outcome (is_ok c.from_residual.result)) c.devices_of-to-items.ensures.value
          (turn-broken (IsListSent c.args.place.now c.args.list.now) (is_other c.args.device) c.from_residual.result all i to (s c.args.door.now)
          c.args.outcome.now (s c.loop-to.door) c.loop-to.outcome (s c.send_list.new.door) c.send_list.new.outcome c.from_residual.ensures.0
          c.loop-to-test.true is (other to c.args.device c.if-to-device.false) c.loop-to.invariant.gives c.in_err-send_list.ensures.sends)),
      λ on. absurd (true≢false (sym on)),
    )

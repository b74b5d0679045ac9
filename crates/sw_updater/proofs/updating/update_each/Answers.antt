use Rattle.std.proofs.Common.{◌≡◌, ◌++◌, ◌∷◌, ◌∙◌, [], List, length, suc, true, ap, append_assoc, sym, subst, arith}
use Rattle.std.proofs.lemmas.List.Elements.{All-tail}
use Rattle.std.specs.List.{All}
use Rattle.std.specs.Result.{is_ok}
use Rattle.std.specs.Vec.Iter.{into_iter_items}
use Rattle.sw_pass.proofs.Turns.{turn-append, turn-one, turn-stop}
use Rattle.sw_pass.specs.Turns.{InTurn}
use Rattle.sw_pending.specs.Outcomes.{IsRecord}
use Rattle.sw_pending.specs.declared.filed.Filed.{Filed}
use Rattle.sw_updater.specs.Updating.{IsUpdated}
use Rattle.sw_updater.proofs.updating.update_each.Goals as goal

pub loop-filed-preserved : goal.loop-filed-preserved
loop-filed-preserved g c =
    let s = g.D.Door.sight in
    let one = IsUpdated c.args.ring.now c.args.device in
    let filed = c.in-Some.filed in
    let left = into_iter_items c.next.new.self in
    let steps : into_iter_items c.loop-filed.filed-iterator ≡ filed ∷ left = c.in-Some.ensures.steps.0 in
    record {
      updates = turn-append one c.loop-filed.yielded (filed ∷ []) (s c.args.door.now) c.args.outcome.now (s c.loop-filed.door) c.loop-filed.outcome
          (s c.update_record.new.door) c.update_record.new.outcome true c.loop-filed.invariant.updates
          (turn-one one filed (s c.loop-filed.door) c.loop-filed.outcome (s c.update_record.new.door) c.update_record.new.outcome true
          c.in_ok-update_record.ensures.updates);
      whole = append_assoc c.loop-filed.yielded (filed ∷ []) left
          ∙ (ap (λ (rest : List Filed). c.loop-filed.yielded ++ rest) (sym steps) ∙ c.loop-filed.invariant.whole);
      count = (let short : suc (length left) ≡ length (into_iter_items c.loop-filed.filed-iterator) = sym (ap length steps) in
          omega (arith, short, c.in-Some.ensures.steps.1, c.loop-filed.invariant.count));
      good = All-tail (IsRecord c.args.ring.now.secrets) filed left
          (subst (λ (rest : List Filed). All (IsRecord c.args.ring.now.secrets) rest) steps c.loop-filed.invariant.good);
      nodes = c.update_record.ensures.nodes ∙ c.loop-filed.invariant.nodes;
      asks = c.update_record.ensures.asks ∙ c.loop-filed.invariant.asks;
    }

pub returns-in_err-update_record-clause-updates : goal.returns-in_err-update_record-clause-updates
returns-in_err-update_record-clause-updates g c =
    let s = g.D.Door.sight in
    let one = IsUpdated c.args.ring.now c.args.device in
    let filed = c.in-Some.filed in
    let left = into_iter_items c.next.new.self in
    let steps : into_iter_items c.loop-filed.filed-iterator ≡ filed ∷ left = c.in-Some.ensures.steps.0 in
    let whole : (c.loop-filed.yielded ++ filed ∷ []) ++ left ≡ c.args.records.items =
    append_assoc c.loop-filed.yielded (filed ∷ []) left
    ∙ (ap (λ (rest : List Filed). c.loop-filed.yielded ++ rest) (sym steps) ∙ c.loop-filed.invariant.whole) in
    subst (λ (records : List Filed). InTurn one records (s c.args.door.now) c.args.outcome.now (s c.update_record.new.door) c.update_record.new.outcome
    (is_ok c.from_residual.result)) whole
    (turn-stop one c.from_residual.result (c.loop-filed.yielded ++ filed ∷ []) left (s c.args.door.now) c.args.outcome.now
    (s c.update_record.new.door) c.update_record.new.outcome c.from_residual.ensures.0
    (turn-append one c.loop-filed.yielded (filed ∷ []) (s c.args.door.now) c.args.outcome.now (s c.loop-filed.door) c.loop-filed.outcome
    (s c.update_record.new.door) c.update_record.new.outcome _ c.loop-filed.invariant.updates
    (turn-one one filed (s c.loop-filed.door) c.loop-filed.outcome (s c.update_record.new.door) c.update_record.new.outcome _
    c.in_err-update_record.ensures.updates)))

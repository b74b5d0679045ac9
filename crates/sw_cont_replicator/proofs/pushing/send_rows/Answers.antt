use Rattle.std.proofs.Common.{◌≡◌, ◌++◌, ◌∷◌, ◌∙◌, [], List, length, suc, true, ap, append_assoc, refl, sym, subst, arith}
use Rattle.std.proofs.lemmas.List.{append-nil}
use Rattle.std.specs.Result.{is_ok}
use Rattle.std.specs.Vec.Iter.{into_iter_items}
use Rattle.sw_cont_replicator.specs.Pushing.{IsRowSent}
use Rattle.sw_pass.proofs.Turns.{turn-append, turn-one, turn-stop}
use Rattle.sw_pass.specs.Turns.{InTurn}
use Rattle.sw_rows.specs.declared.row.Row.{Row}
use Rattle.sw_cont_replicator.proofs.pushing.send_rows.Goals as goal

nothing-left : {X : Type 0} (xs : List X) → length xs ≡ 0 → xs ≡ []
nothing-left [] none = refl
nothing-left (x ∷ xs) none = absurd (omega arith)

pub loop-row-preserved : goal.loop-row-preserved
loop-row-preserved g c =
    let s = g.D.Door.sight in
    let one = IsRowSent c.args.ring.now c.args.to c.args.place.now in
    let row = c.in-Some.row in
    let left = into_iter_items c.next.new.self in
    let steps : into_iter_items c.loop-row.row-iterator ≡ row ∷ left = c.in-Some.ensures.steps.0 in
    record {
      pushes = turn-append one c.loop-row.yielded (row ∷ []) (s c.args.door.now) c.args.outcome.now (s c.loop-row.door) c.loop-row.outcome
          (s c.send_row.new.door) c.send_row.new.outcome true c.loop-row.invariant.pushes
          (turn-one one row (s c.loop-row.door) c.loop-row.outcome (s c.send_row.new.door) c.send_row.new.outcome true c.in_ok-send_row.ensures.pushes);
      whole = append_assoc c.loop-row.yielded (row ∷ []) left
          ∙ (ap (λ (rest : List Row). c.loop-row.yielded ++ rest) (sym steps) ∙ c.loop-row.invariant.whole);
      count = (let short : suc (length left) ≡ length (into_iter_items c.loop-row.row-iterator) = sym (ap length steps) in
          omega (arith, short, c.in-Some.ensures.steps.1, c.loop-row.invariant.count));
      nodes = c.send_row.ensures.nodes ∙ c.loop-row.invariant.nodes;
      asks = c.send_row.ensures.asks ∙ c.loop-row.invariant.asks;
    }

pub returns-in_err-send_row-clause-pushes : goal.returns-in_err-send_row-clause-pushes
returns-in_err-send_row-clause-pushes g c =
    let s = g.D.Door.sight in
    let one = IsRowSent c.args.ring.now c.args.to c.args.place.now in
    let row = c.in-Some.row in
    let left = into_iter_items c.next.new.self in
    let steps : into_iter_items c.loop-row.row-iterator ≡ row ∷ left = c.in-Some.ensures.steps.0 in
    let whole : (c.loop-row.yielded ++ row ∷ []) ++ left ≡ c.args.rows =
    append_assoc c.loop-row.yielded (row ∷ []) left
    ∙ (ap (λ (rest : List Row). c.loop-row.yielded ++ rest) (sym steps) ∙ c.loop-row.invariant.whole) in
    subst (λ (rows : List Row). InTurn one rows (s c.args.door.now) c.args.outcome.now (s c.send_row.new.door) c.send_row.new.outcome
    (is_ok c.from_residual.result)) whole
    (turn-stop one c.from_residual.result (c.loop-row.yielded ++ row ∷ []) left (s c.args.door.now) c.args.outcome.now
    (s c.send_row.new.door) c.send_row.new.outcome c.from_residual.ensures.0
    (turn-append one c.loop-row.yielded (row ∷ []) (s c.args.door.now) c.args.outcome.now (s c.loop-row.door) c.loop-row.outcome
    (s c.send_row.new.door) c.send_row.new.outcome _ c.loop-row.invariant.pushes
    (turn-one one row (s c.loop-row.door) c.loop-row.outcome (s c.send_row.new.door) c.send_row.new.outcome _ c.in_err-send_row.ensures.pushes)))

pub returns-clause-pushes : goal.returns-clause-pushes
returns-clause-pushes g c =
    let s = g.D.Door.sight in
    let none : into_iter_items c.loop-row.row-iterator ≡ [] = nothing-left _ (sym c.loop-row.invariant.count ∙ c.in-None.ensures.steps.0) in
    let whole : c.loop-row.yielded ≡ c.args.rows =
    sym (append-nil c.loop-row.yielded)
    ∙ (ap (λ (rest : List Row). c.loop-row.yielded ++ rest) (sym none) ∙ c.loop-row.invariant.whole) in
    subst (λ (rows : List Row). InTurn (IsRowSent c.args.ring.now c.args.to c.args.place.now) rows (s c.args.door.now) c.args.outcome.now (s c.loop-row.door)
    c.loop-row.outcome true) whole c.loop-row.invariant.pushes

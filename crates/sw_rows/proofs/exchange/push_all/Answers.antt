use Rattle.std.proofs.Common.{◌≡◌, ◌∷◌, ◌++◌, [], List, length, append_assoc, sym, ◌∙◌, ap, arith}
use Rattle.std.specs.Vec.Iter.{into_iter_items}
use Rattle.sw_rows.specs.declared.numbered.Numbered.{Numbered}
use Rattle.sw_rows.proofs.Exchanging.{log-push, place-behind}
use Rattle.sw_rows.proofs.exchange.push_all.Goals as goal

pub push-requires-clause-positive : goal.push-requires-clause-positive
push-requires-clause-positive g c =
    let left = into_iter_items c.next.new.self in
    let steps : into_iter_items c.loop-numbered.numbered-iterator ≡ c.in-Some.numbered ∷ left = c.in-Some.ensures.steps.0 in
    let whole = ap (λ (t : List Numbered). c.loop-numbered.numbers ++ t) (sym steps) ∙ c.loop-numbered.invariant.whole in
    (place-behind 0 c.loop-numbered.numbers left c.in-Some.numbered (g.behind.list ++ g.behind.rows) whole c.requires.1.1).0

pub push-requires-clause-above : goal.push-requires-clause-above
push-requires-clause-above g c =
    let left = into_iter_items c.next.new.self in
    let steps : into_iter_items c.loop-numbered.numbered-iterator ≡ c.in-Some.numbered ∷ left = c.in-Some.ensures.steps.0 in
    let whole = ap (λ (t : List Numbered). c.loop-numbered.numbers ++ t) (sym steps) ∙ c.loop-numbered.invariant.whole in
    (place-behind 0 c.loop-numbered.numbers left c.in-Some.numbered (g.behind.list ++ g.behind.rows) whole c.requires.1.1).1

pub loop-numbered-preserved : goal.loop-numbered-preserved
loop-numbered-preserved g c =
    let numbers = c.loop-numbered.numbers in
    let n = c.in-Some.numbered in
    let left = into_iter_items c.next.new.self in
    let steps : into_iter_items c.loop-numbered.numbered-iterator ≡ n ∷ left = c.in-Some.ensures.steps.0 in
    let whole = ap (λ (t : List Numbered). numbers ++ t) (sym steps) ∙ c.loop-numbered.invariant.whole in
    let place = place-behind 0 numbers left n (g.behind.list ++ g.behind.rows) whole c.requires.1.1 in
    let pushed : c.push.new.numbers ≡ numbers ++ n ∷ [] = c.in-Ok.ensures.rows in
    record {
      whole = ap (λ (t : List Numbered). t ++ left) pushed ∙ append_assoc numbers (n ∷ []) left ∙ whole;
      log = rw (c.note.ensures.items, pushed) (log-push g.behind.list numbers c.loop-numbered.log.items n.rowid n.row c.loop-numbered.invariant.log place.1);
      room = omega (arith, ap length steps, c.loop-numbered.invariant.room, c.note.ensures.capacity, c.note.ensures.count);
    }

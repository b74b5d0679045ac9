use Rattle.std.proofs.Common.{ap, sym, ◌∙◌}
use Rattle.sw_turn.specs.Known.{times, first_of}
use Rattle.sw_turn_tests.proofs.Making.{by_both}
use Rattle.sw_turn_tests.proofs.writers.by_two.Goals as goal

pub returns : goal.returns
returns g c =
    let j = c.join-left.ensures in
    let left = c.join-left.result.0.0.me in
    let right = c.join-left.result.1.0.me in
    let l = ap (λ m. m.0.numbers) j.first.1.0 in
    let r = ap (λ m. m.0.numbers) j.second.1.0 in
    by_both left.0.seats _ _ left.0.numbers right.0.numbers left.0.known right.0.known c.join.new.pass.me.0.known _ (ap (λ m. m.0.seats) j.first.1.0) l r
    c.join.ensures.mine c.join.ensures.theirs c.close-diary.ensures.value (sym (ap (λ z. times (first_of z) left.0.known.makers) l) ∙ j.first.1.1)
    (sym (ap (λ z. times (first_of z) right.0.known.makers) r) ∙ j.second.1.1)

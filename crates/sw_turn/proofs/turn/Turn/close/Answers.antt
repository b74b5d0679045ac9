use Rattle.std.proofs.Common.{ap, sym, subst, ◌∙◌, Some, ◌≡◌}
use Rattle.sw_turn.specs.Known.{Tells}
use Rattle.sw_turn.proofs.Ends.{ends_with, same_value}
use Rattle.sw_turn.proofs.turn.Turn.close.Goals as goal

pub unreachable-requires : goal.unreachable-requires
unreachable-requires g c =
    let a = c.close_with-closed.ensures in
    let pass = c.args.pass in
    let e = ends_with g.B.Booked.book c.args.self.board.shared.key.seats pass.id pass.me.0 _ _ c.take-slot.result (ap (λ m. m.0.turn) c.requires.idle)
    c.requires.all.1 c.requires.all.0 a.values.2 c.take-slot.ensures.value in
    c.in_default.not-Some e.0 e.1

pub returns-clause-value : goal.returns-clause-value
returns-clause-value g c =
    let a = c.close_with-closed.ensures in
    let pass = c.args.pass in
    let e = ends_with g.B.Booked.book c.args.self.board.shared.key.seats pass.id pass.me.0 _ _ c.take-slot.result (ap (λ m. m.0.turn) c.requires.idle)
    c.requires.all.1 c.requires.all.0 a.values.2 c.take-slot.ensures.value in
    subst (λ z. Tells (g.B.Booked.book z) pass.me.0.known) (same_value e.0 c.in-Some.value (sym e.1 ∙ c.in-Some.is)) e.2

pub returns-clause-last : goal.returns-clause-last
returns-clause-last g c =
    let a = c.close_with-closed.ensures in
    let pass = c.args.pass in
    let e = ends_with g.B.Booked.book c.args.self.board.shared.key.seats pass.id pass.me.0 _ _ c.take-slot.result (ap (λ m. m.0.turn) c.requires.idle)
    c.requires.all.1 c.requires.all.0 a.values.2 c.take-slot.ensures.value in
    subst (λ z. pass.me.0.known.last ≡ Some z) (same_value e.0 c.in-Some.value (sym e.1 ∙ c.in-Some.is)) e.3

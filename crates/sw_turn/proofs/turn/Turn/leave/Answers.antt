use Rattle.std.proofs.Common.{ap, arith, ◌∙◌, refl, ◌∷◌, Some}
use Rattle.atomic_table.specs.Table.{rest}
use Rattle.sw_turn.specs.Known.{taken_in, first_of}
use Rattle.sw_turn.specs.Steps.{in_hand}
use Rattle.sw_turn.proofs.Stepping.{counts_as, passes_as}
use Rattle.sw_turn.proofs.turn.Turn.leave.Goals as goal

pub store-requires : goal.store-requires
store-requires g c =
    let old = c.args.pass.now.me in
    let is = c.requires.turn.1 in
    let value = c.args.guard.value in
    let now = c.exchange-out.ensures.3 ∙ ap (λ m. (old.0, (0, Some value) ∷ rest m.1)) is in (
      c.exchange-out.ensures.0 ∙ c.requires.lock,
      omega (arith, c.args.self.now.words),
      counts_as g.B.Booked.book c.args.self.now.board.shared.key.seats _ _ c.front-front.result _ old.0 value now (ap (λ m. m.0.turn) is)
          (ap (λ m. m.0.parts) is) c.requires.history c.front-front.ensures,
    )

pub fetch_add-served-requires : goal.fetch_add-served-requires
fetch_add-served-requires g c =
    let old = c.args.pass.now.me in
    let is = c.requires.turn.1 in
    let value = c.args.guard.value in
    let now = c.exchange-out.ensures.3 ∙ ap (λ m. (old.0, (0, Some value) ∷ rest m.1)) is in
    let next = c.store.ensures.2 ∙ ap (λ m. (record m.0 { known = in_hand g.B.Booked.book m.0 m.1 }, m.1)) now in (
      c.store.ensures.0 ∙ (c.exchange-out.ensures.0 ∙ c.requires.lock),
      omega (arith, c.args.self.now.words),
      passes_as g.B.Booked.book c.args.self.now.board.shared.key.seats _ _ _
          (record old.0 { known = taken_in old.0.known (first_of old.0.numbers) value (g.B.Booked.book value) }) value c.args.self.now.slots next
          (ap (λ m. m.0.turn) is) (record { entries = refl; opening = refl; faults = refl }) refl,
    )

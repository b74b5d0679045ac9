use Rattle.std.proofs.Common.{ap, sym, ◌∙◌, ◌∷◌, Some}
use Rattle.atomic_table.specs.Table.{rest}
use Rattle.sw_turn.proofs.turn.Turn.enter.Goals as goal

pub exchange-out-requires : goal.exchange-out-requires
exchange-out-requires g c =
    let h = c.wait.ensures.taken in (
      c.wait.ensures.lock ∙ (c.draw-mine.ensures.lock ∙ c.requires.lock),
      (Some h.1, ap (λ m. m.1) h.4 ∙ ap (λ m. (0, Some h.1) ∷ rest m.1) (sym h.4)),
    )

use Rattle.std.proofs.Common.{ap, arith}
use Rattle.sw_turn.proofs.Stepping.{draws}
use Rattle.sw_turn.proofs.turn.Turn.draw.Goals as goal

pub fetch_add-requires : goal.fetch_add-requires
fetch_add-requires g c =
    let is = c.requires.idle in
    let me = c.args.pass.now.me in (
      c.requires.lock,
      omega (arith, c.args.self.now.words),
      draws g.B.Booked.book c.args.self.now.board.shared.key.seats _ _ me.0 me.1 (ap (λ m. m.0.ticket) is) (ap (λ m. m.0.turn) is) c.requires.live,
    )

use Rattle.std.proofs.Common.{ap, arith}
use Rattle.sw_turn.proofs.Parting.{splits}
use Rattle.sw_turn.proofs.turn.Turn.split.Goals as goal

pub split_seat-requires : goal.split_seat-requires
split_seat-requires g c =
    let is = c.requires.idle in (
      c.requires.lock,
      omega (arith, c.args.self.now.words),
      splits g.B.Booked.book c.args.self.now.board.shared.key.seats _ c.args.pass.now.me.0 (ap (λ m. m.0.ticket) is) (ap (λ m. m.0.turn) is) c.requires.two,
    )

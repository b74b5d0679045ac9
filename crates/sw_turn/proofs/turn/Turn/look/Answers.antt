use Rattle.std.proofs.Common.{ap, arith}
use Rattle.sw_turn.proofs.Stepping.{looks}
use Rattle.sw_turn.proofs.turn.Turn.look.Goals as goal

pub load-requires : goal.load-requires
load-requires g c =
    let w = c.requires.waits in
    let me = c.args.pass.now.me in (
      c.requires.lock,
      omega (arith, c.args.self.now.words),
      looks g.B.Booked.book c.args.self.now.board.shared.key.seats _ _ me.0 me.1 w.0 (ap (λ m. m.0.ticket) w.2) (ap (λ m. m.0.turn) w.2)
          (ap (λ m. m.0.parts) w.2),
    )

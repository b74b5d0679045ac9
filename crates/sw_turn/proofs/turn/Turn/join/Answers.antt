use Rattle.std.proofs.Common.{ap, arith, ◌∙◌, subst, sym, ◌≢◌, [], List, ℕ}
use Rattle.sw_turn.proofs.Parting.{joins, joined_live}
use Rattle.sw_turn.proofs.Stepping.{recalls}
use Rattle.sw_turn.proofs.turn.Turn.join.Goals as goal

pub join_seat-requires : goal.join_seat-requires
join_seat-requires g c =
    let is = c.requires.idle in
    let is' = c.requires.other_idle in (
      c.requires.lock.0,
      c.requires.lock.1,
      ap (λ m. m.1) is',
      omega (arith, c.args.self.now.words),
      joins g.B.Booked.book c.args.self.now.board.shared.key.seats _ _ c.args.pass.now.me.0 c.args.other.me.0 (ap (λ m. m.0.ticket) is)
          (ap (λ m. m.0.turn) is) (ap (λ m. m.0.ticket) is') (ap (λ m. m.0.turn) is') c.requires.live.0 c.requires.live.1,
    )

pub load-requires : goal.load-requires
load-requires g c =
    let is = c.requires.idle in
    let now = c.join_seat.ensures.2 in
    let me = c.join_seat.new.seat.me in (
      c.join_seat.ensures.0 ∙ c.requires.lock.0,
      omega (arith, c.args.self.now.words),
      recalls g.B.Booked.book c.args.self.now.board.shared.key.seats _ _ me.0 me.1 (ap (λ m. m.0.ticket) now ∙ ap (λ m. m.0.ticket) is)
          (ap (λ m. m.0.turn) now ∙ ap (λ m. m.0.turn) is)
          (subst (λ (z : List ℕ). z ≢ []) (sym (ap (λ m. m.0.numbers) now))
          (joined_live c.args.pass.now.me.0.numbers c.args.other.me.0.numbers c.requires.live.0)),
    )

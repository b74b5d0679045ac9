use Rattle.sw_turn.proofs.Ends.{starts}
use Rattle.sw_turn.proofs.turn.Turn.new.Goals as goal

pub new-requires : goal.new-requires
new-requires g c =
    rw (c.push_reserved.ensures.items, c.reserve.ensures.items, c.new-slots.ensures.items, c.of.ensures)
    (starts g.B.Booked.book c.args.seats c.front-front.result c.args.value c.requires c.ranges.seats.fits c.front-front.ensures)

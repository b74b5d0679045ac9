use Rattle.std.proofs.Common.{◌-◌, arith}
use Rattle.sw_stores.proofs.InRange.{around-rests}
use Rattle.sw_stores.proofs.ranges.give_around.Goals as goal

pub returns-clause-rests : goal.returns-clause-rests
returns-clause-rests g c =
    let s = g.S.Stores in
    around-rests (s.rests c.give_last.new.stores) (s.rests c.give_range.new.stores) c.args.stripes c.args.first c.args.past (c.args.count - c.args.past)
    c.args.parts c.give_last.new.parts (omega (arith, c.requires.around)) (omega (arith, c.requires.each))
    c.give_last.ensures.rests c.give_range.ensures.rests c.give_range.ensures.others

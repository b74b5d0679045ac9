use Rattle.std.proofs.Common.{◌≡◌, length, arith}
use Rattle.sw_stores.proofs.InRange.{restarted-rests, restarted-same}
use Rattle.sw_stores.proofs.ranges.restart_range.Goals as goal

pub returns-clause-same : goal.returns-clause-same
returns-clause-same g c =
    let s = g.S.Stores in
    let count : c.len-count.result ≡ length c.args.parts = omega (arith, c.len-count.ensures) in
    restarted-same s.first (s.rests c.give_range.new.stores) c.args.stripes c.args.first c.len-count.result c.args.parts c.start_range.result count
    c.give_range.ensures.rests c.start_range.ensures.count c.start_range.ensures.started

pub returns-clause-rests : goal.returns-clause-rests
returns-clause-rests g c =
    let s = g.S.Stores in
    let count : c.len-count.result ≡ length c.args.parts = omega (arith, c.len-count.ensures) in
    restarted-rests s.first (s.rests c.give_range.new.stores) (s.rests c.start_range.new.stores) c.args.stripes c.args.first c.len-count.result
    c.args.parts c.start_range.result
    (omega arith) count c.give_range.ensures.rests c.start_range.ensures.rests

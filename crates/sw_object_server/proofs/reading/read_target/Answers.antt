use Rattle.std.proofs.Common.{IfOk, subst}
use Rattle.sw_object_server.specs.Reading.{AsksName}
use Rattle.sw_object_server.specs.declared.target.Parts.{Parts}
use Rattle.sw_object_server.proofs.reading.read_target.Goals as goal

-- the segments are those of the path
pub returns-clause-asked : goal.returns-clause-asked
returns-clause-asked c =
    let of_path = rw c.as_slice.ensures at c.in_ok-parts.ensures in
    subst (λ (p : Parts). IfOk c.read_parts.result (AsksName c.args.ring.now p c.args.request c.args.verb)) of_path c.read_parts.ensures.asked

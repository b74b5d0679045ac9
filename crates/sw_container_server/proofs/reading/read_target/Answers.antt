use Rattle.sw_container_server.proofs.Decided.{for-bad-names}
use Rattle.sw_container_server.proofs.reading.read_target.Goals as goal

-- something is wrong with the names
pub returns-in-None : goal.returns-in-None
returns-in-None c =
    for-bad-names c.args.ring.now c.args.target c.args.request.now c.args.verb (rw c.in-None.is at c.in_ok-place.ensures)

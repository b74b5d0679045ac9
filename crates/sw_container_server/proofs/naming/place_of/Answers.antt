use Rattle.std.proofs.Common.{Err, ap}
use Rattle.sw_container_server.proofs.Names.{bad-place}
use Rattle.sw_container_server.proofs.naming.place_of.Goals as goal

-- something is wrong with the names of the place
pub returns-in-Err-Bad : goal.returns-in-Err-Bad
returns-in-Err-Bad c =
    let bad = (c.in-Err-Bad.ensures.bad c.in-Err-Bad.field-0-0).0 (ap Err c.in-Err-Bad.field-0-is) in
    bad-place c.args.verb c.args.target.now c.in-Err-Bad.field-0-0 (rw (c.as_slice-account.ensures, c.as_slice-container.ensures) at bad)

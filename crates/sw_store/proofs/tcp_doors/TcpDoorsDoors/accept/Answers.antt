-- The connection has the number behind those that were accepted before.
use Rattle.std.proofs.Common.{rules}
use Rattle.sw_store.proofs.Accepting.{accepted-count, accepts-more}
use Rattle.sw_store.proofs.tcp_doors.TcpDoorsDoors.accept.Goals as goal

pub returns-in_ok-promise-in-Ok-clause-accepted : goal.returns-in_ok-promise-in-Ok-clause-accepted
returns-in_ok-promise-in-Ok-clause-accepted g c =
    rw (accepted-count c.args.self.now.finished.promised)
    (rw c.in_ok-promise-in-Ok.ensures.ok (rw (accepts-more c.args.self.now.finished.promised) (search rules)))

pub returns-in_ok-promise-in-Ok-clause-numbers : goal.returns-in_ok-promise-in-Ok-clause-numbers
returns-in_ok-promise-in-Ok-clause-numbers g c = rw (accepted-count c.args.self.now.finished.promised) (search rules)

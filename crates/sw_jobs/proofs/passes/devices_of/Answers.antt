use Rattle.sw_jobs.proofs.Standing.{devices-some}
use Rattle.sw_jobs.proofs.passes.devices_of.Goals as goal

-- each row has a device
pub returns-clause-some : goal.returns-clause-some
returns-clause-some c = rw c.as_slice.ensures (devices-some c.args.ring.now)

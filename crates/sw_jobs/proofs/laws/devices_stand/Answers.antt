use Rattle.sw_jobs.proofs.Standing.{devices-stand}
use Rattle.sw_jobs.proofs.laws.devices_stand.Goals as goal

pub returns : goal.returns
returns c = devices-stand

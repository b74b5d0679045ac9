use Rattle.sw_machine.proofs.Doors.{device-listings, restarts}
use Rattle.sw_machine.proofs.laws.devices_go_on.Goals as goal

pub returns-clause-listings : goal.returns-clause-listings
returns-clause-listings c = device-listings

pub returns-clause-restarts : goal.returns-clause-restarts
returns-clause-restarts c = restarts

use Rattle.sw_machine.proofs.Doors.{container-changes, infos, listings, parcels, range-rows, shardings, times}
use Rattle.sw_machine.proofs.laws.containers_go_on.Goals as goal

pub returns-clause-changes : goal.returns-clause-changes
returns-clause-changes c = container-changes

pub returns-clause-times : goal.returns-clause-times
returns-clause-times c = times

pub returns-clause-infos : goal.returns-clause-infos
returns-clause-infos c = infos

pub returns-clause-listings : goal.returns-clause-listings
returns-clause-listings c = listings

pub returns-clause-parcels : goal.returns-clause-parcels
returns-clause-parcels c = parcels

pub returns-clause-shardings : goal.returns-clause-shardings
returns-clause-shardings c = shardings

pub returns-clause-range_rows : goal.returns-clause-range_rows
returns-clause-range_rows c = range-rows

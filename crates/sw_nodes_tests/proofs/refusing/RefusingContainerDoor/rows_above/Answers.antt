use Rattle.sw_container_steps.specs.Reads.{range_parcel_of}
use Rattle.sw_peer.specs.declared.cont_event.ContEvent.TheVariants.{Cleft}
use Rattle.sw_nodes_tests.proofs.Silences.{wanted-look}
use Rattle.sw_nodes_tests.proofs.refusing.RefusingContainerDoor.rows_above.Goals as goal

pub returns-clause-read : goal.returns-clause-read
returns-clause-read c = wanted-look c.args._link c.args._device c.args._place.now (range_parcel_of c.args._range c.args._above)
    (λ got. Cleft c.args._place.now c.args._range c.args._above got)

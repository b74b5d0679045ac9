use Rattle.sw_container_steps.specs.Reads.{parcel_of}
use Rattle.sw_peer.specs.declared.cont_event.ContEvent.TheVariants.{Parceled}
use Rattle.sw_nodes_tests.proofs.Silences.{wanted-look}
use Rattle.sw_nodes_tests.proofs.refusing.RefusingContainerDoor.sync_rows.Goals as goal

pub returns-clause-read : goal.returns-clause-read
returns-clause-read c = wanted-look c.args._link c.args._device c.args._place.now (parcel_of c.args._to)
    (λ got. Parceled c.args._place.now c.args._to got)

use Rattle.sw_container_steps.specs.Reads.{listing_of}
use Rattle.sw_peer.specs.declared.cont_event.ContEvent.TheVariants.{Listed}
use Rattle.sw_nodes_tests.proofs.Silences.{wanted-look}
use Rattle.sw_nodes_tests.proofs.refusing.RefusingContainerDoor.list.Goals as goal

pub returns-clause-read : goal.returns-clause-read
returns-clause-read c = wanted-look c.args._link c.args._device c.args._place.now (listing_of c.args._query.now)
    (λ got. Listed c.args._place.now c.args._query.now got)

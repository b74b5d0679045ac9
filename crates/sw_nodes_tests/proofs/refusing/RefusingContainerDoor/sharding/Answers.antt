use Rattle.sw_container_steps.specs.Reads.{sharding_of}
use Rattle.sw_peer.specs.declared.cont_event.ContEvent.TheVariants.{Sharded}
use Rattle.sw_nodes_tests.proofs.Silences.{wanted-look}
use Rattle.sw_nodes_tests.proofs.refusing.RefusingContainerDoor.sharding.Goals as goal

pub returns-clause-read : goal.returns-clause-read
returns-clause-read c = wanted-look c.args._link c.args._device c.args._place.now sharding_of
    (λ got. Sharded c.args._place.now got)

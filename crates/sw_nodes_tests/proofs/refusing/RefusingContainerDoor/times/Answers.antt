use Rattle.sw_container_steps.specs.Reads.{times_of}
use Rattle.sw_peer.specs.declared.cont_event.ContEvent.TheVariants.{Timed}
use Rattle.sw_nodes_tests.proofs.Silences.{wanted-look}
use Rattle.sw_nodes_tests.proofs.refusing.RefusingContainerDoor.times.Goals as goal

pub returns-clause-read : goal.returns-clause-read
returns-clause-read c = wanted-look c.args._link c.args._device c.args._place.now times_of (λ got. Timed c.args._place.now got)

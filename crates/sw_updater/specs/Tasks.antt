-- What is done for one record: what it needs of the nodes, and what its parts tell. (This project's own.)
use Rattle.std.specs.Prelude.{◌≡◌, ◌<◌, Bool, true, false, List, Result, Ok, Err}
use Rattle.std.specs.List.{All}
use Rattle.std.specs.declared.alloc.Global.{Global}
use Rattle.std.specs.declared.vec.Vec.{Vec}
use Rattle.sw_object_steps.specs.declared.dir_fault.DirFault.{DirFault}
use Rattle.sw_outside.specs.declared.errors.NoMemory.{NoMemory}
use Rattle.sw_peer.specs.Sights.{Nodes}
use Rattle.sw_pending.specs.declared.filed.Filed.{Filed}
use Rattle.sw_updater.specs.declared.task.Task.{Task}

-- its device and those of the container are nodes, and the hashes of its names are those that the nodes know them by
pub record IsFor (nodes : Nodes) (task : Task) : Type 0 where
  pub device : task.device < nodes.devices
  pub fits : nodes.fits task.filed.name ≡ true
  pub fits_place : nodes.fits_place task.place ≡ true
  pub all : All (λ to. to < nodes.devices) task.all

-- whether a drop told that the record went
abbrev pub has_gone : Result Bool NoMemory → Bool
has_gone (Ok went) = went
has_gone (Err wanting) = false

-- what a read of several stripes answered: the records of all of them, or the first fault. Memory for joining them is wanted only after all were read
abbrev pub Gives : Result (Result (Vec Filed Global) DirFault) NoMemory → Result (List Filed) DirFault → Type 0
Gives (Ok (Ok records)) got = got ≡ Ok records.items
Gives (Ok (Err fault)) got = got ≡ Err fault
Gives (Err wanting) got = (records : List Filed) × (got ≡ Ok records)

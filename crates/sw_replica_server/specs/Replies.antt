-- The replies to requests for replicas. (This project's own; OpenStack Swift replies with pickled hashes.)
use Rattle.std.specs.Prelude.{ℕ, Bool, true, false, List, [], ◌∷◌, codes, Result, Ok, Err}
use Rattle.std.specs.declared.alloc.Global.{Global}
use Rattle.std.specs.declared.vec.Vec.{Vec}
use Rattle.sw_message.specs.declared.response.ReplyBody.TheVariants.{Whole}
use Rattle.sw_message.specs.declared.response.Response.{Response}
use Rattle.sw_object_server.specs.Replies.{bare, damaged, field}
use Rattle.sw_object_steps.specs.declared.dir_fault.DirFault.{DirFault}
use Rattle.sw_object_steps.specs.declared.dir_fault.DirFault.TheVariants as faults
use Rattle.sw_suffix.specs.declared.dir_line.DirLine.{DirLine}
use Rattle.sw_suffix.specs.declared.told.SuffixHash.{SuffixHash}
use Rattle.sw_replica_server.specs.ReplicaText.{files_text, hashes_text}

-- a reply that is JSON
abbrev pub json_reply : List ℕ → Response
json_reply text = record {
  status = 200;
  fields = field (codes "Content-Type") (codes "application/json; charset=utf-8") ∷ [];
  body = Whole text;
}

-- the reply to a read that gave nothing
abbrev pub fault_reply : DirFault → Response
fault_reply (faults.Damaged bad) = damaged bad
fault_reply faults.Failed = bare 507
fault_reply faults.NoMemory = bare 500

-- the reply to a read of hashes
abbrev pub hashes_reply : Result (Vec SuffixHash Global) DirFault → Response
hashes_reply (Ok hashes) = json_reply (hashes_text hashes.items)
hashes_reply (Err fault) = fault_reply fault

-- the reply to reads of files
abbrev pub files_reply : Result (Vec DirLine Global) DirFault → Response
files_reply (Ok lines) = json_reply (files_text lines.items)
files_reply (Err fault) = fault_reply fault

-- whether the reply to a fault shows what is damaged
abbrev pub shows_fault : DirFault → Bool
shows_fault (faults.Damaged bad) = true
shows_fault faults.Failed = false
shows_fault faults.NoMemory = false

-- whether a reply tells or shows something: no other one can find no memory
abbrev pub takes_memory : {A : Type 0} → Result A DirFault → Bool
takes_memory (Ok got) = true
takes_memory (Err fault) = shows_fault fault

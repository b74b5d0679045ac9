-- Accounts of a machine: all writes that reached its devices, in order, and whether a client asked the device for each. They go on with what the steps of a run
-- make known. (This project's own.)
use Rattle.std.specs.Prelude.{◌≡◌, ℕ, Bool, List, [], ◌∷◌, ◌++◌, map}
use Rattle.std.specs.List.{All}
use Rattle.sw_hashpath.specs.declared.name.Name.{Name}
use Rattle.sw_listing_laws.specs.Asking.{is_asked_line}
use Rattle.sw_machine.specs.Machine.{KnownWrite, Machine, RunLine, Runs, writes_among}
use Rattle.sw_machine.specs.Sides.{side_of}
use Rattle.sw_object_steps.specs.Journals.{Hash}
use Rattle.sw_peer.specs.Sights.{Nodes, Sight}
use Rattle.sw_state.specs.declared.write.Write.{Write}

-- a write that reached a device: a client asked the device for it, or it came there otherwise, from another device
pub record Written : Type 0 where
  pub device : ℕ
  pub name : Name
  pub write : Write
  pub asked : Bool

abbrev pub Account : Type 0
Account = List Written

-- ---- what an account tells

-- a write of it, as a machine has it
abbrev pub known_of : Written → ℕ × KnownWrite
known_of w = (w.device, record { name = w.name; write = w.write })

abbrev pub known_by : Account → List (ℕ × KnownWrite)
known_by account = map known_of account

-- the writes that reached a device under a hash, in order
abbrev pub written_at : Account → ℕ → Hash → List Write
written_at account device hash = writes_among (known_by account) device hash

-- exactly what is known to have reached devices
abbrev pub IsAccount : Machine → Account → Type 0
IsAccount m account = m.objects.known ≡ known_by account

-- the machine in which nothing has happened but what stands at the nodes, and this is known to have reached them
abbrev pub machine_with : Sight → Account → Machine
machine_with s account =
    record { objects = record { half = s.objects; known = known_by account }; containers = side_of s.containers; sent = [] }

-- ---- how an account goes on

-- the writes that a step made known, also where it failed and they were made: each is asked for where the step of the line is
pub record Adds (m : Machine) (line : RunLine) (after : Machine) (news : Account) : Type 0 where
  pub known : after.objects.known ≡ m.objects.known ++ known_by news
  pub asked : All (λ w. w.asked ≡ is_asked_line line) news

-- with each step of a run these come to it
abbrev pub GoesOnFrom : (nodes : Nodes) (m : Machine) (lines : List RunLine) (after : Machine) → Runs nodes m lines after → Account → Account → Type 0
GoesOnFrom nodes m [] after run account later = later ≡ account
GoesOnFrom nodes m (line ∷ lines) after run account later =
    (news : Account) × Adds m line run.0 news × GoesOnFrom nodes run.0 lines after run.2 (account ++ news) later

-- What a request for replicas asks the nodes of a ring for, or the status that refuses it. (OpenStack Swift's object server; the order of the
-- refusals, and that the files of suffixes can be asked for, are this project's own.)
use Rattle.std.specs.Prelude.{◌≡◌, ⊤, ℕ, ◌<◌, ◌^◌, List, [], ◌∷◌, length, Option, None, Some, IfSome, IsSome, Contains}
use Rattle.sw_message.specs.declared.request.Request.{Request}
use Rattle.sw_object_server.specs.Places.{IsDevice, IsPartition}
use Rattle.sw_object_server.specs.Tests.{IsDecided}
use Rattle.sw_ring.specs.declared.ring.Ring.{Ring}
use Rattle.sw_replica_server.specs.Suffixes.{AreNamed, AreSuffixes, pieces}
use Rattle.sw_replica_server.specs.Targets.{target_of}
use Rattle.sw_replica_server.specs.declared.asked.ReplicaAsked.{ReplicaAsked}
use Rattle.sw_replica_server.specs.declared.asked.ReplicaAsked.TheVariants.{Files, Hashes, Refused}
use Rattle.sw_replica_server.specs.declared.target.Target.{Target}

-- ---- the tests

-- the ring has its device
abbrev pub HasDevice : Ring → Target → Type 0
HasDevice ring target = Contains ring.devices target.device

-- its second segment is the number of a partition of the ring
abbrev pub HasPartition : Ring → Target → Type 0
HasPartition ring target = (part : ℕ) × IsPartition ring target.partition (Some part)

-- its third segment, where there is one, is suffixes
abbrev pub HasSuffixes : Target → Type 0
HasSuffixes target = IfSome target.suffixes (λ text. AreSuffixes (pieces text))

-- what a target has to pass, in this order, each with the status that refuses it
abbrev pub tests : Ring → Target → List (ℕ × Type 0)
tests ring target = (404, HasDevice ring target) ∷ (400, HasPartition ring target) ∷ (400, HasSuffixes target) ∷ []

-- ---- what is asked for

-- of a partition of a device: without a third segment its hashes, with one the files of the suffixes that it names
abbrev pub AsksOf : ℕ → ℕ → Option (List ℕ) → ReplicaAsked → Type 0
AsksOf device part None asked = asked ≡ Hashes device part
AsksOf device part (Some text) asked = (suffixes : List ℕ) × AreNamed text suffixes × (asked ≡ Files device part suffixes)

-- what a target asks for that passes every test
abbrev pub AsksFor : Ring → Target → ReplicaAsked → Type 0
AsksFor ring target asked =
    (device : ℕ) × (part : ℕ) × IsDevice ring target.device (Some device) × IsPartition ring target.partition (Some part)
    × AsksOf device part target.suffixes asked

-- the first test that fails decides: the target is refused with its status. Where none fails, it asks for its reads
unfoldable pub IsAskedBy : Ring → Target → ReplicaAsked → Type 0
IsAskedBy ring target = IsDecided (tests ring target) Refused (AsksFor ring target)

-- what a request for replicas asks for, whatever its query and its body
abbrev pub IsAsked : Ring → Request → ReplicaAsked → Type 0
IsAsked ring r = IsAskedBy ring (target_of r.path)

-- the device is one of the ring's, and so is the partition
abbrev pub IsPlace : Ring → ℕ → ℕ → Type 0
IsPlace ring device part = (device < length ring.devices) × (part < 2 ^ ring.power)

-- what is asked for has such a place
abbrev pub IsPlaced : Ring → ReplicaAsked → Type 0
IsPlaced ring (Refused status) = ⊤
IsPlaced ring (Hashes device part) = IsPlace ring device part
IsPlaced ring (Files device part suffixes) = IsPlace ring device part

-- memory is taken to read the suffixes that a target names: at a device of the ring, and in a partition of it
pub record TakesSuffixes (ring : Ring) (target : Target) : Type 0 where
  pub device : ℕ
  pub is_device : IsDevice ring target.device (Some device)
  pub partition : HasPartition ring target
  pub named : IsSome target.suffixes

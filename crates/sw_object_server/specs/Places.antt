-- Where a name is in a ring. (OpenStack Swift's object server.)
use Rattle.std.specs.Prelude.{◌≡◌, ◌≢◌, ⊤, ℕ, ◌^◌, ◌<◌, Bool, List, length, Option, None, Some, Contains, decimal, slice_get}
use Rattle.std.specs.Str.{bytes_eq}
use Rattle.sw_hashpath.specs.BadNames.{bad_name}
use Rattle.sw_hashpath.specs.HashParts.{partition_of}
use Rattle.sw_hashpath.specs.Paths.{hash_of}
use Rattle.sw_hashpath.specs.declared.bad_name.BadName.{BadName}
use Rattle.sw_hashpath.specs.declared.name.Name.{Name}
use Rattle.sw_ring.specs.declared.ring.Ring.{Ring}
use Rattle.sw_object_server.specs.declared.asked.Asked.{Asked}
use Rattle.sw_object_server.specs.declared.asked.Asked.TheVariants.{Refused, Change, Read}
use Rattle.sw_object_server.specs.declared.target.Parts.{Parts}

-- the first thing that is wrong with the names of a target
abbrev pub name_fault : Parts → Option BadName
name_fault p = bad_name p.account (Some p.container) (Some p.object)

-- the name that they are under the ring's secrets
abbrev pub name_in : Ring → Parts → Name
name_in ring p = record {
  account = p.account;
  container = p.container;
  object = p.object;
  hash = hash_of ring.secrets p.account (Some p.container) (Some p.object);
}

-- the name is a good one, and its hash is that of its path under the ring's secrets
abbrev pub IsHashed : Ring → Name → Type 0
IsHashed ring name = (name.hash ≡ hash_of ring.secrets name.account (Some name.container) (Some name.object))
    × (bad_name name.account (Some name.container) (Some name.object) ≡ None)

-- the device of this name, as its place in the ring's list, where the ring has it
abbrev pub IsDevice : Ring → List ℕ → Option ℕ → Type 0
IsDevice ring name None = ¬ (Contains ring.devices name)
IsDevice ring name (Some device) = slice_get ring.devices device ≡ Some name

-- the partition that a text names, by its decimal number, where the ring has it
abbrev pub IsPartition : Ring → List ℕ → Option ℕ → Type 0
IsPartition ring text None = (part : ℕ) → part < 2 ^ ring.power → text ≢ decimal part
IsPartition ring text (Some part) = (part < 2 ^ ring.power) × (text ≡ decimal part)

-- whether a text is the number of the name's partition
abbrev pub is_partition_of : Ring → Name → List ℕ → Bool
is_partition_of ring name text = bytes_eq text (decimal (partition_of name.hash ring.power))

-- the device is one of the ring's, and the name is good and its hash right
abbrev pub IsPlace : Ring → ℕ → Name → Type 0
IsPlace ring device name = (device < length ring.devices) × IsHashed ring name

-- a step that is asked for has such a place
abbrev pub IsPlaced : Ring → Asked → Type 0
IsPlaced ring (Refused status) = ⊤
IsPlaced ring (Change device name change) = IsPlace ring device name
IsPlaced ring (Read device name head_only) = IsPlace ring device name

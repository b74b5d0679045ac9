-- Where a container is in a ring. (OpenStack Swift's container server.)
use Rattle.std.specs.Prelude.{◌≡◌, ℕ, ◌<◌, Bool, not, ◌||◌, List, length, Option, None, Some, is_none, IsSome, Contains, decimal, slice_get, if◌then◌else◌}
use Rattle.std.specs.Str.{bytes_eq}
use Rattle.sw_hashpath.specs.BadNames.{bad_name}
use Rattle.sw_hashpath.specs.HashParts.{partition_of}
use Rattle.sw_hashpath.specs.Paths.{hash_of}
use Rattle.sw_hashpath.specs.declared.bad_name.BadName.{BadName}
use Rattle.sw_hashpath.specs.declared.place.Place.{Place}
use Rattle.sw_ring.specs.declared.ring.Ring.{Ring}
use Rattle.sw_container_server.specs.Targets.{names_row}
use Rattle.sw_container_server.specs.declared.target.Target.{Target}
use Rattle.sw_container_server.specs.declared.verb.Verb.{Verb}

-- ---- names

-- the name of the row, where the verb is one of a row's
abbrev pub object_of : Verb → Target → Option (List ℕ)
object_of verb t = if names_row verb then Some t.object else None

-- the first thing that is wrong with the names of a target
abbrev pub name_fault : Verb → Target → Option BadName
name_fault verb t = bad_name t.account (Some t.container) (object_of verb t)

-- the verb is none of a row's, or nothing is wrong with the names of the row
abbrev pub has_good_object : Verb → Target → Bool
has_good_object verb t = not (names_row verb) || is_none (bad_name t.account (Some t.container) (Some t.object))

-- the place that its account and its container are under the ring's secrets
abbrev pub place_in : Ring → Target → Place
place_in ring t = record {
  account = t.account;
  container = t.container;
  hash = hash_of ring.secrets t.account (Some t.container) None;
}

-- the place that a target names, where nothing is wrong with its names
abbrev pub IsNamed : Ring → Verb → Target → Option Place → Type 0
IsNamed ring verb t None = IsSome (name_fault verb t)
IsNamed ring verb t (Some place) = (name_fault verb t ≡ None) × (place ≡ place_in ring t)

-- the place is a good one, and its hash is that of its path under the ring's secrets
abbrev pub IsHashed : Ring → Place → Type 0
IsHashed ring place = (place.hash ≡ hash_of ring.secrets place.account (Some place.container) None)
    × (bad_name place.account (Some place.container) None ≡ None)

-- ---- partitions and devices

-- the partition of a place
abbrev pub part_of : Ring → Place → ℕ
part_of ring place = partition_of place.hash ring.power

-- whether a text is the number of the place's partition
abbrev pub is_partition_of : Ring → Place → List ℕ → Bool
is_partition_of ring place text = bytes_eq text (decimal (part_of ring place))

-- the device keeps the containers of this partition
abbrev pub IsKeeper : Ring → ℕ → ℕ → Type 0
IsKeeper ring part device = (row : List ℕ) × (slice_get ring.container part ≡ Some row) × Contains row device

-- the device is one of the ring's, and keeps the containers of the partition of this place, which is good and has its hash
pub record IsPlace (ring : Ring) (device : ℕ) (place : Place) : Type 0 where
  pub known : device < length ring.devices
  pub keeps : IsKeeper ring (part_of ring place) device
  pub hashed : IsHashed ring place

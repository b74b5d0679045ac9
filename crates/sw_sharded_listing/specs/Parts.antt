-- The parts in which a container that is split is listed: the shards of the ranges that are left to them, and what the container itself has of the other
-- names. (OpenStack Swift's proxy lists the shards of a container one after the other; that the container itself has the names of the ranges that aren't
-- closed yet is this project's own.)
use Rattle.std.specs.Prelude.{ℕ, Bool, true, nat_lt, if◌then◌else◌, List, [], ◌∷◌, ◌++◌, length, map, reverse, slice_index_or, take, Option, None, Some}
use Rattle.std.specs.List.{list_all}
use Rattle.sw_hashpath.specs.declared.place.Place.{Place}
use Rattle.sw_hashpath.specs.declared.secrets.Secrets.{Secrets}
use Rattle.sw_pass.specs.Rings.{is_place, replicas_in}
use Rattle.sw_ring.specs.declared.ring.Ring.{Ring}
use Rattle.sw_shard_range.specs.declared.range.Range.{Range}

-- ---- ranges whose names are left to shards

-- so many are closed: the first ones
abbrev pub served_in : Option (List Range) → ℕ → List Range
served_in None cursor = []
served_in (Some ranges) cursor = take cursor ranges

-- whether a name isn't left to a shard
abbrev pub has_own : Option (List Range) → ℕ → Bool
has_own None cursor = true
has_own (Some ranges) cursor = nat_lt cursor (length ranges)

-- where ranges end that go on from a bound
abbrev pub end_of : List ℕ → List Range → List ℕ
end_of bound [] = bound
end_of bound (range ∷ ranges) = end_of range.upper ranges

-- whether the nodes know the shard of each range
abbrev pub are_places : Secrets → List Range → Bool
are_places secrets ranges = list_all (λ range. is_place secrets range.shard) ranges

-- ---- parts

-- the device of this number among those that keep a container
abbrev pub replica_at : Ring → ℕ → Place → ℕ
replica_at ring replica place = slice_index_or (replicas_in ring place) replica 0

-- a range of names, and the container and the device that list it. Names come after `lower`, and not after `upper`; an empty text is no bound
pub record Part : Type 0 where
  pub device : ℕ
  pub place : Place
  pub lower : List ℕ
  pub upper : List ℕ

-- the shard of a range lists it
abbrev pub shard_part : Ring → ℕ → Range → Part
shard_part ring replica range = record { device = replica_at ring replica range.shard; place = range.shard; lower = range.lower; upper = range.upper }

-- the container itself lists what comes after these ranges
abbrev pub own_part : ℕ → Place → List Range → Part
own_part device place served = record { device = device; place = place; lower = end_of [] served; upper = [] }

abbrev pub own_parts : ℕ → Place → List Range → Bool → List Part
own_parts device place served own = if own then own_part device place served ∷ [] else []

abbrev pub turned : Bool → List Part → List Part
turned backwards parts = if backwards then reverse parts else parts

-- a container that is split, by which its parts are told: the ranges that are left to shards, and whether a name isn't
pub record Split : Type 0 where
  pub ring : Ring
  pub device : ℕ
  pub place : Place
  pub replica : ℕ  -- which of the devices of a shard is asked
  pub backwards : Bool  -- whether the listing goes from the last name to the first
  pub served : List Range
  pub own : Bool

-- all of them, in the direction of the listing
abbrev pub parts_in : Split → List Part
parts_in s = turned s.backwards (map (shard_part s.ring s.replica) s.served ++ own_parts s.device s.place s.served s.own)

-- those of a container at a device that has these ranges, of which so many are closed
abbrev pub parts_of : Ring → ℕ → Place → ℕ → Bool → Option (List Range) → ℕ → List Part
parts_of ring device place replica backwards ranges cursor = parts_in (record {
  ring = ring;
  device = device;
  place = place;
  replica = replica;
  backwards = backwards;
  served = served_in ranges cursor;
  own = has_own ranges cursor;
})

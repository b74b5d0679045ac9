-- What a ring says: the devices, and for each partition the devices that keep it (OpenStack Swift documentation, "The
-- Rings"). The lock bits, and two tables in one ring, are this project's own.
use Rattle.std.specs.Prelude.{ℕ, ◌&&◌, ◌||◌, List, Bool}
use Rattle.std.specs.List.{list_all, list_any}
use Rattle.sw_hashpath.specs.declared.secrets.Secrets.{Secrets}

pub record RingData : Type 0 where
  pub devices : List (List ℕ)  -- the names of the devices
  pub power : ℕ  -- the tables have 2 to this power rows
  pub lock_bits : ℕ  -- a device has 2 to these bits locks for objects
  pub replicas : ℕ  -- how many devices a row has
  pub secrets : Secrets
  pub object : List (List ℕ)  -- for each partition, the devices of its objects, as places in the list of devices
  pub container : List (List ℕ)  -- for each partition, the devices of its containers

-- whether a row of either table passes a test, and whether each does
abbrev pub any_row : (List ℕ → Bool) → RingData → Bool
any_row test ring = list_any test ring.object || list_any test ring.container

abbrev pub each_row : (List ℕ → Bool) → RingData → Bool
each_row test ring = list_all test ring.object && list_all test ring.container

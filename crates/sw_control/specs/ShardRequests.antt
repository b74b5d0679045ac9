-- What control requests ask of the shards of a container. (This project's own; that accounts beginning with `.` are hidden is OpenStack Swift's.)
use Rattle.std.specs.Prelude.{◌≡◌, ℕ, Bool, false, ◌&&◌, List, length, nat_le, IsTrue, Some}
use Rattle.sw_fields.specs.Fields.{IsTimeOf}
use Rattle.sw_hashpath.specs.declared.place.Place.{Place}
use Rattle.sw_message.specs.declared.fields.Field.{Field}
use Rattle.sw_object_server.specs.Places.{IsDevice}
use Rattle.sw_ring.specs.declared.ring.Ring.{Ring}
use Rattle.sw_shard_range.specs.Names.{is_hidden}
use Rattle.sw_control.specs.Passes.{AreActs, IsContainer, IsNumber}
use Rattle.sw_control.specs.declared.cleaving.Cleaving.{Cleaving}
use Rattle.sw_control.specs.declared.shard_creation.ShardCreation.{ShardCreation}
use Rattle.sw_control.specs.declared.shards_read.ShardsRead.{ShardsRead}

-- ---- containers that may be cut into shards

-- the place of the container of these names, which isn't hidden: no shard is cut again
pub record IsShown (ring : Ring) (account container : List ℕ) (place : Place) : Type 0 where
  pub place_is : IsContainer ring account container (Some place)
  pub shown : is_hidden place ≡ false

-- whether the names of a container leave room for those of its shards, whatever their time and index. In an account of 256 bytes at most 8 come before the
-- container's account, and in a container of 256 at most 61 behind the container
abbrev pub has_room : Place → Bool
has_room place = nat_le (length place.account) 248 && nat_le (length place.container) 192

-- ---- what is asked for

-- a creation of the shards of a container is asked for by the name of a device, by those of the container, by how many live names a shard has, and by fields,
-- which give its time
pub record IsShardCreation (ring : Ring) (name account container per_shard : List ℕ) (fields : List Field) (asked : ShardCreation) : Type 0 where
  pub device : IsDevice ring name (Some asked.device)
  pub place : IsShown ring account container asked.place
  pub room : IsTrue (has_room asked.place)
  pub per_shard_is : IsNumber per_shard asked.per_shard
  pub time : IsTimeOf fields asked.time
  pub acts : AreActs fields asked.acts

-- a cleaving of a container is asked for by the name of a device, by those of the container, and by fields
pub record IsCleaving (ring : Ring) (name account container : List ℕ) (fields : List Field) (asked : Cleaving) : Type 0 where
  pub device : IsDevice ring name (Some asked.device)
  pub place : IsShown ring account container asked.place
  pub acts : AreActs fields asked.acts

-- a read of the shard ranges of a container is asked for by the name of a device, and by those of the container
pub record IsShardsRead (ring : Ring) (name account container : List ℕ) (asked : ShardsRead) : Type 0 where
  pub device : IsDevice ring name (Some asked.device)
  pub place : IsContainer ring account container (Some asked.place)

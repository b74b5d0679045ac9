-- The parts in which a container that is split is listed, where of each shard any of its replicas is picked, and what the machine has of them. (This project's
-- own.)
use Rattle.std.specs.Prelude.{ℕ, ◌++◌, Bool, List, map, unwrap_or, Option, None}
use Rattle.std.specs.List.{All, Contains}
use Rattle.sw_hashpath.specs.declared.place.Place.{Place}
use Rattle.sw_keeper.specs.Changes.{begun}
use Rattle.sw_keeper.specs.declared.tables.Tables.{Tables}
use Rattle.sw_listing_laws.specs.Plain.{Cluster}
use Rattle.sw_machine.specs.Machine.{Machine}
use Rattle.sw_shard_listing.specs.Ranges.{Segment}
use Rattle.sw_shard_range.specs.declared.range.Range.{Range}
use Rattle.sw_sharded_listing.specs.Laws.{segments_of}
use Rattle.sw_sharded_listing.specs.Parts.{Part, has_own, own_parts, served_in, turned}

-- of each shard that a range is left to, a device is picked that keeps it
abbrev pub ArePicked : Cluster → (Place → ℕ) → Tables → Type 0
ArePicked c pick t = All (λ range. Contains (c.replicas range.shard) (pick range.shard)) (served_in t.ranges t.cursor)

-- the shard of a range lists it, at the device that is picked
abbrev pub picked_part : (Place → ℕ) → Range → Part
picked_part pick range = record { device = pick range.shard; place = range.shard; lower = range.lower; upper = range.upper }

-- the parts of a container at a device that has these ranges, of which so many are closed, in the direction of a listing
abbrev pub picked_parts : (Place → ℕ) → ℕ → Place → Bool → Option (List Range) → ℕ → List Part
picked_parts pick device place backwards ranges cursor =
    turned backwards (map (picked_part pick) (served_in ranges cursor)
    ++ own_parts device place (served_in ranges cursor) (has_own ranges cursor))

-- what the device of a part has of its container: nothing of one that was never created
abbrev pub tables_at : Machine → Part → Tables
tables_at m part = unwrap_or (m.containers.half.holds part.device part.place) (begun 0 None)

-- the rows that these parts show
abbrev pub held_segments : Machine → List Part → List Segment
held_segments m parts = segments_of parts (map (tables_at m) parts)

-- What listings across shards are of. (This project's own.)
use Rattle.std.specs.Prelude.{◌≡◌, ◌<◌, ℕ, Bool, true, not, filter, length, List, Some, Ok}
use Rattle.std.specs.List.{All, Contains}
use Rattle.sw_container_steps.specs.Serving.{IsUnsplit}
use Rattle.sw_hashpath.specs.declared.place.Place.{Place}
use Rattle.sw_keeper.specs.declared.tables.Tables.{Tables}
use Rattle.sw_listing.specs.Listing.{listing}
use Rattle.sw_listing.specs.declared.entry.Entry.{Entry}
use Rattle.sw_listing.specs.declared.query.Query.{Query}
use Rattle.sw_listing_laws.specs.Laws.{AreLiveRows, DoAgree}
use Rattle.sw_listing_laws.specs.Plain.{Cluster}
use Rattle.sw_machine.specs.Machine.{Machine}
use Rattle.sw_pass.specs.Rings.{is_place, replicas_in}
use Rattle.sw_peer.specs.Sights.{Sight, cont_lock}
use Rattle.sw_point_laws.specs.Laws.{ground_of, ledger_of}
use Rattle.sw_ring.specs.declared.ring.Ring.{Ring}
use Rattle.sw_rows.specs.declared.numbered.Numbered.{Numbered}
use Rattle.sw_shard_laws.specs.Sound.{PointsHold}
use Rattle.sw_shard_listing.specs.Laws.{AreInTurn, AreSegments}
use Rattle.sw_shard_listing.specs.Ranges.{Segment, all_within, begun, listed_in_turn}
use Rattle.sw_shard_range.specs.declared.range.Range.{Range}
use Rattle.sw_sharded_listing.specs.Across.{IsListedAcross}
use Rattle.sw_across_laws.specs.Picked.{ArePicked, held_segments, picked_parts}
use Rattle.sw_across_laws.specs.Showable.{AreNamed, IsShowable}

-- ---- what a container and its shards have

-- these segments can be listed one after the other, and of their rows those that aren't deleted are those of the live objects of the container
pub record AreLiveAcross (c : Cluster) (m : Machine) (place : Place) (backwards : Bool) (segments : List Segment) : Type 0 where
  pub whole : AreSegments segments
  pub in_turn : AreInTurn backwards segments
  pub live : AreLiveRows c m place (filter (λ n. not n.row.deleted) (all_within segments))

-- such are those of the parts of the container at each of its replicas, whichever replicas of its shards are picked, and in both directions
abbrev pub LiveRowsAcross : Type 0
LiveRowsAcross = (c : Cluster) (root : Place → Place) (m : Machine) (place : Place) → IsShowable c root m place → AreNamed c m
    → (device : ℕ) → Contains (c.replicas place) device → (t : Tables) → m.containers.half.holds device place ≡ Some t
    → (pick : Place → ℕ) → ArePicked c pick t → (backwards : Bool)
    → AreLiveAcross c m place backwards (held_segments m (picked_parts pick device place backwards t.ranges t.cursor))

-- so they are listed as the rows of the live objects are, whatever is asked
abbrev pub AcrossIsExact : Type 0
AcrossIsExact = (c : Cluster) (root : Place → Place) (m : Machine) (place : Place) → IsShowable c root m place → AreNamed c m → DoAgree m
    → (device : ℕ) → Contains (c.replicas place) device → (t : Tables) → m.containers.half.holds device place ≡ Some t
    → (pick : Place → ℕ) → ArePicked c pick t → (rows : List Numbered) → AreLiveRows c m place rows → (query : Query)
    → listed_in_turn (begun query) (held_segments m (picked_parts pick device place query.reverse t.ranges t.cursor)) ≡ listing query rows

-- ---- that shards aren't split

-- where points hold no shard is split itself: only a container that isn't hidden has ranges, and each of these leads to one that is
abbrev pub ShardsAreUnsplit : Type 0
ShardsAreUnsplit = (replicas : Place → List ℕ) (m : Machine) → PointsHold (ground_of replicas) (ledger_of m) → (place : Place) (device : ℕ) (t : Tables)
    (ranges : List Range) → m.containers.half.holds device place ≡ Some t → t.ranges ≡ Some ranges
    → All (λ range. (other : ℕ) → IsUnsplit (m.containers.half.holds other range.shard)) ranges

-- ---- what a listing across answers

-- The door is to the nodes of the cluster, which keep containers by this ring, and each container lock tells its contents. Where nobody else changes the nodes,
-- the devices hold what the machine says. What became known of locks since, as by reads, may be more
pub record IsDoorTo (c : Cluster) (m : Machine) (ring : Ring) (s : Sight) : Type 0 where
  pub nodes : s.nodes ≡ c.nodes
  pub keepers : (place : Place) → c.replicas place ≡ replicas_in ring place
  pub tell : (device : ℕ) (place : Place) → (s.containers.seen (cont_lock c.nodes device place)).told ≡ true
  pub holds : s.alone ≡ true → (device : ℕ) (place : Place) → s.containers.holds device place ≡ m.containers.half.holds device place

-- each container has a replica of this number
abbrev pub HasReplica : Ring → ℕ → Type 0
HasReplica ring replica = (place : Place) → is_place ring.secrets place ≡ true → replica < length (replicas_in ring place)

-- so a listing across that is answered with entries, over a door that is alone until then, is the listing of the rows of the live objects, at each replica of
-- the container
abbrev pub ListingsAcrossAreExact : Type 0
ListingsAcrossAreExact = (c : Cluster) (root : Place → Place) (m : Machine) (place : Place) → IsShowable c root m place → AreNamed c m → DoAgree m
    → (ring : Ring) (old : Sight) → IsDoorTo c m ring old → (device : ℕ) → Contains (c.replicas place) device
    → (replica : ℕ) → HasReplica ring replica → (query : Query) (entries : List Entry) (new : Sight) → new.alone ≡ true
    → IsListedAcross ring device place query replica old (Ok entries) new
    → (rows : List Numbered) → AreLiveRows c m place rows → entries ≡ listing query rows

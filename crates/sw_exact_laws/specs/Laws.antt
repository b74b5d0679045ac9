-- What listings across shards are of after whole runs. (This project's own.)
use Rattle.std.specs.Prelude.{◌≡◌, ℕ, true, false, List, [], Ok}
use Rattle.std.specs.List.{Contains}
use Rattle.sw_across_laws.specs.Laws.{HasReplica, IsDoorTo}
use Rattle.sw_hashpath.specs.BadNames.{is_text}
use Rattle.sw_hashpath.specs.declared.place.Place.{Place}
use Rattle.sw_listing.specs.Listing.{listing}
use Rattle.sw_listing.specs.declared.entry.Entry.{Entry}
use Rattle.sw_listing.specs.declared.query.Query.{Query}
use Rattle.sw_listing_laws.specs.Laws.{AreLiveRows, DoAgree, IsSettled}
use Rattle.sw_listing_laws.specs.Plain.{Cluster, RunsSoundly}
use Rattle.sw_machine.specs.Machine.{KnownWrite, Machine, RunLine}
use Rattle.sw_origin_laws.specs.Laws.{IsBare}
use Rattle.sw_origin_laws.specs.Roots.{AreRooted, AreRoots, runs_of}
use Rattle.sw_peer.specs.Sights.{Sight}
use Rattle.sw_ring.specs.declared.ring.Ring.{Ring}
use Rattle.sw_rows.specs.declared.numbered.Numbered.{Numbered}
use Rattle.sw_shard_range.specs.Names.{is_hidden}
use Rattle.sw_sharded_listing.specs.Across.{IsListedAcross}

-- the object of each write that reached a device has a name that is text without a byte 0
abbrev pub AreTexts : Machine → Type 0
AreTexts m = (device : ℕ) (n : KnownWrite) → Contains m.objects.known (device, n) → is_text n.name.object ≡ true

-- After any rooted run in which all keep to their parts, that began with nothing, whatever failed, was lost, came again or was restarted: of a container that
-- isn't hidden, and of which no record is pending, a listing across shards that is answered with entries, over a door that is alone until then, is the listing
-- of the rows of the live objects. That is so at each of its replicas, split or not
abbrev pub ListingsOfRunsAreExact : Type 0
ListingsOfRunsAreExact = (c : Cluster) (root : Place → Place) (m : Machine) (lines : List RunLine) (after : Machine) → AreRoots root → IsBare c m
    → (run : RunsSoundly c [] m lines after) → AreRooted c root m lines after (runs_of c [] m lines after run) → DoAgree after → AreTexts after
    → (place : Place) → is_hidden place ≡ false → IsSettled c after place → (ring : Ring) (old : Sight) → IsDoorTo c after ring old
    → (device : ℕ) → Contains (c.replicas place) device → (replica : ℕ) → HasReplica ring replica → (query : Query) (entries : List Entry) (new : Sight)
    → new.alone ≡ true → IsListedAcross ring device place query replica old (Ok entries) new
    → (rows : List Numbered) → AreLiveRows c after place rows → entries ≡ listing query rows

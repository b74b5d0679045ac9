-- What is listed in a run that began with nothing: where no record waits, and no shards have any of it, exactly the live objects. (This project's own.)
use Rattle.std.specs.Prelude.{◌≡◌, ⊤, false, Bool, List, [], ◌∷◌, Contains, Ok, length}
use Rattle.sw_container_steps.specs.Serving.{IsUnsplit}
use Rattle.sw_container_steps.specs.declared.cont_entry.ContEntry.{ContEntry}
use Rattle.sw_hashpath.specs.declared.name.Name.{Name}
use Rattle.sw_hashpath.specs.declared.place.Place.{Place}
use Rattle.sw_listing.specs.Listing.{listing}
use Rattle.sw_listing.specs.declared.entry.Entry.{Entry}
use Rattle.sw_listing.specs.declared.query.Query.{Query}
use Rattle.sw_listing_laws.specs.Plain.{Cluster}
use Rattle.sw_listing_laws.specs.Laws.{ArePlain, AreLiveRows, DoAgree, IsNew, IsSettled}
use Rattle.sw_machine.specs.Machine.{Came, Machine, RunLine, Runs, Went, machine_of}
use Rattle.sw_object_steps.specs.Journals.{Hash}
use Rattle.sw_core.specs.Worlds.{nodes_of}
use Rattle.sw_peer.specs.Sights.{Sight}
use Rattle.sw_peer.specs.declared.cont_event.ContEvent.TheVariants as cont_events
use Rattle.sw_peer.specs.declared.line.Event.TheVariants.{AtContainer}
use Rattle.sw_ring.specs.declared.ring.Ring.{Ring}
use Rattle.sw_rows.specs.declared.numbered.Numbered.{Numbered}
use Rattle.sw_pass.specs.Rings.{replicas_in}

-- A listing is exact: of a container that isn't hidden, and of which no record is pending, each device of the container at which it isn't split into shards
-- lists exactly what is asked of the rows of its live objects. (Two puts of one name and time are one.)
abbrev pub IsExact : Cluster → Machine → RunLine → Type 0
IsExact c m (Came line) =
    (place : Place) (query : Query) (listed : List Entry) (entries : List ContEntry)
    → line.event ≡ AtContainer (cont_events.Listed place query (Ok listed)) entries → c.is_hidden place ≡ false → DoAgree m → IsSettled c m place
    → Contains (c.replicas place) line.device → IsUnsplit (m.containers.half.holds line.device place) → (rows : List Numbered)
    → AreLiveRows c m place rows → listed ≡ listing query rows
IsExact c m (Went from message) = ⊤

-- each one that comes in a run is, over the machine as the lines before it left it
abbrev pub AreExact : (c : Cluster) (m : Machine) (lines : List RunLine) (after : Machine) → Runs c.nodes m lines after → Type 0
AreExact c m [] after run = ⊤
AreExact c m (line ∷ lines) after run = IsExact c m line × AreExact c run.0 lines after run.2

-- the nodes of a ring, in which these containers are hidden, and these names are those of their hashes
abbrev pub cluster_of : Ring → (Place → Bool) → (Hash → Name) → Cluster
cluster_of ring is_hidden names = record {
  nodes = nodes_of (length ring.devices) ring.lock_bits ring.power ring.secrets;
  replicas = replicas_in ring;
  is_hidden = is_hidden;
  names = names;
}

-- Where nothing stood at any device as the run began, and clients had devices take over only what some client had written, all listings are exact. Which
-- containers are hidden may be chosen: rows may come to these from anywhere.
abbrev pub ListsExactly : (ring : Ring) (began : Sight) (lines : List RunLine) (machine : Machine)
    → Runs (nodes_of (length ring.devices) ring.lock_bits ring.power ring.secrets) (machine_of began) lines machine → Type 0
ListsExactly ring began lines machine run =
    (is_hidden : Place → Bool) (names : Hash → Name) → IsNew (cluster_of ring is_hidden names) (machine_of began)
    → ArePlain (cluster_of ring is_hidden names) (machine_of began) lines machine run
    → AreExact (cluster_of ring is_hidden names) (machine_of began) lines machine run

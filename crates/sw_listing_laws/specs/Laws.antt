-- What a container's replicas list. (This project's own.)
use Rattle.std.specs.Prelude.{◌≡◌, ⊤, ℕ, true, false, not, filter, List, [], ◌∷◌, Contains, None, Some, Ok}
use Rattle.sw_container_steps.specs.Entries.{rows_of}
use Rattle.sw_container_steps.specs.Serving.{IsUnsplit}
use Rattle.sw_container_steps.specs.declared.cont_entry.ContEntry.{ContEntry}
use Rattle.sw_hashpath.specs.Places.{IsPlaceOf}
use Rattle.sw_hashpath.specs.declared.place.Place.{Place}
use Rattle.sw_listing.specs.Listing.{listing}
use Rattle.sw_listing.specs.declared.entry.Entry.{Entry}
use Rattle.sw_listing.specs.declared.query.Query.{Query}
use Rattle.sw_machine.specs.Honest.{AreHonest}
use Rattle.sw_machine.specs.Machine.{Came, IsWhole, KnownWrite, Machine, RunLine, Runs, Steps, is_emptied}
use Rattle.sw_machine.specs.Sides.{TellsAt}
use Rattle.sw_object_steps.specs.BaseRows.{IsRowOf}
use Rattle.sw_object_steps.specs.Journals.{Hash}
use Rattle.sw_peer.specs.Sights.{cont_lock}
use Rattle.sw_peer.specs.declared.cont_event.ContEvent.TheVariants as cont_events
use Rattle.sw_peer.specs.declared.line.Event.TheVariants.{AtContainer}
use Rattle.sw_peer.specs.declared.line.Line.{Line}
use Rattle.sw_pending.specs.Rules.{is_done}
use Rattle.sw_pending.specs.declared.filed.Filed.{Filed}
use Rattle.sw_pending.specs.declared.key.RecordKey.{RecordKey}
use Rattle.sw_pending_laws.specs.Ledger.{covers}
use Rattle.sw_rows.specs.Rows.{IsNamedOnce, find_named, no_rows}
use Rattle.sw_rows.specs.declared.numbered.Numbered.{Numbered}
use Rattle.sw_rows.specs.declared.row.Row.{Row}
use Rattle.sw_state.specs.Bases.{base_at, base_time, is_deletion}
use Rattle.sw_state.specs.declared.base.Base.{Base}
use Rattle.sw_listing_laws.specs.Plain.{Cluster, IsNamedLine, IsPlain, RunsSoundly}

-- nothing stands at any device or was taken away there, and nothing is on its way; each lock tells its contents
pub record IsNew (c : Cluster) (m : Machine) : Type 0 where
  pub objects_tell : (device : ℕ) (hash : Hash) → TellsAt c.nodes.lock m.objects device hash
  pub containers_tell : (device : ℕ) (place : Place) → TellsAt (cont_lock c.nodes) m.containers device place
  pub no_objects : (device : ℕ) (hash : Hash) → (m.objects.half.holds device hash).state.base ≡ None
  pub no_records : (device : ℕ) (hash : Hash) (key : RecordKey) → (m.objects.half.holds device hash).records key ≡ None
  pub no_rows : (device : ℕ) (place : Place) → rows_of (m.containers.half.holds device place) ≡ no_rows
  pub kept : (device : ℕ) (place : Place) → is_emptied (m.containers.half.holds device place) ≡ false
  pub no_writes : m.objects.known ≡ []
  pub no_messages : m.sent ≡ []

-- two puts of one name and time have one content
abbrev pub DoAgree : Machine → Type 0
DoAgree m = (d e : ℕ) (n o : KnownWrite) (b c : Base) → Contains m.objects.known (d, n) → Contains m.objects.known (e, o) → n.name ≡ o.name
    → base_at n.write.time n.write.kind ≡ Some b → base_at o.write.time o.write.kind ≡ Some c → base_time b ≡ base_time c → is_deletion b ≡ is_deletion c
    → b ≡ c

-- no record of the container is pending: in each that stands at a device, all devices of the container are marked
abbrev pub IsSettled : Cluster → Machine → Place → Type 0
IsSettled c m place = (device : ℕ) (hash : Hash) (key : RecordKey) (f : Filed) → (m.objects.half.holds device hash).records key ≡ Some f → key.hash ≡ hash
    → IsPlaceOf c.nodes.secrets f.name place → (r : ℕ) → Contains (c.replicas place) r → is_done r f.done ≡ true

-- a put of this object of the container reached some device, and nothing that reached any device under the name counts more
pub record IsLive (c : Cluster) (m : Machine) (place : Place) (object : List ℕ) (base : Base) : Type 0 where
  pub device : ℕ
  pub by : KnownWrite
  pub known : Contains m.objects.known (device, by)
  pub place_is : IsPlaceOf c.nodes.secrets by.name place
  pub object_is : by.name.object ≡ object
  pub base_is : base_at by.write.time by.write.kind ≡ Some base
  pub is_put : is_deletion base ≡ false
  pub greatest : (d : ℕ) (n : KnownWrite) (b : Base) → Contains m.objects.known (d, n) → n.name ≡ by.name → base_at n.write.time n.write.kind ≡ Some b
      → covers base b ≡ true

-- the device has a live row of the name exactly where the object is live, and then the row of the put that makes it so
pub record ShowsExactly (c : Cluster) (m : Machine) (device : ℕ) (place : Place) (object : List ℕ) : Type 0 where
  pub shown : (row : Row) → find_named (rows_of (m.containers.half.holds device place)).list object ≡ Some row → row.deleted ≡ false
      → (base : Base) × IsLive c m place object base × IsRowOf object base row
  pub live : (base : Base) → IsLive c m place object base
      → (row : Row) × (find_named (rows_of (m.containers.half.holds device place)).list object ≡ Some row) × (row.deleted ≡ false) × IsRowOf object base row

-- After any run in which all keep to their parts, whatever failed, was lost, came again or was restarted: of a container that isn't hidden, and of which no
-- record is pending, each replica that has left no name to a shard shows exactly the live objects
abbrev pub SettledContainersShowExactly : Type 0
SettledContainersShowExactly = (c : Cluster) (m : Machine) (lines : List RunLine) (after : Machine) → IsNew c m → RunsSoundly c [] m lines after
    → DoAgree after → (place : Place) → c.is_hidden place ≡ false → IsSettled c after place → (device : ℕ) → Contains (c.replicas place) device
    → IsWhole (after.containers.half.holds device place) → (object : List ℕ) → ShowsExactly c after device place object

-- ---- what is listed

-- these rows are those of the live objects of the container: each is that of one, each of these has one, and no two have one name
pub record AreLiveRows (c : Cluster) (m : Machine) (place : Place) (rows : List Numbered) : Type 0 where
  pub once : IsNamedOnce rows
  pub sound : (n : Numbered) → Contains rows n → (base : Base) × IsLive c m place n.row.name base × IsRowOf n.row.name base n.row
  pub whole : (object : List ℕ) (base : Base) → IsLive c m place object base → (n : Numbered) × Contains rows n × (n.row.name ≡ object)

-- the rows of such a replica of such a container that aren't deleted are such rows
abbrev pub LiveRowsAreThere : Type 0
LiveRowsAreThere = (c : Cluster) (m : Machine) (lines : List RunLine) (after : Machine) → IsNew c m → RunsSoundly c [] m lines after
    → DoAgree after → (place : Place) → c.is_hidden place ≡ false → IsSettled c after place → (device : ℕ) → Contains (c.replicas place) device
    → IsWhole (after.containers.half.holds device place)
    → AreLiveRows c after place (filter (λ n. not n.row.deleted) (rows_of (after.containers.half.holds device place)).list)

-- so its rows are listed, whatever is asked, as the rows of the live objects are
abbrev pub SettledContainersListExactly : Type 0
SettledContainersListExactly = (c : Cluster) (m : Machine) (lines : List RunLine) (after : Machine) → IsNew c m → RunsSoundly c [] m lines after
    → DoAgree after → (place : Place) → c.is_hidden place ≡ false → IsSettled c after place → (device : ℕ) → Contains (c.replicas place) device
    → IsWhole (after.containers.half.holds device place) → (rows : List Numbered) → AreLiveRows c after place rows → (query : Query)
    → listing query (rows_of (after.containers.half.holds device place)).list ≡ listing query rows

-- and each listing that comes then is that, of a replica that isn't split into shards: it shows only rows that aren't left to these
abbrev pub ListingsAreExact : Type 0
ListingsAreExact = (c : Cluster) (m : Machine) (lines : List RunLine) (mid : Machine) (line : Line) (after : Machine) → IsNew c m
    → RunsSoundly c [] m lines mid → Steps c.nodes mid (Came line) after → DoAgree mid → (place : Place) (query : Query) (listed : List Entry)
    (entries : List ContEntry) → line.event ≡ AtContainer (cont_events.Listed place query (Ok listed)) entries → c.is_hidden place ≡ false
    → IsSettled c mid place → Contains (c.replicas place) line.device → IsUnsplit (mid.containers.half.holds line.device place)
    → (rows : List Numbered) → AreLiveRows c mid place rows → listed ≡ listing query rows

-- ---- whose runs these are

-- a run that is honest, of which each line is plain and named, is such a run
abbrev pub ArePlain : (c : Cluster) (m : Machine) (lines : List RunLine) (after : Machine) → Runs c.nodes m lines after → Type 0
ArePlain c m [] after run = ⊤
ArePlain c m (line ∷ lines) after run = IsPlain c m line × IsNamedLine c line × ArePlain c run.0 lines after run.2

abbrev pub HonestRunsAreSound : Type 0
HonestRunsAreSound = (c : Cluster) (done : List RunLine) (m : Machine) (lines : List RunLine) (after : Machine) (run : Runs c.nodes m lines after)
    → AreHonest c.nodes.secrets c.replicas done lines → ArePlain c m lines after run → RunsSoundly c done m lines after

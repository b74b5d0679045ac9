-- What is promised of accounts. (This project's own.)
use Rattle.std.specs.Prelude.{◌≡◌, ℕ, true, false, List, [], ◌++◌, Ok, None}
use Rattle.std.specs.List.{Contains}
use Rattle.sw_across_laws.specs.Laws.{HasReplica, IsDoorTo}
use Rattle.sw_exact_laws.specs.Laws.{AreTexts}
use Rattle.sw_hashpath.specs.declared.place.Place.{Place}
use Rattle.sw_listing.specs.Listing.{listing}
use Rattle.sw_listing.specs.declared.entry.Entry.{Entry}
use Rattle.sw_listing.specs.declared.query.Query.{Query}
use Rattle.sw_listing_laws.specs.Laws.{AreLiveRows, DoAgree, IsSettled}
use Rattle.sw_listing_laws.specs.Plain.{Cluster, RunsSoundly}
use Rattle.sw_machine.specs.Machine.{Machine, RunLine, Runs}
use Rattle.sw_machine.specs.Sides.{TellsAt}
use Rattle.sw_object_steps.specs.Journals.{Hash}
use Rattle.sw_origin_laws.specs.Laws.{IsBare}
use Rattle.sw_origin_laws.specs.Roots.{AreRooted, AreRoots, runs_of}
use Rattle.sw_peer.specs.Sights.{Nodes, Sight, cont_lock}
use Rattle.sw_ring.specs.declared.ring.Ring.{Ring}
use Rattle.sw_rows.specs.declared.numbered.Numbered.{Numbered}
use Rattle.sw_shard_range.specs.Names.{is_hidden}
use Rattle.sw_sharded_listing.specs.Across.{IsListedAcross}
use Rattle.sw_account_laws.specs.Accounts.{Account, GoesOnFrom, IsAccount}
use Rattle.sw_account_laws.specs.Sound.{IsSound}

-- ---- accounts go on

-- each run takes an account of its start to one of its end, and to no other one
abbrev pub KeepsAccounts : Type 0
KeepsAccounts = (nodes : Nodes) (m : Machine) (lines : List RunLine) (after : Machine) (run : Runs nodes m lines after) (account : Account)
    → IsAccount m account
    → (later : Account) × IsAccount after later × GoesOnFrom nodes m lines after run account later
    × ((other : Account) → GoesOnFrom nodes m lines after run account other → other ≡ later)

-- and of two runs, one after the other, the second goes on from where the first ended
abbrev pub AccountsJoin : Type 0
AccountsJoin = (nodes : Nodes) (m : Machine) (lines : List RunLine) (mid : Machine) (more : List RunLine) (after : Machine)
    (run : Runs nodes m lines mid) (next : Runs nodes mid more after) (account then later : Account) → GoesOnFrom nodes m lines mid run account then
    → GoesOnFrom nodes mid more after next then later
    → (whole : Runs nodes m (lines ++ more) after) × GoesOnFrom nodes m (lines ++ more) after whole account later

-- ---- what holds of them

-- no metadata stands at any device
abbrev pub HasNoMetas : Machine → Type 0
HasNoMetas m = (device : ℕ) (hash : Hash) → (m.objects.half.holds device hash).state.meta ≡ None

-- the machine at which nothing stands, and nothing is on its way, is sound with the account of nothing
abbrev pub AccountsBegin : Type 0
AccountsBegin = (c : Cluster) (root : Place → Place) (m : Machine) → IsBare c m → HasNoMetas m → IsSound c root m []

-- each container that has a hidden name is hidden in the cluster
abbrev pub HidesByName : Cluster → Type 0
HidesByName c = (place : Place) → is_hidden place ≡ true → c.is_hidden place ≡ true

-- After any rooted run in which all keep to their parts, whatever failed, was lost, came again or was restarted: a machine that was sound with its account is
-- so with the account that the run took it to, once no message of the run is on its way
abbrev pub AccountsAreSound : Type 0
AccountsAreSound = (c : Cluster) (root : Place → Place) (m : Machine) (account : Account) (lines : List RunLine) (after : Machine) (later : Account)
    → HidesByName c → AreRoots root → IsSound c root m account → (run : RunsSoundly c [] m lines after)
    → AreRooted c root m lines after (runs_of c [] m lines after run)
    → GoesOnFrom c.nodes m lines after (runs_of c [] m lines after run) account later → AreTexts after
    → IsSound c root (record after { sent = [] }) later

-- another machine, whose nodes hold the same, tell their contents, and to which the same writes are known to have come: as one that begins anew with what
-- stands
pub record HoldsTheSame (c : Cluster) (m other : Machine) : Type 0 where
  pub objects : (device : ℕ) (hash : Hash) → other.objects.half.holds device hash ≡ m.objects.half.holds device hash
  pub containers : (device : ℕ) (place : Place) → other.containers.half.holds device place ≡ m.containers.half.holds device place
  pub objects_tell : (device : ℕ) (hash : Hash) → TellsAt c.nodes.lock other.objects device hash
  pub containers_tell : (device : ℕ) (place : Place) → TellsAt (cont_lock c.nodes) other.containers device place
  pub known : other.objects.known ≡ m.objects.known
  pub quiet : other.sent ≡ []

abbrev pub AccountsStay : Type 0
AccountsStay = (c : Cluster) (root : Place → Place) (m : Machine) (account : Account) (other : Machine) → IsSound c root m account
    → HoldsTheSame c m other → IsSound c root other account

-- ---- what is listed

-- So after any rooted run in which all keep to their parts, or none, that began with a machine which was sound with its account: of a container that isn't
-- hidden, and of which no record is pending, a listing across shards that is answered with entries, over a door that is alone until then, is the listing of the
-- rows of the live objects, by all writes of the account and of the run. That is so at each of its replicas, split or not
abbrev pub ListingsOfAccountsAreExact : Type 0
ListingsOfAccountsAreExact = (c : Cluster) (root : Place → Place) (m : Machine) (account : Account) (lines : List RunLine) (after : Machine) → HidesByName c
    → AreRoots root → IsSound c root m account → (run : RunsSoundly c [] m lines after) → AreRooted c root m lines after (runs_of c [] m lines after run)
    → DoAgree after → AreTexts after → (place : Place) → is_hidden place ≡ false → IsSettled c after place
    → (ring : Ring) (old : Sight) → IsDoorTo c after ring old
    → (device : ℕ) → Contains (c.replicas place) device → (replica : ℕ) → HasReplica ring replica → (query : Query) (entries : List Entry) (new : Sight)
    → new.alone ≡ true → IsListedAcross ring device place query replica old (Ok entries) new
    → (rows : List Numbered) → AreLiveRows c after place rows → entries ≡ listing query rows

-- What clients are shown that list containers, in a session or on connections that are served: where no record waits, exactly the live objects. (This project's
-- own.)
use Rattle.std.specs.Prelude.{◌≡◌, ℕ, ◌*◌, ◌^◌, Bool, true, false, List, [], length, All, Option}
use Rattle.sw_account_laws.specs.Accounts.{Account, GoesOnFrom, machine_with}
use Rattle.sw_account_laws.specs.Sound.{IsSound}
use Rattle.sw_container_server.specs.Asking.{IsAsked}
use Rattle.sw_container_server.specs.Targets.{is_for_containers}
use Rattle.sw_container_server.specs.declared.asked.ContAsked.TheVariants as asks
use Rattle.sw_control.specs.Asking.{is_control}
use Rattle.sw_core.specs.Worlds.{KeeperSeen, opened, sight_of}
use Rattle.sw_core.specs.declared.trail.Trail.{Trail}
use Rattle.sw_exact_laws.specs.Laws.{AreTexts}
use Rattle.sw_hashpath.specs.declared.name.Name.{Name}
use Rattle.sw_hashpath.specs.declared.place.Place.{Place}
use Rattle.sw_listing.specs.Listing.{listing}
use Rattle.sw_listing.specs.declared.query.Query.{Query}
use Rattle.sw_listing_laws.specs.Laws.{AreLiveRows, ArePlain, DoAgree, IsSettled}
use Rattle.sw_listing_reply_laws.specs.Laws.{ShowsEntries, is_shown}
use Rattle.sw_machine.specs.Doors.{StandsFor}
use Rattle.sw_machine.specs.Honest.{AreHonest}
use Rattle.sw_machine.specs.Machine.{Machine, RunLine, Runs}
use Rattle.sw_nodes.specs.Server.{MayAnswer, MayHalt}
use Rattle.sw_object_steps.specs.Journals.{Hash}
use Rattle.sw_origin_laws.specs.Roots.{AreRooted, AreRoots}
use Rattle.sw_pass.specs.Rings.{replicas_in}
use Rattle.sw_peer.specs.Sights.{Sight}
use Rattle.sw_quiet.specs.Quiet.{quiet_sight_of}
use Rattle.sw_replica_server.specs.Targets.{is_replication_of}
use Rattle.sw_ring.specs.declared.ring.Ring.{Ring}
use Rattle.sw_rows.specs.declared.numbered.Numbered.{Numbered}
use Rattle.sw_shard_range.specs.Names.{is_hidden}
use Rattle.sw_volume.specs.Tree.{Folders}
use Rattle.sw_volume.specs.Volume.{raised_by}
use Rattle.sw_cluster.specs.Answered.{Answered, answered_in, answered_to}
use Rattle.sw_cluster.specs.Ending.{IsRun}
use Rattle.sw_cluster.specs.Holding.{ring_nodes}
use Rattle.sw_cluster.specs.Limits.{run_bytes, serve_bytes}
use Rattle.sw_cluster.specs.Listing.{cluster_of}
use Rattle.sw_cluster.specs.Rounds.{IsServing}
use Rattle.sw_cluster.specs.Told.{Counts, DoorsTold, Input, Output, read_of, written_of}

-- ---- one reply

module _ (ring : Ring) (began : Sight) (account : Account) where
  -- what the nodes began with, where these writes are known to have reached them before
  abbrev pub start : Machine
  start = machine_with began account

  -- an honest run of the machine, from there to what the nodes were then
  pub record LeadsTo (s : Sight) : Type 0 where
    pub lines : List RunLine
    pub machine : Machine
    pub run : Runs (ring_nodes ring) start lines machine
    pub honest : AreHonest ring.secrets (replicas_in ring) [] lines
    pub stands : StandsFor s machine

  -- What is asked of it: the nodes began sound with the account, as they are with none where nothing stood; clients had devices take over only what some client
  -- had written, and had lists name shards of their own container alone. Names of objects are text
  pub record IsFair (names : Hash → Name) (root : Place → Place) (s : Sight) (leads : LeadsTo s) : Type 0 where
    pub roots : AreRoots root
    pub sound : IsSound (cluster_of ring is_hidden names) root start account
    pub plain : ArePlain (cluster_of ring is_hidden names) start leads.lines leads.machine leads.run
    pub rooted : AreRooted (cluster_of ring is_hidden names) root start leads.lines leads.machine leads.run
    pub texts : AreTexts leads.machine

  -- Then, where a request lists a container that isn't hidden, and of which no record is pending, a reply that tells of it shows exactly what is asked of the
  -- rows of its live objects, whatever failed, was lost, came again or was restarted before, split or not. (Two puts of one name and time are one)
  abbrev pub ShowsLive : {S : Type 0} → (s : Sight) → LeadsTo s → Answered S → Type 0
  ShowsLive s leads a =
      (names : Hash → Name) (root : Place → Place) → IsFair names root s leads → DoAgree leads.machine
      → is_control a.request.path ≡ false → is_replication_of a.request ≡ false → is_for_containers a.request ≡ true
      → (device : ℕ) (place : Place) (query : Query) (replica : ℕ) → IsAsked ring a.request (asks.List device place query replica)
      → is_shown a.response ≡ true → is_hidden place ≡ false → IsSettled (cluster_of ring is_hidden names) leads.machine place
      → (rows : List Numbered) → AreLiveRows (cluster_of ring is_hidden names) leads.machine place rows
      → ShowsEntries query (listing query rows) a.response

  -- and the nodes are sound again, with what the lines of the run added to the account, once no message is on its way
  pub record StaysSound (names : Hash → Name) (root : Place → Place) (s : Sight) (leads : LeadsTo s) : Type 0 where
    pub later : Account
    pub run : Runs (ring_nodes ring) start leads.lines leads.machine
    pub goes : GoesOnFrom (ring_nodes ring) start leads.lines leads.machine run account later
    pub sound : IsSound (cluster_of ring is_hidden names) root (record leads.machine { sent = [] }) later

-- A run leads to what the nodes were as the request came, and one to what they were behind its reply; and whichever does, that is so of it
pub record ShowsExactly (ring : Ring) (began : Sight) {S : Type 0} (see : S → Sight) (a : Answered S) : Type 0 where
  pub led : (account : Account) → LeadsTo ring began account (see a.before)
  pub shows : (account : Account) (leads : LeadsTo ring began account (see a.before)) → ShowsLive ring began account (see a.before) leads a
  pub led_on : (account : Account) → LeadsTo ring began account (see a.after)
  pub sound : (account : Account) (leads : LeadsTo ring began account (see a.after)) (names : Hash → Name) (root : Place → Place)
      → IsFair ring began account names root (see a.after) leads → StaysSound ring began account names root (see a.after) leads

-- ---- all replies

module _ {V K : Type 0} (tells : V → Bool) (files : V → Folders) (faults : V → ℕ) (keeps : KeeperSeen K) (ring : Ring) where
  -- so it is of every reply that was given while connections were served
  abbrev pub ServingShowsExactly : (V × K → Type 0) → Type 0
  ServingShowsExactly first = (port connections : ℕ) (rests rests_now : ℕ → ℕ → Option (V × K)) (doors doors_now : DoorsTold) (out : Output)
      (clock clock_now : Option (List ℕ)) (stores stores_now : Counts) (status : ℕ)
      (serving : IsServing tells files faults keeps ring first port connections rests rests_now doors doors_now out clock clock_now stores stores_now status)
      → All (ShowsExactly ring (quiet_sight_of tells files faults keeps (opened serve_bytes ring serving.parts)) (quiet_sight_of tells files faults keeps))
      (answered_to tells files faults keeps ring port connections (opened serve_bytes ring serving.parts) serving.over.after doors doors_now out clock clock_now
      (record stores { calls = raised_by (length ring.devices * 2 ^ ring.lock_bits) stores.calls }) stores_now serving.over.ended serving.over.ends)

  -- and of every reply of a session
  abbrev pub SessionShowsExactly : (V × K → Type 0) → Type 0
  SessionShowsExactly first = (rests rests_now : ℕ → ℕ → Option (V × K)) (stores stores_now : Counts) (source : Input) (sink : Output)
      (clock clock_now : Option (List ℕ)) (trail : Trail) (status : ℕ)
      (run : IsRun tells files faults keeps first ring rests rests_now stores stores_now source sink clock clock_now trail status)
      → All (ShowsExactly ring (sight_of tells files faults keeps (opened run_bytes ring run.parts)) (sight_of tells files faults keeps))
      (answered_in (λ request. false) (MayAnswer tells files faults keeps ring) (λ w r moment fault. MayHalt tells files faults keeps ring w r)
      (opened run_bytes ring run.parts) (read_of source) (written_of sink) trail.moments run.over.after run.over.ends.ended run.over.ends.session)

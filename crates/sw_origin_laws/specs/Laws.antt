-- Where the rows of a container and of its shards come from. (This project's own.)
use Rattle.std.specs.Prelude.{◌≡◌, ℕ, false, List, [], Contains, None}
use Rattle.sw_container_steps.specs.Entries.{rows_of}
use Rattle.sw_hashpath.specs.declared.place.Place.{Place}
use Rattle.sw_listing_laws.specs.Laws.{ArePlain, IsNew}
use Rattle.sw_listing_laws.specs.Plain.{Cluster, IsOfWrite, RunsSoundly}
use Rattle.sw_machine.specs.Honest.{AreHonest}
use Rattle.sw_machine.specs.Machine.{Machine, RunLine, Runs}
use Rattle.sw_rows.specs.declared.numbered.Numbered.{Numbered}
use Rattle.sw_shard_range.specs.Names.{is_hidden}
use Rattle.sw_origin_laws.specs.Roots.{AreRooted, AreRoots, runs_of}

-- nothing stands anywhere, no container was created at any device, and nothing is on its way; each lock tells its contents
pub record IsBare (c : Cluster) (m : Machine) : Type 0 where
  pub new : IsNew c m
  pub none : (device : ℕ) (place : Place) → m.containers.half.holds device place ≡ None

-- After any run in which all keep to their parts, whatever failed, was lost, came again or was restarted: each row of a container that isn't hidden, and of
-- each of its shards, at any device, is that of a put or deletion of an object of that container which reached some device
abbrev pub RowsComeFromWrites : Type 0
RowsComeFromWrites = (c : Cluster) (root : Place → Place) (m : Machine) (lines : List RunLine) (after : Machine) → AreRoots root → IsBare c m
    → (run : RunsSoundly c [] m lines after) → AreRooted c root m lines after (runs_of c [] m lines after run) → (device : ℕ) (place : Place)
    → is_hidden (root place) ≡ false → (n : Numbered) → Contains (rows_of (after.containers.half.holds device place)).list n
    → IsOfWrite c after (root place) n.row

-- ---- whose runs these are

-- an honest run of which each line is plain, named and rooted is such a run
abbrev pub HonestRunsAreRooted : Type 0
HonestRunsAreRooted = (c : Cluster) (root : Place → Place) (done : List RunLine) (m : Machine) (lines : List RunLine) (after : Machine)
    (run : Runs c.nodes m lines after) → AreHonest c.nodes.secrets c.replicas done lines → ArePlain c m lines after run
    → AreRooted c root m lines after run → (sound : RunsSoundly c done m lines after) × AreRooted c root m lines after (runs_of c done m lines after sound)

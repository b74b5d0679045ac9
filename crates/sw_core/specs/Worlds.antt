-- What a world is, and what its user knows of its nodes. (This project's own.)
use Rattle.std.specs.Prelude.{◌≡◌, refl, ℕ, ◌+◌, ◌-◌, ◌*◌, ◌/◌, ◌%◌, ◌^◌, ◌<◌, ◌≤◌, ◌⊎◌, Bool, true, false, ◌&&◌, nat_le, nat_lt, List, [], ◌∷◌, ◌++◌, length}
use Rattle.std.specs.Prelude.{map, zip, Option, ⊤}
use Rattle.std.specs.Prelude.{Some, None, is_none, IsSome}
use Rattle.std.specs.List.{flat_map, slice_get}
use Rattle.std.proofs.lemmas.Nat.{mod_below, pow_pos}
use Rattle.std.specs.Str.{bytes_eq}
use Rattle.std.specs.declared.alloc.Global.{Global}
use Rattle.std.specs.declared.vec.Vec.{Vec}
use Rattle.sw_core.specs.Limits.{empty_journal, journal_entries}
use Rattle.sw_core.specs.declared.slot.Slot.{Slot}
use Rattle.sw_core.specs.declared.slot.Slot.TheVariants as slots
use Rattle.sw_container_locks.specs.Halves.{half_of}
use Rattle.sw_container_db.specs.ContDirs.{ContKept}
use Rattle.sw_container_locks.specs.Slots.{AreSetDown as LocksAreSetDown, Lifts as LiftsLocks, keepers_of, opened as opened_locks}
use Rattle.sw_container_locks.specs.declared.cont_slot.ContSlot.{ContSlot}
use Rattle.sw_container_locks.specs.declared.cont_slot.ContSlot.TheVariants as cont_slots
use Rattle.sw_container_steps.specs.Halves.{ContHalf}
use Rattle.sw_hashpath.specs.BadNames.{bad_name}
use Rattle.sw_hashpath.specs.HashParts.{partition_of}
use Rattle.sw_hashpath.specs.Paths.{hash_of}
use Rattle.sw_hashpath.specs.declared.place.Place.{Place}
use Rattle.sw_hashpath.specs.declared.secrets.Secrets.{Secrets}
use Rattle.sw_hashdir.specs.Steps.{is_hashed}
use Rattle.sw_objdir.specs.Directories.{Kept, are_in_order, is_told, started, steps_of, values_of}
use Rattle.sw_peer.specs.Carriage.{faithful}
use Rattle.sw_object_steps.specs.Journals.{Hash}
use Rattle.sw_object_steps.specs.Rules.{ObjHistory, obj_rules}
use Rattle.sw_object_steps.specs.Values.{ObjValue, bare}
use Rattle.sw_peer.specs.Sights.{Nodes, Sight}
use Rattle.sw_peer.specs.declared.line.Event.TheVariants.{Restarted}
use Rattle.sw_peer.specs.declared.line.Line.{Line}
use Rattle.sw_peer.specs.declared.link.Link.TheVariants.{Local}
use Rattle.sw_ring.specs.declared.ring.Ring.{Ring}
use Rattle.sw_keeper.specs.declared.tables.Tables.{Tables}
use Rattle.sw_state.specs.States.{state_of}
use Rattle.sw_step.specs.Rules.{CanStand}
use Rattle.sw_volume.specs.Tree.{Folders}

pub record AllNodes (V K : Type 0) : Type 0 where
  pub devices : ℕ
  pub lock_bits : ℕ
  pub power : ℕ
  pub secrets : Secrets
  pub slots : List (Slot V)  -- one a lock
  pub lines : List Line  -- of what came since they were last taken
  pub max_bytes : ℕ  -- how many bytes the bodies in the journal of an object lock have at most, together
  pub asks : ℕ  -- how many messages asked for hashes or files
  pub lifted : Option ℕ  -- the device whose volumes are out
  pub containers : List (ContSlot K)  -- the container locks, one beside each object lock

-- ---- places

-- the stripe of a partition: its first lock_bits bits. A partition is below 2 to the power, so that the remainder is the stripe itself
abbrev pub stripe_at : ℕ → ℕ → ℕ → ℕ
stripe_at lock_bits power part = part / 2 ^ (power - lock_bits) % 2 ^ lock_bits

-- that of a hash: the one of its partition
abbrev pub stripe_in : ℕ → ℕ → Hash → ℕ
stripe_in lock_bits power hash = stripe_at lock_bits power (partition_of hash power)

-- the lock of a stripe of a device: those of a device stand together
abbrev pub stripe_lock_of : ℕ → ℕ → ℕ → ℕ
stripe_lock_of lock_bits device stripe = device * 2 ^ lock_bits + stripe

-- the lock of a partition at a device
abbrev pub part_lock_of : ℕ → ℕ → ℕ → ℕ → ℕ
part_lock_of lock_bits power device part = stripe_lock_of lock_bits device (stripe_at lock_bits power part)

-- the lock of a hash at a device: that of its partition
abbrev pub lock_of : ℕ → ℕ → ℕ → Hash → ℕ
lock_of lock_bits power device hash = part_lock_of lock_bits power device (partition_of hash power)

-- the first lock of a device, and the place past its last one
abbrev pub first_of : ℕ → ℕ → ℕ
first_of lock_bits device = device * 2 ^ lock_bits

abbrev pub past_of : ℕ → ℕ → ℕ
past_of lock_bits device = device * 2 ^ lock_bits + 2 ^ lock_bits

-- whether a lock is one of the device that is out
abbrev pub is_out : ℕ → Option ℕ → ℕ → Bool
is_out lock_bits None l = false
is_out lock_bits (Some device) l = nat_le (first_of lock_bits device) l && nat_lt l (past_of lock_bits device)

-- the journal has the limits of every object lock of these nodes
abbrev pub HasLimits : {V : Type 0} → ℕ → Kept V → Type 0
HasLimits max_bytes k = (k.journal.max_entries ≡ journal_entries) × (k.journal.max_bytes ≡ max_bytes)

-- what stands at a lock: an open directory of these secrets and this part power, or those secrets alone
abbrev pub IsSlot : {V : Type 0} → Secrets → ℕ → ℕ → Bool → Option (Slot V) → Type 0
IsSlot {V} secrets power max_bytes false slot =
    (k : Kept V) × (slot ≡ Some (slots.Open k)) × (k.secrets ≡ secrets) × (k.power ≡ power) × HasLimits max_bytes k
IsSlot secrets power max_bytes true slot = slot ≡ Some (slots.Lifted secrets)

-- so many devices, of which each has so many locks
pub record IsWorld {V K : Type 0} (w : AllNodes V K) : Type 0 where
  pub devices : w.devices ≤ 256
  pub lock_bits : w.lock_bits ≤ 4
  pub fine : w.lock_bits ≤ w.power  -- so that a partition is under one lock
  pub least : 1 ≤ w.power
  pub greatest : w.power ≤ 32
  pub count : length w.slots ≡ w.devices * 2 ^ w.lock_bits
  pub out : (device : ℕ) → w.lifted ≡ Some device → device < w.devices
  pub slots : (l : ℕ) → l < length w.slots → IsSlot w.secrets w.power w.max_bytes (is_out w.lock_bits w.lifted l) (slice_get w.slots l)

-- ---- what its user knows

-- whether nothing is wrong with the names of a container, and its hash is that of its path under these secrets
abbrev pub is_hashed_place : Secrets → Place → Bool
is_hashed_place secrets place =
    bytes_eq (hash_of secrets place.account (Some place.container) None) place.hash && is_none (bad_name place.account (Some place.container) None)

abbrev pub nodes_of : ℕ → ℕ → ℕ → Secrets → Nodes
nodes_of devices lock_bits power secrets =
    record {
      devices = devices;
      lock_bits = lock_bits;
      power = power;
      secrets = secrets;
      fits = is_hashed secrets;
      fits_place = is_hashed_place secrets;
      lock = lock_of lock_bits power;
      part_lock = part_lock_of lock_bits power;
      one_lock = λ device hash. refl;
      stripe = stripe_in lock_bits power;
      stripe_lock = stripe_lock_of lock_bits;
      one_stripe = λ device hash. refl;
      within = λ hash. mod_below (partition_of hash power / 2 ^ (power - lock_bits)) (2 ^ lock_bits) (pow_pos lock_bits);
      ways = [];
    }

-- how many devices may be asked: none while one is out
abbrev pub shown : Option ℕ → ℕ → ℕ
shown None devices = devices
shown (Some device) devices = 0

-- ---- containers

-- what a keeper lets be known: whether it tells what it holds, that, and its count of faults
pub record KeeperSeen (K : Type 0) : Type 0 where
  pub tells : K → Bool
  pub holds : K → Place → Option Tables
  pub faults : K → ℕ

abbrev pub keeper_seen : {K : Type 0} → (K → Bool) → (K → Place → Option Tables) → (K → ℕ) → KeeperSeen K
keeper_seen tells holds faults = record { tells = tells; holds = holds; faults = faults }

-- the lock of a container at a device is numbered as that of an object
abbrev pub place_lock : ℕ → ℕ → ℕ → Place → ℕ
place_lock lock_bits power device place = lock_of lock_bits power device place.hash

-- what is known of these locks
abbrev pub containers_at : {K : Type 0} → KeeperSeen K → ℕ → ℕ → List (ContSlot K) → ContHalf
containers_at keeps lock_bits power locks = half_of keeps.tells keeps.holds keeps.faults (place_lock lock_bits power) locks

-- what stands at a container lock: it is open, or its keeper is out
abbrev pub IsContSlot : {K : Type 0} → Bool → Option (ContSlot K) → Type 0
IsContSlot {K} false slot = (k : ContKept K) × (slot ≡ Some (cont_slots.Open k))
IsContSlot true slot = slot ≡ Some cont_slots.Lifted

-- there is a container lock for each stripe of each device, and those of a device that is out are
pub record AreContainers {K : Type 0} (devices lock_bits : ℕ) (lifted : Option ℕ) (locks : List (ContSlot K)) : Type 0 where
  pub count : length locks ≡ devices * 2 ^ lock_bits
  pub slots : (l : ℕ) → l < length locks → IsContSlot (is_out lock_bits lifted l) (slice_get locks l)

-- ---- objects

-- nothing stands under a hash
abbrev pub none_stands : ObjValue
none_stands = bare (state_of [])

-- the history of a lock where nothing has happened
abbrev pub empty_history : ObjHistory
empty_history = record { told = true; opening = λ hash. none_stands; journal = empty_journal; faults = 0 }

module _ {V : Type 0} (tells : V → Bool) (files : V → Folders) (faults : V → ℕ) where
  -- the history of a lock; where no directory is open one in which nothing has happened
  abbrev pub seen_of : Option (Slot V) → ObjHistory
  seen_of (Some (slots.Open k)) = steps_of tells files faults k
  seen_of (Some (slots.Lifted secrets)) = empty_history
  seen_of (Some slots.Empty) = empty_history
  seen_of None = empty_history

  -- what a hash stands for at a lock
  abbrev pub held_of : Option (Slot V) → Hash → ObjValue
  held_of (Some (slots.Open k)) hash = values_of tells files faults k hash
  held_of (Some (slots.Lifted secrets)) hash = none_stands
  held_of (Some slots.Empty) hash = none_stands
  held_of None hash = none_stands

  -- each hash may stand for what is held there at this lock
  abbrev pub AllMayStand : Option (Slot V) → Type 0
  AllMayStand slot = (seen_of slot).told ≡ true → (hash : Hash) → CanStand obj_rules (seen_of slot) hash (held_of slot hash)

-- what the user of all nodes knows of them
module _ {V K : Type 0} (tells : V → Bool) (files : V → Folders) (faults : V → ℕ) (keeps : KeeperSeen K) where
  abbrev pub sight_of : AllNodes V K → Sight
  sight_of w = record {
    nodes = nodes_of (shown w.lifted w.devices) w.lock_bits w.power w.secrets;
    objects = record {
      seen = λ l. seen_of tells files faults (slice_get w.slots l);
      holds = λ d hash. held_of tells files faults (slice_get w.slots (lock_of w.lock_bits w.power d hash)) hash;
    };
    containers = containers_at keeps w.lock_bits w.power w.containers;
    alone = true;
    faults = 0;
    asks = w.asks;
    carriage = faithful;
    trail = Some w.lines;
  }

-- ---- beginning and ending

-- the volumes among these parts, and the keepers
abbrev pub volumes_in : {V K : Type 0} → List (V × K) → List V
volumes_in parts = map (λ part. part.0) parts

abbrev pub keepers_in : {V K : Type 0} → List (V × K) → List K
keepers_in parts = map (λ part. part.1) parts

-- the nodes of a ring over these parts, a volume and a keeper for each lock, in which nothing has happened
abbrev pub opened : {V K : Type 0} → ℕ → Ring → List (V × K) → AllNodes V K
opened max_bytes ring parts = record {
  devices = length ring.devices;
  lock_bits = ring.lock_bits;
  power = ring.power;
  secrets = ring.secrets;
  slots = map (λ v. slots.Open (started v ring.secrets ring.power journal_entries max_bytes)) (volumes_in parts);
  lines = [];
  max_bytes = max_bytes;
  asks = 0;
  lifted = None;
  containers = opened_locks (keepers_in parts);
}

-- the volume of a lock, where it is there
abbrev pub volume_in : {V : Type 0} → Slot V → List V
volume_in (slots.Open k) = k.volume ∷ []
volume_in (slots.Lifted secrets) = []
volume_in slots.Empty = []

-- the volumes and the keepers that are there, in the order of their locks
abbrev pub parts_of : {V K : Type 0} → AllNodes V K → List (V × K)
parts_of w = zip (flat_map volume_in w.slots) (keepers_of w.containers)

-- the same nodes, with no lines
abbrev pub without_lines : {V K : Type 0} → AllNodes V K → AllNodes V K
without_lines w = record w { lines = [] }

-- of the same devices, secrets and places, none of which is out that wasn't
pub record IsSameWorld {V K : Type 0} (old new : AllNodes V K) : Type 0 where
  pub devices : new.devices ≡ old.devices
  pub lock_bits : new.lock_bits ≡ old.lock_bits
  pub power : new.power ≡ old.power
  pub secrets : new.secrets ≡ old.secrets
  pub max_bytes : new.max_bytes ≡ old.max_bytes
  pub asks : new.asks ≡ old.asks
  pub lifted : new.lifted ≡ old.lifted

-- ---- lifting and setting down

-- the directories from one lock on, up to another, were taken out, and their volumes given
pub record AreLifted {V : Type 0} (first past : ℕ) (old new : List (Slot V)) (given : List V) : Type 0 where
  pub within : (l : ℕ) (k : Kept V) → first ≤ l → l < past → slice_get old l ≡ Some (slots.Open k) → slice_get new l ≡ Some (slots.Lifted k.secrets)
  pub gives : (i : ℕ) (k : Kept V) → first + i < past → slice_get old (first + i) ≡ Some (slots.Open k) → slice_get given i ≡ Some k.volume
  pub outside : (l : ℕ) → (l < first) ⊎ (past ≤ l) → slice_get new l ≡ slice_get old l
  pub count : length new ≡ length old
  pub amount : first + length given ≡ past

-- a directory that told its contents, and was in order, does so still
abbrev pub TellsOn : {V : Type 0} → (V → Bool) → (V → Folders) → (V → ℕ) → Kept V → Type 0
TellsOn tells files faults k = is_told tells files faults k ≡ true → (tells k.volume && are_in_order k.secrets k.power (files k.volume)) ≡ true

-- the directory of a lock does, where it is open
abbrev pub SlotTellsOn : {V : Type 0} → (V → Bool) → (V → Folders) → (V → ℕ) → Slot V → Type 0
SlotTellsOn tells files faults (slots.Open k) = TellsOn tells files faults k
SlotTellsOn tells files faults (slots.Lifted secrets) = ⊤
SlotTellsOn tells files faults slots.Empty = ⊤

-- a volume was put in at one lock, where one was out
abbrev pub IsSetDown : {V : Type 0} → ℕ → ℕ → V → Slot V → Slot V → Type 0
IsSetDown power max_bytes v (slots.Lifted secrets) new = new ≡ slots.Open (started v secrets power journal_entries max_bytes)
IsSetDown power max_bytes v (slots.Open k) new = new ≡ slots.Open k
IsSetDown power max_bytes v slots.Empty new = new ≡ slots.Empty

-- these volumes were put in from one lock on, each as a directory that begins anew
pub record AreSetDown {V : Type 0} (power max_bytes first : ℕ) (volumes : List V) (old new : List (Slot V)) : Type 0 where
  pub within : (i : ℕ) (v : V) (secrets : Secrets) → slice_get volumes i ≡ Some v → slice_get old (first + i) ≡ Some (slots.Lifted secrets)
      → slice_get new (first + i) ≡ Some (slots.Open (started v secrets power journal_entries max_bytes))
  pub outside : (l : ℕ) → (l < first) ⊎ (first + length volumes ≤ l) → slice_get new l ≡ slice_get old l
  pub count : length new ≡ length old

-- a device of a world was lifted, and these are the volumes and the keepers of its locks
pub record Lifts {V K : Type 0} (tells : V → Bool) (files : V → Folders) (faults : V → ℕ) (keeps : KeeperSeen K) (old : AllNodes V K) (device : ℕ)
    (given : List (V × K)) (new : AllNodes V K) : Type 0 where
  pub world : IsWorld old
  pub whole : old.lifted ≡ None
  pub is_device : device < old.devices
  pub lifted : AreLifted (first_of old.lock_bits device) (past_of old.lock_bits device) old.slots new.slots (volumes_in given)
  pub told : (l : ℕ) (k : Kept V) → first_of old.lock_bits device ≤ l → l < past_of old.lock_bits device → slice_get old.slots l ≡ Some (slots.Open k)
      → TellsOn tells files faults k
  pub containers : LiftsLocks keeps.tells (first_of old.lock_bits device) (past_of old.lock_bits device) old.containers new.containers (keepers_in given)
  pub rest : new ≡ record old { slots = new.slots; containers = new.containers; lifted = Some device }

abbrev pub restart_line : ℕ → Line
restart_line device = record { device = device; link = Local; event = Restarted; added = [] }

-- it was set down over these parts: each of its locks begins anew
pub record SetsDown {V K : Type 0} (old : AllNodes V K) (device : ℕ) (parts : List (V × K)) (new : AllNodes V K) : Type 0 where
  pub down : AreSetDown old.power old.max_bytes (first_of old.lock_bits device) (volumes_in parts) old.slots new.slots
  pub containers : LocksAreSetDown (first_of old.lock_bits device) (keepers_in parts) old.containers new.containers
  pub rest : new ≡ record old { slots = new.slots; lines = old.lines ++ restart_line device ∷ []; lifted = None; containers = new.containers }

-- there is room for the volumes of all locks, and, while a device is out, for the line of its restart
pub record HasRoom {V : Type 0} (slots : List (Slot V)) (room : Vec V Global) (lines spare : Vec Line Global) (lifted : Option ℕ) : Type 0 where
  pub empty : room.items ≡ []
  pub wide : length slots ≤ room.cap
  pub spared : IsSome lifted → (spare.items ≡ []) × (1 ≤ spare.cap)
  pub line : IsSome lifted → (lines.items ≡ []) ⊎ (length lines.items < lines.cap)

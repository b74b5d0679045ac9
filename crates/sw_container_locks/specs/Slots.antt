-- What contracts see of all container locks, and what is done with the keepers of some. (This project's own.)
use Rattle.std.specs.Prelude.{◌≡◌, ◌≢◌, ℕ, ◌+◌, ◌<◌, ◌≤◌, ◌⊎◌, Bool, List, [], ◌∷◌, length, map, Some}
use Rattle.std.specs.List.{flat_map, slice_get}
use Rattle.std.specs.declared.alloc.Global.{Global}
use Rattle.std.specs.declared.vec.Vec.{Vec}
use Rattle.sw_container_db.specs.ContDirs.{ContKept}
use Rattle.sw_container_locks.specs.Limits.{empty_journal, journal_entries}
use Rattle.sw_container_locks.specs.declared.cont_slot.ContSlot.{ContSlot}
use Rattle.sw_container_locks.specs.declared.cont_slot.ContSlot.TheVariants as slots

-- a lock that begins over a keeper
abbrev pub begun : {K : Type 0} → K → ContKept K
begun keeper = record { keeper = keeper; began = keeper; loaded = []; fresh = []; journal = empty_journal }

-- An open lock, between two steps: the entries of the last one were taken out, the journal has its limits, and the keeper tells what it holds if it
-- did so when the journal began
pub record IsLock {K : Type 0} (tells : K → Bool) (k : ContKept K) : Type 0 where
  pub fresh : k.fresh ≡ []
  pub max_entries : k.journal.max_entries ≡ journal_entries
  pub max_bytes : k.journal.max_bytes ≡ 0
  pub told : tells k.keeper ≡ tells k.began

-- each lock that is open is one
abbrev pub AreLocks : {K : Type 0} → (K → Bool) → List (ContSlot K) → Type 0
AreLocks {K} tells all = (l : ℕ) (k : ContKept K) → slice_get all l ≡ Some (slots.Open k) → IsLock tells k

-- this lock is open
abbrev pub IsOpen : {K : Type 0} → List (ContSlot K) → ℕ → Type 0
IsOpen {K} all l = (k : ContKept K) × (slice_get all l ≡ Some (slots.Open k))

-- there is room for the keepers of all locks
pub record HasRoom {K : Type 0} (all : List (ContSlot K)) (room : Vec K Global) : Type 0 where
  pub none : room.items ≡ []
  pub wide : length all ≤ room.cap

-- ---- beginning and ending

-- the locks over these keepers, in which nothing has happened
abbrev pub opened : {K : Type 0} → List K → List (ContSlot K)
opened keepers = map (λ keeper. slots.Open (begun keeper)) keepers

-- the keeper of a lock, where it is there
abbrev pub keeper_in : {K : Type 0} → ContSlot K → List K
keeper_in (slots.Open k) = k.keeper ∷ []
keeper_in slots.Lifted = []
keeper_in slots.Empty = []

-- the keepers that are there, in the order of their locks
abbrev pub keepers_of : {K : Type 0} → List (ContSlot K) → List K
keepers_of all = flat_map keeper_in all

-- ---- lifting and setting down

-- the locks from one on, up to another, were taken out, and their keepers given
pub record AreLifted {K : Type 0} (first past : ℕ) (old new : List (ContSlot K)) (given : List K) : Type 0 where
  pub within : (l : ℕ) (k : ContKept K) → first ≤ l → l < past → slice_get old l ≡ Some (slots.Open k) → slice_get new l ≡ Some slots.Lifted
  pub gives : (i : ℕ) (k : ContKept K) → first + i < past → slice_get old (first + i) ≡ Some (slots.Open k) → slice_get given i ≡ Some k.keeper
  pub outside : (l : ℕ) → (l < first) ⊎ (past ≤ l) → slice_get new l ≡ slice_get old l
  pub count : length new ≡ length old
  pub amount : first + length given ≡ past

-- the same of open locks, each of which was one
pub record Lifts {K : Type 0} (tells : K → Bool) (first past : ℕ) (old new : List (ContSlot K)) (given : List K) : Type 0 where
  pub locks : AreLocks tells old
  pub are_open : (l : ℕ) → first ≤ l → l < past → IsOpen old l
  pub lifted : AreLifted first past old new given

-- a keeper was put in at one lock, where one was out
abbrev pub IsSetDown : {K : Type 0} → K → ContSlot K → ContSlot K → Type 0
IsSetDown keeper slots.Lifted new = new ≡ slots.Open (begun keeper)
IsSetDown keeper (slots.Open k) new = new ≡ slots.Open k
IsSetDown keeper slots.Empty new = new ≡ slots.Empty

-- these keepers were put in from one lock on, each as a lock that begins anew; a lock that wasn't out stays as it is
pub record AreSetDown {K : Type 0} (first : ℕ) (keepers : List K) (old new : List (ContSlot K)) : Type 0 where
  pub within : (i : ℕ) (keeper : K) → slice_get keepers i ≡ Some keeper → slice_get old (first + i) ≡ Some slots.Lifted
      → slice_get new (first + i) ≡ Some (slots.Open (begun keeper))
  pub stays : (l : ℕ) → slice_get old l ≢ Some slots.Lifted → slice_get new l ≡ slice_get old l
  pub outside : (l : ℕ) → (l < first) ⊎ (first + length keepers ≤ l) → slice_get new l ≡ slice_get old l
  pub count : length new ≡ length old

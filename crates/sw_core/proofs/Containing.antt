-- The container locks of a world: they are there, and a step at one of them is one of its device to the user of a door.
use Rattle.std.proofs.Common.{◌≡◌, ℕ, zero, suc, ◌+◌, ◌-◌, ◌*◌, ◌^◌, ◌<◌, ◌≤◌, Bool, true, false, List, [], ◌∷◌, ◌++◌, length, refl, sym, ◌∙◌, ap, subst, arith}
use Rattle.std.proofs.Common.{Option}
use Rattle.std.proofs.Common.{None, Some, Result, Ok, Err, ◌⊎◌, inl, inr, slice_set, length-set, is_none}
use Rattle.std.proofs.lemmas.Bool.{and_from}
use Rattle.std.proofs.lemmas.List.{length-map}
use Rattle.std.proofs.lemmas.Slice.Eq.{bytes_eq-Decides}
use Rattle.std.proofs.Math.Nat.{mul-le-mul_right, suc-mul}
use Rattle.std.specs.List.{slice_get}
use Rattle.sw_container_db.specs.ContDirs.{ContKept}
use Rattle.sw_container_locks.proofs.Placed.{change-moves, lifting-restarts, read-moves}
use Rattle.sw_container_locks.specs.Halves.{MayStand, cont_held_of}
use Rattle.sw_container_locks.specs.Laws.{HasLocks, IsOfDevice}
use Rattle.sw_container_locks.specs.Making.{IsChangedAt, IsReadAt}
use Rattle.sw_container_locks.specs.Slots.{AreLifted as AreLiftedLocks, AreSetDown as LocksAreSetDown, IsOpen, Lifts as LiftsLocks, begun}
use Rattle.sw_container_locks.specs.Slots.{opened as opened_locks}
use Rattle.sw_container_locks.specs.declared.cont_slot.ContSlot.{ContSlot}
use Rattle.sw_container_locks.specs.declared.cont_slot.ContSlot.TheVariants as cont_slots
use Rattle.sw_container_steps.specs.declared.cont_answer.ContAnswer.{ContAnswer}
use Rattle.sw_container_steps.specs.declared.cont_answer.ContAnswer.TheVariants as answers
use Rattle.sw_container_steps.specs.declared.cont_change.ContChange.{ContChange}
use Rattle.sw_hashpath.specs.BadNames.{bad_name}
use Rattle.sw_hashpath.specs.HashParts.{partition_of}
use Rattle.sw_hashpath.specs.Paths.{hash_of}
use Rattle.sw_hashpath.specs.declared.secrets.Secrets.{Secrets}
use Rattle.sw_hashpath.specs.declared.place.Place.{Place}
use Rattle.sw_history.specs.Halves.{HalfRestarts}
use Rattle.sw_peer.proofs.Calls.{calls-once, faithful-once}
use Rattle.sw_peer.proofs.ContCalls.{MayHold, cont-made-step, cont-wanting, look-step, look-wanting}
use Rattle.sw_peer.specs.ContSights.{ContMoves, IsContMade, IsIn, IsLooked}
use Rattle.sw_peer.specs.Sights.{Calls, Sight}
use Rattle.sw_peer.specs.declared.cont_event.ContEvent.{ContEvent}
use Rattle.sw_peer.specs.declared.line.Line.{Line}
use Rattle.sw_peer.specs.declared.link.Link.{Link}
use Rattle.sw_keeper.specs.declared.tables.Tables.{Tables}
use Rattle.sw_volume.specs.Tree.{Folders}
use Rattle.sw_core.proofs.Apart.{apart-from}
use Rattle.sw_core.proofs.Placed.{device-of, slice_get-set_other, slice_get-set_same, stripe-below}
use Rattle.sw_core.proofs.Keeping.{out-cases, there-is}
use Rattle.sw_core.specs.Worlds.{AllNodes, AreContainers, IsContSlot, KeeperSeen, containers_at, first_of, is_hashed_place, is_out, past_of, place_lock}
use Rattle.sw_core.specs.Worlds.{sight_of, stripe_at}

-- ---- they are there

-- those over keepers that begin
pub begun-containers : {K : Type 0} (devices bits : ℕ) (keepers : List K) → length keepers ≡ devices * 2 ^ bits
    → AreContainers devices bits None (opened_locks keepers)
begun-containers {K} devices bits keepers amount = record {
  count = length-map keepers (λ (keeper : K). cont_slots.Open (begun keeper)) ∙ amount;
  slots = λ l below. all-open keepers l (subst (λ (n : ℕ). l < n) (length-map keepers (λ (keeper : K). cont_slots.Open (begun keeper))) below);
}
  where
    all-open : (keepers : List K) (l : ℕ) → l < length keepers → IsOpen (opened_locks keepers) l
    all-open [] l below = absurd (omega arith)
    all-open (k ∷ keepers) zero below = (begun k, refl)
    all-open (k ∷ keepers) (suc l) below = all-open keepers l (omega arith)

module _ {K : Type 0} (devices bits : ℕ) (locks : List (ContSlot K)) where
  -- where no device is out, each lock is open
  pub open-there : (lifted : Option ℕ) → AreContainers devices bits lifted locks → lifted ≡ None → (l : ℕ) → l < length locks → IsOpen locks l
  open-there lifted are whole l below = subst (λ (o : Option ℕ). IsContSlot (is_out bits o l) (slice_get locks l)) whole (are.slots l below)

  -- all are still there when one has made a step
  pub still-there : (lifted : Option ℕ) (l : ℕ) (n : ContKept K) → AreContainers devices bits lifted locks → lifted ≡ None
      → AreContainers devices bits lifted (slice_set locks l (cont_slots.Open n))
  still-there lifted l n are whole = record {
    count = length-set locks l (cont_slots.Open n) ∙ are.count;
    slots = λ m below. subst (λ (o : Option ℕ). IsContSlot (is_out bits o m) (slice_get (slice_set locks l (cont_slots.Open n)) m)) (sym whole)
        (by m (subst (λ (c : ℕ). m < c) (length-set locks l (cont_slots.Open n)) below) (same-or m l));
  }
    where
      same-or : (m l : ℕ) → (m ≡ l) ⊎ (m ≡ l → ⊥)
      same-or zero zero = inl refl
      same-or zero (suc l) = inr (λ is. cc)
      same-or (suc m) zero = inr (λ is. cc)
      same-or (suc m) (suc l) = further (same-or m l)
        where
          further : (m ≡ l) ⊎ (m ≡ l → ⊥) → (suc m ≡ suc l) ⊎ (suc m ≡ suc l → ⊥)
          further (inl is) = inl (ap suc is)
          further (inr apart) = inr (λ is. apart (omega (arith, is)))

      by : (m : ℕ) → m < length locks → (m ≡ l) ⊎ (m ≡ l → ⊥) → IsOpen (slice_set locks l (cont_slots.Open n)) m
      by m below (inl is) = (
        n,
        ap (slice_get (slice_set locks l (cont_slots.Open n))) is ∙ slice_get-set_same locks l (cont_slots.Open n)
            (subst (λ (i : ℕ). i < length locks) is below),
      )
      by m below (inr apart) =
          let there = open-there lifted are whole m below in
          (there.0, slice_get-set_other locks l m (cont_slots.Open n) apart ∙ there.1)

  -- those of a device are there
  pub past-within : (lifted : Option ℕ) (device : ℕ) → device < devices → AreContainers devices bits lifted locks → past_of bits device ≤ length locks
  past-within lifted device below are =
      let further : (suc device) * 2 ^ bits ≤ devices * 2 ^ bits = mul-le-mul_right {m = suc device} {n = devices} (2 ^ bits) (omega (arith, below)) in
      let past : (suc device) * 2 ^ bits ≡ device * 2 ^ bits + 2 ^ bits = suc-mul device (2 ^ bits) in
      omega (arith, are.count, further, past)

  -- and open, where none is out
  pub device-open : (lifted : Option ℕ) (device : ℕ) → device < devices → AreContainers devices bits lifted locks → lifted ≡ None
      → (l : ℕ) → first_of bits device ≤ l → l < past_of bits device → IsOpen locks l
  device-open lifted device below are whole l from to =
      let within = past-within lifted device below are in
      open-there lifted are whole l (omega (arith, to, within))

  -- when the device was lifted
  pub lifted-there : (lifted : Option ℕ) (device : ℕ) (new : List (ContSlot K)) (given : List K) → device < devices → AreContainers devices bits lifted locks
      → lifted ≡ None
      → AreLiftedLocks (first_of bits device) (past_of bits device) locks new given → AreContainers devices bits (Some device) new
  lifted-there lifted device new given below are whole up = record {
    count = up.count ∙ are.count;
    slots = λ l h. slot l (subst (λ (n : ℕ). l < n) up.count h) (out-cases bits device l);
  }
    where
      slot : (l : ℕ) → l < length locks → ((is_out bits (Some device) l ≡ true) × (first_of bits device ≤ l) × (l < past_of bits device))
          ⊎ ((is_out bits (Some device) l ≡ false) × ((l < first_of bits device) ⊎ (past_of bits device ≤ l)))
          → IsContSlot (is_out bits (Some device) l) (slice_get new l)
      slot l h (inl out) =
          let there = open-there lifted are whole l h in
          subst (λ (b : Bool). IsContSlot b (slice_get new l)) (sym out.0) (up.within l there.0 out.1 out.2 there.1)
      slot l h (inr apart) =
          let there = open-there lifted are whole l h in
          subst (λ (b : Bool). IsContSlot b (slice_get new l)) (sym apart.0) (there.0, up.outside l apart.1 ∙ there.1)

  -- and when it was set down
  pub set-there : (lifted : Option ℕ) (device : ℕ) (new : List (ContSlot K)) (keepers : List K) → AreContainers devices bits lifted locks
      → lifted ≡ Some device
      → length keepers ≡ 2 ^ bits → LocksAreSetDown (first_of bits device) keepers locks new → AreContainers devices bits None new
  set-there lifted device new keepers are out amount down = record {
    count = down.count ∙ are.count;
    slots = λ l h. slot l (subst (λ (n : ℕ). l < n) down.count h) (out-cases bits device l);
  }
    where
      was : (l : ℕ) → l < length locks → IsContSlot (is_out bits (Some device) l) (slice_get locks l)
      was l h = subst (λ (o : Option ℕ). IsContSlot (is_out bits o l) (slice_get locks l)) out (are.slots l h)

      slot : (l : ℕ) → l < length locks → ((is_out bits (Some device) l ≡ true) × (first_of bits device ≤ l) × (l < past_of bits device))
          ⊎ ((is_out bits (Some device) l ≡ false) × ((l < first_of bits device) ⊎ (past_of bits device ≤ l)))
          → IsOpen new l
      slot l h (inl at) =
          let stood : slice_get locks l ≡ Some cont_slots.Lifted = subst (λ (b : Bool). IsContSlot b (slice_get locks l)) at.0 (was l h) in
          let from : first_of bits device ≤ l = at.1 in
          let to : l < past_of bits device = at.2 in
          let i : ℕ = l - first_of bits device in
          let place : first_of bits device + i ≡ l = omega (arith, from) in
          let less : i < length keepers = omega (arith, from, to, amount) in
          let keeper = there-is keepers i less in
          (begun keeper.0, ap (slice_get new) (sym place) ∙ down.within i keeper.0 keeper.1 (ap (slice_get locks) place ∙ stood))
      slot l h (inr apart) =
          let there = subst (λ (b : Bool). IsContSlot b (slice_get locks l)) apart.0 (was l h) in
          (there.0, down.outside l (further l apart.1) ∙ there.1)
        where
          further : (l : ℕ) → (l < first_of bits device) ⊎ (past_of bits device ≤ l)
              → (l < first_of bits device) ⊎ (first_of bits device + length keepers ≤ l)
          further l (inl low) = inl low
          further l (inr high) = inr (omega (arith, high, amount))

-- ---- places

-- a lock is one of its device
pub of-device : (bits power device : ℕ) (place : Place) → IsOfDevice (place_lock bits power) device place
of-device bits power device place d p same = device-of bits power d device (partition_of p.hash power) (partition_of place.hash power) same

-- and those of a device stand together
has-locks : (bits power device : ℕ) → HasLocks (place_lock bits power) device (first_of bits device) (past_of bits device)
has-locks bits power device = record {
  own = λ place. (omega arith, let low = stripe-below bits power (partition_of place.hash power) in omega (arith, low));
  others = λ d place away. apart-from (2 ^ bits) d device (stripe_at bits power (partition_of place.hash power))
      (stripe-below bits power (partition_of place.hash power)) away;
}

-- ---- a device that was set down

pub device-restarts : {K : Type 0} (keeps : KeeperSeen K) (bits power device : ℕ) (old mid new : List (ContSlot K)) (given : List K)
    → LiftsLocks keeps.tells (first_of bits device) (past_of bits device) old mid given → LocksAreSetDown (first_of bits device) given mid new
    → HalfRestarts (place_lock bits power) true device (containers_at keeps bits power old) (containers_at keeps bits power new)
device-restarts keeps bits power device old mid new given up down =
    lifting-restarts keeps.tells keeps.holds keeps.faults (place_lock bits power) device (first_of bits device) (past_of bits device) old mid new given
    (has-locks bits power device) up down

-- ---- steps

module _ {V K : Type 0} (tells : V → Bool) (files : V → Folders) (faults : V → ℕ) (keeps : KeeperSeen K) (w : AllNodes V K) where
  abbrev see : AllNodes V K → Sight
  see x = sight_of tells files faults keeps x

  -- what is held under the lock of a place is what it may stand for
  abbrev held : ℕ → Place → Place → Option Tables
  held device place p = cont_held_of keeps.tells keeps.holds keeps.faults (slice_get w.containers (place_lock w.lock_bits w.power device place)) p

  may-hold : (device : ℕ) (place : Place) → MayStand keeps.tells keeps.holds keeps.faults w.containers (place_lock w.lock_bits w.power device place)
      → MayHold device place (see w)
  may-hold device place may = record {
    held = held device place;
    is_held = λ alone p same. ap (λ (l : ℕ). cont_held_of keeps.tells keeps.holds keeps.faults (slice_get w.containers l) p) (sym same);
    can = λ alone told p. may told p;
  }

  -- a step that may change a container
  module _ (link : Link) (device : ℕ) (place : Place) (change : ContChange) where
    pub wants-change : (lines : List Line) → lines ≡ w.lines
        → MayStand keeps.tells keeps.holds keeps.faults w.containers (place_lock w.lock_bits w.power device place)
        → Calls (IsContMade link device place change) (see w) link (Ok answers.NoMemory) (see (record w { lines = lines }))
    wants-change lines same may = rw same (calls-once (ContMoves (IsIn device place)) (IsContMade link device place change)
        (cont-made-step link device place change)
        (see w) (see w) link answers.NoMemory (faithful-once link) (cont-wanting link device place change (see w) (may-hold device place may)))

    pub world-change : (calls : K → ℕ) (answer : ContAnswer) (locks : List (ContSlot K)) (line : Line) (lines : List Line)
        → IsChangedAt keeps.tells keeps.holds keeps.faults calls (place_lock w.lock_bits w.power device place) link device place change w.containers answer
        locks
        line
        → lines ≡ w.lines ++ line ∷ []
        → Calls (IsContMade link device place change) (see w) link (Ok answer) (see (record w { lines = lines; containers = locks }))
    world-change calls answer locks line lines at items =
        let changes = change-moves keeps.tells keeps.holds keeps.faults calls (place_lock w.lock_bits w.power) link device place change w.containers answer
        locks
        line
        (of-device w.lock_bits w.power device place) at in
        calls-once (ContMoves (IsIn device place)) (IsContMade link device place change) (cont-made-step link device place change)
        (see w) (see (record w { lines = lines; containers = locks })) link answer (faithful-once link)
        (record {
          moves = record { nodes = refl; objects = refl; containers = changes.moves; alone = λ is. is; faults = omega arith };
          step = changes.step;
          trail = inl (ap Some (items ∙ ap (λ (x : Line). w.lines ++ x ∷ []) changes.line_is));
        })

  -- a read
  module _ {A : Type 0} (link : Link) (device : ℕ) (place : Place) (reading : Option Tables → ℕ → Result A ContAnswer) (event : Result A ContAnswer → ContEvent)
    where
      pub wants-look : (lines : List Line) → lines ≡ w.lines
          → MayStand keeps.tells keeps.holds keeps.faults w.containers (place_lock w.lock_bits w.power device place)
          → Calls (IsLooked link device place reading event) (see w) link (Ok (Err answers.NoMemory)) (see (record w { lines = lines }))
      wants-look lines same may = rw same (calls-once (ContMoves (IsIn device place)) (IsLooked link device place reading event)
          (look-step link device place reading event)
          (see w) (see w) link (Err answers.NoMemory) (faithful-once link) (look-wanting link device place reading event (see w) (may-hold device place may)))

      pub world-look : (calls : K → ℕ) (got : Result A ContAnswer) (locks : List (ContSlot K)) (line : Line) (lines : List Line)
          → IsReadAt keeps.tells keeps.holds keeps.faults calls (place_lock w.lock_bits w.power device place) link device place reading event w.containers got
          locks
          line
          → lines ≡ w.lines ++ line ∷ []
          → Calls (IsLooked link device place reading event) (see w) link (Ok got) (see (record w { lines = lines; containers = locks }))
      world-look calls got locks line lines at items =
          let reads = read-moves keeps.tells keeps.holds keeps.faults calls (place_lock w.lock_bits w.power) link device place reading event w.containers got
          locks
          line at in
          calls-once (ContMoves (IsIn device place)) (IsLooked link device place reading event) (look-step link device place reading event)
          (see w) (see (record w { lines = lines; containers = locks })) link got (faithful-once link)
          (record {
            moves = record { nodes = refl; objects = refl; containers = reads.moves; alone = λ is. is; faults = omega arith };
            holds_all = λ alone d p. reads.holds_all d p;
            step = reads.step;
            trail = inl (ap Some (items ∙ ap (λ (x : Line). w.lines ++ x ∷ []) reads.line_is));
          })

-- ---- places

-- the place of a container whose hash is that of its path under these secrets, and whose names are good, fits
pub place-fits : (secrets : Secrets) (place : Place) → place.hash ≡ hash_of secrets place.account (Some place.container) None
    → bad_name place.account (Some place.container) None ≡ None → is_hashed_place secrets place ≡ true
place-fits secrets place hashed good =
    and_from _ _ ((bytes_eq-Decides (hash_of secrets place.account (Some place.container) None) place.hash).1 (sym hashed)) (ap is_none good)

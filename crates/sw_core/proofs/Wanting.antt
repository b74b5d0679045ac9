-- A step that wants memory before it is made.
use Rattle.std.proofs.Common.{◌≡◌, ◌<◌, ◌≤◌, ◌+◌, ℕ, Bool, true, false, List, length, get_or, refl, sym, ◌∙◌, ap, subst, arith, Option, Some, Result}
use Rattle.std.proofs.Common.{Ok, Err, OnOk, inr}
use Rattle.std.specs.Result.{is_err}
use Rattle.std.specs.List.{slice_get}
use Rattle.std.specs.Str.{bytes_eq}
use Rattle.sw_hashpath.specs.HashParts.{partition_of}
use Rattle.sw_hashpath.specs.declared.name.Name.{Name}
use Rattle.sw_history.proofs.Growing.{grows-refl}
use Rattle.sw_peer.proofs.Calls.{BaseFrame, PartFrame, StripeFrame, base-step, calls-once, faithful-once, made-step, moves-counted, moves-refl, part-step}
use Rattle.sw_peer.proofs.Calls.{read-step, records-step, same-refl, wanting}
use Rattle.sw_peer.specs.Sights.{Calls, IsAt, IsBaseRead, IsInPart, IsInStripe, IsMade, IsPartRead, IsRead, IsRecordsRead, MayStand, Moves, Nodes, Sight}
use Rattle.sw_peer.specs.Sights.{is_one}
use Rattle.sw_object_steps.proofs.Hashes.{hash-same}
use Rattle.sw_object_steps.specs.BaseRows.{IsBaseFor}
use Rattle.sw_object_steps.specs.Journals.{Hash}
use Rattle.sw_object_steps.specs.Rules.{ObjHistory, obj_rules}
use Rattle.sw_object_steps.specs.Values.{ObjValue}
use Rattle.sw_pending.specs.declared.filed.Filed.{Filed}
use Rattle.sw_step.specs.Rules.{CanStand}
use Rattle.sw_step.specs.Steps.{IsDamaged, IsLost, IsWanting, Tells}
use Rattle.sw_object_steps.specs.declared.dir_fault.DirFault.{DirFault}
use Rattle.sw_object_steps.specs.declared.dir_fault.DirFault.TheVariants as dir_faults
use Rattle.sw_peer.specs.declared.part_read.PartRead.{PartRead}
use Rattle.sw_peer.specs.declared.part_read.PartRead.TheVariants.{Base}
use Rattle.sw_state.specs.declared.state.State.{State}
use Rattle.sw_object_steps.specs.declared.answer.Answer.TheVariants as answers
use Rattle.sw_object_steps.specs.declared.change.Change.{Change}
use Rattle.sw_object_steps.specs.declared.got.Got.TheVariants as gots
use Rattle.sw_peer.specs.declared.line.Line.{Line}
use Rattle.sw_peer.specs.declared.link.Link.{Link}
use Rattle.sw_volume.specs.Tree.{Folders}
use Rattle.sw_core.proofs.Wholes.{found}
use Rattle.sw_core.specs.declared.slot.Slot.{Slot}
use Rattle.sw_core.specs.Worlds.{AllMayStand, AllNodes, KeeperSeen, held_of, lock_of, part_lock_of, seen_of, sight_of, stripe_in, stripe_lock_of}

tells : IsWanting ≡ Tells → ⊥
tells is = cc

damaged : IsWanting ≡ IsDamaged → ⊥
damaged is = cc

lost : IsWanting ≡ IsLost → ⊥
lost is = cc

wanting-read : (link : Link) (device : ℕ) (name : Name) (s : Sight) → MayStand device name.hash s → IsRead link device name s gots.NoMemory s
wanting-read link device name s may = record {
  moves = moves-refl (IsAt device name.hash) s;
  holds_all = λ alone d hash. refl;
  step = record {
    read = s.objects.holds device;
    follows = grows-refl h;
    settles = λ alone. (0, refl);
    settled = λ is. absurd (tells is);
    shown = λ is. absurd (tells is);
    orderly = λ is. absurd (damaged is);
    failed = λ is. absurd (lost is);
    known = λ told is. absurd (tells is);
    kept = λ alone told key is. subst (λ (k : Hash). CanStand obj_rules h k (s.objects.holds device k)) (sym (same key is)) (may alone told);
    held = λ alone told is. absurd (tells is);
  };
  trail = inr (refl, same-refl s);
}
  where
    h : ObjHistory
    h = s.objects.seen (s.nodes.lock device name.hash)

    same : (key : Hash) → bytes_eq key name.hash ≡ true → key ≡ name.hash
    same key is = hash-same key name.hash is

-- a read of a partition that wants memory before it is made, at nodes whose count of asking messages may have risen: each of these hashes holds what it
-- may stand for
pub wanting-part : {A : Type 0} (link : Link) (device part : ℕ) (at : Nodes → Hash → Bool) (damages : Bool)
    (reading : Nodes → Bool → (Hash → State) → A → Type 0) (read : Result A DirFault → PartRead) (s : Sight) (asks : ℕ)
    → ((s.objects.seen (s.nodes.part_lock device part)).told ≡ true → (key : Hash) → at s.nodes key ≡ true
    → CanStand obj_rules (s.objects.seen (s.nodes.part_lock device part)) key (s.objects.holds device key))
    → IsPartRead link device part at damages reading read s (Err dir_faults.NoMemory) (record s { asks = asks })
wanting-part link device part at damages reading read s asks may = record {
  moves = moves-counted (IsInPart s.nodes.power device part (at s.nodes)) s s s.faults s.faults s.asks asks s.carriage s.carriage (omega arith)
      (moves-refl (IsInPart s.nodes.power device part (at s.nodes)) s);
  holds_all = λ alone d hash. refl;
  step = record {
    read = s.objects.holds device;
    follows = grows-refl (s.objects.seen (s.nodes.part_lock device part));
    settles = λ alone. (0, refl);
    settled = λ is. absurd (tells is);
    shown = λ is. absurd (tells is);
    orderly = λ is. absurd (damaged is);
    failed = λ is. absurd (lost is);
    known = λ told is. absurd (tells is);
    kept = λ alone told key is. may told key is;
    held = λ alone told is. absurd (tells is);
  };
  sound = λ bad is. cc;
  trail = inr (refl, record { same = refl; faults = omega arith });
}

-- a read of the records of a stripe that wants memory before it is made: `held` is what its lock holds under each hash
wanting-records : (link : Link) (device stripe : ℕ) (s : Sight) (hash : Hash) → s.nodes.stripe hash ≡ stripe → (held : Hash → ObjValue)
    → ((key : Hash) → s.nodes.lock device key ≡ s.nodes.stripe_lock device stripe → held key ≡ s.objects.holds device key)
    → ((s.objects.seen (s.nodes.stripe_lock device stripe)).told ≡ true → (key : Hash)
    → CanStand obj_rules (s.objects.seen (s.nodes.stripe_lock device stripe)) key (held key))
    → IsRecordsRead link device stripe s (Err dir_faults.NoMemory) s
wanting-records link device stripe s hash is held same may = record {
  moves = moves-refl (IsInStripe s.nodes device stripe) s;
  some = (hash, is);
  holds_all = λ alone d key. refl;
  held = held;
  is_held = λ alone. same;
  step = record {
    read = held;
    follows = grows-refl (s.objects.seen (s.nodes.stripe_lock device stripe));
    settles = λ alone. (0, refl);
    settled = λ is. absurd (tells is);
    shown = λ is. absurd (tells is);
    orderly = λ is. absurd (damaged is);
    failed = λ is. absurd (lost is);
    known = λ told is. absurd (tells is);
    kept = λ alone told key is. may told key;
    held = λ alone told is. absurd (tells is);
  };
  trail = inr (refl, same-refl s);
}

-- what a lock tells of each hash, its device holds
pub own-stands : {V K : Type 0} (tells : V → Bool) (files : V → Folders) (faults : V → ℕ) (keeps : KeeperSeen K) (w : AllNodes V K) (device : ℕ) (hash : Hash)
    → AllMayStand tells files faults (slice_get w.slots (lock_of w.lock_bits w.power device hash)) → MayStand device hash (sight_of tells files faults keeps w)
own-stands tells files faults keeps w device hash may alone told = may told hash

module _ {V K : Type 0} (tells : V → Bool) (files : V → Folders) (faults : V → ℕ) (keeps : KeeperSeen K) (w : AllNodes V K) (lines : List Line)
    (same : lines ≡ w.lines) (link : Link)
    (device : ℕ) where
  module _ (name : Name) (may : AllMayStand tells files faults (slice_get w.slots (lock_of w.lock_bits w.power device name.hash))) where
    pub wants : (change : Change) → Calls (IsMade link device name change) (sight_of tells files faults keeps w) link (Ok answers.NoMemory)
        (sight_of tells files faults keeps (record w { lines = lines }))
    wants change = rw same (calls-once (Moves (IsAt device name.hash)) (IsMade link device name change) (made-step link device name change)
        (sight_of tells files faults keeps w) (sight_of tells files faults keeps w) link answers.NoMemory (faithful-once link)
        (wanting link device name change (sight_of tells files faults keeps w) (own-stands tells files faults keeps w device name.hash may)))

    pub wants-read : Calls (IsRead link device name) (sight_of tells files faults keeps w) link (Ok gots.NoMemory)
        (sight_of tells files faults keeps (record w { lines = lines }))
    wants-read = rw same (calls-once (Moves (IsAt device name.hash)) (IsRead link device name) (read-step link device name)
        (sight_of tells files faults keeps w) (sight_of tells files faults keeps w) link gots.NoMemory (faithful-once link)
        (wanting-read link device name (sight_of tells files faults keeps w) (own-stands tells files faults keeps w device name.hash may)))

  -- a read of a partition that wants memory for its line
  module _ {A : Type 0} (part asks : ℕ) (at : Nodes → Hash → Bool) (damages : Bool) (reading : Nodes → Bool → (Hash → State) → A → Type 0)
      (read : Result A DirFault → PartRead) where
    pub wants-part : AllMayStand tells files faults (slice_get w.slots (part_lock_of w.lock_bits w.power device part))
        → ((key : Hash) → at (sight_of tells files faults keeps w).nodes key ≡ true → partition_of key w.power ≡ part)
        → Calls (IsPartRead link device part at damages reading read) (sight_of tells files faults keeps w) link (Ok (Err dir_faults.NoMemory))
        (sight_of tells files faults keeps (record w { lines = lines; asks = asks }))
    wants-part may inside = rw same (calls-once (PartFrame device part at) (IsPartRead link device part at damages reading read)
        (part-step link device part at damages reading read)
        (sight_of tells files faults keeps w) (sight_of tells files faults keeps (record w { asks = asks })) link (Err dir_faults.NoMemory)
        (faithful-once link) (wanting-part link device part at damages reading read (sight_of tells files faults keeps w) asks
        (λ told key is. subst (λ (p : ℕ). CanStand obj_rules (seen_of tells files faults (slice_get w.slots (part_lock_of w.lock_bits w.power device part))) key
        (held_of tells files faults (slice_get w.slots (part_lock_of w.lock_bits w.power device p)) key)) (sym (inside key is)) (may told key))))

  -- a read of the row to tell for a record that wants memory for its line
  pub wants-base : (filed : Filed) → AllMayStand tells files faults (slice_get w.slots (lock_of w.lock_bits w.power device filed.name.hash))
      → Calls (IsBaseRead link device filed) (sight_of tells files faults keeps w) link (Ok (Err dir_faults.NoMemory))
      (sight_of tells files faults keeps (record w { lines = lines }))
  wants-base filed may = rw same (calls-once (BaseFrame device filed) (IsBaseRead link device filed) (base-step link device filed)
      (sight_of tells files faults keeps w) (sight_of tells files faults keeps w) link (Err dir_faults.NoMemory) (faithful-once link)
      (wanting-part link device (partition_of filed.name.hash w.power) (is_one filed.name.hash) true
      (λ nodes told s row. told ≡ true → IsBaseFor filed (s filed.name.hash) row) (λ row. Base filed row) (sight_of tells files faults keeps w) w.asks
      (λ told key is. subst (λ (k : Hash).
      CanStand obj_rules (seen_of tells files faults (slice_get w.slots (lock_of w.lock_bits w.power device filed.name.hash))) k
      (held_of tells files faults (slice_get w.slots (lock_of w.lock_bits w.power device k)) k)) (hash-same filed.name.hash key is)
      (may told filed.name.hash))))

  -- and one of the records of a stripe, which has a hash
  pub wants-records : (stripe : ℕ) (hash : Hash) → stripe_in w.lock_bits w.power hash ≡ stripe
      → AllMayStand tells files faults (slice_get w.slots (stripe_lock_of w.lock_bits device stripe))
      → Calls (IsRecordsRead link device stripe) (sight_of tells files faults keeps w) link (Ok (Err dir_faults.NoMemory))
      (sight_of tells files faults keeps (record w { lines = lines }))
  wants-records stripe hash is may = rw same (calls-once (StripeFrame device stripe) (IsRecordsRead link device stripe) (records-step link device stripe)
      (sight_of tells files faults keeps w) (sight_of tells files faults keeps w) link (Err dir_faults.NoMemory) (faithful-once link)
      (wanting-records link device stripe (sight_of tells files faults keeps w) hash is
      (λ key. held_of tells files faults (slice_get w.slots (stripe_lock_of w.lock_bits device stripe)) key)
      (λ key equal. ap (λ (l : ℕ). held_of tells files faults (slice_get w.slots l) key) (sym equal)) may))

-- what is told of one place is told of the lock that it is
pub lock-stands : {V : Type 0} (tells : V → Bool) (files : V → Folders) (faults : V → ℕ) (all : List (Slot V)) (l place : ℕ) (s : Slot V) → place ≡ l
    → place < length all → s ≡ get_or all place s → AllMayStand tells files faults (Some s) → AllMayStand tells files faults (slice_get all l)
lock-stands tells files faults all l place s is within there may =
    subst (λ (o : Option (Slot _)). AllMayStand tells files faults o) (sym (ap (slice_get all) (sym is) ∙ found all place s within there)) may

-- there is room for one more, where reserving it didn't fail
pub reserved : {T E : Type 0} (r : Result T E) (len capacity : ℕ) → is_err r ≡ false → OnOk r (len + 1 ≤ capacity) → len < capacity
reserved (Ok x) len capacity is room = omega (arith, room)
reserved (Err e) len capacity is room = cc

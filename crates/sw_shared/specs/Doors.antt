-- All object nodes of a ring, as one door sees them that reaches each directory by a lane of its own. (This project's own.)
use Rattle.std.specs.Prelude.{◌≡◌, ◌==◌, ℕ, ◌*◌, ◌^◌, ◌≤◌, Bool, false, List, [], length, slice_set, Option, Some, None, Result, Ok, Err}
use Rattle.std.specs.List.{filter, list_all, slice_get}
use Rattle.std.specs.declared.alloc.Global.{Global}
use Rattle.std.specs.declared.vec.Vec.{Vec}
use Rattle.atomic_table.specs.Seated.{TableId}
use Rattle.sw_container_steps.specs.Halves.{ContHalf}
use Rattle.sw_core.specs.Worlds.{empty_history, lock_of, nodes_of, none_stands}
use Rattle.sw_hashpath.specs.declared.secrets.Secrets.{Secrets}
use Rattle.sw_objdir.specs.Directories.{Kept, steps_of, values_of}
use Rattle.sw_object_steps.specs.Journals.{Hash}
use Rattle.sw_object_steps.specs.Rules.{ObjHistory}
use Rattle.sw_object_steps.specs.Values.{ObjValue}
use Rattle.sw_object_steps.specs.declared.dir_fault.DirFault.{DirFault}
use Rattle.sw_peer.specs.Carriage.{faithful}
use Rattle.sw_peer.specs.Sights.{Sight}
use Rattle.sw_pending.specs.declared.filed.Filed.{Filed}
use Rattle.sw_shared.specs.Turning.{HasSeen, InTurn, ObjView}
use Rattle.sw_shared.specs.declared.booked.BookedObjects.{BookedObjects}
use Rattle.sw_volume.specs.Tree.{Folders}

pub record SharedNodes (V : Type 0) : Type 0 where
  pub devices : ℕ
  pub lock_bits : ℕ
  pub power : ℕ
  pub secrets : Secrets
  pub asks : ℕ  -- how many messages asked for hashes or files
  pub locks : List TableId  -- those of a device stand together
  pub lanes : List (ObjView V)  -- the passes, one a lock

-- the pass owns all numbers of its lock, so that nobody else comes in
abbrev pub owns_all : {V : Type 0} → ObjView V → Bool
owns_all v = length v.numbers == v.seats

-- no container is reached
abbrev pub no_containers : ContHalf
no_containers = record {
  seen = λ l. record { told = false; opening = λ place. None; journal = record { entries = []; doubts = []; max_entries = 0; max_bytes = 0 }; faults = 0 };
  holds = λ device place. None;
}

-- the answer without the records of other hashes than these
abbrev pub KeepsOf : (Hash → Bool) → Result (Vec Filed Global) DirFault → Result (Vec Filed Global) DirFault → Type 0
KeepsOf at (Ok all) (Ok some) = some.items ≡ filter (λ filed. at filed.name.hash) all.items
KeepsOf at (Ok all) (Err fault) = ⊥
KeepsOf at (Err fault) (Ok some) = ⊥
KeepsOf at (Err fault) (Err same) = same ≡ fault

module _ {V : Type 0} (tells : V → Bool) (files : V → Folders) (faults : V → ℕ) where
  -- the history of the directory as it was last seen, and what stood there under a hash
  abbrev pub seen_last : Option (BookedObjects V) → ObjHistory
  seen_last None = empty_history
  seen_last (Some b) = steps_of tells files faults b.dir

  abbrev pub held_last : Option (BookedObjects V) → Hash → ObjValue
  held_last None hash = none_stands
  held_last (Some b) hash = values_of tells files faults b.dir hash

  -- the same of a lane
  abbrev pub seen_in : Option (ObjView V) → ObjHistory
  seen_in None = empty_history
  seen_in (Some v) = seen_last v.known.last

  abbrev pub held_in : Option (ObjView V) → Hash → ObjValue
  held_in None hash = none_stands
  held_in (Some v) hash = held_last v.known.last hash

  -- What its user knows of the nodes: what the passes have seen last. It is alone where they own all numbers of their locks
  abbrev pub shared_sight : SharedNodes V → Sight
  shared_sight w = record {
    nodes = nodes_of w.devices w.lock_bits w.power w.secrets;
    objects = record {
      seen = λ l. seen_in (slice_get w.lanes l);
      holds = λ device hash. held_in (slice_get w.lanes (lock_of w.lock_bits w.power device hash)) hash;
    };
    containers = no_containers;
    alone = list_all owns_all w.lanes;
    faults = 0;
    asks = w.asks;
    carriage = faithful;
    trail = None;
  }

  -- the pass of one lock came in once, and the directory there made this step; no other pass did
  pub record HasTurn (old : SharedNodes V) (place : ℕ) (step : Kept V → Kept V → Type 0) (new : SharedNodes V) : Type 0 where
    pub before : ObjView V
    pub after : ObjView V
    pub at : slice_get old.lanes place ≡ Some before
    pub turn : InTurn tells files faults step before after
    pub left : new ≡ record old { lanes = slice_set old.lanes place after }

  -- so many devices, of which each has so many locks, each with a pass that has seen its directory
  pub record IsShared (w : SharedNodes V) : Type 0 where
    pub devices : w.devices ≤ 256
    pub lock_bits : w.lock_bits ≤ 4
    pub fine : w.lock_bits ≤ w.power  -- so that a partition is under one lock
    pub least : 1 ≤ w.power
    pub greatest : w.power ≤ 32
    pub count : length w.lanes ≡ w.devices * 2 ^ w.lock_bits
    pub lanes : (l : ℕ) (v : ObjView V) → slice_get w.lanes l ≡ Some v → HasSeen tells files faults w.secrets w.power v

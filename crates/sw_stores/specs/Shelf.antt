-- What stores keep, each in the slot of its lock. (This project's own.)
use Rattle.std.specs.Prelude.{◌≡◌, ℕ, Bool, false, List, [], Option, None, find, is_none, option_and_then, cond}
use Rattle.std.specs.Option.{option_map, unwrap_or}
use Rattle.sw_keeper.specs.MemState.{MemState as KeeperState}
use Rattle.sw_volume.specs.MemState.{MemState}
use Rattle.sw_volume.specs.Tree.{contents}
use Rattle.sw_volume.specs.Volume.{IsSame}
use Rattle.sw_stores.specs.Places.{is_pair}
use Rattle.sw_stores.specs.declared.part_shelf.Slot.{Slot}

module _ {V : Type 0} where
  -- the first slot of a pair
  abbrev pub slot_at : List (Slot V) → ℕ → ℕ → Option (Slot V)
  slot_at slots device stripe = find (λ slot. is_pair device stripe slot.device slot.stripe) slots

  -- what rests there
  abbrev pub rests_in : List (Slot V) → ℕ → ℕ → Option V
  rests_in slots device stripe = option_and_then (λ slot. slot.part) (slot_at slots device stripe)

  -- whether that of a pair is out: its slot is empty
  abbrev pub is_out : List (Slot V) → ℕ → ℕ → Bool
  is_out slots device stripe = unwrap_or (option_map (λ slot. is_none slot.part) (slot_at slots device stripe)) false

  -- in the slot of this pair stands w, and in every other slot what stood there
  pub record Fills (old new : List (Slot V)) (device stripe : ℕ) (w : Option V) : Type 0 where
    pub rests : (d s : ℕ) → rests_in new d s ≡ cond (is_pair device stripe d s) w (rests_in old d s)
    pub out : (d s : ℕ) → is_out new d s ≡ cond (is_pair device stripe d s) (is_none w) (is_out old d s)

-- a volume and a keeper that hold nothing, no call of which fails, before their first calls
pub record IsFresh (part : MemState × KeeperState) : Type 0 where
  pub nothing : IsSame (λ _ _. None) (contents part.0.folders)
  pub sound : part.0.failing ≡ []
  pub counts : (part.0.calls ≡ 0) × (part.0.faults ≡ 0) × (part.0.lists ≡ 0)
  pub keeper : part.1 ≡ record { shelves = []; failing = []; calls = 0; faults = 0 }

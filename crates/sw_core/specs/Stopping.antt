-- What nodes that are stopped give back. (This project's own.)
use Rattle.std.specs.Prelude.{◌≡◌, ℕ, ◌+◌, ◌*◌, ◌^◌, ◌<◌, List, ◌++◌, length, Option, None, Some}
use Rattle.std.specs.List.{slice_get}
use Rattle.sw_container_db.specs.ContDirs.{ContKept}
use Rattle.sw_container_locks.specs.declared.cont_slot.ContSlot.TheVariants as cont_slots
use Rattle.sw_core.specs.Worlds.{AllNodes, first_of, past_of}
use Rattle.sw_core.specs.declared.slot.Slot.TheVariants as slots
use Rattle.sw_objdir.specs.Directories.{Kept}

-- where the locks of the device that is out begin, and where they end
abbrev pub gap_first : ℕ → Option ℕ → ℕ
gap_first lock_bits None = 0
gap_first lock_bits (Some device) = first_of lock_bits device

abbrev pub gap_past : ℕ → Option ℕ → ℕ
gap_past lock_bits None = 0
gap_past lock_bits (Some device) = past_of lock_bits device

-- the volume and the keeper of each lock, those before the device that is out and those behind it
pub record Gives {V K : Type 0} (lifted : Option ℕ) (w : AllNodes V K) (parts : List (V × K)) : Type 0 where
  pub before : List (V × K)
  pub behind : List (V × K)
  pub all : parts ≡ before ++ behind
  pub low : length before ≡ gap_first w.lock_bits lifted
  pub high : gap_past w.lock_bits lifted + length behind ≡ w.devices * 2 ^ w.lock_bits
  pub first : (l : ℕ) (k : Kept V) (c : ContKept K) → l < gap_first w.lock_bits lifted → slice_get w.slots l ≡ Some (slots.Open k)
      → slice_get w.containers l ≡ Some (cont_slots.Open c) → slice_get before l ≡ Some (k.volume, c.keeper)
  pub then : (l : ℕ) (k : Kept V) (c : ContKept K) → slice_get w.slots (gap_past w.lock_bits lifted + l) ≡ Some (slots.Open k)
      → slice_get w.containers (gap_past w.lock_bits lifted + l) ≡ Some (cont_slots.Open c) → slice_get behind l ≡ Some (k.volume, c.keeper)

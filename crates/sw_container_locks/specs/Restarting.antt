-- Locks that begin anew over the keepers that they have. (This project's own.)
use Rattle.std.specs.Prelude.{◌≡◌, ℕ, ◌<◌, ◌≤◌, ◌⊎◌, Bool, true, List, length, Option, Some}
use Rattle.std.specs.List.{slice_get}
use Rattle.sw_hashpath.specs.declared.place.Place.{Place}
use Rattle.sw_history.specs.Halves.{HalfRestarts}
use Rattle.sw_keeper.specs.declared.tables.Tables.{Tables}
use Rattle.sw_container_locks.specs.Halves.{half_of}
use Rattle.sw_container_locks.specs.Laws.{HasLocks}
use Rattle.sw_container_locks.specs.Slots.{AreLocks, IsOpen, begun}
use Rattle.sw_container_locks.specs.declared.cont_slot.ContSlot.{ContSlot}
use Rattle.sw_container_locks.specs.declared.cont_slot.ContSlot.TheVariants as slots

-- a lock that is open begins anew over its keeper
abbrev pub IsRestarted : {K : Type 0} → ContSlot K → ContSlot K → Type 0
IsRestarted (slots.Open k) new = new ≡ slots.Open (begun k.keeper)
IsRestarted slots.Lifted new = new ≡ slots.Lifted
IsRestarted slots.Empty new = new ≡ slots.Empty

-- of the locks from one on, up to another, those that were open began anew
pub record AreRestarted {K : Type 0} (tells : K → Bool) (first past : ℕ) (old new : List (ContSlot K)) : Type 0 where
  pub locks : AreLocks tells old
  pub within : (l : ℕ) (x : ContSlot K) → first ≤ l → l < past → slice_get old l ≡ Some x → (y : ContSlot K) × (slice_get new l ≡ Some y) × IsRestarted x y
  pub outside : (l : ℕ) → (l < first) ⊎ (past ≤ l) → slice_get new l ≡ slice_get old l
  pub count : length new ≡ length old

module _ {K : Type 0} (tells : K → Bool) (holds : K → Place → Option Tables) (faults : K → ℕ) where
  -- where these are the locks of a device, and all of them are open, the device was restarted
  abbrev pub RestartMoves : Type 0
  RestartMoves = (lock : ℕ → Place → ℕ) (device first past : ℕ) (old new : List (ContSlot K)) → HasLocks lock device first past
      → ((l : ℕ) → first ≤ l → l < past → IsOpen old l) → AreRestarted tells first past old new
      → HalfRestarts lock true device (half_of tells holds faults lock old) (half_of tells holds faults lock new)

-- No keeper of the nodes fails, where none counts a fault.
use Rattle.std.proofs.Common.{◌≡◌, ℕ, Bool, Option, None, Some, inl, inr, refl, arith}
use Rattle.std.specs.List.{slice_get}
use Rattle.sw_container_locks.specs.Halves.{cont_seen_of}
use Rattle.sw_container_locks.specs.declared.cont_slot.ContSlot.{ContSlot}
use Rattle.sw_container_locks.specs.declared.cont_slot.ContSlot.TheVariants as cont_slots
use Rattle.sw_outside.specs.Faults.{HasRisen}
use Rattle.sw_volume.specs.Tree.{Folders}
use Rattle.sw_core.specs.Sound.{NoChangeFails, NoLookFails}
use Rattle.sw_core.specs.Worlds.{KeeperSeen, place_lock}

none-counted : {K : Type 0} (keeps : KeeperSeen K) → ((keeper : K) → keeps.faults keeper ≡ 0) → (o : Option (ContSlot K))
    → (cont_seen_of keeps.tells keeps.holds keeps.faults o).faults ≡ 0
none-counted keeps none (Some (cont_slots.Open k)) = none k.keeper
none-counted keeps none (Some cont_slots.Lifted) = refl
none-counted keeps none (Some cont_slots.Empty) = refl
none-counted keeps none None = refl

none-risen : (before now : ℕ) → now ≡ 0 → HasRisen before now → ⊥
none-risen before now none (inl more) = omega (arith, none, more)
none-risen before now none (inr full) = omega (arith, none, full)

module _ {V K : Type 0} (tells : V → Bool) (files : V → Folders) (faults : V → ℕ) (keeps : KeeperSeen K) where
  pub no-change-fails : NoChangeFails tells files faults keeps
  no-change-fails none link device place change w after made =
      none-risen _ _ (none-counted keeps none (slice_get after.containers (place_lock w.lock_bits w.power device place))) (made.step.step.failed refl)

  pub no-look-fails : {A : Type 0} → NoLookFails tells files faults keeps A
  no-look-fails none link device place reading event w after looked =
      none-risen _ _ (none-counted keeps none (slice_get after.containers (place_lock w.lock_bits w.power device place))) (looked.step.step.failed refl)

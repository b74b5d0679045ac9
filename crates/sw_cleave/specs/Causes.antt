-- Why a pass that splits a container isn't done. (This project's own.)
use Rattle.std.specs.Prelude.{◌≡◌, ◌≢◌, ℕ, false, Some, ◌⊎◌}
use Rattle.sw_outside.specs.Faults.{HasRisen}
use Rattle.sw_pass.specs.declared.hindrance.Hindrance.{Hindrance}
use Rattle.sw_pass.specs.declared.outcome.Outcome.{Outcome}
use Rattle.sw_peer.specs.Sights.{Sight}

-- no message asked for hashes or files, and each lost answer was counted by the door. Where it isn't done an answer was lost or hindered it, or a row came too
-- late
pub record HasCauses (old new : Sight) (o : Outcome) : Type 0 where
  pub asked : o.asked ≡ 0
  pub lost : o.lost ≢ 0 → HasRisen old.faults new.faults
  pub hindered : o.done ≡ false → (o.lost ≢ 0) ⊎ (((hindrance : Hindrance) × (o.kept ≡ Some hindrance)) ⊎ ((rowid : ℕ) × (o.later ≡ Some rowid)))

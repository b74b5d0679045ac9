-- Why an update isn't done. (This project's own.)
use Rattle.std.specs.Prelude.{◌≡◌, ◌≢◌, true, false, Some, ◌⊎◌}
use Rattle.sw_outside.specs.Faults.{HasRisen}
use Rattle.sw_pass.specs.declared.hindrance.Hindrance.{Hindrance}
use Rattle.sw_pass.specs.declared.outcome.Outcome.{Outcome}
use Rattle.sw_peer.specs.Sights.{Sight}

-- where it is done no record is left; and where it isn't, an answer was lost, which the door counted, or one hindered it
pub record HasCauses (old new : Sight) (o : Outcome) : Type 0 where
  pub asked : o.asked ≡ 0
  pub done : o.done ≡ true → o.left ≡ 0
  pub lost : o.lost ≢ 0 → HasRisen old.faults new.faults
  pub hindered : o.done ≡ false → (o.lost ≢ 0) ⊎ ((hindrance : Hindrance) × (o.kept ≡ Some hindrance))

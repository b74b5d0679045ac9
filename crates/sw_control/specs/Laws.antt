-- What is promised of the definitions of this crate. (This project's own.)
use Rattle.std.specs.Prelude.{◌≡◌}
use Rattle.sw_message.specs.declared.request.Request.{Request}
use Rattle.sw_pass.specs.declared.outcome.Outcome.{Outcome}
use Rattle.sw_ring.specs.declared.ring.Ring.{Ring}
use Rattle.sw_control.specs.Asking.{IsControl}
use Rattle.sw_control.specs.OutcomeText.{outcome_text}
use Rattle.sw_control.specs.declared.asking.Control.{Control}

-- a control request asks for one thing
abbrev pub AsksForOne : Type 0
AsksForOne = (ring : Ring) (r : Request) (a b : Control) → IsControl ring r a → IsControl ring r b → a ≡ b

-- the text of an outcome tells whether the pass is done
abbrev pub TellsDone : Type 0
TellsDone = (a b : Outcome) → outcome_text a ≡ outcome_text b → a.done ≡ b.done

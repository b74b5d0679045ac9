use Rattle.std.proofs.Common.{◌≡◌, ℕ, ◌++◌, ◌∷◌, take}
use Rattle.sw_control.specs.PendingText.{names_text}
use Rattle.sw_control.proofs.pending_lines.add_names.Given as goal

-- the names of the first device and of those of the others that were passed
abbrev pub invariant-loop-device : goal.invariant-loop-device
invariant-loop-device l = (d : ℕ) → l.done ≡ d ∷ l.rest → l.text.items ≡ l.fn.text.items ++ names_text l.devices (d ∷ take l.device-index l.rest)

use Rattle.std.proofs.Common.{◌≡◌, ℕ, ◌++◌, ◌∷◌, take}
use Rattle.sw_pending.specs.Texts.{devices_text}
use Rattle.sw_pending.proofs.writing.push_devices.Given as goal

-- the numbers of the first device and of those of the others that were passed
abbrev pub invariant-loop-device : goal.invariant-loop-device
invariant-loop-device l = (d : ℕ) → l.done ≡ d ∷ l.rest → l.out.items ≡ l.fn.out.items ++ devices_text (d ∷ take l.device-index l.rest)

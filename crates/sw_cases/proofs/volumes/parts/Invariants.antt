use Rattle.std.proofs.Common.{◌≡◌, ℕ, false}
use Rattle.sw_stores.specs.Shelf.{is_out}
use Rattle.sw_cases.proofs.volumes.parts.Given as goal

-- no volume is out
abbrev pub invariant-loop-lock : goal.invariant-loop-lock
invariant-loop-lock l = (d s : ℕ) → is_out l.shelf d s ≡ false

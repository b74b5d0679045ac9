use Rattle.std.proofs.Common.{◌≡◌, ℕ, false}
use Rattle.sw_stores.specs.Shelf.{is_out}
use Rattle.sw_base_tests.proofs.stores.are_as_told.Given as goal

abbrev pub invariant-loop-call : goal.invariant-loop-call
invariant-loop-call l = record { home : (d s : ℕ) → is_out l.stores.parts d s ≡ false }

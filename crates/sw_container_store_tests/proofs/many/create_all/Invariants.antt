-- The keeper tells nothing.
use Rattle.std.proofs.Common.{◌≡◌, false}
use Rattle.sw_container_store_tests.proofs.many.create_all.Given as goal

abbrev pub invariant-loop-number : goal.invariant-loop-number
invariant-loop-number g l = record {
  untold : g.K.Keeper.tells l.store ≡ false;
}

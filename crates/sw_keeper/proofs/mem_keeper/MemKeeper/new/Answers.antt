use Rattle.sw_keeper.proofs.Keeping.{nothing_sorted}
use Rattle.sw_keeper.proofs.mem_keeper.MemKeeper.new.Goals as goal

pub invariant_of-result : goal.invariant_of-result
invariant_of-result c = rw c.new.ensures.items nothing_sorted

use Rattle.sw_container_steps.proofs.Batches.{Left}
use Rattle.sw_container_steps.proofs.batching.batch_of.Given as goal

-- the changes so far, with those of the entries that are left, are the batch
abbrev pub invariant-loop-entry : goal.invariant-loop-entry
invariant-loop-entry l = Left l.fn.tables l.entries l.now l.entry-index l.changes.items

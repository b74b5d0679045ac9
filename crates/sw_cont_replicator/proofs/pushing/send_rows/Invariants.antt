-- The rows that were yielded were sent, one after the other, and the nodes are the same.
use Rattle.std.proofs.Common.{◌≡◌, ◌++◌, length, true}
use Rattle.std.specs.Vec.Iter.{into_iter_items, into_iter_len}
use Rattle.sw_cont_replicator.specs.Pushing.{IsRowSent}
use Rattle.sw_pass.specs.Turns.{InTurn}
use Rattle.sw_cont_replicator.proofs.pushing.send_rows.Given as goal

abbrev pub invariant-loop-row : goal.invariant-loop-row
invariant-loop-row g l = record {
  pushes : InTurn (IsRowSent l.ring l.to l.place) l.yielded (g.D.Door.sight l.initial.door) l.initial.outcome (g.D.Door.sight l.door) l.outcome true;
  whole : l.yielded ++ into_iter_items l.row-iterator ≡ l.fn.rows;
  count : into_iter_len l.row-iterator ≡ length (into_iter_items l.row-iterator);
  nodes : (g.D.Door.sight l.door).nodes ≡ (g.D.Door.sight l.initial.door).nodes;
  asks : (g.D.Door.sight l.door).asks ≡ (g.D.Door.sight l.initial.door).asks;
}

-- The records that were yielded were gone over, one after the other, those that are left are good ones, and the nodes are the same.
use Rattle.std.proofs.Common.{◌≡◌, ◌++◌, length, true}
use Rattle.std.specs.List.{All}
use Rattle.std.specs.Vec.Iter.{into_iter_items, into_iter_len}
use Rattle.sw_pass.specs.Turns.{InTurn}
use Rattle.sw_pending.specs.Outcomes.{IsRecord}
use Rattle.sw_updater.specs.Updating.{IsUpdated}
use Rattle.sw_updater.proofs.updating.update_each.Given as goal

abbrev pub invariant-loop-filed : goal.invariant-loop-filed
invariant-loop-filed g l = record {
  updates : InTurn (IsUpdated l.ring l.device) l.yielded (g.D.Door.sight l.initial.door) l.initial.outcome (g.D.Door.sight l.door) l.outcome true;
  whole : l.yielded ++ into_iter_items l.filed-iterator ≡ l.fn.records.items;
  count : into_iter_len l.filed-iterator ≡ length (into_iter_items l.filed-iterator);
  good : All (IsRecord l.ring.secrets) (into_iter_items l.filed-iterator);
  nodes : (g.D.Door.sight l.door).nodes ≡ (g.D.Door.sight l.initial.door).nodes;
  asks : (g.D.Door.sight l.door).asks ≡ (g.D.Door.sight l.initial.door).asks;
}

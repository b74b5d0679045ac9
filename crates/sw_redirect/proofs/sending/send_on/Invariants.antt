-- The row was sent to the devices so far; the nodes are the same.
use Rattle.std.proofs.Common.{◌≡◌, true, false, take}
use Rattle.sw_container_steps.specs.declared.cont_change.ContChange.TheVariants.{MergeRow}
use Rattle.sw_pass.specs.Turns.{InTurn}
use Rattle.sw_redirect.specs.Sending.{IsSentTo, course}
use Rattle.sw_rows.specs.declared.row.Row.{Row}
use Rattle.sw_redirect.proofs.sending.send_on.Given as goal

abbrev pub invariant-loop-to : goal.invariant-loop-to
invariant-loop-to g l =
    let s = g.D.Door.sight in
    record {
      sends : (row : Row) → l.change ≡ MergeRow row → InTurn (IsSentTo l.shard row) (take l.to-index l.to-items) (course (s l.initial.door) false)
          l.initial.outcome (course (s l.door) l.missed) l.outcome true;
      nodes : (s l.door).nodes ≡ (s l.initial.door).nodes;
      asks : (s l.door).asks ≡ (s l.initial.door).asks;
    }

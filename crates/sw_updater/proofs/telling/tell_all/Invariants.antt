-- The row was told to those of the devices so far that aren't marked; the message is the same, and so are the nodes.
use Rattle.std.proofs.Common.{◌≡◌, true, take}
use Rattle.sw_container_steps.specs.declared.cont_change.ContChange.TheVariants.{MergeRow}
use Rattle.sw_pass.specs.Turns.{InTurn}
use Rattle.sw_redirect.specs.Sending.{course}
use Rattle.sw_updater.specs.Updating.{IsTold, to_tell}
use Rattle.sw_updater.proofs.telling.tell_all.Given as goal

abbrev pub invariant-loop-to : goal.invariant-loop-to
invariant-loop-to g l =
    let s = g.D.Door.sight in
    record {
      tells : InTurn (IsTold l.task.device l.task.filed l.ring l.task.place l.fn.row) (to_tell l.task.filed.done (take l.to-index l.to-items))
          (course (s l.initial.door) l.initial.missed) l.initial.outcome (course (s l.door) l.missed) l.outcome true;
      change : l.change ≡ MergeRow l.fn.row;
      nodes : (s l.door).nodes ≡ (s l.initial.door).nodes;
      asks : (s l.door).asks ≡ (s l.initial.door).asks;
    }

-- The list was sent to those of the devices so far that aren't this one, and the nodes are the same.
use Rattle.std.proofs.Common.{◌≡◌, take, true}
use Rattle.sw_cleave.specs.Creating.{IsListSent, others_of}
use Rattle.sw_pass.specs.Turns.{InTurn}
use Rattle.sw_cleave.proofs.creating.give_list.Given as goal

abbrev pub invariant-loop-to : goal.invariant-loop-to
invariant-loop-to g l =
    let s = g.D.Door.sight in
    record {
      gives : InTurn (IsListSent l.place l.list) (others_of l.device (take l.to-index l.to-items)) (s l.initial.door) l.initial.outcome (s l.door) l.outcome
          true;
      nodes : (s l.door).nodes ≡ (s l.initial.door).nodes;
      asks : (s l.door).asks ≡ (s l.initial.door).asks;
    }

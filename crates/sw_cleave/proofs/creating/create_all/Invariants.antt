-- The shards of the ranges so far are created, and the nodes are the same.
use Rattle.std.proofs.Common.{◌≡◌, take, true}
use Rattle.sw_cleave.specs.Creating.{AreCreated}
use Rattle.sw_cleave.proofs.creating.create_all.Given as goal

abbrev pub invariant-loop-range : goal.invariant-loop-range
invariant-loop-range g l =
    let s = g.D.Door.sight in
    record {
      creates : AreCreated l.time l.ring (take l.range-index l.range-items) (s l.initial.door) l.initial.outcome (s l.door) l.outcome true true;
      nodes : (s l.door).nodes ≡ (s l.initial.door).nodes;
      asks : (s l.door).asks ≡ (s l.initial.door).asks;
    }

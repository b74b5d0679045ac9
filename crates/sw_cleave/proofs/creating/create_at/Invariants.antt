-- The shard is at the devices so far, and the nodes are the same.
use Rattle.std.proofs.Common.{◌≡◌, take, true}
use Rattle.sw_cleave.specs.Creating.{IsCreatedAt}
use Rattle.sw_cleave.proofs.creating.create_at.Given as goal

abbrev pub invariant-loop-to : goal.invariant-loop-to
invariant-loop-to g l =
    let s = g.D.Door.sight in
    record {
      creates : IsCreatedAt l.time l.shard (take l.to-index l.devices) (s l.initial.door) l.initial.outcome (s l.door) l.outcome true true;
      nodes : (s l.door).nodes ≡ (s l.initial.door).nodes;
      asks : (s l.door).asks ≡ (s l.initial.door).asks;
    }

-- The devices so far were sent it, one after the other, and the nodes are the same.
use Rattle.std.proofs.Common.{◌≡◌, take, true}
use Rattle.sw_cleave.specs.Cleaving.{IsOffered}
use Rattle.sw_pass.specs.Turns.{InTurn}
use Rattle.sw_cleave.proofs.offering.offer_all.Given as goal

abbrev pub invariant-loop-to : goal.invariant-loop-to
invariant-loop-to g l =
    let s = g.D.Door.sight in
    record {
      offers : InTurn (IsOffered l.moving.device l.moving.place.now l.moving.range l.top l.moving.shard.now l.sent) (take l.to-index l.devices)
          (s l.initial.door) l.initial.outcome (s l.door) l.outcome true;
      nodes : (s l.door).nodes ≡ (s l.initial.door).nodes;
      asks : (s l.door).asks ≡ (s l.initial.door).asks;
    }

use Rattle.sw_pass.specs.Turns.{InTurn}
use Rattle.std.proofs.Common.{◌≡◌, ◌+◌, ◌-◌, ◌^◌, min, true, length, take}
use Rattle.sw_replicator.specs.Pushing.{IsSuffixPushed, differing}
use Rattle.sw_replicator.proofs.pushing.push_suffixes.Given as goal

abbrev pub invariant-loop-one : goal.invariant-loop-one
invariant-loop-one g l = record {
  pushes : InTurn (IsSuffixPushed l.route.from l.route.to l.route.part) (differing (take l.one-index l.ours) l.theirs)
      (g.D.Door.sight l.initial.door) l.initial.outcome (g.D.Door.sight l.door) l.outcome true;
  asks : (g.D.Door.sight l.door).asks ≡ min ((g.D.Door.sight l.initial.door).asks + length (differing (take l.one-index l.ours) l.theirs)) (2 ^ 64 - 1);
  asked : l.outcome.asked ≡ min (l.initial.outcome.asked + length (differing (take l.one-index l.ours) l.theirs)) (2 ^ 64 - 1);
}

use Rattle.sw_pass.specs.Turns.{InTurn}
use Rattle.std.proofs.Common.{◌≡◌, true, take}
use Rattle.sw_replicator.specs.Pushing.{IsLinePushed}
use Rattle.sw_replicator.proofs.offering.push_lines.Given as goal

abbrev pub invariant-loop-line : goal.invariant-loop-line
invariant-loop-line g l = record {
  pushes : InTurn (IsLinePushed l.route.from l.route.to l.route.part l.theirs) (take l.line-index l.ours) (g.D.Door.sight l.initial.door) l.initial.outcome
      (g.D.Door.sight l.door) l.outcome true;
  asks : (g.D.Door.sight l.door).asks ≡ (g.D.Door.sight l.initial.door).asks;
  asked : l.outcome.asked ≡ l.initial.outcome.asked;
}

use Rattle.std.proofs.Common.{◌∙◌, true, sym, subst, take}
use Rattle.std.proofs.lemmas.List.Elements.{All-take}
use Rattle.sw_object_steps.specs.Parts.{IsOfPart}
use Rattle.sw_peer.specs.Sights.{Nodes}
use Rattle.sw_replicator.proofs.Keeping.{lines-keep}
use Rattle.sw_pass.proofs.Turns.{turn-ended, turn-more}
use Rattle.sw_replicator.specs.Pushing.{IsLinePushed}
use Rattle.sw_replicator.specs.Routes.{Leads}
use Rattle.sw_suffix.specs.declared.dir_line.DirLine.{DirLine}
use Rattle.sw_replicator.proofs.offering.push_lines.Goals as goal

pub push_line-requires-clause-leads : goal.push_line-requires-clause-leads
push_line-requires-clause-leads g c =
    let s = g.D.Door.sight in
    let power = (s c.args.door.now).nodes.power in
    let keeps = lines-keep c.args.route.from c.args.route.to c.args.route.part c.args.theirs.now (take c.loop-line.line-index c.args.ours.now)
    (s c.args.door.now) c.args.outcome.now (s c.loop-line.door) c.loop-line.outcome true
    (All-take (λ (line : DirLine). IsOfPart power c.args.route.part line.hash) c.loop-line.line-index c.args.ours.now c.requires.within)
    c.loop-line.invariant.pushes in
    subst (λ (n : Nodes). Leads n c.args.route) (sym keeps.moves.nodes) c.requires.leads

pub push_line-requires-clause-within : goal.push_line-requires-clause-within
push_line-requires-clause-within g c =
    let s = g.D.Door.sight in
    let power = (s c.args.door.now).nodes.power in
    let keeps = lines-keep c.args.route.from c.args.route.to c.args.route.part c.args.theirs.now (take c.loop-line.line-index c.args.ours.now)
    (s c.args.door.now) c.args.outcome.now (s c.loop-line.door) c.loop-line.outcome true
    (All-take (λ (line : DirLine). IsOfPart power c.args.route.part line.hash) c.loop-line.line-index c.args.ours.now c.requires.within)
    c.loop-line.invariant.pushes in
    let own : IsOfPart power c.args.route.part c.line-item.result.hash =
    subst (λ (line : DirLine). IsOfPart power c.args.route.part line.hash) (sym c.line-item.is)
    (c.requires.within c.loop-line.line-index c.line-item.result c.loop-line-test.true) in
    subst (λ (n : Nodes). IsOfPart n.power c.args.route.part c.line-item.result.hash) (sym keeps.moves.nodes) own

pub loop-line-preserved : goal.loop-line-preserved
loop-line-preserved g c =
    let s = g.D.Door.sight in
    record {
      pushes =
          turn-more (IsLinePushed c.args.route.from c.args.route.to c.args.route.part c.args.theirs.now) c.args.ours.now c.loop-line.line-index
          c.line-item.result (s c.args.door.now) c.args.outcome.now
          (s c.loop-line.door) c.loop-line.outcome (s c.push_line.new.door) c.push_line.new.outcome c.loop-line-test.true c.line-item.is
          c.loop-line.invariant.pushes c.in_ok-push_line.ensures.pushes;
      asks = c.push_line.ensures.asks ∙ c.loop-line.invariant.asks;
      asked = c.push_line.ensures.asked ∙ c.loop-line.invariant.asked;
    }

pub returns-in_err-push_line-clause-pushes : goal.returns-in_err-push_line-clause-pushes
returns-in_err-push_line-clause-pushes g c =
    let s = g.D.Door.sight in
    turn-ended (IsLinePushed c.args.route.from c.args.route.to c.args.route.part c.args.theirs.now) c.from_residual.result c.args.ours.now
    c.loop-line.line-index c.line-item.result (s c.args.door.now) c.args.outcome.now
    (s c.loop-line.door) c.loop-line.outcome (s c.push_line.new.door) c.push_line.new.outcome c.from_residual.ensures.0 c.loop-line-test.true c.line-item.is
    c.loop-line.invariant.pushes c.in_err-push_line.ensures.pushes

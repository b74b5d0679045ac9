use Rattle.sw_pass.specs.Turns.{InTurn}
use Rattle.std.proofs.Common.{sym, subst}
use Rattle.std.specs.Option.{option_to_list}
use Rattle.std.specs.Result.{is_ok}
use Rattle.sw_diskfile.specs.declared.picking.Picked.{Picked}
use Rattle.sw_object_steps.specs.Parts.{IsOfPart}
use Rattle.sw_peer.specs.Sights.{Nodes}
use Rattle.sw_replicator.proofs.Keeping.{files-keep}
use Rattle.sw_pass.proofs.Turns.{turn-append, turn-stop}
use Rattle.sw_replicator.specs.Pushing.{IsFilePushed}
use Rattle.sw_replicator.specs.Routes.{Leads}
use Rattle.sw_suffix.specs.SuffixTexts.{files}
use Rattle.sw_replicator.proofs.offering.push_line.Goals as goal

pub push_some_file-requires-2-clause-leads : goal.push_some_file-requires-2-clause-leads
push_some_file-requires-2-clause-leads g c =
    let s = g.D.Door.sight in
    let line = c.args.line.now in
    let keeps = files-keep c.args.route.from c.args.route.to c.args.route.part c.picked_in-picked.result line.hash (option_to_list line.picked.base)
    (s c.args.door.now) c.args.outcome.now (s c.push_some_file.new.door) c.push_some_file.new.outcome
    (is_ok c.push_some_file.result) c.requires.within c.push_some_file.ensures.pushes in
    subst (λ (n : Nodes). Leads n c.args.route) (sym keeps.moves.nodes) c.requires.leads

pub push_some_file-requires-2-clause-within : goal.push_some_file-requires-2-clause-within
push_some_file-requires-2-clause-within g c =
    let s = g.D.Door.sight in
    let line = c.args.line.now in
    let keeps = files-keep c.args.route.from c.args.route.to c.args.route.part c.picked_in-picked.result line.hash (option_to_list line.picked.base)
    (s c.args.door.now) c.args.outcome.now (s c.push_some_file.new.door) c.push_some_file.new.outcome
    (is_ok c.push_some_file.result) c.requires.within c.push_some_file.ensures.pushes in
    subst (λ (n : Nodes). IsOfPart n.power c.args.route.part line.hash) (sym keeps.moves.nodes) c.requires.within

pub returns-clause-pushes : goal.returns-clause-pushes
returns-clause-pushes g c =
    let s = g.D.Door.sight in
    let line = c.args.line.now in
    let one = IsFilePushed c.args.route.from c.args.route.to c.args.route.part in
    subst (λ (p : Picked). InTurn (one p line.hash) (files line.picked) (s c.args.door.now) c.args.outcome.now
    (s c.push_some_file-2.new.door) c.push_some_file-2.new.outcome (is_ok c.push_some_file-2.result)) c.picked_in-picked.ensures
    (turn-append (one c.picked_in-picked.result line.hash) (option_to_list line.picked.base) (option_to_list line.picked.meta)
    (s c.args.door.now) c.args.outcome.now (s c.push_some_file.new.door) c.push_some_file.new.outcome
    (s c.push_some_file-2.new.door) c.push_some_file-2.new.outcome
    (is_ok c.push_some_file-2.result) c.in_ok-push_some_file.ensures.pushes c.push_some_file-2.ensures.pushes)

pub returns-in_err-push_some_file-clause-pushes : goal.returns-in_err-push_some_file-clause-pushes
returns-in_err-push_some_file-clause-pushes g c =
    let s = g.D.Door.sight in
    let line = c.args.line.now in
    let one = IsFilePushed c.args.route.from c.args.route.to c.args.route.part in
    subst (λ (p : Picked). InTurn (one p line.hash) (files line.picked) (s c.args.door.now) c.args.outcome.now
    (s c.push_some_file.new.door) c.push_some_file.new.outcome (is_ok c.from_residual.result)) c.picked_in-picked.ensures
    (turn-stop (one c.picked_in-picked.result line.hash) c.from_residual.result (option_to_list line.picked.base) (option_to_list line.picked.meta)
    (s c.args.door.now) c.args.outcome.now (s c.push_some_file.new.door) c.push_some_file.new.outcome
    c.from_residual.ensures.0 c.in_err-push_some_file.ensures.pushes)

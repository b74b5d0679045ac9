use Rattle.std.proofs.Common.{◌∙◌, refl, subst, sym}
use Rattle.std.specs.Result.{is_ok}
use Rattle.sw_container_steps.specs.declared.cont_change.ContChange.TheVariants.{MergeRow}
use Rattle.sw_cont_replicator.proofs.Sending.{made-moves}
use Rattle.sw_cont_replicator.specs.Pushing.{IsRowHeard}
use Rattle.sw_pass.specs.Rings.{IsRingOf}
use Rattle.sw_pass.specs.declared.outcome.Outcome.{Outcome}
use Rattle.sw_peer.specs.Sights.{Nodes}
use Rattle.sw_peer.specs.declared.link.Link.TheVariants.{Sent}
use Rattle.sw_cont_replicator.proofs.pushing.send_row.Goals as goal

pub hear-requires : goal.hear-requires
hear-requires g c =
    let s = g.D.Door.sight in
    let moves = made-moves Sent c.args.to c.args.place.now (MergeRow c.args.row) (s c.args.door.now) c.change_container-answer.result
    (s c.change_container-answer.new.self) c.change_container-answer.ensures.made in
    record { ring = subst (λ (n : Nodes). IsRingOf c.args.ring.now n) (sym moves.nodes) c.requires.ring }

pub returns-clause-pushes : goal.returns-clause-pushes
returns-clause-pushes g c =
    let s = g.D.Door.sight in (
      c.change_container-answer.result,
      s c.change_container-answer.new.self,
      c.change_container-answer.ensures.made,
      subst (λ (o : Outcome). IsRowHeard c.args.ring.now c.args.place.now c.args.row c.change_container-answer.result
          (s c.change_container-answer.new.self) o (s c.hear.new.door) c.hear.new.outcome (is_ok c.hear.result)) c.count_sent.ensures
          (c.hear.ensures.hears c.args.row refl),
    )

pub returns-clause-nodes : goal.returns-clause-nodes
returns-clause-nodes g c =
    let s = g.D.Door.sight in
    let moves = made-moves Sent c.args.to c.args.place.now (MergeRow c.args.row) (s c.args.door.now) c.change_container-answer.result
    (s c.change_container-answer.new.self) c.change_container-answer.ensures.made in
    c.hear.ensures.nodes ∙ moves.nodes

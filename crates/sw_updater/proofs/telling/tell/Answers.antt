use Rattle.std.proofs.Common.{◌∙◌, subst, sym}
use Rattle.std.specs.Result.{is_ok}
use Rattle.sw_container_steps.specs.declared.cont_change.ContChange.{ContChange}
use Rattle.sw_pass.specs.Rings.{IsRingOf}
use Rattle.sw_pass.specs.declared.outcome.Outcome.{Outcome}
use Rattle.sw_peer.specs.ContSights.{IsContMade}
use Rattle.sw_peer.specs.Sights.{Calls, Nodes}
use Rattle.sw_peer.specs.declared.link.Link.TheVariants.{Sent}
use Rattle.sw_redirect.proofs.Calling.{made-moves as cont-moves}
use Rattle.sw_redirect.specs.Sending.{course}
use Rattle.sw_updater.specs.Tasks.{IsFor}
use Rattle.sw_updater.specs.Updating.{IsHeard}
use Rattle.sw_updater.proofs.telling.tell.Goals as goal

pub hear-requires : goal.hear-requires
hear-requires g c =
    let s = g.D.Door.sight in
    let moves = cont-moves Sent c.args.to c.args.task.now.place c.args.change.now (s c.args.door.now) c.change_container-answer.result
    (s c.change_container-answer.new.self) c.change_container-answer.ensures.made in
    record {
      ring = subst (IsRingOf c.args.ring.now) (sym moves.nodes) c.requires.ring;
      can = subst (λ (n : Nodes). IsFor n c.args.task.now) (sym moves.nodes) c.requires.can;
    }

pub returns-clause-tells : goal.returns-clause-tells
returns-clause-tells g c row is =
    let s = g.D.Door.sight in
    let task = c.args.task.now in (
      c.change_container-answer.result,
      s c.change_container-answer.new.self,
      subst (λ (change : ContChange). Calls (IsContMade Sent c.args.to task.place change) (s c.args.door.now) Sent c.change_container-answer.result
          (s c.change_container-answer.new.self)) is c.change_container-answer.ensures.made,
      subst (λ (o : Outcome). IsHeard task.device task.filed c.args.ring.now task.place row c.args.to c.change_container-answer.result
          (course (s c.change_container-answer.new.self) c.args.missed.now) o (course (s c.hear.new.door) c.hear.new.missed) c.hear.new.outcome
          (is_ok c.hear.result)) c.count_sent.ensures (c.hear.ensures.hears row is),
    )

pub returns-clause-nodes : goal.returns-clause-nodes
returns-clause-nodes g c =
    let s = g.D.Door.sight in
    let moves = cont-moves Sent c.args.to c.args.task.now.place c.args.change.now (s c.args.door.now) c.change_container-answer.result
    (s c.change_container-answer.new.self) c.change_container-answer.ensures.made in
    c.hear.ensures.nodes ∙ moves.nodes

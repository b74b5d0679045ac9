use Rattle.std.proofs.Common.{subst}
use Rattle.std.specs.Result.{is_ok}
use Rattle.sw_container_steps.specs.declared.cont_change.ContChange.{ContChange}
use Rattle.sw_pass.specs.declared.outcome.Outcome.{Outcome}
use Rattle.sw_peer.specs.ContSights.{IsContMade}
use Rattle.sw_peer.specs.Sights.{Calls}
use Rattle.sw_peer.specs.declared.link.Link.TheVariants.{Sent}
use Rattle.sw_redirect.proofs.Calling.{made-moves}
use Rattle.sw_redirect.specs.Sending.{IsAnswered, course}
use Rattle.sw_redirect.proofs.sending.send.Goals as goal

pub returns-clause-sends : goal.returns-clause-sends
returns-clause-sends g c row is =
    let s = g.D.Door.sight in (
      c.change_container-answer.result,
      s c.change_container-answer.new.self,
      subst (λ (change : ContChange). Calls (IsContMade Sent c.args.to c.args.shard.now change) (s c.args.door.now) Sent c.change_container-answer.result
          (s c.change_container-answer.new.self)) is c.change_container-answer.ensures.made,
      subst (λ (o : Outcome). IsAnswered c.change_container-answer.result (s c.change_container-answer.new.self) c.args.missed.now o
          (course (s c.change_container-answer.new.self) c.count.new.missed) c.count.new.outcome (is_ok c.count.result)) c.count_sent.ensures
          (c.count.ensures (s c.change_container-answer.new.self)),
    )

pub returns-clause-nodes : goal.returns-clause-nodes
returns-clause-nodes g c =
    let s = g.D.Door.sight in
    let moves = made-moves Sent c.args.to c.args.shard.now c.args.change.now (s c.args.door.now) c.change_container-answer.result
    (s c.change_container-answer.new.self) c.change_container-answer.ensures.made in
    moves.nodes

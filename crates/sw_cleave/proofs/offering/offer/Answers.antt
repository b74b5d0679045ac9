use Rattle.std.proofs.Common.{◌≡◌, ◌<◌, ◌∙◌, true, subst, sym}
use Rattle.std.specs.Result.{is_ok}
use Rattle.sw_cleave.proofs.Calling.{made-moves}
use Rattle.sw_cleave.specs.Cleaving.{IsHeard}
use Rattle.sw_pass.specs.declared.outcome.Outcome.{Outcome}
use Rattle.sw_peer.specs.Sights.{Nodes}
use Rattle.sw_peer.specs.declared.link.Link.TheVariants.{Sent}
use Rattle.sw_cleave.proofs.offering.offer.Goals as goal

pub hear-requires-clause-device : goal.hear-requires-clause-device
hear-requires-clause-device g c =
    let s = g.D.Door.sight in
    let moving = c.args.moving.now in
    let moves = made-moves Sent c.args.to moving.shard.now c.args.sent.now (s c.args.door.now) c.change_container-answer.result
    (s c.change_container-answer.new.self) c.change_container-answer.ensures.made in
    subst (λ (n : Nodes). moving.device < n.devices) (sym moves.nodes) c.requires.device

pub hear-requires-clause-fits : goal.hear-requires-clause-fits
hear-requires-clause-fits g c =
    let s = g.D.Door.sight in
    let moving = c.args.moving.now in
    let moves = made-moves Sent c.args.to moving.shard.now c.args.sent.now (s c.args.door.now) c.change_container-answer.result
    (s c.change_container-answer.new.self) c.change_container-answer.ensures.made in
    subst (λ (n : Nodes). n.fits_place moving.place.now ≡ true) (sym moves.nodes) c.requires.fits

pub returns-clause-offers : goal.returns-clause-offers
returns-clause-offers g c =
    let s = g.D.Door.sight in
    let moving = c.args.moving.now in (
      c.change_container-answer.result,
      s c.change_container-answer.new.self,
      c.change_container-answer.ensures.made,
      subst (λ (o : Outcome). IsHeard moving.device moving.place.now moving.range c.args.top c.args.to c.change_container-answer.result
          (s c.change_container-answer.new.self) o (s c.hear.new.door) c.hear.new.outcome (is_ok c.hear.result)) c.count_sent.ensures c.hear.ensures.hears,
    )

pub returns-clause-nodes : goal.returns-clause-nodes
returns-clause-nodes g c =
    let s = g.D.Door.sight in
    let moves = made-moves Sent c.args.to c.args.moving.now.shard.now c.args.sent.now (s c.args.door.now) c.change_container-answer.result
    (s c.change_container-answer.new.self) c.change_container-answer.ensures.made in
    c.hear.ensures.nodes ∙ moves.nodes

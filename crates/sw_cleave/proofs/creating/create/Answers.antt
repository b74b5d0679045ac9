use Rattle.sw_cleave.proofs.Calling.{made-moves}
use Rattle.sw_container_steps.specs.declared.cont_change.ContChange.TheVariants.{Create}
use Rattle.sw_peer.specs.declared.link.Link.TheVariants.{Sent}
use Rattle.sw_cleave.proofs.creating.create.Goals as goal

pub returns-clause-nodes : goal.returns-clause-nodes
returns-clause-nodes g c =
    let s = g.D.Door.sight in
    let moves = made-moves Sent c.args.to c.args.shard.now (Create c.args.time) (s c.args.door.now) c.change_container-answer.result
    (s c.change_container-answer.new.self) c.change_container-answer.ensures.made in
    moves.nodes

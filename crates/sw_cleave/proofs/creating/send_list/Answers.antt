use Rattle.sw_cleave.proofs.Calling.{made-moves}
use Rattle.sw_peer.specs.declared.link.Link.TheVariants.{Sent}
use Rattle.sw_cleave.proofs.creating.send_list.Goals as goal

pub returns-clause-nodes : goal.returns-clause-nodes
returns-clause-nodes g c =
    let s = g.D.Door.sight in
    let moves = made-moves Sent c.args.to c.args.place.now c.args.list.now (s c.args.door.now) c.change_container-answer.result
    (s c.change_container-answer.new.self) c.change_container-answer.ensures.made in
    moves.nodes

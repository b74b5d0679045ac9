use Rattle.sw_peer.proofs.Calls.{calls-moves}
use Rattle.sw_peer.proofs.ContCalls.{cont-made-step}
use Rattle.sw_peer.specs.ContSights.{ContMoves, IsContMade, IsIn}
use Rattle.sw_peer.specs.declared.link.Link.TheVariants.{Sent}
use Rattle.sw_nodes_tests.proofs.between.send_change.Goals as goal

pub returns-clause-moves : goal.returns-clause-moves
returns-clause-moves g c =
    let s = g.D.Door.sight in
    let step = IsContMade Sent c.args.to c.args.place.now c.args.change.now in
    calls-moves (ContMoves (IsIn c.args.to c.args.place.now)) step (cont-made-step Sent c.args.to c.args.place.now c.args.change.now)
    (s c.args.door.now) Sent c.change_container-heard.result (s c.change_container-heard.new.self) c.change_container-heard.ensures.made

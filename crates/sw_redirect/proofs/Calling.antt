-- What the calls of sending a row on keep.
use Rattle.std.proofs.Common.{ℕ, Result}
use Rattle.sw_container_steps.specs.declared.cont_answer.ContAnswer.{ContAnswer}
use Rattle.sw_container_steps.specs.declared.cont_change.ContChange.{ContChange}
use Rattle.sw_hashpath.specs.declared.place.Place.{Place}
use Rattle.sw_peer.proofs.Calls.{calls-moves}
use Rattle.sw_peer.proofs.ContCalls.{cont-made-step}
use Rattle.sw_peer.specs.ContSights.{ContMoves, IsContMade, IsIn}
use Rattle.sw_peer.specs.Sights.{Calls, Sight}
use Rattle.sw_peer.specs.declared.link.Link.{Link}
use Rattle.sw_peer.specs.declared.link.Lost.{Lost}

pub made-moves : (link : Link) (device : ℕ) (place : Place) (change : ContChange) (s : Sight) (r : Result ContAnswer Lost) (t : Sight)
    → Calls (IsContMade link device place change) s link r t → ContMoves (IsIn device place) s t
made-moves link device place change s r t p =
    calls-moves (ContMoves (IsIn device place)) (IsContMade link device place change) (cont-made-step link device place change) s link r t p

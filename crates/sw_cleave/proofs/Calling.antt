-- What the calls of a pass keep.
use Rattle.std.proofs.Common.{ℕ, Option, Result}
use Rattle.std.specs.Bool.{⊤}
use Rattle.sw_container_steps.specs.declared.cont_answer.ContAnswer.{ContAnswer}
use Rattle.sw_container_steps.specs.declared.cont_change.ContChange.{ContChange}
use Rattle.sw_hashpath.specs.declared.place.Place.{Place}
use Rattle.sw_history.proofs.Growing.{half-wider}
use Rattle.sw_keeper.specs.declared.tables.Tables.{Tables}
use Rattle.sw_peer.proofs.Calls.{calls-moves}
use Rattle.sw_peer.proofs.ContCalls.{cont-made-step, look-step}
use Rattle.sw_peer.specs.ContSights.{ContMoves, IsContMade, IsIn, IsLooked}
use Rattle.sw_peer.specs.Sights.{Calls, Sight, cont_lock}
use Rattle.sw_peer.specs.declared.cont_event.ContEvent.{ContEvent}
use Rattle.sw_peer.specs.declared.link.Link.{Link}
use Rattle.sw_peer.specs.declared.link.Lost.{Lost}

-- any container of any device
abbrev pub Anywhere : ℕ → Place → Type 0
Anywhere device place = ⊤

anywhere : (at : ℕ → Place → Type 0) (s t : Sight) → ContMoves at s t → ContMoves Anywhere s t
anywhere at s t p = record {
  nodes = p.nodes;
  objects = p.objects;
  containers = half-wider (cont_lock s.nodes) t.alone at Anywhere s.containers t.containers (λ d other is. tt) p.containers;
  alone = p.alone;
  faults = p.faults;
}

pub made-moves : (link : Link) (device : ℕ) (place : Place) (change : ContChange) (s : Sight) (r : Result ContAnswer Lost) (t : Sight)
    → Calls (IsContMade link device place change) s link r t → ContMoves Anywhere s t
made-moves link device place change s r t p =
    anywhere (IsIn device place) s t
    (calls-moves (ContMoves (IsIn device place)) (IsContMade link device place change) (cont-made-step link device place change) s link r t p)

pub look-moves : {A : Type 0} (link : Link) (device : ℕ) (place : Place) (reading : Option Tables → ℕ → Result A ContAnswer)
    (event : Result A ContAnswer → ContEvent) (s : Sight) (r : Result (Result A ContAnswer) Lost) (t : Sight)
    → Calls (IsLooked link device place reading event) s link r t → ContMoves Anywhere s t
look-moves link device place reading event s r t p =
    anywhere (IsIn device place) s t
    (calls-moves (ContMoves (IsIn device place)) (IsLooked link device place reading event) (look-step link device place reading event) s link r t p)

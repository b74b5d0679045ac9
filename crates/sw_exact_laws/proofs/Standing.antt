-- What is known along a run of the lists of ranges that devices have, and of those that are on their way: they are all names, each once.
use Rattle.std.proofs.Common.{◌≡◌, ℕ, List, Option, ◌⊎◌, inl, inr, refl, sym, subst}
use Rattle.std.specs.Bool.{⊤}
use Rattle.std.specs.List.{Contains}
use Rattle.sw_container_steps.specs.declared.cont_answer.ContAnswer.{ContAnswer}
use Rattle.sw_container_steps.specs.declared.cont_change.ContChange.{ContChange}
use Rattle.sw_container_steps.specs.declared.cont_change.ContChange.TheVariants.{Create, Remove, MergeRow, MergeRows, SetRanges, Ack, CloseRange}
use Rattle.sw_container_steps.specs.declared.cont_change.ContChange.TheVariants.{EmptyOut, SetSync}
use Rattle.sw_container_steps.specs.declared.cont_entry.ContEntry.{ContEntry}
use Rattle.sw_hashpath.specs.declared.place.Place.{Place}
use Rattle.sw_hashpath.specs.declared.secrets.Secrets.{Secrets}
use Rattle.sw_keeper.specs.declared.tables.Tables.{Tables}
use Rattle.sw_machine.specs.Honest.{IsHonestChange}
use Rattle.sw_machine.specs.Machine.{ContMakes, ContSide, Machine, RunLine}
use Rattle.sw_machine.specs.Messages.{Arrives, Creation_of, Message, Ranges_of, Row_of, Rows_of, Update_of, Write_of}
use Rattle.sw_machine.specs.Sides.{TellsAt}
use Rattle.sw_origin_laws.proofs.Lists.{list_of}
use Rattle.sw_peer.specs.Sights.{Nodes, cont_lock}
use Rattle.sw_peer.specs.declared.cont_event.ContEvent.TheVariants as cont_events
use Rattle.sw_peer.specs.declared.line.Event.TheVariants.{AtContainer}
use Rattle.sw_peer.specs.declared.link.Link.{Link}
use Rattle.sw_peer.specs.declared.link.Link.TheVariants.{Local, Sent}
use Rattle.sw_point_laws.proofs.Others.{here-or-not}
use Rattle.sw_point_laws.proofs.Outcomes.{Outcome, outcome}
use Rattle.sw_shard_range.specs.Laws.{AreTiled}
use Rattle.sw_exact_laws.proofs.Tiling.{IsTiledList, SetsTiled, step-tiled}

abbrev pub HaveTiled : ContSide → Type 0
HaveTiled containers = (device : ℕ) (place : Place) → IsTiledList (list_of (containers.half.holds device place))

abbrev pub BringsTiled : Message → Type 0
BringsTiled (Write_of to name write) = ⊤
BringsTiled (Row_of to place at row) = ⊤
BringsTiled (Rows_of to place at rows) = ⊤
BringsTiled (Update_of to filed place at row) = ⊤
BringsTiled (Creation_of to place time) = ⊤
BringsTiled (Ranges_of to place ranges) = AreTiled ranges

abbrev pub AllBringTiled : List Message → Type 0
AllBringTiled sent = (message : Message) → Contains sent message → BringsTiled message

pub record IsTiled (m : Machine) : Type 0 where
  pub have : HaveTiled m.containers
  pub sent : AllBringTiled m.sent

-- ---- what comes to a container

-- in a message
arrives : (device : ℕ) (place : Place) (change : ContChange) (answer : ContAnswer) (entries : List ContEntry) (message : Message)
    → Arrives message device (AtContainer (cont_events.Changed place change answer) entries) → BringsTiled message → SetsTiled change
arrives device place change answer entries (Write_of to name write) comes is = absurd comes
arrives device place change answer entries (Row_of to p at row) comes is = subst SetsTiled (sym comes.2) tt
arrives device place change answer entries (Rows_of to p at rows) comes is = subst SetsTiled (sym comes.2) tt
arrives device place change answer entries (Update_of to filed p at row) comes is = subst SetsTiled (sym comes.2) tt
arrives device place change answer entries (Creation_of to p time) comes is = subst SetsTiled (sym comes.2) tt
arrives device place change answer entries (Ranges_of to p ranges) comes is = subst SetsTiled (sym comes.2) is

-- at the device itself
own : (secrets : Secrets) (replicas : Place → List ℕ) (done : List RunLine) (device : ℕ) (place : Place) (change : ContChange)
    → IsHonestChange secrets replicas done device place change → SetsTiled change
own secrets replicas done device place (Create time) honest = tt
own secrets replicas done device place (Remove time) honest = tt
own secrets replicas done device place (MergeRow row) honest = tt
own secrets replicas done device place (MergeRows rows) honest = tt
own secrets replicas done device place (SetRanges ranges) honest = honest.tiled
own secrets replicas done device place (Ack range other rowid) honest = tt
own secrets replicas done device place (CloseRange range devices) honest = tt
own secrets replicas done device place EmptyOut honest = tt
own secrets replicas done device place (SetSync other rowid) honest = tt

pub sets-tiled : (secrets : Secrets) (replicas : Place → List ℕ) (done : List RunLine) (sent : List Message) → AllBringTiled sent → (device : ℕ)
    (place : Place) (link : Link) (change : ContChange) (answer : ContAnswer) (entries : List ContEntry)
    → (link ≡ Sent → (message : Message) × Contains sent message × Arrives message device (AtContainer (cont_events.Changed place change answer) entries))
    → (link ≡ Local → IsHonestChange secrets replicas done device place change) → SetsTiled change
sets-tiled secrets replicas done sent bring device place Local change answer entries comes honest =
    own secrets replicas done device place change (honest refl)
sets-tiled secrets replicas done sent bring device place Sent change answer entries comes honest =
    let got = comes refl in
    arrives device place change answer entries got.0 got.2 (bring got.0 got.1)

-- ---- what a step leaves

pub have-same : (m after : ContSide) → HaveTiled m → ((d : ℕ) (p : Place) → after.half.holds d p ≡ m.half.holds d p) → HaveTiled after
have-same m after have same d p = subst (λ (t : Option Tables). IsTiledList (list_of t)) (sym (same d p)) (have d p)

module _ (nodes : Nodes) (m after : ContSide) (have : HaveTiled m) (device : ℕ) (place : Place) (change : ContChange) (answer : ContAnswer)
    (added : List ContEntry) (makes : ContMakes nodes m device place change answer added after) (told : TellsAt (cont_lock nodes) m device place)
    (sets : SetsTiled change) where
  here : Outcome (m.half.holds device place) place change answer (after.half.holds device place) → IsTiledList (list_of (after.half.holds device place))
  here (inl none) = subst (λ (t : Option Tables). IsTiledList (list_of t)) (sym none.1) (have device place)
  here (inr all) =
      subst (λ (t : Option Tables). IsTiledList (list_of t)) (sym all.1) (step-tiled (m.half.holds device place) place change sets (have device place))

  pub have-made : HaveTiled after
  have-made d p = by (here-or-not device place d p)
    where
      this : IsTiledList (list_of (after.half.holds device place))
      this = here (outcome nodes m device place change answer added after makes told)

      by : ((d ≡ device) × (p ≡ place)) ⊎ ((d ≡ device) × (p ≡ place) → ⊥) → IsTiledList (list_of (after.half.holds d p))
      by (inl is) =
          subst (λ (e : ℕ). IsTiledList (list_of (after.half.holds e p))) (sym is.0)
          (subst (λ (q : Place). IsTiledList (list_of (after.half.holds device q))) (sym is.1) this)
      by (inr away) = subst (λ (t : Option Tables). IsTiledList (list_of t)) (sym (makes.moves.others refl d p away)) (have d p)

-- One honest line leaves the lists of ranges all names, each once.
use Rattle.std.proofs.Common.{◌≡◌, ℕ, List, Option, Some, None, ◌⊎◌, inl, inr, sym, ap, subst}
use Rattle.std.proofs.lemmas.List.Elements.{Contains-push_cases}
use Rattle.std.specs.List.{Contains}
use Rattle.sw_container_steps.specs.declared.cont_entry.ContEntry.{ContEntry}
use Rattle.sw_hashpath.specs.declared.place.Place.{Place}
use Rattle.sw_hashpath.specs.declared.secrets.Secrets.{Secrets}
use Rattle.sw_keeper.specs.declared.tables.Tables.{Tables}
use Rattle.sw_listing_laws.proofs.Coming.{restart-stays}
use Rattle.sw_machine.specs.Honest.{IsHonest, IsHonestEvent}
use Rattle.sw_machine.specs.Machine.{Came, Carries, ContSide, HasList, Machine, RunLine, Steps, Went}
use Rattle.sw_machine.specs.Messages.{Creation_of, Message, Ranges_of, Row_of, Rows_of, Update_of, Write_of}
use Rattle.sw_machine.specs.Sides.{TellsAt}
use Rattle.sw_object_steps.specs.declared.entry.ObjEntry.{ObjEntry}
use Rattle.sw_origin_laws.proofs.Lists.{list_of}
use Rattle.sw_peer.specs.Sights.{Nodes, cont_lock}
use Rattle.sw_peer.specs.declared.cont_event.ContEvent.{ContEvent}
use Rattle.sw_peer.specs.declared.cont_event.ContEvent.TheVariants as cont_events
use Rattle.sw_peer.specs.declared.line.Event.{Event}
use Rattle.sw_peer.specs.declared.line.Event.TheVariants.{AtContainer, Changed, Listed, Read, ReadPart, Restarted}
use Rattle.sw_peer.specs.declared.line.Line.{Line}
use Rattle.sw_peer.specs.declared.link.Link.{Link}
use Rattle.sw_shard_range.specs.Laws.{AreTiled}
use Rattle.sw_shard_range.specs.declared.range.Range.{Range}
use Rattle.sw_exact_laws.proofs.Standing.{AllBringTiled, BringsTiled, IsTiled, have-made, have-same, sets-tiled}
use Rattle.sw_exact_laws.proofs.Tiling.{IsTiledList}

-- a list that is sent is one that a device has
listed : (t : Option Tables) (ranges : List Range) → HasList t ranges → IsTiledList (list_of t) → AreTiled ranges
listed None ranges has are = absurd has
listed (Some t) ranges has are = subst IsTiledList has are

module _ (nodes : Nodes) (secrets : Secrets) (replicas : Place → List ℕ) (done : List RunLine) (m : Machine)
    (tell : (d : ℕ) (p : Place) → TellsAt (cont_lock nodes) m.containers d p) (tiled : IsTiled m) (after : Machine) where
  abbrev Stay : Type 0
  Stay = (d : ℕ) (p : Place) → after.containers.half.holds d p ≡ m.containers.half.holds d p

  same-holds : after.containers ≡ m.containers → Stay
  same-holds same d p = ap (λ (x : ContSide). x.half.holds d p) same

  -- what leaves all containers
  still : after.sent ≡ m.sent → Stay → IsTiled after
  still sent stay = record {
    have = have-same m.containers after.containers tiled.have stay;
    sent = subst AllBringTiled (sym sent) tiled.sent;
  }

  module _ (device : ℕ) (link : Link) (added : List ObjEntry) where
    abbrev line : Event → Line
    line event = record { device = device; link = link; event = event; added = added }

    at-place : (event : ContEvent) (entries : List ContEntry) → Steps nodes m (Came (line (AtContainer event entries))) after
        → IsHonestEvent secrets replicas done link device (AtContainer event entries) → IsTiled after
    at-place (cont_events.Changed place change answer) entries step honest = record {
      have =
          have-made nodes m.containers after.containers tiled.have device place change answer entries step.1.1 (tell device place)
          (sets-tiled secrets replicas done m.sent tiled.sent device place link change answer entries (λ is. step.0 is tt) honest);
      sent = subst AllBringTiled (sym step.2) tiled.sent;
    }
    at-place (cont_events.Timed place got) entries step honest = still step.2 step.1.1.holds
    at-place (cont_events.Informed place got) entries step honest = still step.2 step.1.1.holds
    at-place (cont_events.Listed place query got) entries step honest = still step.2 step.1.1.holds
    at-place (cont_events.Parceled place to got) entries step honest = still step.2 step.1.1.holds
    at-place (cont_events.Sharded place got) entries step honest = still step.2 step.1.1.holds
    at-place (cont_events.Cleft place range above got) entries step honest = still step.2 step.1.1.holds

    came : (event : Event) → Steps nodes m (Came (line event)) after → IsHonestEvent secrets replicas done link device event → IsTiled after
    came (Changed name change answer) step honest = still step.2 (same-holds step.1.1)
    came (Read name got) step honest = still step.2 (same-holds step.1.1)
    came (ReadPart part) step honest = still step.2 (same-holds step.1.1)
    came (Listed failed) step honest = still step.2 (same-holds step.1.1.1)
    came (AtContainer event entries) step honest = at-place event entries step honest
    came Restarted step honest = still step.2 (restart-stays (cont_lock nodes) m.containers device after.containers tell step.1.2).holds

  -- ---- a message

  brings : (from : ℕ) (message : Message) → Carries nodes m from message → BringsTiled message
  brings from (Write_of to name write) carries = tt
  brings from (Row_of to place at row) carries = tt
  brings from (Rows_of to place at rows) carries = tt
  brings from (Update_of to filed place at row) carries = tt
  brings from (Creation_of to place time) carries = tt
  brings from (Ranges_of to place ranges) carries = listed (m.containers.half.holds from place) ranges (carries (tell from place)) (tiled.have from place)

  went : (from : ℕ) (message : Message) → Steps nodes m (Went from message) after → IsTiled after
  went from message step = record {
    have = have-same m.containers after.containers tiled.have (same-holds (ap (λ (x : Machine). x.containers) step.1));
    sent = λ other inside.
        by other (Contains-push_cases m.sent message other
        (subst (λ (sent : List Message). Contains sent other) (ap (λ (x : Machine). x.sent) step.1) inside));
  }
    where
      by : (other : Message) → Contains m.sent other ⊎ (message ≡ other) → BringsTiled other
      by other (inl old) = tiled.sent other old
      by other (inr new) = subst BringsTiled new (brings from message step.0)

  -- ---- any line

  pub one : (line : RunLine) → Steps nodes m line after → IsHonest secrets replicas done line → IsTiled after
  one (Came line) step honest = came line.device line.link line.added line.event step honest
  one (Went from message) step honest = went from message step

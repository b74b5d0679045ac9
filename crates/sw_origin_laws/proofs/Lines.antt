-- One line: what devices have behind it, what is on its way then, and what it tells.
use Rattle.std.proofs.Common.{◌≡◌, ℕ, List, ◌⊎◌, inl, inr, sym, ap, subst}
use Rattle.std.proofs.lemmas.List.Elements.{Contains-push_cases}
use Rattle.std.specs.List.{Contains}
use Rattle.sw_container_steps.specs.declared.cont_entry.ContEntry.{ContEntry}
use Rattle.sw_hashpath.specs.declared.place.Place.{Place}
use Rattle.sw_listing_laws.proofs.Accounts.{Accounts}
use Rattle.sw_listing_laws.proofs.Coming.{restart-stays}
use Rattle.sw_listing_laws.specs.Plain.{Cluster, IsNamedLine}
use Rattle.sw_machine.specs.Honest.{IsHonest, IsHonestEvent}
use Rattle.sw_machine.specs.Machine.{Came, ContSide, Machine, RunLine, Steps, Went}
use Rattle.sw_machine.specs.Messages.{Message}
use Rattle.sw_object_steps.specs.declared.entry.ObjEntry.{ObjEntry}
use Rattle.sw_peer.specs.Sights.{cont_lock}
use Rattle.sw_peer.specs.declared.cont_event.ContEvent.{ContEvent}
use Rattle.sw_peer.specs.declared.cont_event.ContEvent.TheVariants as cont_events
use Rattle.sw_peer.specs.declared.line.Event.{Event}
use Rattle.sw_peer.specs.declared.line.Event.TheVariants.{AtContainer, Changed, Listed, Read, ReadPart, Restarted}
use Rattle.sw_peer.specs.declared.line.Line.{Line}
use Rattle.sw_peer.specs.declared.link.Link.{Link}
use Rattle.sw_peer.specs.declared.link.Link.TheVariants.{Local}
use Rattle.sw_pending_laws.specs.Ledger.{Ledger}
use Rattle.sw_origin_laws.proofs.Coming.{may-come}
use Rattle.sw_origin_laws.proofs.Origins.{AllBringOfRoot, AreOfRoots, BringsOfRoot, HasOrigins, Says, TellsOfRoot}
use Rattle.sw_origin_laws.proofs.Saying.{made-tells, sharding-tells}
use Rattle.sw_origin_laws.proofs.Sending.{sends}
use Rattle.sw_origin_laws.proofs.Turning.{have-made, have-same}
use Rattle.sw_origin_laws.specs.Roots.{AreRoots, IsRootedEvent, IsRootedLine}

-- all by what had reached devices before it
pub record LineNext (c : Cluster) (root : Place → Place) (m after : Machine) (line : RunLine) : Type 0 where
  pub have : AreOfRoots c root m after.containers
  pub sent : AllBringOfRoot c root m after.sent
  pub says : Says root line

module _ (c : Cluster) (root : Place → Place) (roots : AreRoots root) (done : List RunLine) (m : Machine) (l : Ledger) (accounts : Accounts c m l)
    (origins : HasOrigins c root done m) (after : Machine) where
  abbrev Stay : Type 0
  Stay = (d : ℕ) (p : Place) → after.containers.half.holds d p ≡ m.containers.half.holds d p

  same-holds : after.containers ≡ m.containers → Stay
  same-holds same d p = ap (λ (x : ContSide). x.half.holds d p) same

  -- what was on its way is
  still-sent : after.sent ≡ m.sent → AllBringOfRoot c root m after.sent
  still-sent same = subst (AllBringOfRoot c root m) (sym same) origins.sent

  module _ (device : ℕ) (link : Link) (added : List ObjEntry) where
    abbrev line : Event → Line
    line event = record { device = device; link = link; event = event; added = added }

    -- what leaves all containers
    still : (event : Event) → after.sent ≡ m.sent → Stay → TellsOfRoot root event → LineNext c root m after (Came (line event))
    still event sent stay tells = record {
      have = have-same c root m origins.have after.containers stay;
      sent = still-sent sent;
      says = tells;
    }

    at-place : (event : ContEvent) (entries : List ContEntry) → Steps c.nodes m (Came (line (AtContainer event entries))) after
        → IsHonestEvent c.nodes.secrets c.replicas done link device (AtContainer event entries)
        → (link ≡ Local → IsRootedEvent c root m (AtContainer event entries)) → LineNext c root m after (Came (line (AtContainer event entries)))
    at-place (cont_events.Changed place change answer) entries step honest rooted = record {
      have =
          have-made c root m origins.have after.containers device place change answer entries step.1.1 (accounts.containers.tell device place)
          (may-come c root m place roots done device origins.sent link change answer entries (λ is. step.0 is tt) rooted honest);
      sent = still-sent step.2;
      says =
          made-tells c root m device place (accounts.containers.tell device place) (origins.have.lists device place) entries after.containers change answer
          step.1.1;
    }
    at-place (cont_events.Timed place got) entries step honest rooted =
        still (AtContainer (cont_events.Timed place got) entries) step.2 step.1.1.holds
        (record { left = λ p row shard es is. cc; listed = λ p sharding es ranges is split. cc })
    at-place (cont_events.Informed place got) entries step honest rooted =
        still (AtContainer (cont_events.Informed place got) entries) step.2 step.1.1.holds
        (record { left = λ p row shard es is. cc; listed = λ p sharding es ranges is split. cc })
    at-place (cont_events.Listed place query got) entries step honest rooted =
        still (AtContainer (cont_events.Listed place query got) entries) step.2 step.1.1.holds
        (record { left = λ p row shard es is. cc; listed = λ p sharding es ranges is split. cc })
    at-place (cont_events.Parceled place to got) entries step honest rooted =
        still (AtContainer (cont_events.Parceled place to got) entries) step.2 step.1.1.holds
        (record { left = λ p row shard es is. cc; listed = λ p sharding es ranges is split. cc })
    at-place (cont_events.Sharded place got) entries step honest rooted =
        still (AtContainer (cont_events.Sharded place got) entries) step.2 step.1.1.holds
        (sharding-tells c root m device place (accounts.containers.tell device place) (origins.have.lists device place) entries after.containers got step.1.1)
    at-place (cont_events.Cleft place range above got) entries step honest rooted =
        still (AtContainer (cont_events.Cleft place range above got) entries) step.2 step.1.1.holds
        (record { left = λ p row shard es is. cc; listed = λ p sharding es ranges is split. cc })

    came : (event : Event) → Steps c.nodes m (Came (line event)) after → IsHonestEvent c.nodes.secrets c.replicas done link device event
        → (link ≡ Local → IsRootedEvent c root m event) → LineNext c root m after (Came (line event))
    came (Changed name change answer) step honest rooted =
        still (Changed name change answer) step.2 (same-holds step.1.1)
        (record { left = λ p row shard es is. cc; listed = λ p sharding es ranges is split. cc })
    came (Read name got) step honest rooted =
        still (Read name got) step.2 (same-holds step.1.1)
        (record { left = λ p row shard es is. cc; listed = λ p sharding es ranges is split. cc })
    came (ReadPart part) step honest rooted =
        still (ReadPart part) step.2 (same-holds step.1.1)
        (record { left = λ p row shard es is. cc; listed = λ p sharding es ranges is split. cc })
    came (Listed failed) step honest rooted =
        still (Listed failed) step.2 (same-holds step.1.1.1)
        (record { left = λ p row shard es is. cc; listed = λ p sharding es ranges is split. cc })
    came (AtContainer event entries) step honest rooted = at-place event entries step honest rooted
    came Restarted step honest rooted =
        still Restarted step.2 (restart-stays (cont_lock c.nodes) m.containers device after.containers accounts.containers.tell step.1.2).holds
        (record { left = λ p row shard es is. cc; listed = λ p sharding es ranges is split. cc })

  -- ---- a message

  went : (from : ℕ) (message : Message) → Steps c.nodes m (Went from message) after → BringsOfRoot c root m message
      → LineNext c root m after (Went from message)
  went from message step brings = record {
    have = have-same c root m origins.have after.containers (same-holds (ap (λ (x : Machine). x.containers) step.1));
    sent = λ other inside.
        by other (Contains-push_cases m.sent message other
        (subst (λ (sent : List Message). Contains sent other) (ap (λ (x : Machine). x.sent) step.1) inside));
    says = tt;
  }
    where
      by : (other : Message) → Contains m.sent other ⊎ (message ≡ other) → BringsOfRoot c root m other
      by other (inl old) = origins.sent other old
      by other (inr new) = subst (BringsOfRoot c root m) new brings

  -- ---- any line

  pub one : (line : RunLine) → Steps c.nodes m line after → IsHonest c.nodes.secrets c.replicas done line → IsNamedLine c line → IsRootedLine c root m line
      → LineNext c root m after line
  one (Came line) step honest named rooted = came line.device line.link line.added line.event step honest rooted
  one (Went from message) step honest named rooted =
      went from message step
      (sends c root m origins.have l.records l.reached accounts.objects accounts.containers.tell done origins.say from message step.0 honest rooted named)

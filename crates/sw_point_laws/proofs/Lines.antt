-- One honest line: the ledger goes on with it, and it says what it does.
use Rattle.std.proofs.Common.{◌≡◌, ℕ, List, Option, None, Some, ◌⊎◌, inl, inr, refl, sym, ap, subst}
use Rattle.std.proofs.lemmas.Bool.{cases_eq}
use Rattle.std.proofs.lemmas.List.Elements.{Contains-push_cases}
use Rattle.std.specs.List.{Contains}
use Rattle.std.specs.Option.{option_map}
use Rattle.sw_container_steps.specs.Reads.{parcel_of, range_parcel_of, sharding_of}
use Rattle.sw_container_steps.specs.declared.cont_entry.ContEntry.{ContEntry}
use Rattle.sw_hashpath.specs.declared.place.Place.{Place}
use Rattle.sw_hashpath.specs.declared.secrets.Secrets.{Secrets}
use Rattle.sw_keeper.specs.declared.tables.Tables.{Tables}
use Rattle.sw_machine.specs.Honest.{IsHonest, IsHonestEvent}
use Rattle.sw_machine.specs.Machine.{Came, Carries, ContSide, HasList, Machine, RunLine, Steps, Went}
use Rattle.sw_machine.specs.Messages.{Creation_of, Message, Ranges_of, Row_of, Rows_of, Update_of, Write_of}
use Rattle.sw_machine.specs.Sides.{SideRestarts, TellsAt}
use Rattle.sw_object_steps.specs.declared.entry.ObjEntry.{ObjEntry}
use Rattle.sw_peer.specs.Sights.{Nodes, cont_lock}
use Rattle.sw_peer.specs.declared.cont_event.ContEvent.{ContEvent}
use Rattle.sw_peer.specs.declared.cont_event.ContEvent.TheVariants as cont_events
use Rattle.sw_peer.specs.declared.line.Event.{Event}
use Rattle.sw_peer.specs.declared.line.Event.TheVariants.{AtContainer, Changed, Listed, Read, ReadPart, Restarted}
use Rattle.sw_peer.specs.declared.line.Line.{Line}
use Rattle.sw_peer.specs.declared.link.Link.{Link}
use Rattle.sw_shard_laws.specs.Ledger.{Ground, Ledger}
use Rattle.sw_shard_range.specs.declared.range.Range.{Range}
use Rattle.sw_split_steps.specs.Tables.{standing, ways_of}
use Rattle.sw_point_laws.proofs.Coming.{may-make}
use Rattle.sw_point_laws.proofs.Going.{Goes}
use Rattle.sw_point_laws.proofs.Saying.{CanAllCome, CanCome, Says, SaysAt, comes-still}
use Rattle.sw_point_laws.proofs.Standing.{IsSound}
use Rattle.sw_point_laws.proofs.Telling.{made-says, read-says}
use Rattle.sw_point_laws.proofs.Turning.{Turns, made-turns, stays-turns}
use Rattle.sw_point_laws.specs.Laws.{ground_of, ledger_of}

-- ---- what leaves all containers

same-holds : (m after : ContSide) → after ≡ m → (d : ℕ) (p : Place) → after.half.holds d p ≡ m.half.holds d p
same-holds m after same d p = ap (λ (x : ContSide). x.half.holds d p) same

restart-holds : (lock : ℕ → Place → ℕ) (m : ContSide) (device : ℕ) (after : ContSide) → ((d : ℕ) (p : Place) → TellsAt lock m d p)
    → SideRestarts lock m device after → (d : ℕ) (p : Place) → after.half.holds d p ≡ m.half.holds d p
restart-holds lock m device after tell anew d p = by (cases_eq d device)
  where
    by : (d ≡ device) ⊎ (d ≡ device → ⊥) → after.half.holds d p ≡ m.half.holds d p
    by (inl is) = subst (λ (e : ℕ). after.half.holds e p ≡ m.half.holds e p) (sym is) (anew.half.holds refl p (tell device p))
    by (inr away) = anew.half.elsewhere refl d p away

-- ---- one line

-- behind it the ledger has gone on, and the line says what it does
pub record LineNext (g : Ground) (m after : Machine) (line : RunLine) : Type 0 where
  pub turns : Turns g m after
  pub says : Goes g (ledger_of m) (ledger_of after) → Says g (ledger_of after) line
  pub comes : Goes g (ledger_of m) (ledger_of after) → CanAllCome g (ledger_of after) after.sent

module _ (secrets : Secrets) (nodes : Nodes) (replicas : Place → List ℕ) (done : List RunLine) (m : Machine) (sound : IsSound nodes replicas done m)
    (after : Machine) where
  abbrev g : Ground
  g = ground_of replicas

  abbrev l : Ledger
  l = ledger_of m

  abbrev Stay : Type 0
  Stay = (d : ℕ) (p : Place) → after.containers.half.holds d p ≡ m.containers.half.holds d p

  stays : Stay → Turns g m after
  stays same = stays-turns g m sound.ordered sound.listed after same

  -- what was on its way still can come
  still-comes : after.sent ≡ m.sent → Goes g l (ledger_of after) → CanAllCome g (ledger_of after) after.sent
  still-comes same goes message inside =
      comes-still g l (ledger_of after) goes message
      (sound.comes message (subst (λ (sent : List Message). Contains sent message) same inside))

  module _ (device : ℕ) (link : Link) (added : List ObjEntry) where
    abbrev line : Event → Line
    line event = record { device = device; link = link; event = event; added = added }

    -- a read of a container
    read : (event : ContEvent) (entries : List ContEntry) → after.sent ≡ m.sent → Stay
        → (Goes g l (ledger_of after) → SaysAt g (ledger_of after) device event) → LineNext g m after (Came (line (AtContainer event entries)))
    read event entries sent same says = record { turns = stays same; says = says; comes = still-comes sent }

    at-place : (event : ContEvent) (entries : List ContEntry) → Steps nodes m (Came (line (AtContainer event entries))) after
        → IsHonestEvent secrets replicas done link device (AtContainer event entries) → LineNext g m after (Came (line (AtContainer event entries)))
    at-place (cont_events.Changed place change answer) entries step honest = record {
      turns =
          made-turns g m sound.ordered sound.listed after nodes device place change answer entries step.1.1 (sound.tell device place)
          (may-make secrets nodes replicas done m sound device place link change answer entries (λ is. step.0 is tt) honest);
      says = λ goes.
          made-says g nodes m device place (sound.tell device place) after goes change answer entries step.1.1 (sound.ordered device place);
      comes = still-comes step.2;
    }
    at-place (cont_events.Timed place got) entries step honest =
        read (cont_events.Timed place got) entries step.2 step.1.1.holds (λ goes. tt)
    at-place (cont_events.Informed place got) entries step honest =
        read (cont_events.Informed place got) entries step.2 step.1.1.holds (λ goes. tt)
    at-place (cont_events.Listed place query got) entries step honest =
        read (cont_events.Listed place query got) entries step.2 step.1.1.holds (λ goes. tt)
    at-place (cont_events.Parceled place to got) entries step honest =
        read (cont_events.Parceled place to got) entries step.2 step.1.1.holds
        (λ goes. read-says g nodes m device place (sound.tell device place) after goes (parcel_of to) got entries step.1.1 sound.listed)
    at-place (cont_events.Sharded place got) entries step honest =
        read (cont_events.Sharded place got) entries step.2 step.1.1.holds
        (λ goes. read-says g nodes m device place (sound.tell device place) after goes sharding_of got entries step.1.1 sound.listed)
    at-place (cont_events.Cleft place range above got) entries step honest =
        read (cont_events.Cleft place range above got) entries step.2 step.1.1.holds
        (λ goes. read-says g nodes m device place (sound.tell device place) after goes (range_parcel_of range above) got entries step.1.1 sound.listed)

    came : (event : Event) → Steps nodes m (Came (line event)) after → IsHonestEvent secrets replicas done link device event
        → LineNext g m after (Came (line event))
    came (Changed name change answer) step honest = record {
      turns = stays (same-holds m.containers after.containers step.1.1);
      says = λ goes. tt;
      comes = still-comes step.2;
    }
    came (Read name got) step honest = record {
      turns = stays (same-holds m.containers after.containers step.1.1);
      says = λ goes. tt;
      comes = still-comes step.2;
    }
    came (ReadPart part) step honest = record {
      turns = stays (same-holds m.containers after.containers step.1.1);
      says = λ goes. tt;
      comes = still-comes step.2;
    }
    came (Listed failed) step honest = record {
      turns = stays (same-holds m.containers after.containers step.1.1.1);
      says = λ goes. tt;
      comes = still-comes step.2;
    }
    came (AtContainer event entries) step honest = at-place event entries step honest
    came Restarted step honest = record {
      turns = stays (restart-holds (cont_lock nodes) m.containers device after.containers sound.tell step.1.2);
      says = λ goes. tt;
      comes = still-comes step.2;
    }

  -- ---- a message

  list-ways : (o : Option Tables) (ranges : List Range) → HasList o ranges → (standing o).ways ≡ Some (ways_of ranges)
  list-ways None ranges has = absurd has
  list-ways (Some t) ranges has = ap (λ (w : Option (List Range)). option_map ways_of w) has

  -- ranges that are sent are those of a container that has them
  sent-can : (from : ℕ) (message : Message) → Carries nodes m from message → CanCome g l message
  sent-can from (Write_of to name write) carries = tt
  sent-can from (Row_of to place at row) carries = tt
  sent-can from (Rows_of to place at rows) carries = tt
  sent-can from (Update_of to filed place at row) carries = tt
  sent-can from (Creation_of to place time) carries = tt
  sent-can from (Ranges_of to place ranges) carries =
      (sound.points from place).lists (ways_of ranges)
      (list-ways (m.containers.half.holds from place) ranges (carries (sound.tell from place)))

  went : (from : ℕ) (message : Message) → Steps nodes m (Went from message) after → LineNext g m after (Went from message)
  went from message step = record {
    turns = stays (same-holds m.containers after.containers (ap (λ (x : Machine). x.containers) step.1));
    says = λ goes. tt;
    comes = comes;
  }
    where
      comes : Goes g l (ledger_of after) → CanAllCome g (ledger_of after) after.sent
      comes goes other inside =
          comes-still g l (ledger_of after) goes other
          (by (Contains-push_cases m.sent message other
          (subst (λ (sent : List Message). Contains sent other) (ap (λ (x : Machine). x.sent) step.1) inside)))
        where
          by : Contains m.sent other ⊎ (message ≡ other) → CanCome g l other
          by (inl old) = sound.comes other old
          by (inr new) = subst (λ (x : Message). CanCome g l x) new (sent-can from message step.0)

  -- ---- any line

  pub one : (line : RunLine) → Steps nodes m line after → IsHonest secrets replicas done line → LineNext g m after line
  one (Came line) step honest = came line.device line.link line.added line.event step honest
  one (Went from message) step honest = went from message step

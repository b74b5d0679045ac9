-- What the lines of an honest run tell of the ledger, as it is by now.
use Rattle.std.proofs.Common.{◌≡◌, ℕ, true, List, Some, Ok, inl, inr, refl, subst}
use Rattle.std.specs.List.{Contains}
use Rattle.sw_container_steps.specs.Reads.{sharding_of}
use Rattle.sw_container_steps.specs.declared.cont_answer.ContAnswer.{ContAnswer}
use Rattle.sw_container_steps.specs.declared.cont_answer.ContAnswer.TheVariants as answers
use Rattle.sw_container_steps.specs.declared.cont_change.ContChange.{ContChange}
use Rattle.sw_container_steps.specs.declared.cont_change.ContChange.TheVariants.{MergeRow}
use Rattle.sw_container_steps.specs.declared.cont_entry.ContEntry.{ContEntry}
use Rattle.sw_container_steps.specs.declared.sharding.Sharding.{Sharding}
use Rattle.sw_hashpath.specs.declared.place.Place.{Place}
use Rattle.sw_hashpath.specs.declared.secrets.Secrets.{Secrets}
use Rattle.sw_machine.specs.Honest.{CameTo, IsAcknowledged, ToldRange, WasLeft, WasTaken}
use Rattle.sw_machine.specs.Machine.{Came, RunLine}
use Rattle.sw_peer.specs.declared.cont_event.ContEvent.{ContEvent}
use Rattle.sw_peer.specs.declared.cont_event.ContEvent.TheVariants as cont_events
use Rattle.sw_peer.specs.declared.line.Event.{Event}
use Rattle.sw_peer.specs.declared.line.Event.TheVariants.{AtContainer}
use Rattle.sw_peer.specs.declared.line.Line.{Line}
use Rattle.sw_rows.specs.declared.row.Row.{Row}
use Rattle.sw_shard_laws.proofs.Running.{redirected-held}
use Rattle.sw_shard_laws.specs.Ledger.{Ground, Holds, Ledger, served, table_at}
use Rattle.sw_shard_laws.specs.Sound.{PointsHold}
use Rattle.sw_shard_range.specs.Names.{is_hidden}
use Rattle.sw_shard_range.specs.declared.range.Range.{Range}
use Rattle.sw_point_laws.proofs.Holding.{hidden-has, served-hidden}
use Rattle.sw_point_laws.proofs.Saying.{AllSay, IsOfEarlier, SaysAt, SaysEvent, SaysMade, WasMade}
use Rattle.sw_point_laws.specs.Laws.{ground_of}

-- ---- what some of the lines tell, all do

module _ (part lines : List RunLine) (within : (line : RunLine) → Contains part line → Contains lines line) where
  came-within : (device : ℕ) (place : Place) (change : ContChange) (answer : ContAnswer) → CameTo part device place change answer
      → CameTo lines device place change answer
  came-within device place change answer came = record {
    came = came.came;
    entries = came.entries;
    among = within (Came came.came) came.among;
    device_is = came.device_is;
    event_is = came.event_is;
  }

  pub taken-within : (device : ℕ) (place : Place) (change : ContChange) → WasTaken part device place change → WasTaken lines device place change
  taken-within device place change taken = (taken.0, came-within device place change taken.0 taken.1, taken.2)

  pub range-within : (device : ℕ) (place : Place) (sharding : Sharding) (index : ℕ) (range : Range) → ToldRange part device place sharding index range
      → ToldRange lines device place sharding index range
  range-within device place sharding index range told = record {
    came = told.came;
    entries = told.entries;
    among = within (Came told.came) told.among;
    device_is = told.device_is;
    event_is = told.event_is;
    ranges = told.ranges;
    split = told.split;
    is_there = told.is_there;
  }

  pub acknowledged-within : (secrets : Secrets) (replicas : Place → List ℕ) (device : ℕ) (place : Place) (row : Row)
      → IsAcknowledged secrets replicas part device place row → IsAcknowledged secrets replicas lines device place row
  acknowledged-within secrets replicas device place row (inl taken) = inl (taken-within device place (MergeRow row) taken)
  acknowledged-within secrets replicas device place row (inr left) = inr (
    left.0,
    came-within device place (MergeRow row) (answers.Redirect left.0) left.1,
    λ r inside. taken-within r left.0 (MergeRow row) (left.2 r inside),
  )

-- ---- what they tell

module _ (g : Ground) (l : Ledger) (done : List RunLine) (say : AllSay g l done) where
  -- a line at a container says what its event does
  pub at-says : (came : Line) (entries : List ContEntry) (device : ℕ) (event : ContEvent) → Contains done (Came came) → came.device ≡ device
      → came.event ≡ AtContainer event entries → SaysAt g l device event
  at-says came entries device event among device_is event_is =
      subst (λ (d : ℕ). SaysAt g l d event) device_is (subst (λ (e : Event). SaysEvent g l came.device e) event_is (say (Came came) among))

  came-says : (device : ℕ) (place : Place) (change : ContChange) (answer : ContAnswer) → CameTo done device place change answer
      → SaysMade g l device place change answer
  came-says device place change answer came =
      at-says came.came came.entries device (cont_events.Changed place change answer) came.among came.device_is came.event_is

  pub taken-made : (device : ℕ) (place : Place) (change : ContChange) → WasTaken done device place change → WasMade g l device place change
  taken-made device place change taken = (came-says device place change taken.0 taken.1).made taken.2

  left-served : (device : ℕ) (place : Place) (row : Row) (shard : Place) → WasLeft done device place row shard
      → served (table_at l device place) row.name ≡ Some shard
  left-served device place row shard left =
      (came-says device place (MergeRow row) (answers.Redirect shard) left).served row shard refl refl

  pub sharding-told : (device : ℕ) (place : Place) (sharding : Sharding) (index : ℕ) (range : Range) → ToldRange done device place sharding index range
      → IsOfEarlier l device place sharding_of sharding
  sharding-told device place sharding index range told =
      at-says told.came told.entries device (cont_events.Sharded place (Ok sharding)) told.among told.device_is told.event_is sharding refl

-- a row that counts as acknowledged is held
pub acknowledged-held : (secrets : Secrets) (replicas : Place → List ℕ) (l : Ledger) (done : List RunLine) → AllSay (ground_of replicas) l done
    → PointsHold (ground_of replicas) l → (device : ℕ) (place : Place) (row : Row) → IsAcknowledged secrets replicas done device place row
    → Holds (ground_of replicas) l device place row
acknowledged-held secrets replicas l done say hold device place row (inl taken) = taken-made (ground_of replicas) l done say device place (MergeRow row) taken
acknowledged-held secrets replicas l done say hold device place row (inr left) =
    redirected-held g l device place row left.0 is
    (λ r inside. hidden-has g l hold r left.0 row hidden (taken-made g l done say r left.0 (MergeRow row) (left.2 r inside)))
  where
    g : Ground
    g = ground_of replicas

    is : served (table_at l device place) row.name ≡ Some left.0
    is = left-served g l done say device place row left.0 left.1

    hidden : is_hidden left.0 ≡ true
    hidden = served-hidden g l hold device place row.name left.0 is

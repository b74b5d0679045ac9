-- What the lines that are done say of the ledger, then and ever after.
use Rattle.std.proofs.Common.{◌≡◌, ℕ, true, List, Option, Some, Result, Ok}
use Rattle.std.proofs.lemmas.List.Elements.{All-weaker}
use Rattle.std.specs.Bool.{⊤}
use Rattle.std.specs.List.{All, Contains}
use Rattle.std.specs.Option.{IsSome}
use Rattle.sw_container_steps.specs.Reads.{parcel_of, range_parcel_of, sharding_of}
use Rattle.sw_container_steps.specs.Rules.{cont_ending}
use Rattle.sw_container_steps.specs.declared.cont_answer.ContAnswer.{ContAnswer}
use Rattle.sw_container_steps.specs.declared.cont_answer.ContAnswer.TheVariants as answers
use Rattle.sw_container_steps.specs.declared.cont_change.ContChange.{ContChange}
use Rattle.sw_container_steps.specs.declared.cont_change.ContChange.TheVariants.{Create, Remove, MergeRow, MergeRows, SetRanges}
use Rattle.sw_container_steps.specs.declared.cont_change.ContChange.TheVariants.{Ack, CloseRange, EmptyOut, SetSync}
use Rattle.sw_hashpath.specs.declared.place.Place.{Place}
use Rattle.sw_keeper.specs.declared.tables.Tables.{Tables}
use Rattle.sw_machine.specs.Machine.{Came, RunLine, Went}
use Rattle.sw_machine.specs.Messages.{Creation_of, Message, Ranges_of, Row_of, Rows_of, Update_of, Write_of}
use Rattle.sw_peer.specs.declared.cont_event.ContEvent.{ContEvent}
use Rattle.sw_peer.specs.declared.cont_event.ContEvent.TheVariants as cont_events
use Rattle.sw_peer.specs.declared.line.Event.{Event}
use Rattle.sw_peer.specs.declared.line.Event.TheVariants.{AtContainer, Changed, Listed, Read, ReadPart, Restarted}
use Rattle.sw_rows.specs.Rows.{IsListed}
use Rattle.sw_rows.specs.declared.row.Row.{Row}
use Rattle.sw_shard_laws.proofs.Going.{later-trans}
use Rattle.sw_shard_laws.specs.Changes.{CanSplit}
use Rattle.sw_shard_laws.specs.Laws.{IsLater}
use Rattle.sw_shard_laws.specs.Ledger.{Ground, Holds, Ledger, served, table_at}
use Rattle.sw_split_steps.specs.Tables.{standing, ways_of}
use Rattle.sw_step.specs.Rules.{has_made}
use Rattle.sw_point_laws.proofs.Going.{Goes}

-- ---- lines

-- a read told this of tables that stood then, and those that stand now are later ones
pub record IsOfEarlier {A : Type 0} (l : Ledger) (device : ℕ) (place : Place) (reading : Option Tables → ℕ → Result A ContAnswer) (x : A) : Type 0 where
  pub tables : Option Tables
  pub front : ℕ
  pub told : Ok x ≡ reading tables front
  pub listed : IsListed (standing tables).rows
  pub later : IsLater (standing tables) (table_at l device place)

-- what a step that was made leaves: the container is there, or holds the rows
abbrev pub WasMade : Ground → Ledger → ℕ → Place → ContChange → Type 0
WasMade g l device place (Create time) = IsSome (l device place)
WasMade g l device place (MergeRow row) = Holds g l device place row
WasMade g l device place (MergeRows rows) = All (Holds g l device place) rows
WasMade g l device place change = ⊤

-- and one that was answered that the name of a row is left to a shard
abbrev pub WasServed : Ledger → ℕ → Place → ContChange → ContAnswer → Type 0
WasServed l device place change answer =
    (row : Row) (shard : Place) → change ≡ MergeRow row → answer ≡ answers.Redirect shard → served (table_at l device place) row.name ≡ Some shard

pub record SaysMade (g : Ground) (l : Ledger) (device : ℕ) (place : Place) (change : ContChange) (answer : ContAnswer) : Type 0 where
  pub made : has_made (cont_ending answer) ≡ true → WasMade g l device place change
  pub served : WasServed l device place change answer

abbrev pub SaysRead : {A : Type 0} → Ledger → ℕ → Place → (Option Tables → ℕ → Result A ContAnswer) → Result A ContAnswer → Type 0
SaysRead {A} l device place reading got = (x : A) → got ≡ Ok x → IsOfEarlier l device place reading x

abbrev pub SaysAt : Ground → Ledger → ℕ → ContEvent → Type 0
SaysAt g l device (cont_events.Changed place change answer) = SaysMade g l device place change answer
SaysAt g l device (cont_events.Timed place got) = ⊤
SaysAt g l device (cont_events.Informed place got) = ⊤
SaysAt g l device (cont_events.Listed place query got) = ⊤
SaysAt g l device (cont_events.Parceled place to got) = SaysRead l device place (parcel_of to) got
SaysAt g l device (cont_events.Sharded place got) = SaysRead l device place sharding_of got
SaysAt g l device (cont_events.Cleft place range above got) = SaysRead l device place (range_parcel_of range above) got

abbrev pub SaysEvent : Ground → Ledger → ℕ → Event → Type 0
SaysEvent g l device (AtContainer event entries) = SaysAt g l device event
SaysEvent g l device event = ⊤

abbrev pub Says : Ground → Ledger → RunLine → Type 0
Says g l (Came line) = SaysEvent g l line.device line.event
Says g l (Went from message) = ⊤

abbrev pub AllSay : Ground → Ledger → List RunLine → Type 0
AllSay g l done = (line : RunLine) → Contains done line → Says g l line

-- ---- messages

-- ranges that are on their way can be set
abbrev pub CanCome : Ground → Ledger → Message → Type 0
CanCome g l (Write_of to name write) = ⊤
CanCome g l (Row_of to place at row) = ⊤
CanCome g l (Rows_of to place at rows) = ⊤
CanCome g l (Update_of to filed place at row) = ⊤
CanCome g l (Creation_of to place time) = ⊤
CanCome g l (Ranges_of to place ranges) = CanSplit g l place (ways_of ranges)

abbrev pub CanAllCome : Ground → Ledger → List Message → Type 0
CanAllCome g l sent = (message : Message) → Contains sent message → CanCome g l message

-- ---- all of it stays so

module _ (g : Ground) (l next : Ledger) (goes : Goes g l next) where
  earlier-still : {A : Type 0} (device : ℕ) (place : Place) (reading : Option Tables → ℕ → Result A ContAnswer) (x : A)
      → IsOfEarlier l device place reading x → IsOfEarlier next device place reading x
  earlier-still device place reading x is = record {
    tables = is.tables;
    front = is.front;
    told = is.told;
    listed = is.listed;
    later = later-trans (standing is.tables) (table_at l device place) (table_at next device place) is.later (goes.later device place);
  }

  made-still : (device : ℕ) (place : Place) (change : ContChange) → WasMade g l device place change → WasMade g next device place change
  made-still device place (Create time) was = goes.made device place was
  made-still device place (Remove time) was = tt
  made-still device place (MergeRow row) was = goes.holds device place row was
  made-still device place (MergeRows rows) was = All-weaker (Holds g l device place) (Holds g next device place) (goes.holds device place) rows was
  made-still device place (SetRanges ranges) was = tt
  made-still device place (Ack range other rowid) was = tt
  made-still device place (CloseRange range devices) was = tt
  made-still device place EmptyOut was = tt
  made-still device place (SetSync other rowid) was = tt

  at-still : (device : ℕ) (event : ContEvent) → SaysAt g l device event → SaysAt g next device event
  at-still device (cont_events.Changed place change answer) says = record {
    made = λ is. made-still device place change (says.made is);
    served = λ row shard is leaves. (goes.later device place).serving row.name shard (says.served row shard is leaves);
  }
  at-still device (cont_events.Timed place got) says = tt
  at-still device (cont_events.Informed place got) says = tt
  at-still device (cont_events.Listed place query got) says = tt
  at-still device (cont_events.Parceled place to got) says = λ x is. earlier-still device place (parcel_of to) x (says x is)
  at-still device (cont_events.Sharded place got) says = λ x is. earlier-still device place sharding_of x (says x is)
  at-still device (cont_events.Cleft place range above got) says = λ x is. earlier-still device place (range_parcel_of range above) x (says x is)

  event-still : (device : ℕ) (event : Event) → SaysEvent g l device event → SaysEvent g next device event
  event-still device (Changed name change answer) says = tt
  event-still device (Read name got) says = tt
  event-still device (ReadPart read) says = tt
  event-still device (Listed failed) says = tt
  event-still device (AtContainer event entries) says = at-still device event says
  event-still device Restarted says = tt

  pub says-still : (line : RunLine) → Says g l line → Says g next line
  says-still (Came line) says = event-still line.device line.event says
  says-still (Went from message) says = tt

  pub comes-still : (message : Message) → CanCome g l message → CanCome g next message
  comes-still (Write_of to name write) can = tt
  comes-still (Row_of to place at row) can = tt
  comes-still (Rows_of to place at rows) can = tt
  comes-still (Update_of to filed place at row) can = tt
  comes-still (Creation_of to place time) can = tt
  comes-still (Ranges_of to place ranges) can = record {
    plain = can.plain;
    fit = can.fit;
    made = λ range shard device is inside. goes.made device shard (can.made range shard device is inside);
  }

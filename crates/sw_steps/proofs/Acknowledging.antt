-- What lines tell of rows that were taken or left to a shard, more lines tell too.
use Rattle.std.proofs.Common.{ℕ, List, ◌++◌, sym, ◌∙◌, ap, append_assoc, inl, inr}
use Rattle.std.proofs.lemmas.List.Elements.{All-weaker, Contains-append_left, Contains-append_right}
use Rattle.std.specs.List.{All}
use Rattle.std.specs.Prelude.{Contains}
use Rattle.sw_container_steps.specs.declared.cont_answer.ContAnswer.{ContAnswer}
use Rattle.sw_container_steps.specs.declared.cont_change.ContChange.{ContChange}
use Rattle.sw_hashpath.specs.declared.place.Place.{Place}
use Rattle.sw_hashpath.specs.declared.secrets.Secrets.{Secrets}
use Rattle.sw_machine.specs.Honest.{AllTook, CameTo, IsAcknowledged, WasPushed, WasTaken, WasTold}
use Rattle.sw_machine.specs.Machine.{RunLine}
use Rattle.sw_pending.specs.declared.key.RecordKey.{RecordKey}
use Rattle.sw_rows.specs.declared.row.Row.{Row}

-- each of the first lines is one of the others
abbrev pub AreIn : List RunLine → List RunLine → Type 0
AreIn xs ys = (line : RunLine) → Contains xs line → Contains ys line

pub in-front : (xs ys : List RunLine) → AreIn xs (xs ++ ys)
in-front xs ys line is = Contains-append_left xs ys line is

pub in-behind : (xs ys : List RunLine) → AreIn ys (xs ++ ys)
in-behind xs ys line is = Contains-append_right xs ys line is

pub came-more : (xs ys : List RunLine) → AreIn xs ys → (device : ℕ) (place : Place) (change : ContChange) (answer : ContAnswer)
    → CameTo xs device place change answer → CameTo ys device place change answer
came-more xs ys are device place change answer came = record {
  came = came.came;
  entries = came.entries;
  among = are _ came.among;
  device_is = came.device_is;
  event_is = came.event_is;
}

pub taken-more : (xs ys : List RunLine) → AreIn xs ys → (device : ℕ) (place : Place) (change : ContChange) → WasTaken xs device place change
    → WasTaken ys device place change
taken-more xs ys are device place change is = (is.0, came-more xs ys are device place change is.0 is.1, is.2)

module _ (secrets : Secrets) (replicas : Place → List ℕ) where
  pub all-took-more : (xs ys : List RunLine) → AreIn xs ys → (place : Place) (change : ContChange) → AllTook secrets replicas xs place change
      → AllTook secrets replicas ys place change
  all-took-more xs ys are place change took r is = taken-more xs ys are r place change (took r is)

  pub acknowledged-more : (xs ys : List RunLine) → AreIn xs ys → (device : ℕ) (place : Place) (row : Row) → IsAcknowledged secrets replicas xs device place row
      → IsAcknowledged secrets replicas ys device place row
  acknowledged-more xs ys are device place row (inl taken) = inl (taken-more xs ys are device place _ taken)
  acknowledged-more xs ys are device place row (inr (shard, left, took)) =
      inr (shard, came-more xs ys are device place _ _ left, all-took-more xs ys are shard _ took)

  pub all-acknowledged-more : (xs ys : List RunLine) → AreIn xs ys → (device : ℕ) (place : Place) (rows : List Row)
      → All (IsAcknowledged secrets replicas xs device place) rows → All (IsAcknowledged secrets replicas ys device place) rows
  all-acknowledged-more xs ys are device place rows each =
      All-weaker (IsAcknowledged secrets replicas xs device place) (IsAcknowledged secrets replicas ys device place)
      (acknowledged-more xs ys are device place) rows each

  -- what was told stays so behind other lines
  pub told-behind : (done lines : List RunLine) (device : ℕ) (key : RecordKey) (to : ℕ) → WasTold secrets replicas lines device key to
      → WasTold secrets replicas (done ++ lines) device key to
  told-behind done lines device key to told = record {
    filed = told.filed;
    place = told.place;
    row = told.row;
    before = done ++ told.before;
    behind = told.behind;
    key_is = told.key_is;
    lines_are = ap (λ (ls : List RunLine). done ++ ls) told.lines_are ∙ sym (append_assoc done told.before _);
    acknowledged = told.acknowledged;
  }

  pub pushed-behind : (done lines : List RunLine) (device : ℕ) (place : Place) (to rowid : ℕ) → WasPushed secrets replicas lines device place to rowid
      → WasPushed secrets replicas (done ++ lines) device place to rowid
  pushed-behind done lines device place to rowid pushed = record {
    parcel = pushed.parcel;
    before = done ++ pushed.before;
    came = pushed.came;
    entries = pushed.entries;
    behind = pushed.behind;
    lines_are = ap (λ (ls : List RunLine). done ++ ls) pushed.lines_are ∙ sym (append_assoc done pushed.before _);
    device_is = pushed.device_is;
    event_is = pushed.event_is;
    rowid_is = pushed.rowid_is;
    acknowledged = pushed.acknowledged;
  }

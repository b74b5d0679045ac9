-- The calls of an update, one after the other, and what it counts. (OpenStack Swift's object updater sends each pending update to the containers that
-- haven't had it. That it sends the row of what stands now, and marks each device by itself, is this project's own.)
use Rattle.std.specs.Prelude.{◌≡◌, ℕ, Bool, true, false, not, filter, List, Option, None, Some, ◌⊎◌, Result, Ok, Err}
use Rattle.sw_container_steps.specs.declared.cont_answer.ContAnswer.{ContAnswer}
use Rattle.sw_container_steps.specs.declared.cont_change.ContChange.TheVariants.{MergeRow}
use Rattle.sw_hashpath.specs.Places.{IsPlaceOf}
use Rattle.sw_hashpath.specs.declared.place.Place.{Place}
use Rattle.sw_object_steps.specs.declared.answer.Answer.{Answer}
use Rattle.sw_object_steps.specs.declared.answer.Answer.TheVariants as answers
use Rattle.sw_object_steps.specs.declared.change.Change.TheVariants.{DropRecord, MarkRecord}
use Rattle.sw_object_steps.specs.declared.dir_fault.DirFault.{DirFault}
use Rattle.sw_outside.specs.declared.errors.NoMemory.{NoMemory}
use Rattle.sw_pass.specs.Outcomes.{Hinders, Keeps, answer_hindrance, fault_hindrance, finished, leaving, nothing_yet, sending, unanswered}
use Rattle.sw_pass.specs.Rings.{AreReplicas}
use Rattle.sw_pass.specs.Turns.{InTurn}
use Rattle.sw_pass.specs.declared.outcome.Outcome.{Outcome}
use Rattle.sw_peer.specs.ContSights.{IsContMade}
use Rattle.sw_peer.specs.Sights.{Calls, IsBaseRead, IsMade, Sight}
use Rattle.sw_peer.specs.declared.link.Link.TheVariants.{Local, Sent}
use Rattle.sw_peer.specs.declared.link.Lost.{Lost}
use Rattle.sw_pending.specs.Rules.{is_done}
use Rattle.sw_pending.specs.declared.filed.Filed.{Filed}
use Rattle.sw_redirect.specs.Hearing.{heard_of}
use Rattle.sw_redirect.specs.Sending.{Course, IsSentOn, course}
use Rattle.sw_redirect.specs.declared.heard.Heard.{Heard}
use Rattle.sw_redirect.specs.declared.heard.Heard.TheVariants.{Acknowledged, Redirected, Refused}
use Rattle.sw_ring.specs.declared.ring.Ring.{Ring}
use Rattle.sw_rows.specs.declared.row.Row.{Row}
use Rattle.sw_updater.specs.Reading.{AreAllRead, IsOrderOf}

-- memory ran out before a call: nothing was made and nothing counted
abbrev pub Wants : Course → Outcome → Course → Outcome → Bool → Type 0
Wants c o d p on = (d ≡ c) × (p ≡ o) × (on ≡ false)

-- the devices that haven't been told, in their order
abbrev pub to_tell : List ℕ → List ℕ → List ℕ
to_tell done all = filter (λ device. not (is_done device done)) all

module _ (device : ℕ) (filed : Filed) where
  -- ---- one device of the container

  -- what marking it was answered. A record that isn't there any more needs no mark
  abbrev pub IsMarkCounted : Answer → Sight → Bool → Outcome → Course → Outcome → Bool → Type 0
  IsMarkCounted (answers.Took is) t missed o d p on = (d ≡ course t missed) × (p ≡ o) × (on ≡ true)
  IsMarkCounted answer t missed o d p on = (d ≡ course t true) × Keeps (answer_hindrance answer) o p on

  abbrev pub IsMarked : ℕ → Course → Outcome → Course → Outcome → Bool → Type 0
  IsMarked to c o d p on =
      ((answer : Answer) × (t : Sight) × Calls (IsMade Local device filed.name (MarkRecord filed to)) c.sight Local (Ok answer) t
      × IsMarkCounted answer t c.missed o d p on)
      ⊎ Wants c o d p on

  -- where it left the name of the row to a shard, that is marked only once each replica of the shard acknowledged the row
  abbrev pub IsMarkedBehind : ℕ → Course → Bool → Outcome → Course → Outcome → Bool → Type 0
  IsMarkedBehind to e missed o d p on =
      ((e.missed ≡ false) × IsMarked to (course e.sight missed) o d p on)
      ⊎ ((e.missed ≡ true) × (d ≡ course e.sight true) × (p ≡ o) × (on ≡ true))

  abbrev pub IsFollowed : Ring → Row → ℕ → Place → Course → Outcome → Course → Outcome → Bool → Type 0
  IsFollowed ring row to shard c o d p on =
      ((e : Course) × (between : Outcome) × IsSentOn ring shard row c.sight o e between true × IsMarkedBehind to e c.missed between d p on)
      ⊎ ((e : Course) × IsSentOn ring shard row c.sight o e p false × (d ≡ course e.sight c.missed) × (on ≡ false))

  -- only a device that acknowledged the row, or left it to a shard, is marked
  abbrev pub IsHeardAs : Ring → Row → ℕ → Heard → Course → Outcome → Course → Outcome → Bool → Type 0
  IsHeardAs ring row to Acknowledged c o d p on = IsMarked to c o d p on
  IsHeardAs ring row to (Redirected shard) c o d p on = IsFollowed ring row to shard c o d p on
  IsHeardAs ring row to (Refused hindrance) c o d p on = (d ≡ course c.sight true) × Keeps hindrance o p on

  abbrev pub IsHeard : Ring → Place → Row → ℕ → Result ContAnswer Lost → Course → Outcome → Course → Outcome → Bool → Type 0
  IsHeard ring place row to (Ok answer) c o d p on = IsHeardAs ring row to (heard_of place answer) c o d p on
  IsHeard ring place row to (Err lost) c o d p on = (d ≡ course c.sight true) × (p ≡ unanswered o) × (on ≡ true)

  -- the row is sent to it
  abbrev pub IsTold : Ring → Place → Row → ℕ → Course → Outcome → Course → Outcome → Bool → Type 0
  IsTold ring place row to c o d p on =
      (answer : Result ContAnswer Lost) × (mid : Sight) × Calls (IsContMade Sent to place (MergeRow row)) c.sight Sent answer mid
      × IsHeard ring place row to answer (course mid c.missed) (sending o) d p on

  -- ---- the end of a record

  -- what the drop was answered, and whether the record went
  abbrev pub IsDropCounted : Answer → Sight → Bool → Outcome → Course → Outcome → Bool → Bool → Type 0
  IsDropCounted (answers.Took is) t missed o d p dropped on = (d ≡ course t missed) × (p ≡ o) × (dropped ≡ is) × (on ≡ true)
  IsDropCounted answer t missed o d p dropped on = (d ≡ course t true) × (dropped ≡ false) × Keeps (answer_hindrance answer) o p on

  abbrev pub IsDropped : List ℕ → Course → Outcome → Course → Outcome → Bool → Bool → Type 0
  IsDropped all c o d p dropped on =
      ((answer : Answer) × (t : Sight) × Calls (IsMade Local device filed.name (DropRecord filed all)) c.sight Local (Ok answer) t
      × IsDropCounted answer t c.missed o d p dropped on)
      ⊎ (Wants c o d p on × (dropped ≡ false))

  module _ (ring : Ring) (place : Place) (all : List ℕ) where
    -- a row that was read is told to all devices that lack it, and then the record is dropped where it can be
    abbrev pub IsRowTold : Row → Course → Outcome → Course → Outcome → Bool → Type 0
    IsRowTold row c o d p on =
        ((mid : Course) × (between : Outcome) × InTurn (IsTold ring place row) (to_tell filed.done all) c o mid between true
        × ((dropped : Bool) × IsDropped all mid between d p dropped on))
        ⊎ (InTurn (IsTold ring place row) (to_tell filed.done all) c o d p false × (on ≡ false))

    -- What stands is read once more where nothing stood and yet the record wasn't dropped: it is gone, or an object came in between
    abbrev pub IsReadAgain : Result (Option Row) DirFault → Course → Outcome → Course → Outcome → Bool → Type 0
    IsReadAgain (Ok (Some row)) c o d p on = IsRowTold row c o d p on
    IsReadAgain (Ok None) c o d p on = (d ≡ c) × (p ≡ o) × (on ≡ true)
    IsReadAgain (Err fault) c o d p on = (d ≡ course c.sight true) × Keeps (fault_hindrance fault) o p on

    -- after a drop over a name under which nothing stands
    abbrev pub IsAfterDrop : Bool → Bool → Course → Outcome → Course → Outcome → Bool → Type 0
    IsAfterDrop true missed c o d p on = (d ≡ c) × (p ≡ o) × (on ≡ true)
    IsAfterDrop false true c o d p on = (d ≡ c) × (p ≡ o) × (on ≡ true)
    IsAfterDrop false false c o d p on =
        (base : Result (Option Row) DirFault) × (mid : Sight) × Calls (IsBaseRead Local device filed) c.sight Local (Ok base) mid
        × IsReadAgain base (course mid c.missed) o d p on

    abbrev pub IsAfterBase : Result (Option Row) DirFault → Course → Outcome → Course → Outcome → Bool → Type 0
    IsAfterBase (Ok (Some row)) c o d p on = IsRowTold row c o d p on
    IsAfterBase (Ok None) c o d p on =
        ((mid : Course) × (between : Outcome) × (dropped : Bool) × IsDropped all c o mid between dropped true
        × IsAfterDrop dropped mid.missed mid between d p on)
        ⊎ (IsDropped all c o d p false false × (on ≡ false))
    IsAfterBase (Err fault) c o d p on = (d ≡ course c.sight true) × Keeps (fault_hindrance fault) o p on

    -- what stands under the record's name is read at the device itself, and what has to be done follows
    abbrev pub IsSettled : Sight → Outcome → Course → Outcome → Bool → Type 0
    IsSettled s o d p on =
        (base : Result (Option Row) DirFault) × (mid : Sight) × Calls (IsBaseRead Local device filed) s Local (Ok base) mid
        × IsAfterBase base (course mid false) o d p on

-- one record: it is left where anything was missed
abbrev pub IsUpdated : Ring → ℕ → Filed → Sight → Outcome → Sight → Outcome → Bool → Type 0
IsUpdated ring device filed s o t p on =
    ((place : Place) × (all : List ℕ) × (d : Course) × (q : Outcome) × IsPlaceOf ring.secrets filed.name place × AreReplicas ring place all
    × IsSettled device filed ring place all s o d q on × (t ≡ d.sight) × (p ≡ leaving d.missed q))
    ⊎ ((t ≡ s) × (p ≡ o) × (on ≡ false))

-- ---- the whole pass

-- the records that were read, in their order. Where they weren't, that is left
abbrev pub IsGoneOver : Ring → ℕ → Result (List Filed) DirFault → Sight → Sight → Outcome → Bool → Type 0
IsGoneOver ring device (Ok records) s t p on =
    ((ordered : List Filed) × IsOrderOf records ordered × InTurn (IsUpdated ring device) ordered s nothing_yet t p on)
    ⊎ ((t ≡ s) × (p ≡ nothing_yet) × (on ≡ false))
IsGoneOver ring device (Err fault) s t p on = (t ≡ s) × Hinders (fault_hindrance fault) nothing_yet p on

-- and what it is answered
abbrev pub IsUpdate : Ring → ℕ → Sight → Result Outcome NoMemory → Sight → Type 0
IsUpdate ring device s (Ok outcome) t = (got : Result (List Filed) DirFault) × (mid : Sight) × (p : Outcome)
    × AreAllRead ring device s got mid × IsGoneOver ring device got mid t p true × (outcome ≡ finished p)
IsUpdate ring device s (Err wanting) t = (got : Result (List Filed) DirFault) × (mid : Sight) × (p : Outcome)
    × AreAllRead ring device s got mid × IsGoneOver ring device got mid t p false

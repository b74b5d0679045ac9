-- What the calls for a record keep.
use Rattle.std.proofs.Common.{◌≤◌, ℕ, Bool, true, false, List, [], ◌∷◌, inl, inr, refl, arith, Option, Some, None, Result, Ok, Err}
use Rattle.sw_container_steps.specs.declared.cont_answer.ContAnswer.{ContAnswer}
use Rattle.sw_container_steps.specs.declared.cont_change.ContChange.TheVariants.{MergeRow}
use Rattle.sw_hashpath.specs.declared.place.Place.{Place}
use Rattle.sw_object_steps.specs.declared.answer.Answer.{Answer}
use Rattle.sw_object_steps.specs.declared.answer.Answer.TheVariants as answers
use Rattle.sw_object_steps.specs.declared.change.Change.TheVariants.{DropRecord, MarkRecord}
use Rattle.sw_object_steps.specs.declared.dir_fault.DirFault.{DirFault}
use Rattle.sw_pass.specs.Outcomes.{answer_hindrance, fault_hindrance, sending}
use Rattle.sw_pass.specs.Turns.{InTurn}
use Rattle.sw_pass.specs.declared.outcome.Outcome.{Outcome}
use Rattle.sw_peer.specs.ContSights.{IsContMade}
use Rattle.sw_peer.specs.Sights.{Calls, IsBaseRead, Sight}
use Rattle.sw_peer.specs.declared.link.Link.TheVariants.{Local, Sent}
use Rattle.sw_peer.specs.declared.link.Lost.{Lost}
use Rattle.sw_pending.specs.declared.filed.Filed.{Filed}
use Rattle.sw_redirect.proofs.Calling.{made-moves as cont-moves}
use Rattle.sw_redirect.specs.Hearing.{heard_of}
use Rattle.sw_redirect.specs.Sending.{Course, course}
use Rattle.sw_redirect.specs.declared.heard.Heard.{Heard}
use Rattle.sw_redirect.specs.declared.heard.Heard.TheVariants.{Acknowledged, Redirected, Refused}
use Rattle.sw_ring.specs.declared.ring.Ring.{Ring}
use Rattle.sw_rows.specs.declared.row.Row.{Row}
use Rattle.sw_updater.proofs.Calling.{base-moves, made-moves}
use Rattle.sw_updater.proofs.Passing.{Goes, apart, goes-aside, goes-behind, goes-missed, goes-on, goes-sending, goes-trans, goes-unanswered}
use Rattle.sw_updater.proofs.SentOn.{sent-on}
use Rattle.sw_updater.specs.Updating.{IsAfterBase, IsAfterDrop, IsDropCounted, IsDropped, IsFollowed, IsHeard, IsHeardAs, IsMarkCounted, IsMarked}
use Rattle.sw_updater.specs.Updating.{IsMarkedBehind, IsReadAgain, IsRowTold, IsSettled, IsTold, to_tell}

module _ (device : ℕ) (filed : Filed) where
  -- ---- one device

  mark-counted : (answer : Answer) (t : Sight) (c : Course) (o : Outcome) (d : Course) (p : Outcome) → c.sight.faults ≤ t.faults
      → IsMarkCounted device filed answer t c.missed o d p true → Goes c o d p
  mark-counted (answers.Took went) t c o d p up is = goes-on c t o d p up is.0 is.1
  mark-counted answer t c o d p up is = goes-missed (answer_hindrance answer) c t o d p up is.0 is.1

  marked : (to : ℕ) (c : Course) (o : Outcome) (d : Course) (p : Outcome) → IsMarked device filed to c o d p true → Goes c o d p
  marked to c o d p (inl is) =
      mark-counted is.0 is.1 c o d p (made-moves Local device filed.name (MarkRecord filed to) c.sight (Ok is.0) is.1 is.2).faults is.3
  marked to c o d p (inr wants) = absurd (apart wants.2)

  -- the row was sent on to a shard first
  followed : (ring : Ring) (row : Row) (to : ℕ) (shard : Place) (c : Course) (o : Outcome) (d : Course) (p : Outcome)
      → IsFollowed device filed ring row to shard c o d p true → Goes c o d p
  followed ring row to shard c o d p (inl is) = by is.3
    where
      sends : Goes (course c.sight false) o is.0 is.1
      sends = (sent-on shard row ring c.sight o is.0 is.1 is.2).goes

      by : IsMarkedBehind device filed to is.0 c.missed is.1 d p true → Goes c o d p
      by (inl has) =
          goes-trans c o (course (is.0).sight c.missed) is.1 d p (goes-aside c o is.0 is.1 sends) (marked to (course (is.0).sight c.missed) is.1 d p has.1)
      by (inr lacks) = goes-behind c o is.0 is.1 d p sends lacks.0 lacks.1 lacks.2
  followed ring row to shard c o d p (inr stopped) = absurd (apart stopped.3)

  -- what an answer that was heard came to, where the message went from another course
  heard : (ring : Ring) (row : Row) (to : ℕ) (h : Heard) (c : Course) (o : Outcome) (d : Course) (p : Outcome)
      → IsHeardAs device filed ring row to h c o d p true → Goes c o d p
  heard ring row to Acknowledged c o d p is = marked to c o d p is
  heard ring row to (Redirected shard) c o d p is = followed ring row to shard c o d p is
  heard ring row to (Refused hindrance) c o d p is = goes-missed hindrance c c.sight o d p (omega arith) is.0 is.1

  told : (ring : Ring) (place : Place) (row : Row) (to : ℕ) (c : Course) (o : Outcome) (d : Course) (p : Outcome)
      → IsTold device filed ring place row to c o d p true → Goes c o d p
  told ring place row to c o d p is = by is.0 is.2 is.3
    where
      mid : Sight
      mid = is.1

      up : c.sight.faults ≤ mid.faults
      up = (cont-moves Sent to place (MergeRow row) c.sight is.0 mid is.2).faults

      by : (answer : Result ContAnswer Lost) → Calls (IsContMade Sent to place (MergeRow row)) c.sight Sent answer mid
          → IsHeard device filed ring place row to answer (course mid c.missed) (sending o) d p true → Goes c o d p
      by (Ok answer) call hears =
          goes-trans c o c (sending o) d p (goes-sending c o)
          (goes-trans c (sending o) (course mid c.missed) (sending o) d p (goes-on c mid (sending o) (course mid c.missed) (sending o) up refl refl)
          (heard ring row to (heard_of place answer) (course mid c.missed) (sending o) d p hears))
      by (Err lost) call hears =
          goes-trans c o c (sending o) d p (goes-sending c o) (goes-unanswered c mid (sending o) d p up call.1 hears.0 hears.1)

  all-told : (ring : Ring) (place : Place) (row : Row) (devices : List ℕ) (c : Course) (o : Outcome) (d : Course) (p : Outcome)
      → InTurn (IsTold device filed ring place row) devices c o d p true → Goes c o d p
  all-told ring place row [] c o d p is = goes-on c c.sight o d p (omega arith) is.0 is.1
  all-told ring place row (to ∷ devices) c o d p (inl went) =
      goes-trans c o went.0 went.1 d p (told ring place row to c o went.0 went.1 went.2) (all-told ring place row devices went.0 went.1 d p went.3)
  all-told ring place row (to ∷ devices) c o d p (inr stopped) = absurd (apart stopped.1)

  -- ---- the end of the record

  drop-counted : (answer : Answer) (t : Sight) (c : Course) (o : Outcome) (d : Course) (p : Outcome) (dropped : Bool) → c.sight.faults ≤ t.faults
      → IsDropCounted device filed answer t c.missed o d p dropped true → Goes c o d p
  drop-counted (answers.Took went) t c o d p dropped up is = goes-on c t o d p up is.0 is.1
  drop-counted answer t c o d p dropped up is = goes-missed (answer_hindrance answer) c t o d p up is.0 is.2

  dropped-goes : (all : List ℕ) (c : Course) (o : Outcome) (d : Course) (p : Outcome) (dropped : Bool) → IsDropped device filed all c o d p dropped true
      → Goes c o d p
  dropped-goes all c o d p dropped (inl is) =
      drop-counted is.0 is.1 c o d p dropped (made-moves Local device filed.name (DropRecord filed all) c.sight (Ok is.0) is.1 is.2).faults is.3
  dropped-goes all c o d p dropped (inr wants) = absurd (apart wants.0.2)

  module _ (ring : Ring) (place : Place) (all : List ℕ) where
    row-told : (row : Row) (c : Course) (o : Outcome) (d : Course) (p : Outcome) → IsRowTold device filed ring place all row c o d p true → Goes c o d p
    row-told row c o d p (inl is) =
        goes-trans c o is.0 is.1 d p (all-told ring place row (to_tell filed.done all) c o is.0 is.1 is.2) (dropped-goes all is.0 is.1 d p is.3.0 is.3.1)
    row-told row c o d p (inr stopped) = absurd (apart stopped.1)

    -- a read of what stands
    base-goes : (s : Sight) (base : Result (Option Row) DirFault) (t : Sight) (missed : Bool) (o : Outcome)
        → Calls (IsBaseRead Local device filed) s Local (Ok base) t → Goes (course s missed) o (course t missed) o
    base-goes s base t missed o call =
        goes-on (course s missed) t o (course t missed) o (base-moves Local device filed s (Ok base) t call).faults refl refl

    read-again : (base : Result (Option Row) DirFault) (c : Course) (o : Outcome) (d : Course) (p : Outcome)
        → IsReadAgain device filed ring place all base c o d p true → Goes c o d p
    read-again (Ok (Some row)) c o d p is = row-told row c o d p is
    read-again (Ok None) c o d p is = goes-on c c.sight o d p (omega arith) is.0 is.1
    read-again (Err fault) c o d p is = goes-missed (fault_hindrance fault) c c.sight o d p (omega arith) is.0 is.1

    after-drop : (went missed : Bool) (c : Course) (o : Outcome) (d : Course) (p : Outcome)
        → IsAfterDrop device filed ring place all went missed c o d p true → Goes c o d p
    after-drop true missed c o d p is = goes-on c c.sight o d p (omega arith) is.0 is.1
    after-drop false true c o d p is = goes-on c c.sight o d p (omega arith) is.0 is.1
    after-drop false false c o d p is =
        goes-trans c o (course is.1 c.missed) o d p (base-goes c.sight is.0 is.1 c.missed o is.2) (read-again is.0 (course is.1 c.missed) o d p is.3)

    after-base : (base : Result (Option Row) DirFault) (c : Course) (o : Outcome) (d : Course) (p : Outcome)
        → IsAfterBase device filed ring place all base c o d p true → Goes c o d p
    after-base (Ok (Some row)) c o d p is = row-told row c o d p is
    after-base (Ok None) c o d p (inl is) =
        goes-trans c o is.0 is.1 d p (dropped-goes all c o is.0 is.1 is.2 is.3) (after-drop is.2 (is.0).missed is.0 is.1 d p is.4)
    after-base (Ok None) c o d p (inr stopped) = absurd (apart stopped.1)
    after-base (Err fault) c o d p is = goes-missed (fault_hindrance fault) c c.sight o d p (omega arith) is.0 is.1

    pub settled : (s : Sight) (o : Outcome) (d : Course) (p : Outcome) → IsSettled device filed ring place all s o d p true → Goes (course s false) o d p
    settled s o d p is =
        goes-trans (course s false) o (course is.1 false) o d p (base-goes s is.0 is.1 false o is.2) (after-base is.0 (course is.1 false) o d p is.3)

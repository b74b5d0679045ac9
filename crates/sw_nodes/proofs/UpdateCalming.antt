-- No step at a record or a container tells of a restart: so no update does, and no read of records.
use Rattle.std.proofs.Common.{ℕ, ◌^◌, Bool, true, false, List, [], ◌∷◌, ap, inl, inr, refl, Option, Some, None, Result, Ok, Err}
use Rattle.std.specs.List.{range_with_len}
use Rattle.std.specs.declared.alloc.Global.{Global}
use Rattle.std.specs.declared.vec.Vec.{Vec}
use Rattle.sw_container_steps.specs.declared.cont_answer.ContAnswer.{ContAnswer}
use Rattle.sw_hashpath.specs.declared.place.Place.{Place}
use Rattle.sw_object_steps.specs.declared.change.Change.TheVariants.{DropRecord, MarkRecord}
use Rattle.sw_object_steps.specs.declared.dir_fault.DirFault.{DirFault}
use Rattle.sw_outside.specs.declared.errors.NoMemory.{NoMemory}
use Rattle.sw_pass.specs.Outcomes.{nothing_yet, sending}
use Rattle.sw_pass.specs.declared.outcome.Outcome.{Outcome}
use Rattle.sw_peer.specs.Sights.{Calls, IsBaseRead, IsRecordsRead, Sight}
use Rattle.sw_peer.specs.declared.link.Link.TheVariants.{Local, Sent}
use Rattle.sw_peer.specs.declared.link.Lost.{Lost}
use Rattle.sw_pending.specs.declared.filed.Filed.{Filed}
use Rattle.sw_redirect.specs.Hearing.{heard_of}
use Rattle.sw_redirect.specs.Sending.{Course, course}
use Rattle.sw_redirect.specs.declared.heard.Heard.{Heard}
use Rattle.sw_redirect.specs.declared.heard.Heard.TheVariants.{Acknowledged, Redirected, Refused}
use Rattle.sw_ring.specs.declared.ring.Ring.{Ring}
use Rattle.sw_rows.specs.declared.row.Row.{Row}
use Rattle.sw_updater.specs.Reading.{AreRead, ArePending}
use Rattle.sw_updater.specs.Updating.{IsAfterBase, IsAfterDrop, IsDropCounted, IsDropped, IsGoneOver, IsHeard, IsHeardAs, IsMarkCounted, IsMarked}
use Rattle.sw_updater.specs.Updating.{IsMarkedBehind, IsReadAgain, IsRowTold, IsSettled, IsTold, IsUpdate, IsUpdated, to_tell}
use Rattle.sw_object_steps.specs.declared.answer.Answer.{Answer}
use Rattle.sw_object_steps.specs.declared.answer.Answer.TheVariants as answers
use Rattle.sw_nodes.proofs.Calming.{IsCalm, calm-calls, calm-join, calm-same, calm-trails, changed-calm, made-calm, turn-calm}
use Rattle.sw_nodes.proofs.RowCalming.{IsCalmer, calmer-same, sent-on-calm, turn-calmer}

records-calm : (device stripe : ℕ) (s : Sight) (r : Result (Result (Vec Filed Global) DirFault) Lost) (t : Sight)
    → Calls (IsRecordsRead Local device stripe) s Local r t → IsCalm s t
records-calm device stripe s r t p =
    calm-calls (IsRecordsRead Local device stripe) (λ a x b read. calm-trails a b _ _ refl read.trail) s Local r t p

base-calm : (device : ℕ) (filed : Filed) (s : Sight) (r : Result (Result (Option Row) DirFault) Lost) (t : Sight)
    → Calls (IsBaseRead Local device filed) s Local r t → IsCalm s t
base-calm device filed s r t p =
    calm-calls (IsBaseRead Local device filed) (λ a x b read. calm-trails a b _ _ refl read.trail) s Local r t p

stripes-calm : (device : ℕ) (stripes : List ℕ) (s : Sight) (got : Result (List Filed) DirFault) (t : Sight) → AreRead device stripes s got t → IsCalm s t
stripes-calm device [] s got t is = calm-same s t is.0
stripes-calm device (stripe ∷ stripes) s got t (inl went) =
    calm-join s went.1 t (records-calm device stripe s (Ok (Ok went.0)) went.1 went.3) (stripes-calm device stripes went.1 went.2 t went.4)
stripes-calm device (stripe ∷ stripes) s got t (inr stopped) = records-calm device stripe s (Ok (Err stopped.0)) t stopped.1

pub pending-calm : (ring : Ring) (device : ℕ) (s : Sight) (got : Result (Result (Vec Filed Global) DirFault) NoMemory) (t : Sight)
    → ArePending ring device s got t → IsCalm s t
pending-calm ring device s (Ok (Ok ordered)) t is = stripes-calm device (range_with_len 0 (2 ^ ring.lock_bits)) s (Ok is.0) t is.1
pending-calm ring device s (Ok (Err fault)) t is = stripes-calm device (range_with_len 0 (2 ^ ring.lock_bits)) s (Err fault) t is
pending-calm ring device s (Err wanting) t is = stripes-calm device (range_with_len 0 (2 ^ ring.lock_bits)) s (Ok is.0) t is.1

module _ (device : ℕ) (filed : Filed) where
  mark-counted : (answer : Answer) (t : Sight) (missed : Bool) (o : Outcome) (d : Course) (p : Outcome) (on : Bool)
      → IsMarkCounted device filed answer t missed o d p on → IsCalm t d.sight
  mark-counted (answers.Took is) t missed o d p on counted = calm-same t d.sight (ap (λ (x : Course). x.sight) counted.0)
  mark-counted (answers.Done front) t missed o d p on counted = calm-same t d.sight (ap (λ (x : Course). x.sight) counted.0)
  mark-counted (answers.Buried front) t missed o d p on counted = calm-same t d.sight (ap (λ (x : Course). x.sight) counted.0)
  mark-counted (answers.Conflict time) t missed o d p on counted = calm-same t d.sight (ap (λ (x : Course). x.sight) counted.0)
  mark-counted (answers.NotFound time) t missed o d p on counted = calm-same t d.sight (ap (λ (x : Course). x.sight) counted.0)
  mark-counted (answers.Mismatch second) t missed o d p on counted = calm-same t d.sight (ap (λ (x : Course). x.sight) counted.0)
  mark-counted answers.Exists t missed o d p on counted = calm-same t d.sight (ap (λ (x : Course). x.sight) counted.0)
  mark-counted answers.JournalFull t missed o d p on counted = calm-same t d.sight (ap (λ (x : Course). x.sight) counted.0)
  mark-counted (answers.Damaged bad) t missed o d p on counted = calm-same t d.sight (ap (λ (x : Course). x.sight) counted.0)
  mark-counted answers.Failed t missed o d p on counted = calm-same t d.sight (ap (λ (x : Course). x.sight) counted.0)
  mark-counted answers.NoMemory t missed o d p on counted = calm-same t d.sight (ap (λ (x : Course). x.sight) counted.0)

  marked-calm : (to : ℕ) (c : Course) (o : Outcome) (d : Course) (p : Outcome) (on : Bool) → IsMarked device filed to c o d p on → IsCalmer c d
  marked-calm to c o d p on (inl is) =
      calm-join c.sight is.1 d.sight (made-calm Local device filed.name (MarkRecord filed to) c.sight (Ok is.0) is.1 is.2)
      (mark-counted is.0 is.1 c.missed o d p on is.3)
  marked-calm to c o d p on (inr wants) = calmer-same c d wants.0

  behind-calm : (to : ℕ) (e : Course) (missed : Bool) (o : Outcome) (d : Course) (p : Outcome) (on : Bool) → IsMarkedBehind device filed to e missed o d p on
      → IsCalmer e d
  behind-calm to e missed o d p on (inl is) = marked-calm to (course e.sight missed) o d p on is.1
  behind-calm to e missed o d p on (inr is) = calm-same e.sight d.sight (ap (λ (x : Course). x.sight) is.1)

  heard-as-calm : (ring : Ring) (row : Row) (to : ℕ) (heard : Heard) (c : Course) (o : Outcome) (d : Course) (p : Outcome) (on : Bool)
      → IsHeardAs device filed ring row to heard c o d p on → IsCalmer c d
  heard-as-calm ring row to Acknowledged c o d p on is = marked-calm to c o d p on is
  heard-as-calm ring row to (Redirected shard) c o d p on (inl is) =
      calm-join c.sight is.0.sight d.sight (sent-on-calm ring shard row c.sight o is.0 is.1 true is.2) (behind-calm to is.0 c.missed is.1 d p on is.3)
  heard-as-calm ring row to (Redirected shard) c o d p on (inr is) =
      calm-join c.sight is.0.sight d.sight (sent-on-calm ring shard row c.sight o is.0 p false is.1)
      (calm-same is.0.sight d.sight (ap (λ (x : Course). x.sight) is.2))
  heard-as-calm ring row to (Refused hindrance) c o d p on is = calm-same c.sight d.sight (ap (λ (x : Course). x.sight) is.0)

  heard-calm : (ring : Ring) (place : Place) (row : Row) (to : ℕ) (answer : Result ContAnswer Lost) (c : Course) (o : Outcome) (d : Course) (p : Outcome)
      (on : Bool) → IsHeard device filed ring place row to answer c o d p on → IsCalmer c d
  heard-calm ring place row to (Ok answer) c o d p on is = heard-as-calm ring row to (heard_of place answer) c o d p on is
  heard-calm ring place row to (Err lost) c o d p on is = calm-same c.sight d.sight (ap (λ (x : Course). x.sight) is.0)

  told-calm : (ring : Ring) (place : Place) (row : Row) (to : ℕ) (c : Course) (o : Outcome) (d : Course) (p : Outcome) (on : Bool)
      → IsTold device filed ring place row to c o d p on → IsCalmer c d
  told-calm ring place row to c o d p on is =
      calm-join c.sight is.1 d.sight (changed-calm Sent to place _ c.sight is.0 is.1 is.2)
      (heard-calm ring place row to is.0 (course is.1 c.missed) (sending o) d p on is.3)

  drop-counted : (answer : Answer) (t : Sight) (missed : Bool) (o : Outcome) (d : Course) (p : Outcome) (dropped on : Bool)
      → IsDropCounted device filed answer t missed o d p dropped on → IsCalm t d.sight
  drop-counted (answers.Took is) t missed o d p dropped on counted = calm-same t d.sight (ap (λ (x : Course). x.sight) counted.0)
  drop-counted (answers.Done front) t missed o d p dropped on counted = calm-same t d.sight (ap (λ (x : Course). x.sight) counted.0)
  drop-counted (answers.Buried front) t missed o d p dropped on counted = calm-same t d.sight (ap (λ (x : Course). x.sight) counted.0)
  drop-counted (answers.Conflict time) t missed o d p dropped on counted = calm-same t d.sight (ap (λ (x : Course). x.sight) counted.0)
  drop-counted (answers.NotFound time) t missed o d p dropped on counted = calm-same t d.sight (ap (λ (x : Course). x.sight) counted.0)
  drop-counted (answers.Mismatch second) t missed o d p dropped on counted = calm-same t d.sight (ap (λ (x : Course). x.sight) counted.0)
  drop-counted answers.Exists t missed o d p dropped on counted = calm-same t d.sight (ap (λ (x : Course). x.sight) counted.0)
  drop-counted answers.JournalFull t missed o d p dropped on counted = calm-same t d.sight (ap (λ (x : Course). x.sight) counted.0)
  drop-counted (answers.Damaged bad) t missed o d p dropped on counted = calm-same t d.sight (ap (λ (x : Course). x.sight) counted.0)
  drop-counted answers.Failed t missed o d p dropped on counted = calm-same t d.sight (ap (λ (x : Course). x.sight) counted.0)
  drop-counted answers.NoMemory t missed o d p dropped on counted = calm-same t d.sight (ap (λ (x : Course). x.sight) counted.0)

  dropped-calm : (all : List ℕ) (c : Course) (o : Outcome) (d : Course) (p : Outcome) (dropped on : Bool) → IsDropped device filed all c o d p dropped on
      → IsCalmer c d
  dropped-calm all c o d p dropped on (inl is) =
      calm-join c.sight is.1 d.sight (made-calm Local device filed.name (DropRecord filed all) c.sight (Ok is.0) is.1 is.2)
      (drop-counted is.0 is.1 c.missed o d p dropped on is.3)
  dropped-calm all c o d p dropped on (inr is) = calmer-same c d is.0.0

  module _ (ring : Ring) (place : Place) (all : List ℕ) where
    row-told-calm : (row : Row) (c : Course) (o : Outcome) (d : Course) (p : Outcome) (on : Bool) → IsRowTold device filed ring place all row c o d p on
        → IsCalmer c d
    row-told-calm row c o d p on (inl is) =
        calm-join c.sight is.0.sight d.sight
        (turn-calmer (IsTold device filed ring place row) (told-calm ring place row) (to_tell filed.done all) c o is.0 is.1 true is.2)
        (dropped-calm all is.0 is.1 d p is.3.0 on is.3.1)
    row-told-calm row c o d p on (inr is) =
        turn-calmer (IsTold device filed ring place row) (told-calm ring place row) (to_tell filed.done all) c o d p false is.0

    again-calm : (base : Result (Option Row) DirFault) (c : Course) (o : Outcome) (d : Course) (p : Outcome) (on : Bool)
        → IsReadAgain device filed ring place all base c o d p on → IsCalmer c d
    again-calm (Ok (Some row)) c o d p on is = row-told-calm row c o d p on is
    again-calm (Ok None) c o d p on is = calmer-same c d is.0
    again-calm (Err fault) c o d p on is = calm-same c.sight d.sight (ap (λ (x : Course). x.sight) is.0)

    after-drop-calm : (dropped missed : Bool) (c : Course) (o : Outcome) (d : Course) (p : Outcome) (on : Bool)
        → IsAfterDrop device filed ring place all dropped missed c o d p on → IsCalmer c d
    after-drop-calm true missed c o d p on is = calmer-same c d is.0
    after-drop-calm false true c o d p on is = calmer-same c d is.0
    after-drop-calm false false c o d p on is =
        calm-join c.sight is.1 d.sight (base-calm device filed c.sight (Ok is.0) is.1 is.2) (again-calm is.0 (course is.1 c.missed) o d p on is.3)

    after-base-calm : (base : Result (Option Row) DirFault) (c : Course) (o : Outcome) (d : Course) (p : Outcome) (on : Bool)
        → IsAfterBase device filed ring place all base c o d p on → IsCalmer c d
    after-base-calm (Ok (Some row)) c o d p on is = row-told-calm row c o d p on is
    after-base-calm (Ok None) c o d p on (inl is) =
        calm-join c.sight is.0.sight d.sight (dropped-calm all c o is.0 is.1 is.2 true is.3) (after-drop-calm is.2 is.0.missed is.0 is.1 d p on is.4)
    after-base-calm (Ok None) c o d p on (inr is) = dropped-calm all c o d p false false is.0
    after-base-calm (Err fault) c o d p on is = calm-same c.sight d.sight (ap (λ (x : Course). x.sight) is.0)

    settled-calm : (s : Sight) (o : Outcome) (d : Course) (p : Outcome) (on : Bool) → IsSettled device filed ring place all s o d p on → IsCalm s d.sight
    settled-calm s o d p on is =
        calm-join s is.1 d.sight (base-calm device filed s (Ok is.0) is.1 is.2) (after-base-calm is.0 (course is.1 false) o d p on is.3)

module _ (ring : Ring) (device : ℕ) where
  updated-calm : (filed : Filed) (s : Sight) (o : Outcome) (t : Sight) (p : Outcome) (on : Bool) → IsUpdated ring device filed s o t p on → IsCalm s t
  updated-calm filed s o t p on (inl is) =
      calm-join s is.2.sight t (settled-calm device filed ring is.0 is.1 s o is.2 is.3 on is.6) (calm-same is.2.sight t is.7)
  updated-calm filed s o t p on (inr wants) = calm-same s t wants.0

  gone-over-calm : (got : Result (List Filed) DirFault) (s t : Sight) (p : Outcome) (on : Bool) → IsGoneOver ring device got s t p on → IsCalm s t
  gone-over-calm (Ok records) s t p on (inl is) = turn-calm (IsUpdated ring device) updated-calm is.0 s nothing_yet t p on is.2
  gone-over-calm (Ok records) s t p on (inr is) = calm-same s t is.0
  gone-over-calm (Err fault) s t p on is = calm-same s t is.0

  pub update-calm : (s : Sight) (result : Result Outcome NoMemory) (t : Sight) → IsUpdate ring device s result t → IsCalm s t
  update-calm s (Ok outcome) t is =
      calm-join s is.1 t (stripes-calm device (range_with_len 0 (2 ^ ring.lock_bits)) s is.0 is.1 is.3) (gone-over-calm is.0 is.1 t is.2 true is.4)
  update-calm s (Err wanting) t is =
      calm-join s is.1 t (stripes-calm device (range_with_len 0 (2 ^ ring.lock_bits)) s is.0 is.1 is.3) (gone-over-calm is.0 is.1 t is.2 false is.4)

-- No step at a container tells of a restart: so no push of rows does, wherever a row is sent on to.
use Rattle.std.proofs.Common.{◌≡◌, ℕ, Bool, true, false, List, [], ◌∷◌, ap, inl, inr, refl, Result, Ok, Err}
use Rattle.sw_container_steps.specs.Reads.{parcel_of}
use Rattle.sw_container_steps.specs.declared.cont_answer.ContAnswer.{ContAnswer}
use Rattle.sw_container_steps.specs.declared.cont_change.ContChange.TheVariants.{MergeRow, SetSync}
use Rattle.sw_container_steps.specs.declared.syncing.Parcel.{Parcel}
use Rattle.sw_cont_replicator.specs.Pushing as rows
use Rattle.sw_hashpath.specs.declared.place.Place.{Place}
use Rattle.sw_outside.specs.declared.errors.NoMemory.{NoMemory}
use Rattle.sw_pass.specs.Outcomes.{nothing_yet, sending}
use Rattle.sw_pass.specs.Rings.{replicas_in}
use Rattle.sw_pass.specs.Turns.{InTurn}
use Rattle.sw_pass.specs.declared.outcome.Outcome.{Outcome}
use Rattle.sw_peer.specs.ContSights.{IsLooked}
use Rattle.sw_peer.specs.Sights.{Calls, Sight}
use Rattle.sw_peer.specs.declared.cont_event.ContEvent.TheVariants.{Parceled}
use Rattle.sw_peer.specs.declared.link.Link.TheVariants.{Local, Sent}
use Rattle.sw_peer.specs.declared.link.Lost.{Lost}
use Rattle.sw_redirect.specs.Hearing.{heard_of}
use Rattle.sw_redirect.specs.Sending.{Course, IsAnswered, IsSentOn, IsSentTo, course}
use Rattle.sw_redirect.specs.declared.heard.Heard.{Heard}
use Rattle.sw_redirect.specs.declared.heard.Heard.TheVariants.{Acknowledged, Redirected, Refused}
use Rattle.sw_ring.specs.declared.ring.Ring.{Ring}
use Rattle.sw_rows.specs.declared.row.Row.{Row}
use Rattle.sw_nodes.proofs.Calming.{IsCalm, calm-calls, calm-join, calm-same, calm-trails, changed-calm, turn-calm}

-- ---- a row that is sent on

-- what is known of the nodes is as calm as before
abbrev pub IsCalmer : Course → Course → Type 0
IsCalmer c d = IsCalm c.sight d.sight

pub calmer-same : (c d : Course) → d ≡ c → IsCalmer c d
calmer-same c d same = calm-same c.sight d.sight (ap (λ (x : Course). x.sight) same)

-- several things, one after the other
pub turn-calmer : {A : Type 0} (one : A → Course → Outcome → Course → Outcome → Bool → Type 0)
    → ((x : A) (c : Course) (o : Outcome) (d : Course) (p : Outcome) (on : Bool) → one x c o d p on → IsCalmer c d)
    → (xs : List A) (c : Course) (o : Outcome) (d : Course) (p : Outcome) (on : Bool) → InTurn one xs c o d p on → IsCalmer c d
turn-calmer {A} one each [] c o d p on is = calmer-same c d is.0
turn-calmer {A} one each (x ∷ xs) c o d p on (inl went) =
    calm-join c.sight went.0.sight d.sight (each x c o went.0 went.1 true went.2) (turn-calmer one each xs went.0 went.1 d p on went.3)
turn-calmer {A} one each (x ∷ xs) c o d p on (inr stopped) = each x c o d p false stopped.0

answered-calm : (answer : Result ContAnswer Lost) (t : Sight) (missed : Bool) (o : Outcome) (d : Course) (p : Outcome) (on : Bool)
    → IsAnswered answer t missed o d p on → IsCalm t d.sight
answered-calm (Ok answer) t missed o d p on (inl is) = calm-same t d.sight (ap (λ (x : Course). x.sight) is.1)
answered-calm (Ok answer) t missed o d p on (inr is) = calm-same t d.sight (ap (λ (x : Course). x.sight) is.1)
answered-calm (Err lost) t missed o d p on is = calm-same t d.sight (ap (λ (x : Course). x.sight) is.0)

sent-to-calm : (shard : Place) (row : Row) (to : ℕ) (c : Course) (o : Outcome) (d : Course) (p : Outcome) (on : Bool)
    → IsSentTo shard row to c o d p on → IsCalmer c d
sent-to-calm shard row to c o d p on is =
    calm-join c.sight is.1 d.sight (changed-calm Sent to shard (MergeRow row) c.sight is.0 is.1 is.2)
    (answered-calm is.0 is.1 c.missed (sending o) d p on is.3)

pub sent-on-calm : (ring : Ring) (shard : Place) (row : Row) (s : Sight) (o : Outcome) (d : Course) (p : Outcome) (on : Bool)
    → IsSentOn ring shard row s o d p on → IsCalm s d.sight
sent-on-calm ring shard row s o d p on (inl is) =
    turn-calmer (IsSentTo shard row) (sent-to-calm shard row) (replicas_in ring shard) (course s false) o d p on is.1
sent-on-calm ring shard row s o d p on (inr is) = calm-same s d.sight (ap (λ (x : Course). x.sight) is.1)

-- ---- a push of rows, whatever came of it

parcel-calm : (from to : ℕ) (place : Place) (s : Sight) (r : Result (Result Parcel ContAnswer) Lost) (t : Sight)
    → Calls (IsLooked Local from place (parcel_of to) (λ read. Parceled place to read)) s Local r t → IsCalm s t
parcel-calm from to place s r t p =
    calm-calls (IsLooked Local from place (parcel_of to) (λ read. Parceled place to read)) (λ a x b made. calm-trails a b _ _ refl made.trail) s Local r t p

module _ (from to : ℕ) (place : Place) (ring : Ring) where
  heard-as-calm : (row : Row) (heard : Heard) (s : Sight) (o : Outcome) (t : Sight) (p : Outcome) (on : Bool)
      → rows.IsRowHeardAs ring row heard s o t p on → IsCalm s t
  heard-as-calm row Acknowledged s o t p on is = calm-same s t is.0
  heard-as-calm row (Redirected shard) s o t p on (inl is) =
      calm-join s is.0.sight t (sent-on-calm ring shard row s o is.0 is.1 true is.2) (calm-same is.0.sight t is.3)
  heard-as-calm row (Redirected shard) s o t p on (inr is) =
      calm-join s is.0.sight t (sent-on-calm ring shard row s o is.0 p false is.1) (calm-same is.0.sight t is.2)
  heard-as-calm row (Refused hindrance) s o t p on is = calm-same s t is.0

  heard-calm : (row : Row) (answer : Result ContAnswer Lost) (s : Sight) (o : Outcome) (t : Sight) (p : Outcome) (on : Bool)
      → rows.IsRowHeard ring place row answer s o t p on → IsCalm s t
  heard-calm row (Ok answer) s o t p on is = heard-as-calm row (heard_of place answer) s o t p on is
  heard-calm row (Err lost) s o t p on is = calm-same s t is.0

  row-calm : (row : Row) (s : Sight) (o : Outcome) (t : Sight) (p : Outcome) (on : Bool) → rows.IsRowSent ring to place row s o t p on → IsCalm s t
  row-calm row s o t p on is =
      calm-join s is.1 t (changed-calm Sent to place (MergeRow row) s is.0 is.1 is.2) (heard-calm row is.0 is.1 (sending o) t p on is.3)

  point-calm : (top : ℕ) (s : Sight) (o : Outcome) (t : Sight) (p : Outcome) (kept on : Bool) → rows.IsPointKept from to place top s o t p kept on
      → IsCalm s t
  point-calm top s o t p kept on (inl left) = calm-same s t left.1
  point-calm top s o t p kept on (inr none) = changed-calm Local from place (SetSync to top) s (Ok none.1.0) t none.1.1

  sent-calm : (parcel : Parcel) (s : Sight) (o : Outcome) (t : Sight) (p : Outcome) (kept on : Bool)
      → rows.IsParcelSent from to place ring parcel s o t p kept on → IsCalm s t
  sent-calm parcel s o t p kept on (inl went) =
      calm-join s went.0 t (turn-calm (rows.IsRowSent ring to place) row-calm parcel.rows s o went.0 went.1 true went.2)
      (point-calm parcel.top went.0 went.1 t p kept on went.3)
  sent-calm parcel s o t p kept on (inr stopped) = turn-calm (rows.IsRowSent ring to place) row-calm parcel.rows s o t p false stopped.0

  read-calm : (got : Result Parcel ContAnswer) (s t : Sight) (p : Outcome) (kept on : Bool) → rows.IsReadNext from to place ring got s t p kept on
      → IsCalm s t
  read-calm (Ok parcel) s t p kept on is = sent-calm parcel s nothing_yet t p kept on is
  read-calm (Err answer) s t p kept on is = calm-same s t is.0

  rows-run-calm : (s t : Sight) (p : Outcome) (kept on : Bool) → rows.IsRun from to place ring s t p kept on → IsCalm s t
  rows-run-calm s t p kept on is =
      calm-join s is.1 t (parcel-calm from to place s (Ok is.0) is.1 is.2) (read-calm is.0 is.1 t p kept on is.3)

  pub rows-calm : (s : Sight) (result : Result Outcome NoMemory) (t : Sight) → rows.IsPush from to place ring s result t → IsCalm s t
  rows-calm s (Ok outcome) t push = rows-run-calm s t push.0 push.1 true push.2
  rows-calm s (Err wanting) t push = rows-run-calm s t push.0 false false push.1

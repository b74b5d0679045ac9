-- What each part of a push keeps: where it moves, and why it isn't done.
use Rattle.std.proofs.Common.{◌≡◌, ◌≢◌, ℕ, Bool, true, false, List, [], ◌∷◌, refl, sym, ◌∙◌, ap, subst, ◌⊎◌, inl, inr, Option, Some, None, Result, Ok, Err}
use Rattle.std.proofs.Common.{arith}
use Rattle.std.proofs.lemmas.Bool.{eqb-true}
use Rattle.std.specs.Prelude.{◌==◌, ◌&&◌}
use Rattle.sw_container_steps.specs.declared.cont_answer.ContAnswer.{ContAnswer}
use Rattle.sw_container_steps.specs.declared.cont_change.ContChange.TheVariants.{MergeRow, SetSync}
use Rattle.sw_container_steps.specs.declared.syncing.Parcel.{Parcel}
use Rattle.sw_cont_replicator.proofs.Following.{Leaves, left-leaves}
use Rattle.sw_cont_replicator.proofs.Sending.{PushMoves, made-push, push-same, push-trans, read-push}
use Rattle.sw_cont_replicator.specs.Causes.{HasCauses}
use Rattle.sw_cont_replicator.specs.Pushing.{IsParcelSent, IsPointKept, IsPointSet, IsReadNext, IsRowHeard, IsRowHeardAs, IsRowSent, IsRun, PointCounts}
use Rattle.sw_hashpath.specs.declared.place.Place.{Place}
use Rattle.sw_outside.specs.Faults.{HasRisen}
use Rattle.sw_pass.proofs.Counts.{Counts, HasCause, counts-hinders, counts-keeping, counts-losing, counts-same, counts-sending, counts-trans, keeping-causes}
use Rattle.sw_pass.specs.Outcomes.{Hinders, cont_hindrance, finished_where, keeping, losing, nothing_yet, sending}
use Rattle.sw_pass.specs.Turns.{InTurn}
use Rattle.sw_pass.specs.declared.hindrance.Hindrance.{Hindrance}
use Rattle.sw_pass.specs.declared.outcome.Outcome.{Outcome}
use Rattle.sw_peer.specs.ContSights.{IsContMade}
use Rattle.sw_peer.specs.Sights.{Calls, Sight}
use Rattle.sw_peer.specs.declared.link.Link.TheVariants.{Local, Sent}
use Rattle.sw_peer.specs.declared.link.Lost.{Lost}
use Rattle.sw_redirect.specs.Hearing.{heard_of}
use Rattle.sw_redirect.specs.declared.heard.Heard.{Heard}
use Rattle.sw_redirect.specs.declared.heard.Heard.TheVariants.{Acknowledged, Redirected, Refused}
use Rattle.sw_ring.specs.declared.ring.Ring.{Ring}
use Rattle.sw_rows.specs.declared.row.Row.{Row}

hinders-asked : (h : Option Hindrance) (o p : Outcome) (on : Bool) → Hinders h o p on → p.asked ≡ o.asked
hinders-asked (Some hindrance) o p on is = ap (λ (x : Outcome). x.asked) is.0
hinders-asked None o p on is = ap (λ (x : Outcome). x.asked) is.0

module _ (ring : Ring) (from to : ℕ) (place : Place) where
  pub record Keeps (s : Sight) (o : Outcome) (t : Sight) (p : Outcome) : Type 0 where
    pub moves : PushMoves ring from to place s t
    pub counts : Counts s.faults t.faults o p
    pub asked : p.asked ≡ o.asked

  keeps-same : (s : Sight) (o : Outcome) (t : Sight) (p : Outcome) → PushMoves ring from to place s t → p ≡ o → Keeps s o t p
  keeps-same s o t p moves same = record {
    moves = moves;
    counts = counts-same s.faults t.faults o p same;
    asked = ap (λ (x : Outcome). x.asked) same;
  }

  keeps-trans : (a : Sight) (o : Outcome) (b : Sight) (p : Outcome) (c : Sight) (q : Outcome) → Keeps a o b p → Keeps b p c q → Keeps a o c q
  keeps-trans a o b p c q one two = record {
    moves = push-trans ring from to place a b c one.moves two.moves;
    counts = counts-trans a.faults b.faults c.faults o p q one.moves.faults two.moves.faults one.counts two.counts;
    asked = two.asked ∙ one.asked;
  }

  -- ---- a row

  -- what was heard of it
  heard-keeps : (row : Row) (h : Heard) (s : Sight) (o : Outcome) (t : Sight) (p : Outcome) (on : Bool) → IsRowHeardAs ring row h s o t p on → Keeps s o t p
  heard-keeps row Acknowledged s o t p on is = keeps-same s o t p (push-same ring from to place s t is.0) is.1
  heard-keeps row (Redirected shard) s o t p on is = record { moves = leaves.moves; counts = leaves.counts; asked = leaves.asked }
    where
      leaves : Leaves ring from to place s o t p
      leaves = left-leaves ring from to place shard row s o t p on is
  heard-keeps row (Refused hindrance) s o t p on is = record {
    moves = push-same ring from to place s t is.0;
    counts = counts-hinders s.faults t.faults hindrance o p on is.1;
    asked = hinders-asked hindrance o p on is.1;
  }

  -- and that moves from the receiver's answer on
  pub heard-moves : (row : Row) (r : Result ContAnswer Lost) (s : Sight) (o : Outcome) (t : Sight) (p : Outcome) (on : Bool)
      → IsRowHeard ring place row r s o t p on → PushMoves ring from to place s t
  heard-moves row (Ok answer) s o t p on is = (heard-keeps row (heard_of place answer) s o t p on is).moves
  heard-moves row (Err lost) s o t p on is = push-same ring from to place s t is.0

  pub row-keeps : (row : Row) (s : Sight) (o : Outcome) (t : Sight) (p : Outcome) (on : Bool) → IsRowSent ring to place row s o t p on → Keeps s o t p
  row-keeps row s o t p on is = by is.0 is.2 is.3
    where
      mid : Sight
      mid = is.1

      by : (r : Result ContAnswer Lost) → Calls (IsContMade Sent to place (MergeRow row)) s Sent r mid
          → IsRowHeard ring place row r mid (sending o) t p on → Keeps s o t p
      by (Ok answer) call heard =
          keeps-trans s o mid (sending o) t p
          (record {
            moves = made-push ring from to place Sent to (MergeRow row) s (Ok answer) mid (inr refl) call;
            counts = counts-sending s.faults mid.faults o;
            asked = refl;
          })
          (heard-keeps row (heard_of place answer) mid (sending o) t p on heard)
      by (Err lost) call heard =
          subst (λ (x : Sight). Keeps s o x p) (sym heard.0)
          (subst (λ (x : Outcome). Keeps s o mid x) (sym heard.1) (record {
            moves = moved;
            counts = counts-trans s.faults s.faults mid.faults o (sending o) (losing (sending o)) (omega arith) moved.faults
                (counts-sending s.faults s.faults o) (counts-losing s.faults mid.faults (sending o) call.1);
            asked = refl;
          }))
        where
          moved : PushMoves ring from to place s mid
          moved = made-push ring from to place Sent to (MergeRow row) s (Err lost) mid (inr refl) call

  pub rows-keep : (rows : List Row) (s : Sight) (o : Outcome) (t : Sight) (p : Outcome) (on : Bool) → InTurn (IsRowSent ring to place) rows s o t p on
      → Keeps s o t p
  rows-keep [] s o t p on is = keeps-same s o t p (push-same ring from to place s t is.0) is.1
  rows-keep (row ∷ rows) s o t p on (inl went) =
      keeps-trans s o went.0 went.1 t p (row-keeps row s o went.0 went.1 true went.2) (rows-keep rows went.0 went.1 t p on went.3)
  rows-keep (row ∷ rows) s o t p on (inr stopped) = row-keeps row s o t p false stopped.0

  -- ---- the point

  point-counts : (f g : ℕ) (answer : ContAnswer) (o p : Outcome) (kept on : Bool) → PointCounts answer o p kept on → Counts f g o p × (p.asked ≡ o.asked)
  point-counts f g answer o p kept on (inl held) = (counts-same f g o p held.1, ap (λ (x : Outcome). x.asked) held.1)
  point-counts f g answer o p kept on (inr hindered) = by hindered.2
    where
      by : ((hindrance : Hindrance) × (cont_hindrance answer ≡ Some hindrance) × (p ≡ keeping o hindrance) × (on ≡ true))
          ⊎ ((cont_hindrance answer ≡ None) × (p ≡ o) × (on ≡ false)) → Counts f g o p × (p.asked ≡ o.asked)
      by (inl one) =
          (subst (λ (x : Outcome). Counts f g o x) (sym one.2) (counts-keeping f g o one.0), ap (λ (x : Outcome). x.asked) one.2)
      by (inr wanting) = (counts-same f g o p wanting.1, ap (λ (x : Outcome). x.asked) wanting.1)

  pub point-keeps : (top : ℕ) (s : Sight) (o : Outcome) (t : Sight) (p : Outcome) (kept on : Bool) → IsPointKept from to place top s o t p kept on
      → Keeps s o t p
  point-keeps top s o t p kept on (inl left) = keeps-same s o t p (push-same ring from to place s t left.1) left.2
  point-keeps top s o t p kept on (inr set) =
      let is : IsPointSet from to place top s o t p kept on = set.1 in
      let counts = point-counts s.faults t.faults is.0 o p kept on is.2 in
      record { moves = made-push ring from to place Local from (SetSync to top) s (Ok is.0) t (inl refl) is.1; counts = counts.0; asked = counts.1 }

  -- where it isn't kept, and memory wasn't wanting
  point-causes : (top : ℕ) (s : Sight) (o : Outcome) (t : Sight) (p : Outcome) (kept on : Bool) → IsPointKept from to place top s o t p kept on
      → (o.left ≡ 0) ⊎ HasCause o → kept ≡ false → on ≡ true → HasCause p
  point-causes top s o t p kept on (inl left) (inl none) unkept went = absurd (left.0 none)
  point-causes top s o t p kept on (inl left) (inr cause) unkept went = subst HasCause (sym left.2) cause
  point-causes top s o t p kept on (inr set) before unkept went = by set.1.2
    where
      apart : true ≡ false → ⊥
      apart same = cc

      why : ((hindrance : Hindrance) × (cont_hindrance set.1.0 ≡ Some hindrance) × (p ≡ keeping o hindrance) × (on ≡ true))
          ⊎ ((cont_hindrance set.1.0 ≡ None) × (p ≡ o) × (on ≡ false)) → HasCause p
      why (inl one) = subst HasCause (sym one.2) (keeping-causes o one.0)
      why (inr wanting) = absurd (apart (sym went ∙ wanting.2))

      by : PointCounts set.1.0 o p kept on → HasCause p
      by (inl held) = absurd (apart (sym held.2 ∙ unkept))
      by (inr hindered) = why hindered.2

  -- ---- the whole

  parcel-keeps : (parcel : Parcel) (s : Sight) (o : Outcome) (t : Sight) (p : Outcome) (kept on : Bool) → IsParcelSent from to place ring parcel s o t p kept on
      → Keeps s o t p
  parcel-keeps parcel s o t p kept on (inl sent) =
      keeps-trans s o sent.0 sent.1 t p (rows-keep parcel.rows s o sent.0 sent.1 true sent.2)
      (point-keeps parcel.top sent.0 sent.1 t p kept on sent.3)
  parcel-keeps parcel s o t p kept on (inr stopped) = rows-keep parcel.rows s o t p false stopped.0

  next-keeps : (got : Result Parcel ContAnswer) (s t : Sight) (p : Outcome) (kept on : Bool) → IsReadNext from to place ring got s t p kept on
      → Keeps s nothing_yet t p
  next-keeps (Ok parcel) s t p kept on is = parcel-keeps parcel s nothing_yet t p kept on is
  next-keeps (Err answer) s t p kept on is = record {
    moves = push-same ring from to place s t is.0;
    counts = counts-hinders s.faults t.faults (cont_hindrance answer) nothing_yet p on is.2;
    asked = hinders-asked (cont_hindrance answer) nothing_yet p on is.2;
  }

  pub run-keeps : (s t : Sight) (p : Outcome) (kept on : Bool) → IsRun from to place ring s t p kept on → Keeps s nothing_yet t p
  run-keeps s t p kept on is =
      keeps-trans s nothing_yet is.1 nothing_yet t p (keeps-same s nothing_yet is.1 nothing_yet (read-push ring from to place s is.0 is.1 is.2) refl)
      (next-keeps is.0 is.1 t p kept on is.3)

  -- ---- why it isn't done

  apart : true ≡ false → ⊥
  apart same = cc

  parcel-causes : (parcel : Parcel) (s t : Sight) (p : Outcome) (kept on : Bool) → IsParcelSent from to place ring parcel s nothing_yet t p kept on
      → kept ≡ false → on ≡ true → HasCause p
  parcel-causes parcel s t p kept on (inl sent) unkept went =
      point-causes parcel.top sent.0 sent.1 t p kept on sent.3 (rows-keep parcel.rows s nothing_yet sent.0 sent.1 true sent.2).counts.left unkept went
  parcel-causes parcel s t p kept on (inr stopped) unkept went = absurd (apart (sym went ∙ stopped.2))

  unread-causes : (h : Option Hindrance) (p : Outcome) (on : Bool) → Hinders h nothing_yet p on → on ≡ true → HasCause p
  unread-causes (Some hindrance) p on is went = inr (hindrance, ap (λ (x : Outcome). x.kept) is.0)
  unread-causes None p on is went = absurd (apart (sym went ∙ is.1))

  next-causes : (got : Result Parcel ContAnswer) (s t : Sight) (p : Outcome) (kept on : Bool) → IsReadNext from to place ring got s t p kept on
      → kept ≡ false → on ≡ true → HasCause p
  next-causes (Ok parcel) s t p kept on is unkept went = parcel-causes parcel s t p kept on is unkept went
  next-causes (Err answer) s t p kept on is unkept went = unread-causes (cont_hindrance answer) p on is.2 went

  run-causes : (s t : Sight) (p : Outcome) (kept : Bool) → IsRun from to place ring s t p kept true → HasCauses s t (finished_where kept p)
  run-causes s t p kept is = record {
    asked = keeps.asked;
    done = λ done. eqb-true p.left 0 (whole (p.left == 0) kept done);
    lost = λ some. losses some keeps.counts.lost;
    hindered = λ undone. causes (p.left == 0) kept refl refl undone keeps.counts.left;
  }
    where
      keeps : Keeps s nothing_yet t p
      keeps = run-keeps s t p kept true is

      whole : (a b : Bool) → (a && b) ≡ true → a ≡ true
      whole true b done = refl
      whole false b done = absurd (apart (sym done))

      losses : p.lost ≢ 0 → (p.lost ≡ 0) ⊎ HasRisen s.faults t.faults → HasRisen s.faults t.faults
      losses some (inl none) = absurd (some none)
      losses some (inr risen) = risen

      causes : (none at : Bool) → (p.left == 0) ≡ none → kept ≡ at → (none && at) ≡ false → (p.left ≡ 0) ⊎ HasCause p → HasCause p
      causes none at left point undone (inr cause) = cause
      causes none true left point undone (inl nothing) = absurd (apart (sym (ap (λ (n : ℕ). n == 0) nothing) ∙ (left ∙ both none undone)))
        where
          both : (a : Bool) → (a && true) ≡ false → a ≡ false
          both true same = same
          both false same = refl
      causes none false left point undone (inl nothing) = next-causes is.0 is.1 t p kept true is.3 point refl

  pub push-causes : (s : Sight) (o : Outcome) (t : Sight) (p : Outcome) (kept : Bool) → IsRun from to place ring s t p kept true → o ≡ finished_where kept p
      → HasCauses s t o
  push-causes s o t p kept is same = subst (λ (x : Outcome). HasCauses s t x) (sym same) (run-causes s t p kept is)

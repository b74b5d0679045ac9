-- A row that is sent on to a shard: where that moves, what it counts for, and why a replica of the shard is missed.
use Rattle.std.proofs.Common.{◌≡◌, ℕ, Bool, true, false, List, [], ◌∷◌, refl, sym, ◌∙◌, ap, subst, arith, inl, inr, Option, Some, None, Result, Ok, Err}
use Rattle.std.proofs.lemmas.List.Elements.{All-contains_itself, All-head, All-tail}
use Rattle.std.specs.List.{All}
use Rattle.sw_container_steps.specs.declared.cont_answer.ContAnswer.{ContAnswer}
use Rattle.sw_container_steps.specs.declared.cont_change.ContChange.TheVariants.{MergeRow}
use Rattle.sw_cont_replicator.proofs.Sending.{PushMoves, made-moves, moves-wider, push-same, push-trans}
use Rattle.sw_cont_replicator.specs.Pushing.{IsReached, IsRowLeft}
use Rattle.sw_hashpath.specs.declared.place.Place.{Place}
use Rattle.sw_outside.specs.Faults.{HasRisen}
use Rattle.sw_pass.proofs.Counts.{Counts, HasCause, counts-keeping, counts-same, counts-sending, counts-trans, keeping-causes}
use Rattle.sw_pass.specs.Outcomes.{Keeps, cont_hindrance, leaving, sending, unanswered}
use Rattle.sw_pass.specs.Rings.{replicas_in}
use Rattle.sw_pass.specs.Turns.{InTurn}
use Rattle.sw_pass.specs.declared.hindrance.Hindrance.{Hindrance}
use Rattle.sw_pass.specs.declared.hindrance.Hindrance.TheVariants.{Failed}
use Rattle.sw_pass.specs.declared.outcome.Outcome.{Outcome}
use Rattle.sw_peer.specs.ContSights.{IsContMade, IsIn}
use Rattle.sw_peer.specs.Sights.{Calls, Sight}
use Rattle.sw_peer.specs.declared.link.Link.TheVariants.{Sent}
use Rattle.sw_peer.specs.declared.link.Lost.{Lost}
use Rattle.sw_redirect.specs.Sending.{Course, IsAnswered, IsSentOn, IsSentTo, course}
use Rattle.sw_ring.specs.declared.ring.Ring.{Ring}
use Rattle.sw_rows.specs.declared.row.Row.{Row}

never : true ≡ false → ⊥
never is = cc

-- ---- answers that are kept, or weren't heard

keeps-counts : (f g : ℕ) (h : Option Hindrance) (o p : Outcome) (on : Bool) → Keeps h o p on → Counts f g o p
keeps-counts f g (Some hindrance) o p on is = subst (λ (x : Outcome). Counts f g o x) (sym is.0) (counts-keeping f g o hindrance)
keeps-counts f g None o p on is = counts-same f g o p is.0

keeps-asked : (h : Option Hindrance) (o p : Outcome) (on : Bool) → Keeps h o p on → p.asked ≡ o.asked
keeps-asked (Some hindrance) o p on is = ap (λ (x : Outcome). x.asked) is.0
keeps-asked None o p on is = ap (λ (x : Outcome). x.asked) is.0

keeps-causes : (h : Option Hindrance) (o p : Outcome) (on : Bool) → Keeps h o p on → on ≡ true → HasCause p
keeps-causes (Some hindrance) o p on is went = subst HasCause (sym is.0) (keeping-causes o hindrance)
keeps-causes None o p on is went = absurd (never (sym went ∙ is.1))

unanswered-causes : (o : Outcome) → HasCause (unanswered o)
unanswered-causes o = inl (omega arith)

counts-unanswered : (f g : ℕ) (o : Outcome) → HasRisen f g → Counts f g o (unanswered o)
counts-unanswered f g o risen = record { lost = inr risen; left = inl refl; lasts = λ cause. unanswered-causes o }

-- ---- one replica of the shard, and all

module _ (ring : Ring) (from to : ℕ) (place : Place) where
  -- what a stretch of the sending on keeps; where something was missed, and memory wasn't wanting, that has a cause
  record Follows (c : Course) (o : Outcome) (d : Course) (p : Outcome) (on : Bool) : Type 0 where
    moves : PushMoves ring from to place c.sight d.sight
    counts : Counts c.sight.faults d.sight.faults o p
    asked : p.asked ≡ o.asked
    misses : on ≡ true → (c.missed ≡ true → HasCause o) → d.missed ≡ true → HasCause p

  follows-same : (c : Course) (o : Outcome) (d : Course) (p : Outcome) (on : Bool) → d ≡ c → p ≡ o → Follows c o d p on
  follows-same c o d p on same alike = record {
    moves = push-same ring from to place c.sight d.sight (ap (λ (x : Course). x.sight) same);
    counts = counts-same c.sight.faults d.sight.faults o p alike;
    asked = ap (λ (x : Outcome). x.asked) alike;
    misses = λ went before missed. subst HasCause (sym alike) (before (sym (ap (λ (x : Course). x.missed) same) ∙ missed));
  }

  follows-trans : (c : Course) (o : Outcome) (m : Course) (b : Outcome) (d : Course) (p : Outcome) (on : Bool)
      → Follows c o m b true → Follows m b d p on → Follows c o d p on
  follows-trans c o m b d p on one two = record {
    moves = push-trans ring from to place c.sight m.sight d.sight one.moves two.moves;
    counts = counts-trans c.sight.faults m.sight.faults d.sight.faults o b p one.moves.faults two.moves.faults one.counts two.counts;
    asked = two.asked ∙ one.asked;
    misses = λ went before missed. two.misses went (λ earlier. one.misses refl before earlier) missed;
  }

  module _ (shard : Place) (row : Row) where
    -- what one answered
    record Hears (s mid : Sight) (missed : Bool) (o : Outcome) (d : Course) (p : Outcome) (on : Bool) : Type 0 where
      sight : d.sight ≡ mid
      counts : Counts s.faults mid.faults o p
      asked : p.asked ≡ o.asked
      misses : on ≡ true → (missed ≡ true → HasCause o) → d.missed ≡ true → HasCause p

    hears : (device : ℕ) (s mid : Sight) (r : Result ContAnswer Lost) (missed : Bool) (o : Outcome) (d : Course) (p : Outcome) (on : Bool)
        → Calls (IsContMade Sent device shard (MergeRow row)) s Sent r mid → IsAnswered r mid missed o d p on → Hears s mid missed o d p on
    hears device s mid (Ok answer) missed o d p on call (inl held) = record {
      sight = ap (λ (x : Course). x.sight) held.1;
      counts = counts-same s.faults mid.faults o p held.2;
      asked = ap (λ (x : Outcome). x.asked) held.2;
      misses = λ went before now. subst HasCause (sym held.2) (before (sym (ap (λ (x : Course). x.missed) held.1) ∙ now));
    }
    hears device s mid (Ok answer) missed o d p on call (inr lacks) = record {
      sight = ap (λ (x : Course). x.sight) lacks.1;
      counts = keeps-counts s.faults mid.faults (cont_hindrance answer) o p on lacks.2;
      asked = keeps-asked (cont_hindrance answer) o p on lacks.2;
      misses = λ went before now. keeps-causes (cont_hindrance answer) o p on lacks.2 went;
    }
    hears device s mid (Err lost) missed o d p on call counts = record {
      sight = ap (λ (x : Course). x.sight) counts.0;
      counts = subst (λ (x : Outcome). Counts s.faults mid.faults o x) (sym counts.1) (counts-unanswered s.faults mid.faults o call.1);
      asked = ap (λ (x : Outcome). x.asked) counts.1;
      misses = λ went before now. subst HasCause (sym counts.1) (unanswered-causes o);
    }

    one-follows : (device : ℕ) → IsReached ring from to place device shard → (c : Course) (o : Outcome) (d : Course) (p : Outcome) (on : Bool)
        → IsSentTo shard row device c o d p on → Follows c o d p on
    one-follows device reached c o d p on is = record {
      moves = subst (λ (x : Sight). PushMoves ring from to place c.sight x) (sym heard.sight) moved;
      counts = subst (λ (x : Sight). Counts c.sight.faults x.faults o p) (sym heard.sight)
          (counts-trans c.sight.faults c.sight.faults is.1.faults o (sending o) p (omega arith) moved.faults
          (counts-sending c.sight.faults c.sight.faults o) heard.counts);
      asked = heard.asked;
      misses = heard.misses;
    }
      where
        wider : (d : ℕ) (other : Place) → IsIn device shard d other → IsReached ring from to place d other
        wider d other at =
            subst (λ (x : ℕ). IsReached ring from to place x other) (sym at.0)
            (subst (λ (x : Place). IsReached ring from to place device x) (sym at.1) reached)

        moved : PushMoves ring from to place c.sight is.1
        moved =
            moves-wider (IsIn device shard) (IsReached ring from to place) c.sight is.1 wider
            (made-moves Sent device shard (MergeRow row) c.sight is.0 is.1 is.2)

        heard : Hears c.sight is.1 c.missed (sending o) d p on
        heard = hears device c.sight is.1 is.0 c.missed (sending o) d p on is.2 is.3

    all-follow : (devices : List ℕ) → All (λ (d : ℕ). IsReached ring from to place d shard) devices → (c : Course) (o : Outcome) (d : Course) (p : Outcome)
        (on : Bool) → InTurn (IsSentTo shard row) devices c o d p on → Follows c o d p on
    all-follow [] reached c o d p on is = follows-same c o d p on is.0 is.1
    all-follow (device ∷ devices) reached c o d p on (inl went) =
        follows-trans c o went.0 went.1 d p on
        (one-follows device (All-head (λ (x : ℕ). IsReached ring from to place x shard) device devices reached) c o went.0 went.1 true went.2)
        (all-follow devices (All-tail (λ (x : ℕ). IsReached ring from to place x shard) device devices reached) went.0 went.1 d p on went.3)
    all-follow (device ∷ devices) reached c o d p on (inr stopped) =
        subst (λ (b : Bool). Follows c o d p b) (sym stopped.1)
        (one-follows device (All-head (λ (x : ℕ). IsReached ring from to place x shard) device devices reached) c o d p false stopped.0)

    sent-follows : (s : Sight) (o : Outcome) (d : Course) (p : Outcome) (on : Bool) → IsSentOn ring shard row s o d p on → Follows (course s false) o d p on
    sent-follows s o d p on (inl sent) =
        all-follow (replicas_in ring shard) (λ k x lt. inr (All-contains_itself (replicas_in ring shard) k x lt)) (course s false) o d p on sent.1
    sent-follows s o d p on (inr unknown) = record {
      moves = push-same ring from to place s d.sight (ap (λ (x : Course). x.sight) unknown.1);
      counts = keeps-counts s.faults d.sight.faults (Some Failed) o p on unknown.2;
      asked = keeps-asked (Some Failed) o p on unknown.2;
      misses = λ went before now. keeps-causes (Some Failed) o p on unknown.2 went;
    }

  -- ---- and whether the row is left

  leaving-counts : (f g : ℕ) (missed : Bool) (o b : Outcome) → (missed ≡ true → HasCause b) → Counts f g o b → Counts f g o (leaving missed b)
  leaving-counts f g true o b cause counts = record { lost = counts.lost; left = inr (cause refl); lasts = λ before. cause refl }
  leaving-counts f g false o b cause counts = counts

  leaving-asked : (missed : Bool) (b : Outcome) → (leaving missed b).asked ≡ b.asked
  leaving-asked true b = refl
  leaving-asked false b = refl

  -- what a row that the receiver left to a shard keeps
  pub record Leaves (s : Sight) (o : Outcome) (t : Sight) (p : Outcome) : Type 0 where
    pub moves : PushMoves ring from to place s t
    pub counts : Counts s.faults t.faults o p
    pub asked : p.asked ≡ o.asked

  pub left-leaves : (shard : Place) (row : Row) (s : Sight) (o : Outcome) (t : Sight) (p : Outcome) (on : Bool) → IsRowLeft ring row shard s o t p on
      → Leaves s o t p
  left-leaves shard row s o t p on (inl went) = record {
    moves = subst (λ (x : Sight). PushMoves ring from to place s x) (sym went.3) follows.moves;
    counts = subst (λ (x : Sight). Counts s.faults x.faults o p) (sym went.3)
        (subst (λ (x : Outcome). Counts s.faults went.0.sight.faults o x) (sym went.4)
        (leaving-counts s.faults went.0.sight.faults went.0.missed o went.1 (follows.misses refl (λ is. absurd (never (sym is)))) follows.counts));
    asked = ap (λ (x : Outcome). x.asked) went.4 ∙ (leaving-asked went.0.missed went.1 ∙ follows.asked);
  }
    where
      follows : Follows (course s false) o went.0 went.1 true
      follows = sent-follows shard row s o went.0 went.1 true went.2
  left-leaves shard row s o t p on (inr stopped) = record {
    moves = subst (λ (x : Sight). PushMoves ring from to place s x) (sym stopped.2) follows.moves;
    counts = subst (λ (x : Sight). Counts s.faults x.faults o p) (sym stopped.2) follows.counts;
    asked = follows.asked;
  }
    where
      follows : Follows (course s false) o stopped.0 p false
      follows = sent-follows shard row s o stopped.0 p false stopped.1

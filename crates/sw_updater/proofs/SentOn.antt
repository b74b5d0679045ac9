-- What sending a row on to a shard keeps: objects and what is left stay, faults don't fall, and what was missed has a cause.
use Rattle.std.proofs.Common.{◌≡◌, ◌≤◌, ◌∙◌, ℕ, true, false, List, [], ◌∷◌, ap, inl, inr, refl, subst, sym, arith, Option, Some, None, Result, Ok, Err}
use Rattle.sw_container_steps.specs.declared.cont_answer.ContAnswer.{ContAnswer}
use Rattle.sw_container_steps.specs.declared.cont_change.ContChange.TheVariants.{MergeRow}
use Rattle.sw_hashpath.specs.declared.place.Place.{Place}
use Rattle.sw_pass.specs.Outcomes.{Keeps, cont_hindrance, sending}
use Rattle.sw_pass.specs.Rings.{replicas_in}
use Rattle.sw_pass.specs.Turns.{InTurn}
use Rattle.sw_pass.specs.declared.hindrance.Hindrance.{Hindrance}
use Rattle.sw_pass.specs.declared.hindrance.Hindrance.TheVariants.{Failed}
use Rattle.sw_pass.specs.declared.outcome.Outcome.{Outcome}
use Rattle.sw_peer.specs.ContSights.{IsContMade}
use Rattle.sw_peer.specs.Sights.{Calls, Sight}
use Rattle.sw_peer.specs.declared.link.Link.TheVariants.{Sent}
use Rattle.sw_peer.specs.declared.link.Lost.{Lost}
use Rattle.sw_redirect.proofs.Calling.{made-moves as cont-moves}
use Rattle.sw_redirect.specs.Sending.{Course, IsAnswered, IsSentOn, IsSentTo, course}
use Rattle.sw_ring.specs.declared.ring.Ring.{Ring}
use Rattle.sw_rows.specs.declared.row.Row.{Row}
use Rattle.sw_updater.proofs.Following.{Follows, cont-call-follows, follows-refl, follows-trans}
use Rattle.sw_updater.proofs.Passing.{Goes, apart, goes-missed, goes-on, goes-sending, goes-trans, goes-unanswered}

pub record SendsOn (c : Course) (o : Outcome) (d : Course) (p : Outcome) : Type 0 where
  pub goes : Goes c o d p
  pub follows : Follows c.sight d.sight
  pub left : p.left ≡ o.left

sends-trans : (a : Course) (o : Outcome) (b : Course) (p : Outcome) (c : Course) (q : Outcome) → SendsOn a o b p → SendsOn b p c q → SendsOn a o c q
sends-trans a o b p c q one two = record {
  goes = goes-trans a o b p c q one.goes two.goes;
  follows = follows-trans a.sight b.sight c.sight one.follows two.follows;
  left = two.left ∙ one.left;
}

-- nothing was missed
sends-on : (c : Course) (t : Sight) (o : Outcome) (d : Course) (p : Outcome) → c.sight.faults ≤ t.faults → Follows c.sight t → d ≡ course t c.missed → p ≡ o
    → SendsOn c o d p
sends-on c t o d p up follows is same = record {
  goes = goes-on c t o d p up is same;
  follows = subst (λ (x : Course). Follows c.sight x.sight) (sym is) follows;
  left = ap (λ (x : Outcome). x.left) same;
}

-- something was, by an answer that is kept
sends-missed : (h : Option Hindrance) (c : Course) (t : Sight) (o : Outcome) (d : Course) (p : Outcome) → c.sight.faults ≤ t.faults → Follows c.sight t
    → d ≡ course t true → Keeps h o p true → SendsOn c o d p
sends-missed h c t o d p up follows is keeps = record {
  goes = goes-missed h c t o d p up is keeps;
  follows = subst (λ (x : Course). Follows c.sight x.sight) (sym is) follows;
  left = unleft h keeps;
}
  where
    unleft : (x : Option Hindrance) → Keeps x o p true → p.left ≡ o.left
    unleft (Some hindrance) kept = ap (λ (y : Outcome). y.left) kept.0
    unleft None kept = ap (λ (y : Outcome). y.left) kept.0

module _ (shard : Place) (row : Row) where
  sent-to : (to : ℕ) (c : Course) (o : Outcome) (d : Course) (p : Outcome) → IsSentTo shard row to c o d p true → SendsOn c o d p
  sent-to to c o d p is =
      sends-trans c o c (sending o) d p (record { goes = goes-sending c o; follows = follows-refl c.sight; left = refl }) (by is.0 is.2 is.3)
    where
      mid : Sight
      mid = is.1

      up : c.sight.faults ≤ mid.faults
      up = (cont-moves Sent to shard (MergeRow row) c.sight is.0 mid is.2).faults

      follows : Follows c.sight mid
      follows = cont-call-follows Sent to shard (MergeRow row) c.sight is.0 mid is.2

      by : (answer : Result ContAnswer Lost) → Calls (IsContMade Sent to shard (MergeRow row)) c.sight Sent answer mid
          → IsAnswered answer mid c.missed (sending o) d p true → SendsOn c (sending o) d p
      by (Ok answer) call (inl has) = sends-on c mid (sending o) d p up follows has.1 has.2
      by (Ok answer) call (inr lacks) = sends-missed (cont_hindrance answer) c mid (sending o) d p up follows lacks.1 lacks.2
      by (Err lost) call none = record {
        goes = goes-unanswered c mid (sending o) d p up call.1 none.0 none.1;
        follows = subst (λ (x : Course). Follows c.sight x.sight) (sym none.0) follows;
        left = ap (λ (x : Outcome). x.left) none.1;
      }

  sent-to-all : (devices : List ℕ) (c : Course) (o : Outcome) (d : Course) (p : Outcome) → InTurn (IsSentTo shard row) devices c o d p true → SendsOn c o d p
  sent-to-all [] c o d p is = sends-on c c.sight o d p (omega arith) (follows-refl c.sight) is.0 is.1
  sent-to-all (to ∷ devices) c o d p (inl went) =
      sends-trans c o went.0 went.1 d p (sent-to to c o went.0 went.1 went.2) (sent-to-all devices went.0 went.1 d p went.3)
  sent-to-all (to ∷ devices) c o d p (inr stopped) = absurd (apart stopped.1)

  pub sent-on : (ring : Ring) (s : Sight) (o : Outcome) (e : Course) (p : Outcome) → IsSentOn ring shard row s o e p true → SendsOn (course s false) o e p
  sent-on ring s o e p (inl known) = sent-to-all (replicas_in ring shard) (course s false) o e p known.1
  sent-on ring s o e p (inr unknown) =
      sends-missed (Some Failed) (course s false) s o e p (omega arith) (follows-refl s) unknown.1 unknown.2

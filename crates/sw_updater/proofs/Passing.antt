-- What each stretch of a pass that goes on keeps: faults don't fall, a loss has one, and what was missed or is left has a cause.
use Rattle.std.proofs.Common.{◌≡◌, ◌≤◌, Bool, true, false, ap, subst, sym, refl, arith, ◌∙◌, ◌⊎◌, inl, inr, Option, Some, None}
use Rattle.sw_outside.specs.Faults.{HasRisen}
use Rattle.sw_pass.proofs.Counts.{Counts, HasCause, counts-hinders, counts-keeping, counts-same, counts-sending, counts-trans, keeping-causes}
use Rattle.sw_pass.specs.Outcomes.{Hinders, Keeps, leaving, sending, unanswered}
use Rattle.sw_pass.specs.declared.hindrance.Hindrance.{Hindrance}
use Rattle.sw_pass.specs.declared.outcome.Outcome.{Outcome}
use Rattle.sw_peer.specs.Sights.{Sight}
use Rattle.sw_redirect.specs.Sending.{Course, course}

pub apart : true ≡ false → ⊥
apart same = cc

-- ---- between records

pub record Passes (s : Sight) (o : Outcome) (t : Sight) (p : Outcome) : Type 0 where
  pub faults : s.faults ≤ t.faults
  pub counts : Counts s.faults t.faults o p
  pub asked : p.asked ≡ o.asked

pub passes-same : (s : Sight) (o : Outcome) (t : Sight) (p : Outcome) → s.faults ≤ t.faults → p ≡ o → Passes s o t p
passes-same s o t p up same = record {
  faults = up;
  counts = counts-same s.faults t.faults o p same;
  asked = ap (λ (x : Outcome). x.asked) same;
}

pub passes-trans : (a : Sight) (o : Outcome) (b : Sight) (p : Outcome) (c : Sight) (q : Outcome) → Passes a o b p → Passes b p c q → Passes a o c q
passes-trans a o b p c q one two = record {
  faults = omega (arith, one.faults, two.faults);
  counts = counts-trans a.faults b.faults c.faults o p q one.faults two.faults one.counts two.counts;
  asked = two.asked ∙ one.asked;
}

pub passes-hindered : (h : Option Hindrance) (s : Sight) (o : Outcome) (p : Outcome) (on : Bool) → Hinders h o p on → Passes s o s p
passes-hindered h s o p on is = record { faults = omega arith; counts = counts-hinders s.faults s.faults h o p on is; asked = unasked h is }
  where
    unasked : (x : Option Hindrance) → Hinders x o p on → p.asked ≡ o.asked
    unasked (Some hindrance) hinders = ap (λ (y : Outcome). y.asked) hinders.0
    unasked None hinders = ap (λ (y : Outcome). y.asked) hinders.0

-- ---- within a record

pub record Goes (c : Course) (o : Outcome) (d : Course) (p : Outcome) : Type 0 where
  pub passes : Passes c.sight o d.sight p
  pub missed : d.missed ≡ true → (c.missed ≡ true) ⊎ HasCause p

-- where nothing was missed before
missed-cause : (q : Outcome) → (false ≡ true) ⊎ HasCause q → HasCause q
missed-cause q (inl same) = absurd (apart (sym same))
missed-cause q (inr cause) = cause

pub goes-trans : (a : Course) (o : Outcome) (b : Course) (p : Outcome) (c : Course) (q : Outcome) → Goes a o b p → Goes b p c q → Goes a o c q
goes-trans a o b p c q one two = record {
  passes = passes-trans a.sight o b.sight p c.sight q one.passes two.passes;
  missed = λ is. before (two.missed is);
}
  where
    lasting : (a.missed ≡ true) ⊎ HasCause p → (a.missed ≡ true) ⊎ HasCause q
    lasting (inl was) = inl was
    lasting (inr cause) = inr (two.passes.counts.lasts cause)

    before : (b.missed ≡ true) ⊎ HasCause q → (a.missed ≡ true) ⊎ HasCause q
    before (inl was) = lasting (one.missed was)
    before (inr cause) = inr cause

-- nothing was missed
pub goes-on : (c : Course) (t : Sight) (o : Outcome) (d : Course) (p : Outcome) → c.sight.faults ≤ t.faults → d ≡ course t c.missed → p ≡ o → Goes c o d p
goes-on c t o d p up is same =
    subst (λ (x : Course). Goes c o x p) (sym is) (record { passes = passes-same c.sight o t p up same; missed = λ was. inl was })

-- something was, by an answer that is kept
pub goes-missed : (h : Option Hindrance) (c : Course) (t : Sight) (o : Outcome) (d : Course) (p : Outcome) → c.sight.faults ≤ t.faults → d ≡ course t true
    → Keeps h o p true → Goes c o d p
goes-missed (Some hindrance) c t o d p up is keeps =
    subst (λ (x : Course). Goes c o x p) (sym is)
    (subst (λ (x : Outcome). Goes c o (course t true) x) (sym keeps.0)
    (record {
      passes = record { faults = up; counts = counts-keeping c.sight.faults t.faults o hindrance; asked = refl };
      missed = λ was. inr (keeping-causes o hindrance);
    }))
goes-missed None c t o d p up is keeps = absurd (apart keeps.1)

-- a message goes out
pub goes-sending : (c : Course) (o : Outcome) → Goes c o c (sending o)
goes-sending c o = record {
  passes = record { faults = omega arith; counts = counts-sending c.sight.faults c.sight.faults o; asked = refl };
  missed = λ was. inl was;
}

-- and isn't answered
pub goes-unanswered : (c : Course) (t : Sight) (o : Outcome) (d : Course) (p : Outcome) → c.sight.faults ≤ t.faults → HasRisen c.sight.faults t.faults
    → d ≡ course t true → p ≡ unanswered o → Goes c o d p
goes-unanswered c t o d p up risen is same =
    subst (λ (x : Course). Goes c o x p) (sym is)
    (subst (λ (x : Outcome). Goes c o (course t true) x) (sym same)
    (record {
      passes = record {
        faults = up;
        counts = record { lost = inr risen; left = inl refl; lasts = λ cause. inl (omega arith) };
        asked = refl;
      };
      missed = λ was. inr (inl (omega arith));
    }))

-- ---- aside, as at the replicas of a shard

-- what was missed there isn't missed for the record
pub goes-aside : (c : Course) (o : Outcome) (e : Course) (p : Outcome) → Goes (course c.sight false) o e p → Goes c o (course e.sight c.missed) p
goes-aside c o e p goes = record { passes = goes.passes; missed = λ was. inl was }

-- or it is
pub goes-behind : (c : Course) (o : Outcome) (e : Course) (q : Outcome) (d : Course) (p : Outcome) → Goes (course c.sight false) o e q → e.missed ≡ true
    → d ≡ course e.sight true → p ≡ q → Goes c o d p
goes-behind c o e q d p goes lacks is same =
    subst (λ (x : Course). Goes c o x p) (sym is)
    (subst (λ (x : Outcome). Goes c o (course e.sight true) x) (sym same)
    (record { passes = goes.passes; missed = λ was. inr (missed-cause q (goes.missed lacks)) }))

-- ---- the end of a record

pub passes-left : (s : Sight) (o : Outcome) (d : Course) (q : Outcome) → Goes (course s false) o d q → Passes s o d.sight (leaving d.missed q)
passes-left s o d q goes = by d.missed goes.missed
  where
    passes : Passes s o d.sight q
    passes = goes.passes

    by : (missed : Bool) → (missed ≡ true → (false ≡ true) ⊎ HasCause q) → Passes s o d.sight (leaving missed q)
    by false why = passes
    by true why = record {
      faults = passes.faults;
      counts = record { lost = passes.counts.lost; left = inr (missed-cause q (why refl)); lasts = λ cause. passes.counts.lasts cause };
      asked = passes.asked;
    }

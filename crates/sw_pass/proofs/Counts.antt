-- What counts do over a stretch of a pass, and why something is left.
use Rattle.std.proofs.Common.{◌≡◌, ◌≢◌, ℕ, ◌≤◌, Bool, sym, ap, subst, refl, arith, ◌∙◌, ◌⊎◌, inl, inr, Option, Some, None}
use Rattle.sw_outside.specs.Faults.{HasRisen}
use Rattle.sw_pass.specs.Outcomes.{Hinders, asking, first_kept, hindered, keeping, losing, sending}
use Rattle.sw_pass.specs.declared.hindrance.Hindrance.{Hindrance}
use Rattle.sw_pass.specs.declared.outcome.Outcome.{Outcome}

-- why something is left
abbrev pub HasCause : Outcome → Type 0
HasCause o = (o.lost ≢ 0) ⊎ ((hindrance : Hindrance) × (o.kept ≡ Some hindrance))

-- what counts do over a stretch in which the door's faults went from f to g: losses have a fault, and what is left has a cause
pub record Counts (f g : ℕ) (o p : Outcome) : Type 0 where
  pub lost : (p.lost ≡ o.lost) ⊎ HasRisen f g
  pub left : (p.left ≡ o.left) ⊎ HasCause p
  pub lasts : HasCause o → HasCause p

pub counts-same : (f g : ℕ) (o p : Outcome) → p ≡ o → Counts f g o p
counts-same f g o p same = record {
  lost = inl (ap (λ (x : Outcome). x.lost) same);
  left = inl (ap (λ (x : Outcome). x.left) same);
  lasts = λ cause. subst HasCause (sym same) cause;
}

pub risen-later : (a b c : ℕ) → b ≤ c → HasRisen a b → HasRisen a c
risen-later a b c up (inl more) = inl (omega (arith, more, up))
risen-later a b c up (inr end) = inr (omega (arith, end, up))

pub risen-earlier : (a b c : ℕ) → a ≤ b → HasRisen b c → HasRisen a c
risen-earlier a b c up (inl more) = inl (omega (arith, more, up))
risen-earlier a b c up (inr end) = inr end

pub counts-trans : (f g h : ℕ) (o p q : Outcome) → f ≤ g → g ≤ h → Counts f g o p → Counts g h p q → Counts f h o q
counts-trans f g h o p q up later one two = record {
  lost = losses one.lost two.lost;
  left = lefts one.left two.left;
  lasts = λ cause. two.lasts (one.lasts cause);
}
  where
    losses : (p.lost ≡ o.lost) ⊎ HasRisen f g → (q.lost ≡ p.lost) ⊎ HasRisen g h → (q.lost ≡ o.lost) ⊎ HasRisen f h
    losses (inr risen) next = inr (risen-later f g h later risen)
    losses (inl same) (inr risen) = inr (risen-earlier f g h up risen)
    losses (inl same) (inl again) = inl (again ∙ same)

    lefts : (p.left ≡ o.left) ⊎ HasCause p → (q.left ≡ p.left) ⊎ HasCause q → (q.left ≡ o.left) ⊎ HasCause q
    lefts first (inr cause) = inr cause
    lefts (inr cause) (inl again) = inr (two.lasts cause)
    lefts (inl same) (inl again) = inl (again ∙ same)

pub counts-asking : (f g : ℕ) (o : Outcome) → Counts f g o (asking o)
counts-asking f g o = record { lost = inl refl; left = inl refl; lasts = λ cause. cause }

pub counts-sending : (f g : ℕ) (o : Outcome) → Counts f g o (sending o)
counts-sending f g o = record { lost = inl refl; left = inl refl; lasts = λ cause. cause }

pub counts-losing : (f g : ℕ) (o : Outcome) → HasRisen f g → Counts f g o (losing o)
counts-losing f g o risen = record { lost = inr risen; left = inr (inl (omega arith)); lasts = λ cause. inl (omega arith) }

first-is : (kept : Option Hindrance) (hindrance : Hindrance) → (h : Hindrance) × (first_kept kept hindrance ≡ Some h)
first-is None hindrance = (hindrance, refl)
first-is (Some h) hindrance = (h, refl)

pub counts-hindered : (f g : ℕ) (o : Outcome) (hindrance : Hindrance) → Counts f g o (hindered o hindrance)
counts-hindered f g o hindrance = record {
  lost = inl refl;
  left = inr (inr (first-is o.kept hindrance));
  lasts = λ cause. inr (first-is o.kept hindrance);
}

-- an answer that is kept, where nothing that is counted is left by it
pub keeping-causes : (o : Outcome) (hindrance : Hindrance) → HasCause (keeping o hindrance)
keeping-causes o hindrance = inr (first-is o.kept hindrance)

pub counts-keeping : (f g : ℕ) (o : Outcome) (hindrance : Hindrance) → Counts f g o (keeping o hindrance)
counts-keeping f g o hindrance = record { lost = inl refl; left = inl refl; lasts = λ cause. keeping-causes o hindrance }

pub counts-hinders : (f g : ℕ) (h : Option Hindrance) (o p : Outcome) (on : Bool) → Hinders h o p on → Counts f g o p
counts-hinders f g (Some hindrance) o p on is = subst (λ (x : Outcome). Counts f g o x) (sym is.0) (counts-hindered f g o hindrance)
counts-hinders f g None o p on is = counts-same f g o p is.0

pub hinders-of : (h k : Option Hindrance) (o p : Outcome) (on : Bool) → h ≡ k → Hinders h o p on → Hinders k o p on
hinders-of h k o p on same is = subst (λ (x : Option Hindrance). Hinders x o p on) same is

-- the same from counts that are alike
pub hinders-from : (h k : Option Hindrance) (o q p : Outcome) (on : Bool) → h ≡ k → o ≡ q → Hinders h o p on → Hinders k q p on
hinders-from h k o q p on same alike is = subst (λ (x : Outcome). Hinders k x p on) alike (hinders-of h k o p on same is)

-- A step of what the lock has, told of what was seen of it before.
use Rattle.std.proofs.Common.{◌≡◌, ℕ, ◌≤◌, Bool, true, List, ap, sym, refl, ◌∙◌, subst, arith, inl, inr}
use Rattle.std.specs.List.{fold}
use Rattle.sw_history.proofs.Growing.{grows-trans}
use Rattle.sw_history.specs.Halves.{GrowsOf}
use Rattle.sw_outside.specs.Faults.{HasRisen}
use Rattle.sw_shared.specs.Laws.{SharedReads, SharedSteps}
use Rattle.sw_step.specs.Journals.{StepHistory}
use Rattle.std.specs.Str.{bytes_eq}
use Rattle.sw_object_steps.specs.Histories.{got_look}
use Rattle.sw_object_steps.specs.Journals.{Shows}
use Rattle.sw_object_steps.specs.Recorded.{doubts_write}
use Rattle.sw_object_steps.specs.Rules.{obj_rules}
use Rattle.sw_step.specs.Rules.{CanStand, RulesOf}
use Rattle.sw_step.specs.Steps.{Look, OnlySettles, StepReads}

-- a count that has risen since has risen since before
rises-from : (a b n : ℕ) → a ≤ b → HasRisen b n → HasRisen a n
rises-from a b n less (inl more) = inl (omega (arith, less, more))
rises-from a b n less (inr full) = inr full

pub shares-steps : (K V E C A : Type 0) → SharedSteps K V E C A
shares-steps K V E C A r alone seen h held s key change answer g t before same c = record {
  own = c.own;
  before = c.before;
  looked = c.looked;
  read = c.read;
  made = c.made;
  follows = grows-trans seen h c.before before c.follows;
  settles = λ a. subst (λ (z : StepHistory K V E). OnlySettles r (r.reaches key) z c.before) (sym (same a).0) (c.settles refl);
  settled = c.settled;
  answered = c.answered;
  orderly = c.orderly;
  after = c.after;
  failed = λ f. rises-from seen.faults h.faults g.faults before.faults (c.failed f);
  known = c.known;
  kept = λ a told other is. subst (λ (z : K → V). CanStand r c.before other (z other)) (sym (same a).1) (c.kept refl told other is);
  held = λ a told looked. c.held refl told looked ∙ ap (λ (z : K → V). z key) (sym (same a).1);
  leaves = λ a told. c.leaves refl told ∙ ap (λ (z : K → V). fold r.applied (z key) c.made) (sym (same a).1);
}

module _ {K V E C A B : Type 0} where
  pub shares-reads : (r : RulesOf K V E C A) (alone : Bool) (seen h : StepHistory K V E) (at : K → Bool) (touched : List E → Bool) (look : B → Look)
      (reading : (K → V) → ℕ → B → Type 0) (got : B) (g : StepHistory K V E) (t : K → V) → GrowsOf seen h → (alone ≡ true → seen ≡ h)
      → StepReads r true h at touched look reading got g t → StepReads r alone seen at touched look reading got g t
  shares-reads r alone seen h at touched look reading got g t before same c = record {
    read = c.read;
    follows = grows-trans seen h g before c.follows;
    settles = λ a. subst (λ (z : StepHistory K V E). OnlySettles r at z g) (sym (same a)) (c.settles refl);
    settled = c.settled;
    shown = c.shown;
    orderly = c.orderly;
    failed = λ f. rises-from seen.faults h.faults g.faults before.faults (c.failed f);
    known = c.known;
    kept = λ a told key is. c.kept refl told key is;
    held = λ a told tells key is. c.held refl told tells key is;
  }

pub shares-names : SharedReads
shares-names alone seen h hash got g t before same c = shares-reads obj_rules alone seen h (λ key. bytes_eq key hash) doubts_write got_look
    (λ read front x. Shows g.told (read hash).state front x) got g t before same c

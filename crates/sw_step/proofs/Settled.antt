-- What settling enters.
use Rattle.std.proofs.Common.{◌≡◌, ℕ, zero, suc, Bool, List, [], ◌∷◌, ◌++◌, refl, sym, ◌∙◌, ap, subst, inl, inr, ◌⊎◌, append_assoc}
use Rattle.std.specs.List.{fold}
use Rattle.std.proofs.lemmas.List.{append-nil}
use Rattle.sw_step.specs.Journals.{StepHistory, StepJournal, flat}
use Rattle.sw_step.specs.Laws.{AllAmong, EntersDoubtsAlone, IsAmong, NoDoubtsTell, NothingToSettle}
use Rattle.sw_step.specs.Rules.{AreChosen, CanStand, RulesOf, stands}
use Rattle.sw_step.specs.Steps.{Settles, SettlesOne, StepChanges, added_by}

among-middle : {X : Type 0} (front : List X) (x : X) (behind : List X) → IsAmong (front ++ x ∷ behind) x
among-middle [] x behind = inl refl
among-middle (y ∷ front) x behind = inr (among-middle front x behind)

among-more : {X : Type 0} (front : List X) (d : X) (behind : List X) (x : X) → IsAmong (front ++ behind) x → IsAmong (front ++ d ∷ behind) x
among-more [] d behind x is = inr is
among-more (y ∷ front) d behind x (inl is) = inl is
among-more (y ∷ front) d behind x (inr is) = inr (among-more front d behind x is)

all-more : {X : Type 0} (front : List X) (d : X) (behind xs : List X) → AllAmong (front ++ behind) xs → AllAmong (front ++ d ∷ behind) xs
all-more front d behind [] all = tt
all-more front d behind (x ∷ xs) all = (among-more front d behind x all.0, all-more front d behind xs all.1)

no-list : {X : Type 0} (xs : List X) (x : X) (ys : List X) → [] ≡ xs ++ x ∷ ys → ⊥
no-list [] x ys is = cc
no-list (z ∷ xs) x ys is = cc

module _ {K V E C A : Type 0} (r : RulesOf K V E C A) where
  pub enters : EntersDoubtsAlone r
  enters at zero j after same = ([], ap (λ (x : StepJournal E). x.entries) same ∙ sym (append-nil j.entries), tt)
  enters at (suc n) j after more = by more.1.settled (enters at n more.0 after more.2)
    where
      one : SettlesOne r at j more.0
      one = more.1

      lifted : (xs : List (List E)) → more.0.doubts ≡ one.front ++ one.behind → AllAmong more.0.doubts xs → AllAmong j.doubts xs
      lifted xs is all = subst (λ (ds : List (List E)). AllAmong ds xs) (sym one.among)
          (all-more one.front one.doubt one.behind xs (subst (λ (ds : List (List E)). AllAmong ds xs) is all))

      by : (more.0 ≡ record j { doubts = one.front ++ one.behind })
          ⊎ (more.0 ≡ record j { entries = j.entries ++ one.doubt; doubts = one.front ++ one.behind })
          → ((entered : List (List E)) × (after.entries ≡ more.0.entries ++ flat entered) × AllAmong more.0.doubts entered)
          → (entered : List (List E)) × (after.entries ≡ j.entries ++ flat entered) × AllAmong j.doubts entered
      by (inl gone) rest = (
        rest.0,
        rest.1 ∙ ap (λ (x : StepJournal E). x.entries ++ flat rest.0) gone,
        lifted rest.0 (ap (λ (x : StepJournal E). x.doubts) gone) rest.2,
      )
      by (inr come) rest = (
        one.doubt ∷ rest.0,
        rest.1 ∙ (ap (λ (x : StepJournal E). x.entries ++ flat rest.0) come ∙ append_assoc j.entries one.doubt (flat rest.0)),
        (
          subst (λ (ds : List (List E)). IsAmong ds one.doubt) (sym one.among) (among-middle one.front one.doubt one.behind),
          lifted rest.0 (ap (λ (x : StepJournal E). x.doubts) come) rest.2,
        ),
      )

  pub nothing : NothingToSettle r
  nothing at zero j after same none = same
  nothing at (suc n) j after more none = absurd (no-list more.1.front more.1.doubt more.1.behind (sym none ∙ more.1.among))

  pub tell : NoDoubtsTell r
  tell h key v can none =
      let is : can.0 ≡ [] = subst (λ (ds : List (List E)). AreChosen r ds can.0) none can.1 in
      can.2 ∙ ap (λ (es : List E). fold r.applied (stands r h key) es) is

  chosen-nothing : (ds : List (List E)) → AreChosen r ds []
  chosen-nothing [] = refl
  chosen-nothing (d ∷ ds) = ([], chosen-nothing ds, inl refl)

  -- a key may always stand for what its entries tell
  pub can-tell : (h : StepHistory K V E) (key : K) → CanStand r h key (stands r h key)
  can-tell h key = ([], chosen-nothing _, refl)

  -- some doubts were settled, and then others
  pub settles-both : (at : K → Bool) (n m : ℕ) (j mid after : StepJournal E) → Settles r at n j mid → Settles r at m mid after
      → (k : ℕ) × Settles r at k j after
  settles-both at zero m j mid after same more = (m, subst (λ (x : StepJournal E). Settles r at m x after) same more)
  settles-both at (suc n) m j mid after one more =
      let rest = settles-both at n m one.0 mid after one.2 more in
      (suc rest.0, (one.0, one.1, rest.1))

  -- the entries of a step came in two parts: those of what it settled, and its own
  pub added-is : {alone : Bool} {h : StepHistory K V E} {s : K → V} {key : K} {change : C} {answer : A} {g : StepHistory K V E} {t : V}
      (step : StepChanges r alone h s key change answer g t) → g.journal.entries ≡ h.journal.entries ++ added_by r step
  added-is {h = h} step = step.after.entries.1
      ∙ (ap (λ (es : List E). es ++ step.after.entries.0) step.follows.entries.1
      ∙ append_assoc h.journal.entries step.follows.entries.0 step.after.entries.0)

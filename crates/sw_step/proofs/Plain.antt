-- A plain lock meets the clauses.
use Rattle.std.proofs.Common.{◌≡◌, ℕ, ◌+◌, ◌≤◌, Bool, true, false, List, [], ◌∷◌, ◌++◌, length, refl, sym, ◌∙◌, ap, subst, inl, inr, ◌⊎◌, arith, if◌then◌else◌}
use Rattle.std.proofs.lemmas.List.{append-nil}
use Rattle.sw_outside.specs.Faults.{HasRisen}
use Rattle.sw_history.specs.Halves.{GrowsOf}
use Rattle.sw_step.specs.Journals.{StepHistory, StepJournal, flat}
use Rattle.sw_step.specs.Plain.{CanMake, CanRefuse, CanStop, IsReady, with_journal}
use Rattle.sw_step.specs.Rules.{Damages, Ending, Fails, Makes, Refuses, RulesOf}
use Rattle.sw_step.specs.Steps.{Answers, EndsSeen}

module _ {K V E C A : Type 0} (r : RulesOf K V E C A) (h before : StepHistory K V E) (s : K → V) (key : K) (change : C)
    (ready : IsReady r h before s key change)
  where
    before-grows : GrowsOf h before
    before-grows = record {
      told = ap (λ (x : StepHistory K V E). x.told) ready.same;
      opening = λ k. ap (λ (x : StepHistory K V E). x.opening k) ready.same;
      entries = ready.more;
      max_entries = ready.max_entries;
      max_bytes = ready.max_bytes;
      faults = let same : before.faults ≡ h.faults = ap (λ (x : StepHistory K V E). x.faults) ready.same in omega (arith, same);
    }

    grows-by : (j : StepJournal E) (faults : ℕ) (es : List E) → j.entries ≡ before.journal.entries ++ es → j.max_entries ≡ before.journal.max_entries
        → j.max_bytes ≡ before.journal.max_bytes → before.faults ≤ faults → GrowsOf before (with_journal r before j faults)
    grows-by j faults es entries max_entries max_bytes later = record {
      told = refl;
      opening = λ k. refl;
      entries = (es, entries);
      max_entries = max_entries;
      max_bytes = max_bytes;
      faults = later;
    }

    seen-as : (answer : A) (e : Ending) (made : List E) (after : StepJournal E) → r.ending answer ≡ e
        → EndsSeen r e (s key) before.journal key change answer made after → Answers r true (s key) before.journal key change answer made after
    seen-as answer e made after is so = subst (λ (x : Ending). EndsSeen r x (s key) before.journal key change answer made after) (sym is) so

    not-damaged : (answer : A) (e : Ending) → r.ending answer ≡ e → (e ≡ Damages → ⊥) → r.ending answer ≡ Damages → before.told ≡ false
    not-damaged answer e is apart damaged = absurd (apart (sym is ∙ damaged))

    not-failed : (answer : A) (e : Ending) (g : StepHistory K V E) → r.ending answer ≡ e → (e ≡ Fails → ⊥) → r.ending answer ≡ Fails
        → HasRisen h.faults g.faults
    not-failed answer e g is apart failed = absurd (apart (sym is ∙ failed))

makes-apart : Makes ≡ Damages → ⊥
makes-apart is = cc

makes-fine : Makes ≡ Fails → ⊥
makes-fine is = cc

refuses-apart : Refuses ≡ Damages → ⊥
refuses-apart is = cc

refuses-fine : Refuses ≡ Fails → ⊥
refuses-fine is = cc

fails-apart : Fails ≡ Damages → ⊥
fails-apart is = cc

module _ {K V E C A : Type 0} (r : RulesOf K V E C A) where
  pub can-make : CanMake r
  can-make h before s key change ready allowed room is =
      let es = r.entries_for (s key) key change in
      let j = record before.journal { entries = before.journal.entries ++ es } in
      let answer = r.made_answer (s key) key change (length (before.journal.entries ++ es)) in
      record {
        own = ready.own;
        before = before;
        looked = true;
        read = s key;
        made = es;
        follows = before-grows r h before s key change ready;
        settles = λ x. ready.settles;
        settled = λ x. ready.none;
        answered = seen-as r h before s key change ready answer Makes es j is
            (record { not_refused = allowed; room = room; is_made = refl; entered = refl; answer_is = refl });
        orderly = not-damaged r h before s key change ready answer Makes is makes-apart;
        after = grows-by r h before s key change ready j before.faults es refl refl refl (omega arith);
        failed = not-failed r h before s key change ready answer Makes (with_journal r before j before.faults) is makes-fine;
        known = λ x y. ready.kept key ready.reached;
        kept = λ x y. ready.kept;
        held = λ x y z. refl;
        leaves = λ x y. refl;
      }

  made-or-not : (first : List (List E)) (here : List E) (was : Bool)
      → (flat first ++ (if was then here else []) ≡ flat first) ⊎ ((true ≡ true) × (flat first ++ (if was then here else []) ≡ flat first ++ here))
  made-or-not first here true = inr (refl, refl)
  made-or-not first here false = inl (append-nil (flat first))

  pub can-stop : CanStop r
  can-stop h before s key change answer first here behind was ready allowed room is cut =
      let j = record before.journal { entries = before.journal.entries ++ flat first; doubts = before.journal.doubts ++ here ∷ [] } in
      let made = flat first ++ (if was then here else []) in
      let same : before.faults ≡ h.faults = ap (λ (x : StepHistory K V E). x.faults) ready.same in
      record {
        own = ready.own;
        before = before;
        looked = true;
        read = s key;
        made = made;
        follows = before-grows r h before s key change ready;
        settles = λ x. ready.settles;
        settled = λ x. ready.none;
        answered = seen-as r h before s key change ready answer Fails made j is
            (record {
              not_refused = allowed;
              room = room;
              first = first;
              here = here;
              behind = behind;
              cut = cut;
              doubted = true;
              may_doubt = λ x. refl;
              is_made = made-or-not first here was;
              entered = refl;
            });
        orderly = not-damaged r h before s key change ready answer Fails is fails-apart;
        after = grows-by r h before s key change ready j (before.faults + 1) (flat first) refl refl refl (omega arith);
        failed = λ x. inl (omega (arith, same));
        known = λ x y. ready.kept key ready.reached;
        kept = λ x y. ready.kept;
        held = λ x y z. refl;
        leaves = λ x y. refl;
      }

  pub can-refuse : CanRefuse r
  can-refuse h before s key change answer ready refused is = record {
    own = ready.own;
    before = before;
    looked = true;
    read = s key;
    made = [];
    follows = before-grows r h before s key change ready;
    settles = λ x. ready.settles;
    settled = λ x. ready.none;
    answered = seen-as r h before s key change ready answer Refuses [] before.journal is
        (record { leaves = record { not_made = refl; same = refl }; refused = refused });
    orderly = not-damaged r h before s key change ready answer Refuses is refuses-apart;
    after = record {
      told = refl;
      opening = λ k. refl;
      entries = ([], sym (append-nil before.journal.entries));
      max_entries = refl;
      max_bytes = refl;
      faults = omega arith;
    };
    failed = not-failed r h before s key change ready answer Refuses before is refuses-fine;
    known = λ x y. ready.kept key ready.reached;
    kept = λ x y. ready.kept;
    held = λ x y z. refl;
    leaves = λ x y. refl;
  }

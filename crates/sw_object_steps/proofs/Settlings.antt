-- Settlings one after another, by any rules.
use Rattle.std.proofs.Common.{◌≡◌, ℕ, zero, suc, Bool, true, List, [], ◌++◌, sym, ◌∙◌, ap, subst, inl, inr, ◌⊎◌, append_assoc}
use Rattle.std.proofs.lemmas.List.{append-nil}
use Rattle.sw_step.specs.Journals.{StepHistory, StepJournal}
use Rattle.sw_step.specs.Rules.{RulesOf}
use Rattle.sw_step.specs.Steps.{OnlySettles, Settles, SettlesOne}

module _ {K V E C A : Type 0} (r : RulesOf K V E C A) where
  then-settles : (at : K → Bool) (n : ℕ) (j mid after : StepJournal E) → Settles r at n j mid → (m : ℕ) × Settles r at m mid after
      → (m : ℕ) × Settles r at m j after
  then-settles at zero j mid after same rest = subst (λ (x : StepJournal E). (m : ℕ) × Settles r at m x after) same rest
  then-settles at (suc n) j mid after one rest =
      let all = then-settles at n one.0 mid after one.2 rest in
      (suc all.0, (one.0, one.1, all.1))

  pub settles-more : (at : K → Bool) (h i g : StepHistory K V E) → OnlySettles r at h i → OnlySettles r at i g → OnlySettles r at h g
  settles-more at h i g first next = then-settles at first.0 h.journal i.journal g.journal first.1 next

  wider : (at among : K → Bool) → ((key : K) → at key ≡ true → among key ≡ true) → (n : ℕ) (j after : StepJournal E)
      → Settles r at n j after → Settles r among n j after
  wider at among into zero j after same = same
  wider at among into (suc n) j after one = (
    one.0,
    record {
      front = one.1.front;
      doubt = one.1.doubt;
      behind = one.1.behind;
      among = one.1.among;
      is_at = (one.1.is_at.0, into one.1.is_at.0 one.1.is_at.1, one.1.is_at.2);
      settled = one.1.settled;
    },
    wider at among into n one.0 after one.2,
  )

  -- of more keys
  pub settles-wider : (at among : K → Bool) → ((key : K) → at key ≡ true → among key ≡ true) → (h g : StepHistory K V E)
      → OnlySettles r at h g → OnlySettles r among h g
  settles-wider at among into h g settles = (settles.0, wider at among into settles.0 h.journal g.journal settles.1)

  -- what settling keeps of a journal
  pub record Keeps (j after : StepJournal E) : Type 0 where
    pub entries : (new : List E) × (after.entries ≡ j.entries ++ new)
    pub max_entries : after.max_entries ≡ j.max_entries
    pub max_bytes : after.max_bytes ≡ j.max_bytes

  keeps-one : (at : K → Bool) (j after : StepJournal E) → SettlesOne r at j after → Keeps j after
  keeps-one at j after one = by one.settled
    where
      by : (after ≡ record j { doubts = one.front ++ one.behind })
          ⊎ (after ≡ record j { entries = j.entries ++ one.doubt; doubts = one.front ++ one.behind }) → Keeps j after
      by (inl gone) = record {
        entries = ([], ap (λ (x : StepJournal E). x.entries) gone ∙ sym (append-nil j.entries));
        max_entries = ap (λ (x : StepJournal E). x.max_entries) gone;
        max_bytes = ap (λ (x : StepJournal E). x.max_bytes) gone;
      }
      by (inr come) = record {
        entries = (one.doubt, ap (λ (x : StepJournal E). x.entries) come);
        max_entries = ap (λ (x : StepJournal E). x.max_entries) come;
        max_bytes = ap (λ (x : StepJournal E). x.max_bytes) come;
      }

  pub settles-keeps : (at : K → Bool) (n : ℕ) (j after : StepJournal E) → Settles r at n j after → Keeps j after
  settles-keeps at zero j after same = record {
    entries = ([], ap (λ (x : StepJournal E). x.entries) same ∙ sym (append-nil j.entries));
    max_entries = ap (λ (x : StepJournal E). x.max_entries) same;
    max_bytes = ap (λ (x : StepJournal E). x.max_bytes) same;
  }
  settles-keeps at (suc n) j after one =
      let first = keeps-one at j one.0 one.1 in
      let rest = settles-keeps at n one.0 after one.2 in
      record {
        entries = (
          first.entries.0 ++ rest.entries.0,
          rest.entries.1 ∙ (ap (λ (es : List E). es ++ rest.entries.0) first.entries.1 ∙ append_assoc j.entries first.entries.0 rest.entries.0),
        );
        max_entries = rest.max_entries ∙ first.max_entries;
        max_bytes = rest.max_bytes ∙ first.max_bytes;
      }

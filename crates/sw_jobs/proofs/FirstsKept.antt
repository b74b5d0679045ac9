-- What is kept of a list, job by job: for each time and name that it puts one of its jobs of the least number.
use Rattle.std.proofs.Common.{arith, ◌≡◌, ℕ, ◌≤◌, Bool, true, false, cond, List, [], ◌∷◌, ◌++◌, inl, inr, Option, None, Some, Contains}
use Rattle.std.proofs.Common.{refl, sym, ◌∙◌, ap, subst}
use Rattle.std.specs.BTreeMap.{is_at}
use Rattle.std.proofs.lemmas.Bool.Decides.{nat_tests}
use Rattle.std.proofs.lemmas.List.Elements.{Contains-append_left, Contains-push, Contains-push_cases}
use Rattle.std.proofs.lemmas.Option.{same_Some}
use Rattle.sw_jobs.specs.Firsts.{KeepsFirsts, Kept, Key, is_upto, keeping, keeping_at, kept_at, key_cmp, key_of, with_kept}
use Rattle.sw_jobs.specs.declared.job.Job.{Job}
use Rattle.sw_jobs.proofs.KeyOrder.{is_at-itself, is_at-key, kept_at-with_kept}

pub keeps-none : KeepsFirsts [] []
keeps-none = record {
  found = λ job key has is. absurd (omega (arith, has.1));
  stands = λ key first is. cc;
}

upto-kept : (o : Option Job) (number : ℕ) → is_upto o number ≡ true → (first : Job) × (o ≡ Some first) × (first.number ≤ number)
upto-kept None number is = cc
upto-kept (Some first) number is = (first, refl, grind (arith, nat_tests))

not-upto : (o : Option Job) (number : ℕ) (first : Job) → is_upto o number ≡ false → o ≡ Some first → number ≤ first.number
not-upto None number first is at = cc
not-upto (Some f) number first is at =
    let same : f ≡ first = same_Some f first at in
    let above : number ≤ f.number = grind (arith, nat_tests) in
    subst (λ (j : Job). number ≤ j.number) same above

-- ---- a job that nothing is kept for

keeps-more : (jobs : List Job) (kept : Kept) (job : Job) → KeepsFirsts jobs kept
    → ((key : Key) → key_of job.work ≡ Some key → (first : Job) × (kept_at kept key ≡ Some first) × (first.number ≤ job.number))
    → KeepsFirsts (jobs ++ job ∷ []) kept
keeps-more jobs kept job keeps own = record {
  found = λ j key has is. elim (Contains-push_cases jobs job j has) [
    | inl before ↦ keeps.found j key before is
    | inr same ↦ subst (λ (x : Job). (first : Job) × (kept_at kept key ≡ Some first) × (first.number ≤ x.number)) same
        (own key (subst (λ (x : Job). key_of x.work ≡ Some key) (sym same) is))
  ];
  stands = λ key first is. (Contains-append_left jobs (job ∷ []) first (keeps.stands key first is).0, (keeps.stands key first is).1);
}

-- ---- a job that is kept

found-kept : (jobs : List Job) (kept : Kept) (job : Job) (key : Key) → KeepsFirsts jobs kept → key_of job.work ≡ Some key
    → is_upto (kept_at kept key) job.number ≡ false → (j : Job) (q : Key) → Contains (jobs ++ job ∷ []) j → key_of j.work ≡ Some q
    → (b : Bool) → is_at (key_cmp q) key ≡ b
    → (first : Job) × (cond b (Some job) (kept_at kept q) ≡ Some first) × (first.number ≤ j.number)
found-kept jobs kept job key keeps puts above j q has is true at = (
  job,
  refl,
  elim (Contains-push_cases jobs job j has) [
    | inl before ↦
        let old = keeps.found j q before is in
        let here : kept_at kept key ≡ Some old.0 = ap (kept_at kept) (sym (is_at-key q key at)) ∙ old.1 in
        let least : job.number ≤ old.0.number = not-upto (kept_at kept key) job.number old.0 above here in
        let upto : old.0.number ≤ j.number = old.2 in
        omega (arith, least, upto)
    | inr same ↦ subst (λ (x : Job). job.number ≤ x.number) same (omega arith)
  ],
)
found-kept jobs kept job key keeps puts above j q has is false at = elim (Contains-push_cases jobs job j has) [
  | inl before ↦ keeps.found j q before is
  | inr same ↦
      let one : key ≡ q = same_Some key q (sym puts ∙ (ap (λ (x : Job). key_of x.work) same ∙ is)) in
      absurd (apart (sym at ∙ (ap (λ (k : Key). is_at (key_cmp k) key) (sym one) ∙ is_at-itself key)))
]
  where
    apart : false ≡ true → ⊥
    apart e = cc

stands-kept : (jobs : List Job) (kept : Kept) (job : Job) (key : Key) → KeepsFirsts jobs kept → key_of job.work ≡ Some key
    → (q : Key) (first : Job) (b : Bool) → is_at (key_cmp q) key ≡ b → cond b (Some job) (kept_at kept q) ≡ Some first
    → Contains (jobs ++ job ∷ []) first × (key_of first.work ≡ Some q)
stands-kept jobs kept job key keeps puts q first true at is =
    let same : job ≡ first = same_Some job first is in
    subst (λ (x : Job). Contains (jobs ++ job ∷ []) x × (key_of x.work ≡ Some q)) same
    (Contains-push jobs job, puts ∙ ap (λ (k : Key). Some k) (sym (is_at-key q key at)))
stands-kept jobs kept job key keeps puts q first false at is =
    (Contains-append_left jobs (job ∷ []) first (keeps.stands q first is).0, (keeps.stands q first is).1)

keeps-kept : (jobs : List Job) (kept : Kept) (job : Job) (key : Key) → KeepsFirsts jobs kept → key_of job.work ≡ Some key
    → is_upto (kept_at kept key) job.number ≡ false → KeepsFirsts (jobs ++ job ∷ []) (with_kept kept key job)
keeps-kept jobs kept job key keeps puts above = record {
  found = λ j q has is.
      let now = found-kept jobs kept job key keeps puts above j q has is (is_at (key_cmp q) key) refl in
      (now.0, kept_at-with_kept kept key job q ∙ now.1, now.2);
  stands = λ q first is. stands-kept jobs kept job key keeps puts q first (is_at (key_cmp q) key) refl (sym (kept_at-with_kept kept key job q) ∙ is);
}

-- ---- one job more

pub keeps-step : (jobs : List Job) (kept : Kept) (job : Job) → KeepsFirsts jobs kept → KeepsFirsts (jobs ++ job ∷ []) (keeping kept job)
keeps-step jobs kept job keeps = by (key_of job.work) refl
  where
    at : (key : Key) → key_of job.work ≡ Some key → (b : Bool) → is_upto (kept_at kept key) job.number ≡ b
        → KeepsFirsts (jobs ++ job ∷ []) (cond b kept (with_kept kept key job))
    at key puts true is = keeps-more jobs kept job keeps (λ q other.
        subst (λ (k : Key). (first : Job) × (kept_at kept k ≡ Some first) × (first.number ≤ job.number)) (same_Some key q (sym puts ∙ other))
        (upto-kept (kept_at kept key) job.number is))
    at key puts false is = keeps-kept jobs kept job key keeps puts is

    by : (o : Option Key) → key_of job.work ≡ o → KeepsFirsts (jobs ++ job ∷ []) (keeping_at kept job o)
    by None none = keeps-more jobs kept job keeps (λ q other. absurd (differ q (sym none ∙ other)))
      where
        differ : (q : Key) → None ≡ Some q → ⊥
        differ q e = cc
    by (Some key) puts = at key puts (is_upto (kept_at kept key) job.number) refl

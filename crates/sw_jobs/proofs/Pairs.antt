-- The least pair that jobs make with the first jobs of their times and names is the first pair that disagrees.
use Rattle.std.proofs.Common.{arith, ◌≡◌, ℕ, ◌<◌, ◌≤◌, Bool, true, false, cond, nat_le, nat_lt, ◌==◌, ◌&&◌, ◌||◌, List, [], ◌∷◌, ◌++◌, inl, inr}
use Rattle.std.proofs.Common.{Contains, Option, None, Some, refl, sym, ◌∙◌, ap, subst}
use Rattle.std.specs.Option.{option_and_then}
use Rattle.std.proofs.lemmas.Bool.Decides.{nat_tests}
use Rattle.std.proofs.lemmas.List.Elements.{Contains-append_left, Contains-push, Contains-push_cases}
use Rattle.std.proofs.lemmas.Option.{same_Some}
use Rattle.sw_hashpath.specs.declared.name.Name.{Name}
use Rattle.sw_state.specs.declared.content.Content.{Content}
use Rattle.sw_jobs.specs.Disagreements.{Clash, IsDisagreement, IsFirst, PutsOther}
use Rattle.sw_jobs.specs.Firsts.{Differs, IsLeast, IsLeastPair, IsPairAt, IsUpto, KeepsFirsts, Kept, Key, Pair, first_for, is_less, kept_at, key_of, lesser}
use Rattle.sw_jobs.specs.declared.job.Job.{Job}
use Rattle.sw_jobs.specs.declared.job.Work.{Work}
use Rattle.sw_jobs.specs.declared.job.Work.TheVariants.{Put, Delete, Get, Replicate, Update, Rows}

-- ---- puts that clash

-- they have one time and name
pub clash-keys : (a b : Work) → Clash a b → (key : Key) × (key_of a ≡ Some key) × (key_of b ≡ Some key)
clash-keys (Put d n t c) (Put e m u o) clash = ((t, n), refl, λ i. Some (sym clash.1 i, sym clash.0 i))
clash-keys a b clash = absurd clash

-- a put of their time and name clashes with one of them
triangle : (f a b : Work) → key_of f ≡ key_of a → Clash a b → (Clash f a → ⊥) → (Clash f b → ⊥) → ⊥
triangle f (Put d n t c) (Put e m u o) key clash first second = at f key first second
  where
    at : (f : Work) → key_of f ≡ Some (t, n) → (Clash f (Put d n t c) → ⊥) → (Clash f (Put e m u o) → ⊥) → ⊥
    at (Put g l s b) key first second =
        let keys : (s, l) ≡ (t, n) = same_Some (s, l) (t, n) key in
        let times : s ≡ t = ap (λ (k : Key). k.0) keys in
        let names : l ≡ n = ap (λ (k : Key). k.1) keys in
        first (names, times, λ same. second (names ∙ clash.0, times ∙ clash.1, λ other. clash.2 (sym same ∙ other)))
    at (Delete g l s) key first second = cc
    at (Get g l) key first second = cc
    at (Replicate g) key first second = cc
    at (Update g) key first second = cc
    at (Rows g) key first second = cc
triangle f a b key clash first second = absurd clash

-- a put of another content at this time and name clashes with the one there
pub clash-from : (f : Work) (device : ℕ) (name : Name) (time : ℕ) (content : Content) → key_of f ≡ Some (time, name) → PutsOther f content
    → Clash f (Put device name time content)
clash-from (Put e m u own) device name time content key other =
    let keys : (u, m) ≡ (time, name) = same_Some (u, m) (time, name) key in
    (ap (λ (k : Key). k.1) keys, ap (λ (k : Key). k.0) keys, other)
clash-from f device name time content key other = absurd other

-- ---- pairs in order

less-upto : (a b c d : ℕ) → (nat_lt b d || (b == d && nat_lt a c)) ≡ true → (b ≤ d) × (d ≡ b → a ≤ c)
less-upto a b c d is = (grind (arith, nat_tests), λ same. grind (arith, nat_tests))

not-less-upto : (a b c d : ℕ) → (nat_lt b d || (b == d && nat_lt a c)) ≡ false → (d ≤ b) × (b ≡ d → c ≤ a)
not-less-upto a b c d is = (grind (arith, nat_tests), λ same. grind (arith, nat_tests))

upto-trans : (p q r : Pair) → IsUpto p q → IsUpto q r → IsUpto p r
upto-trans p q r low high =
    let first : p.1 ≤ q.1 = low.0 in
    let second : q.1 ≤ r.1 = high.0 in (
      omega (arith, first, second),
      λ same.
          let middle : q.1 ≡ p.1 = omega (arith, first, second, same) in
          let third : p.0 ≤ q.0 = low.1 middle in
          let fourth : q.0 ≤ r.0 = high.1 (same ∙ sym middle) in
          omega (arith, third, fourth),
    )

upto-itself : (p q : Pair) → p ≡ q → IsUpto p q
upto-itself p q same =
    let later : p.1 ≡ q.1 = ap (λ (r : Pair). r.1) same in
    let earlier : p.0 ≡ q.0 = ap (λ (r : Pair). r.0) same in
    (omega (arith, later), λ _. omega (arith, earlier))

-- ---- one job more

-- what differs from the first of its time and name differs from this one
one-first : (kept : Kept) (job first f : Job) → Differs kept job first → Differs kept job f → first ≡ f
one-first kept job first f differs other = same_Some first f (sym differs.is_kept ∙ other.is_kept)

-- the own pair is that of each first
own-upto : (kept : Kept) (job j f first : Job) (pair : Pair) → job ≡ j → Differs kept job first → pair ≡ (first.number, job.number)
    → Differs kept j f → IsUpto pair (f.number, j.number)
own-upto kept job j f first pair same differs is other =
    let again : Differs kept job f = subst (λ (x : Job). Differs kept x f) (sym same) other in
    let one : first ≡ f = one-first kept job first f differs again in
    upto-itself pair (f.number, j.number) (is ∙ (λ i. ((one i).number, (same i).number)))

least-more : (kept : Kept) (jobs : List Job) (job : Job) (found : Pair) → IsLeastPair kept jobs found
    → ((f : Job) → Differs kept job f → IsUpto found (f.number, job.number)) → IsLeastPair kept (jobs ++ job ∷ []) found
least-more kept jobs job found least own = record {
  job = least.job;
  first = least.first;
  has_job = Contains-append_left jobs (job ∷ []) least.job least.has_job;
  differs = least.differs;
  is_pair = least.is_pair;
  least = λ j f has differs. elim (Contains-push_cases jobs job j has) [
    | inl before ↦ least.least j f before differs
    | inr same ↦ subst (λ (x : Job). Differs kept x f → IsUpto found (f.number, x.number)) same (own f) differs
  ];
}

least-own : (kept : Kept) (jobs : List Job) (job first : Job) (pair : Pair) → Differs kept job first → pair ≡ (first.number, job.number)
    → ((j f : Job) → Contains jobs j → Differs kept j f → IsUpto pair (f.number, j.number)) → IsLeastPair kept (jobs ++ job ∷ []) pair
least-own kept jobs job first pair differs is before = record {
  job = job;
  first = first;
  has_job = Contains-push jobs job;
  differs = differs;
  is_pair = is;
  least = λ j f has other. elim (Contains-push_cases jobs job j has) [
    | inl old ↦ before j f old other
    | inr same ↦ own-upto kept job j f first pair same differs is other
  ];
}

pub least-none : (kept : Kept) → IsLeast kept [] None
least-none kept j f has differs = omega (arith, has.1)

pub least-step : (kept : Kept) (jobs : List Job) (job : Job) (found pair : Option Pair) → IsLeast kept jobs found → IsPairAt kept job pair
    → IsLeast kept (jobs ++ job ∷ []) (lesser found pair)
least-step kept jobs job None None least none = λ j f has differs. elim (Contains-push_cases jobs job j has) [
  | inl before ↦ least j f before differs
  | inr same ↦ none f (subst (λ (x : Job). Differs kept x f) (sym same) differs)
]
least-step kept jobs job None (Some pair) least own =
    least-own kept jobs job own.0 pair own.1 own.2 (λ j f has differs. absurd (least j f has differs))
least-step kept jobs job (Some found) None least none = least-more kept jobs job found least (λ f differs. absurd (none f differs))
least-step kept jobs job (Some found) (Some pair) least own = by (is_less pair found) refl
  where
    by : (b : Bool) → is_less pair found ≡ b → IsLeastPair kept (jobs ++ job ∷ []) (cond b pair found)
    by true is = least-own kept jobs job own.0 pair own.1 own.2 (λ j f has differs.
        upto-trans pair found (f.number, j.number) (less-upto pair.0 pair.1 found.0 found.1 is) (least.least j f has differs))
    by false is = least-more kept jobs job found least (λ f differs.
        upto-trans found pair (f.number, job.number) (not-less-upto pair.0 pair.1 found.0 found.1 is)
        (own-upto kept job job f own.0 pair refl own.1 own.2 differs))

-- ---- what is found

-- what is kept for a put is kept for its time and name
first_for-kept : (kept : Kept) (work : Work) (first : Job) (key : Key) → key_of work ≡ Some key → first_for kept work ≡ Some first
    → kept_at kept key ≡ Some first
first_for-kept kept work first key is kept_is = sym (ap (option_and_then (kept_at kept)) is) ∙ kept_is

pub first_for-key : (jobs : List Job) (kept : Kept) (work : Work) (first : Job) → KeepsFirsts jobs kept → first_for kept work ≡ Some first
    → key_of first.work ≡ key_of work
first_for-key jobs kept work first keeps kept_is = by (key_of work) refl
  where
    by : (o : Option Key) → key_of work ≡ o → key_of first.work ≡ key_of work
    by None none = let e : None ≡ Some first = sym (ap (option_and_then (kept_at kept)) none) ∙ kept_is in cc
    by (Some key) is = (keeps.stands key first (first_for-kept kept work first key is kept_is)).1 ∙ sym is

-- two jobs that clash have a first job, which differs from one of them
record Rival (kept : Kept) (one other : Job) : Type 0 where
  first : Job
  upto : first.number ≤ one.number
  differs : (Differs kept one first → ⊥) → (Differs kept other first → ⊥) → ⊥

rival : (jobs : List Job) (kept : Kept) (one other : Job) → KeepsFirsts jobs kept → Contains jobs one → Clash one.work other.work → Rival kept one other
rival jobs kept one other keeps has clash =
    let keys = clash-keys one.work other.work clash in
    let found = keeps.found one keys.0 has keys.1 in
    let first = found.0 in
    let at_one : first_for kept one.work ≡ Some first = ap (option_and_then (kept_at kept)) keys.1 ∙ found.1 in
    let at_other : first_for kept other.work ≡ Some first = ap (option_and_then (kept_at kept)) keys.2 ∙ found.1 in
    let same : key_of first.work ≡ key_of one.work = (keeps.stands keys.0 first found.1).1 ∙ sym keys.1 in
    record {
      first = first;
      upto = found.2;
      differs = λ not_one not_other. triangle first.work one.work other.work same clash
          (λ c. not_one (record { is_kept = at_one; clash = c })) (λ c. not_other (record { is_kept = at_other; clash = c }));
    }

-- where no job differs from the first of its time and name, nothing disagrees
none-disagree : (jobs : List Job) (kept : Kept) → KeepsFirsts jobs kept → IsLeast kept jobs None → IsDisagreement jobs None
none-disagree jobs kept keeps least earlier later d =
    let r = rival jobs kept d.one d.other keeps d.has_one d.clash in
    r.differs (least d.one r.first d.has_one) (least d.other r.first d.has_other)

-- a fact on numbers that isn't false
not-above : (m n : ℕ) → (n < m → ⊥) → m ≤ n
not-above m n not_less = by (nat_le m n) refl
  where
    by : (b : Bool) → nat_le m n ≡ b → m ≤ n
    by true is = grind (arith, nat_tests)
    by false is = absurd (not_less (grind (arith, nat_tests)))

first-disagree : (jobs : List Job) (kept : Kept) (pair : Pair) → KeepsFirsts jobs kept → IsLeastPair kept jobs pair → IsFirst jobs pair.0 pair.1
first-disagree jobs kept pair keeps least =
    let keys = clash-keys least.first.work least.job.work least.differs.clash in
    let kept_is = first_for-kept kept least.job.work least.first keys.0 keys.2 least.differs.is_kept in
    let found = keeps.found least.job keys.0 least.has_job keys.2 in
    let same : found.0 ≡ least.first = same_Some found.0 least.first (sym found.1 ∙ kept_is) in
    let in_order : least.first.number ≤ least.job.number = subst (λ (j : Job). j.number ≤ least.job.number) same found.2 in
    let earlier : pair.0 ≡ least.first.number = ap (λ (p : Pair). p.0) least.is_pair in
    let later : pair.1 ≡ least.job.number = ap (λ (p : Pair). p.1) least.is_pair in
    record {
      pair = record {
        one = least.first;
        other = least.job;
        has_one = (keeps.stands keys.0 least.first kept_is).0;
        has_other = least.has_job;
        is_earlier = sym earlier;
        is_later = sym later;
        in_order = omega (arith, earlier, later, in_order);
        clash = least.differs.clash;
      };
      least_later = λ e l d. not-above pair.1 l (λ below.
          let r = rival jobs kept d.one d.other keeps d.has_one d.clash in
          let one_is : d.one.number ≡ e = d.is_earlier in
          let other_is : d.other.number ≡ l = d.is_later in
          let order : e ≤ l = d.in_order in
          r.differs
          (λ differs. let u : pair.1 ≤ d.one.number = (least.least d.one r.first d.has_one differs).0 in omega (arith, u, one_is, order, below))
          (λ differs. let u : pair.1 ≤ d.other.number = (least.least d.other r.first d.has_other differs).0 in omega (arith, u, other_is, below)));
      least_earlier = λ e d. not-above pair.0 e (λ below.
          let r = rival jobs kept d.one d.other keeps d.has_one d.clash in
          let one_is : d.one.number ≡ e = d.is_earlier in
          let other_is : d.other.number ≡ pair.1 = d.is_later in
          let order : e ≤ pair.1 = d.in_order in
          let upto : r.first.number ≤ d.one.number = r.upto in
          r.differs
          (λ differs.
          let own = least.least d.one r.first d.has_one differs in
          let u : pair.1 ≤ d.one.number = own.0 in
          let v : pair.0 ≤ r.first.number = own.1 (omega (arith, u, one_is, order)) in
          omega (arith, v, upto, one_is, below))
          (λ differs.
          let v : pair.0 ≤ r.first.number = (least.least d.other r.first d.has_other differs).1 other_is in
          omega (arith, v, upto, one_is, below)));
    }

pub found-disagreement : (jobs : List Job) (kept : Kept) (found : Option Pair) → KeepsFirsts jobs kept → IsLeast kept jobs found → IsDisagreement jobs found
found-disagreement jobs kept None keeps least = none-disagree jobs kept keeps least
found-disagreement jobs kept (Some pair) keeps least = first-disagree jobs kept pair keeps least

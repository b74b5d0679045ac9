-- What holds of each job of a generated list: where each write comes from, and of what device and name each job is.
use Rattle.std.proofs.Common.{arith, ◌≡◌, ℕ, ◌*◌, ◌+◌, ◌%◌, max, ◌/◌, ◌==◌, ◌<◌, ◌≤◌, zero, suc, Bool, true, false, cond, nat_lt, List, [], ◌∷◌, length}
use Rattle.std.proofs.Common.{Option, None, Some, Contains, refl, sym, ◌∙◌, ap}
use Rattle.std.specs.Prelude.{map}
use Rattle.std.specs.List.{All, flat_map, range_with_len}
use Rattle.std.proofs.lemmas.List.Elements.{All-append, All-cons, All-contains, All-nil}
use Rattle.std.proofs.lemmas.Option.{same_Some}
use Rattle.sw_hashpath.specs.declared.name.Name.{Name}
use Rattle.sw_ring.specs.declared.ring.Ring.{Ring}
use Rattle.sw_state.specs.declared.content.Content.{Content}
use Rattle.sw_jobs.specs.Disagreements.{Clash}
use Rattle.sw_jobs.specs.Generated.{jobs_of, turn, works_of}
use Rattle.sw_jobs.specs.Laws.{NoneIsFound, NothingDisagrees, NumbersRise, time_in}
use Rattle.sw_jobs.specs.Passes.{behind, pass}
use Rattle.sw_jobs.specs.Draws.{draw}
use Rattle.sw_jobs.specs.Requests.{body_of, container_name, content_of, drawn, name_of, object_name, picked, request}
use Rattle.sw_jobs.specs.declared.job.Job.{Job}
use Rattle.sw_jobs.specs.declared.job.Work.{Work}
use Rattle.sw_jobs.specs.declared.job.Work.TheVariants.{Put, Delete, Get, Replicate, Update, Rows}
use Rattle.sw_jobs.proofs.Numbering.{numbered_from}

-- ---- numbers

numbers-from : (n : ℕ) (works : List Work) → map (λ j. j.number) (numbered_from n works) ≡ range_with_len n (length (numbered_from n works))
numbers-from n [] = refl
numbers-from n (w ∷ ws) = ap (λ (ks : List ℕ). n ∷ ks) (numbers-from (n + 1) ws)

pub numbers-rise : NumbersRise
numbers-rise ring seed requests = numbers-from 0 (works_of ring seed requests)

-- ---- what holds of each request and each pass holds of each job

all-turns : (P : Work → Type 0) (f : ℕ → List Work) (a n : ℕ) → ((i : ℕ) → a ≤ i → i < a + n → All P (f i)) → All P (flat_map f (range_with_len a n))
all-turns P f a zero each = All-nil P
all-turns P f a (suc n) each =
    All-append P (f a) (flat_map f (range_with_len (a + 1) n)) (each a (omega arith) (omega arith))
    (all-turns P f (a + 1) n (λ i least below. each i (omega arith) (omega arith)))

all-numbered : (P : Work → Type 0) (n : ℕ) (works : List Work) → All P works → All (λ j. P j.work) (numbered_from n works)
all-numbered P n [] all = All-nil (λ (j : Job). P j.work)
all-numbered P n (w ∷ ws) all =
    All-cons (λ (j : Job). P j.work) (record { number = n; work = w }) (numbered_from (n + 1) ws) (all 0 w (omega arith))
    (all-numbered P (n + 1) ws (λ k d below. all (suc k) d (omega arith)))

all-behind : (P : Work → Type 0) (ring : Ring) (i : ℕ) → ((q : ℕ) → P (pass ring q)) → All P (behind ring i)
all-behind P ring i passes = by ((i + 1) % 500 == 0)
  where
    by : (b : Bool) → All P (cond b (pass ring ((i + 1) / 500) ∷ []) [])
    by true = All-cons P (pass ring ((i + 1) / 500)) [] (passes ((i + 1) / 500)) (All-nil P)
    by false = All-nil P

pub all-jobs : (P : Work → Type 0) (ring : Ring) (seed requests : ℕ) → ((i : ℕ) → i < requests → P (request ring seed requests i))
    → ((q : ℕ) → P (pass ring q)) → All (λ j. P j.work) (jobs_of ring seed requests)
all-jobs P ring seed requests each passes = all-numbered P 0 (works_of ring seed requests)
    (all-turns P (turn ring seed requests) 0 requests (λ i least below.
    All-cons P (request ring seed requests i) (behind ring i) (each i (omega arith)) (all-behind P ring i passes)))

-- ---- what a request and a pass tell

-- the name, the device and the content of request i
abbrev pub name_at : Ring → ℕ → ℕ → ℕ → Name
name_at ring seed requests i =
    name_of ring.secrets (container_name (draw seed (5 * i + 1) % 4)) (object_name (draw seed (5 * i + 2) % max 1 (requests / 4)))

abbrev pub device_at : Ring → ℕ → ℕ → ℕ → ℕ
device_at ring seed requests i = picked ring (name_at ring seed requests i).hash (draw seed (5 * i + 4))

abbrev pub content_at : ℕ → ℕ → Content
content_at seed i = content_of (body_of i (draw seed (5 * i + 3) % 1025))

-- what is the same of a request of each kind
pub request-each : (P : Work → Type 0) (ring : Ring) (seed requests i : ℕ)
    → P (Put (device_at ring seed requests i) (name_at ring seed requests i) (140000000000000 + i) (content_at seed i))
    → P (Delete (device_at ring seed requests i) (name_at ring seed requests i) (140000000000000 + i))
    → P (Get (device_at ring seed requests i) (name_at ring seed requests i)) → P (request ring seed requests i)
unfolding drawn
request-each P ring seed requests i put delete get = by (nat_lt (draw seed (5 * i) % 10) 7) (nat_lt (draw seed (5 * i) % 10) 9)
  where
    by : (b c : Bool) → P (cond b (Put (device_at ring seed requests i) (name_at ring seed requests i) (140000000000000 + i) (content_at seed i))
        (cond c (Delete (device_at ring seed requests i) (name_at ring seed requests i) (140000000000000 + i))
        (Get (device_at ring seed requests i) (name_at ring seed requests i))))
    by true c = put
    by false true = delete
    by false false = get

no-time : (t : ℕ) → None ≡ Some t → ⊥
no-time t e = cc

pub request-time : (ring : Ring) (seed requests i t : ℕ) → time_in (request ring seed requests i) ≡ Some t → t ≡ 140000000000000 + i
request-time ring seed requests i = request-each (λ w. (t : ℕ) → time_in w ≡ Some t → t ≡ 140000000000000 + i) ring seed requests i
    (λ t is. sym (same_Some (140000000000000 + i) t is)) (λ t is. sym (same_Some (140000000000000 + i) t is)) (λ t is. absurd (no-time t is))

-- what is the same of a pass of each kind
pub pass-each : (P : Work → Type 0) (ring : Ring) (q : ℕ) → P (Replicate (q % length ring.devices)) → P (Update (q % length ring.devices))
    → P (Rows (q % length ring.devices)) → P (pass ring q)
unfolding pass
pass-each P ring q replicate update rows = by (q % 3 == 1) (q % 3 == 2)
  where
    by : (b c : Bool) → P (cond b (Replicate (q % length ring.devices)) (cond c (Update (q % length ring.devices)) (Rows (q % length ring.devices))))
    by true c = replicate
    by false true = update
    by false false = rows

pub pass-time : (ring : Ring) (q : ℕ) → time_in (pass ring q) ≡ None
pass-time ring q = pass-each (λ w. time_in w ≡ None) ring q refl refl refl

-- ---- a write comes from the request of its time, so no two that differ have one time

abbrev Origin : Ring → ℕ → ℕ → Work → Type 0
Origin ring seed requests work = (t : ℕ) → time_in work ≡ Some t → (i : ℕ) × (t ≡ 140000000000000 + i) × (work ≡ request ring seed requests i)

clash-time : (a b : Work) → Clash a b → (t : ℕ) × (time_in a ≡ Some t) × (time_in b ≡ Some t)
clash-time (Put d n t c) (Put e m u o) clash = (t, refl, λ i. Some (sym clash.1 i))
clash-time a b clash = absurd clash

abbrev content_in : Work → Option Content
content_in (Put device name time content) = Some content
content_in _ = None

clash-apart : (a b : Work) → Clash a b → a ≡ b → ⊥
clash-apart (Put d n t c) (Put e m u o) clash same = clash.2 (same_Some c o (ap content_in same))
clash-apart a b clash same = absurd clash

origins : (ring : Ring) (seed requests : ℕ) → All (λ j. Origin ring seed requests j.work) (jobs_of ring seed requests)
origins ring seed requests = all-jobs (Origin ring seed requests) ring seed requests
    (λ i below t is. (i, request-time ring seed requests i t is, refl))
    (λ q t is. absurd (no-time t (sym (pass-time ring q) ∙ is)))

origin-of : (ring : Ring) (seed requests : ℕ) (job : Job) → Contains (jobs_of ring seed requests) job → Origin ring seed requests job.work
origin-of ring seed requests job has =
    All-contains (λ (j : Job). Origin ring seed requests j.work) (jobs_of ring seed requests) job (origins ring seed requests) has

pub nothing-disagrees : NothingDisagrees
nothing-disagrees ring seed requests earlier later d =
    let times = clash-time d.one.work d.other.work d.clash in
    let one = origin-of ring seed requests d.one d.has_one times.0 times.1 in
    let other = origin-of ring seed requests d.other d.has_other times.0 times.2 in
    let first : times.0 ≡ 140000000000000 + one.0 = one.1 in
    let second : times.0 ≡ 140000000000000 + other.0 = other.1 in
    let same : one.0 ≡ other.0 = omega (arith, first, second) in
    clash-apart d.one.work d.other.work d.clash (one.2 ∙ (ap (request ring seed requests) same ∙ sym other.2))

pub none-is-found : NoneIsFound
none-is-found ring seed requests None is = refl
none-is-found ring seed requests (Some pair) is = absurd (nothing-disagrees ring seed requests pair.0 pair.1 is.pair)

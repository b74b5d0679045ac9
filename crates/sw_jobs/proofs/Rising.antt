-- The times of a generated list rise.
use Rattle.std.proofs.Common.{arith, ◌≡◌, ℕ, ◌+◌, ◌%◌, ◌/◌, ◌==◌, ◌≤◌, zero, suc, Bool, true, false, cond, List, [], ◌∷◌, ◌++◌, Option, None, Some}
use Rattle.std.proofs.Common.{refl, ap}
use Rattle.std.specs.List.{cons_option, filter_map, flat_map, range_with_len}
use Rattle.std.specs.List.Sorted.{IsStrictlyIncreasing}
use Rattle.std.proofs.lemmas.List.Elements.{filter_map-append}
use Rattle.sw_ring.specs.declared.ring.Ring.{Ring}
use Rattle.sw_jobs.specs.Generated.{turn, works_of}
use Rattle.sw_jobs.specs.Laws.{TimesRise, time_in}
use Rattle.sw_jobs.specs.Passes.{behind, pass}
use Rattle.sw_jobs.specs.Requests.{request}
use Rattle.sw_jobs.specs.declared.job.Work.{Work}
use Rattle.sw_jobs.proofs.Numbering.{numbered_from}
use Rattle.sw_jobs.proofs.Turns.{pass-time, request-time}

-- the numbers of a list rise, from this one on
abbrev RisesFrom : ℕ → List ℕ → Type 0
RisesFrom low [] = Unit {0}
RisesFrom low (t ∷ ts) = (low ≤ t) × RisesFrom (t + 1) ts

rises-lower : (low lower : ℕ) (ts : List ℕ) → lower ≤ low → RisesFrom low ts → RisesFrom lower ts
rises-lower low lower [] less rises = tt
rises-lower low lower (t ∷ ts) less rises = let here : low ≤ t = rises.0 in (omega (arith, less, here), rises.1)

rises-strictly : (low : ℕ) (ts : List ℕ) → RisesFrom low ts → IsStrictlyIncreasing ts
rises-strictly low [] rises k inside = absurd (omega arith)
rises-strictly low (t ∷ []) rises k inside = absurd (omega arith)
rises-strictly low (t ∷ u ∷ ts) rises zero inside = let next : t + 1 ≤ u = rises.1.0 in omega (arith, next)
rises-strictly low (t ∷ u ∷ ts) rises (suc k) inside =
    let next : suc k + 1 ≡ suc (k + 1) = omega arith in
    rw next (rises-strictly (t + 1) (u ∷ ts) rises.1 k (omega arith))

-- ---- turns

-- at most one time more, in front of the others
rises-after : (low : ℕ) (o : Option ℕ) (ts : List ℕ) → ((t : ℕ) → o ≡ Some t → t ≡ low) → RisesFrom (low + 1) ts → RisesFrom low (cons_option o [] ++ ts)
rises-after low None ts is rises = rises-lower (low + 1) low ts (omega arith) rises
rises-after low (Some t) ts is rises =
    let here : t ≡ low = is t refl in
    (omega (arith, here), rises-lower (low + 1) (t + 1) ts (omega (arith, here)) rises)

behind-times : (ring : Ring) (i : ℕ) → filter_map time_in (behind ring i) ≡ []
behind-times ring i = by ((i + 1) % 500 == 0)
  where
    by : (b : Bool) → filter_map time_in (cond b (pass ring ((i + 1) / 500) ∷ []) []) ≡ []
    by true = ap (λ (o : Option ℕ). cons_option o []) (pass-time ring ((i + 1) / 500))
    by false = refl

turns-rise : (ring : Ring) (seed requests a n : ℕ)
    → RisesFrom (140000000000000 + a) (filter_map time_in (flat_map (turn ring seed requests) (range_with_len a n)))
turns-rise ring seed requests a zero = tt
turns-rise ring seed requests a (suc n) =
    let rest = flat_map (turn ring seed requests) (range_with_len (a + 1) n) in
    let times : filter_map time_in (turn ring seed requests a) ≡ cons_option (time_in (request ring seed requests a)) [] =
    ap (λ (ts : List ℕ). cons_option (time_in (request ring seed requests a)) ts) (behind-times ring a) in
    let next : 140000000000000 + (a + 1) ≡ 140000000000000 + a + 1 = omega arith in
    let later : RisesFrom (140000000000000 + a + 1) (filter_map time_in rest) = rw (← next) (turns-rise ring seed requests (a + 1) n) in
    rw (filter_map-append time_in (turn ring seed requests a) rest, times)
    (rises-after (140000000000000 + a) (time_in (request ring seed requests a)) (filter_map time_in rest) (request-time ring seed requests a) later)

times-numbered : (n : ℕ) (works : List Work) → filter_map (λ j. time_in j.work) (numbered_from n works) ≡ filter_map time_in works
times-numbered n [] = refl
times-numbered n (w ∷ ws) = ap (λ (ts : List ℕ). cons_option (time_in w) ts) (times-numbered (n + 1) ws)

pub times-rise : TimesRise
times-rise ring seed requests =
    rw (times-numbered 0 (works_of ring seed requests))
    (rises-strictly (140000000000000 + 0) (filter_map time_in (works_of ring seed requests)) (turns-rise ring seed requests 0 requests))

-- Works that are numbered one after the other, and the turns of a generated load.
use Rattle.std.proofs.Common.{arith, ◌≡◌, ℕ, ◌+◌, zero, suc, List, [], ◌∷◌, ◌++◌, length, refl, sym, ◌∙◌, ap}
use Rattle.std.specs.Prelude.{map}
use Rattle.std.specs.List.{enumerate_from, flat_map, range_with_len}
use Rattle.std.proofs.lemmas.List.{append-nil}
use Rattle.std.proofs.lemmas.List.Concat.{flat_map-append}
use Rattle.sw_jobs.specs.Generated.{numbered}
use Rattle.sw_jobs.specs.declared.job.Job.{Job}
use Rattle.sw_jobs.specs.declared.job.Work.{Work}

-- works that are numbered from n
abbrev pub numbered_from : ℕ → List Work → List Job
numbered_from n works = map (λ e. record { number = e.0; work = e.1 }) (enumerate_from n works)

pub length-numbered_from : (n : ℕ) (works : List Work) → length (numbered_from n works) ≡ length works
length-numbered_from n [] = refl
length-numbered_from n (w ∷ ws) = ap suc (length-numbered_from (n + 1) ws)

numbered_from-push : (n m : ℕ) (works : List Work) (w : Work) → n + length works ≡ m
    → numbered_from n (works ++ w ∷ []) ≡ numbered_from n works ++ record { number = m; work = w } ∷ []
numbered_from-push n m [] w is = ap (λ (k : ℕ). record { number = k; work = w } ∷ []) (omega arith)
numbered_from-push n m (v ∷ vs) w is =
    ap (λ (jobs : List Job). record { number = n; work = v } ∷ jobs) (numbered_from-push (n + 1) m vs w (omega arith))

-- a job that is added under the number of those that stand there
pub numbered-push : (jobs more : List Job) (works : List Work) (w : Work) → jobs ≡ numbered works
    → more ≡ jobs ++ record { number = length jobs; work = w } ∷ [] → more ≡ numbered (works ++ w ∷ [])
numbered-push jobs more works w stands added =
    let count : length jobs ≡ length works = ap length stands ∙ length-numbered_from 0 works in
    added ∙ rw (count, stands) (sym (numbered_from-push 0 (length works) works w (omega arith)))

range-more : (a n m : ℕ) → a + n ≡ m → range_with_len a (n + 1) ≡ range_with_len a n ++ m ∷ []
range-more a zero m is = ap (λ (k : ℕ). k ∷ []) (omega arith)
range-more a (suc n) m is =
    let next : suc n + 1 ≡ suc (n + 1) = omega arith in
    rw next (ap (λ (ks : List ℕ). a ∷ ks) (range-more (a + 1) n m (omega arith)))

-- the works of one turn more
pub turns-more : (f : ℕ → List Work) (n : ℕ) → flat_map f (range_with_len 0 (n + 1)) ≡ flat_map f (range_with_len 0 n) ++ f n
turns-more f n = ap (flat_map f) (range-more 0 n n (omega arith)) ∙ flat_map-append f (range_with_len 0 n) (n ∷ [])
    ∙ ap (λ (ws : List Work). flat_map f (range_with_len 0 n) ++ ws) (append-nil (f n))

use Rattle.std.proofs.Common.{◌≡◌, ◌≢◌, ℕ, zero, suc, ◌<◌, List, [], ◌∷◌, length, take, get_or, refl, arith}
use Rattle.std.proofs.lemmas.Bool.Decides.{nat_tests}
use Rattle.sw_volume.specs.Volume.{first_segment}
use Rattle.sw_disk.proofs.places.first_segment.Goals as goal

up_to_slash : (dir : List ℕ) (n : ℕ) → n < length dir → ((k : ℕ) → k < n → get_or dir k 0 ≢ 47) → get_or dir n 0 ≡ 47 → take n dir ≡ first_segment dir
up_to_slash [] n lt none slash = absurd (omega arith)
up_to_slash (b ∷ bs) zero lt none slash = grind (arith, nat_tests)
up_to_slash (b ∷ bs) (suc n) lt none slash =
    let first : b ≢ 47 = none 0 (omega arith) in
    let rest : take n bs ≡ first_segment bs = up_to_slash bs n (omega arith) (λ k h. none (suc k) (omega arith)) slash in
    grind (arith, nat_tests)

without_slash : (dir : List ℕ) → ((k : ℕ) → k < length dir → get_or dir k 0 ≢ 47) → dir ≡ first_segment dir
without_slash [] none = refl
without_slash (b ∷ bs) none =
    let first : b ≢ 47 = none 0 (omega arith) in
    let rest : bs ≡ first_segment bs = without_slash bs (λ k h. none (suc k) (omega arith)) in
    grind (arith, nat_tests)

pub returns-then-byte-eq47-clause-value : goal.returns-then-byte-eq47-clause-value
returns-then-byte-eq47-clause-value c = up_to_slash c.args.dir.now c.loop-at.at c.loop-at-test.true c.loop-at.invariant c.if-byte-eq47.true

pub returns-clause-value : goal.returns-clause-value
returns-clause-value c = without_slash c.args.dir.now (λ k h. c.loop-at.invariant k (omega arith))

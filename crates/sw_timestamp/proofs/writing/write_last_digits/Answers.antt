use Rattle.std.proofs.Common.{◌≡◌, ℕ, ◌+◌, ◌-◌, ◌/◌, ◌%◌, ◌≤◌, zero, suc, List, [], ◌∷◌, ◌++◌, length, drop, arith, sym, ◌∙◌, refl, append_assoc, set}
use Rattle.std.proofs.lemmas.List.{drop-set}
use Rattle.sw_timestamp.specs.TimeText.{last_digits}
use Rattle.sw_timestamp.proofs.NormalText.{last_digits-suc, last_digits-zero}
use Rattle.sw_timestamp.proofs.writing.write_last_digits.Goals as goal

-- one digit more is written
step : (all out : List ℕ) (at left : ℕ) → 1 ≤ at → at ≤ length out → all ≡ last_digits at left ++ drop at out →
    all ≡ last_digits (at - 1) (left / 10) ++ drop (at - 1) (set out (at - 1) (48 + left % 10))
step all out zero left some inside before = absurd (omega arith)
step all out (suc n) left some inside before =
    let here : suc n - 1 ≡ n = omega arith in
    let next : n + 1 ≡ suc n = omega arith in
    let written : drop n (set out n (48 + left % 10)) ≡ (48 + left % 10) ∷ drop (n + 1) out = drop-set out n (48 + left % 10) (omega arith) in
    rw (here, written, next) (before ∙ rw (last_digits-suc n left) (append_assoc (last_digits n (left / 10)) ((48 + left % 10) ∷ []) (drop (suc n) out)))

finish : (all out : List ℕ) (at left : ℕ) → at ≡ 0 → all ≡ last_digits at left ++ drop at out → out ≡ all
finish all out zero left none written = sym (written ∙ rw (last_digits-zero left) refl)
finish all out (suc n) left none written = absurd (omega arith)

pub loop-at-preserved : goal.loop-at-preserved
loop-at-preserved c =
    step _ c.loop-at.out c.loop-at.at c.loop-at.left (omega arith) (omega arith) c.loop-at.invariant

pub returns : goal.returns
returns c =
    let end : c.loop-at.at ≡ 0 = omega arith in
    finish _ c.loop-at.out c.loop-at.at c.loop-at.left end c.loop-at.invariant

use Rattle.std.proofs.Common.{◌≡◌, ◌∷◌, [], drop, take, length, length-append, take-append-drop, arith, ap, refl, sym, ◌∙◌}
use Rattle.std.proofs.lemmas.Bool.Decides.{Decides-eqb}
use Rattle.std.proofs.lemmas.List.{drop_at, take_at}
use Rattle.std.proofs.lemmas.Slice.Eq.{slice_eq-Decides}
use Rattle.sw_expiry.specs.TenDigits.{ten_digits}
use Rattle.sw_expiry.proofs.Nones.{none-so}
use Rattle.sw_expiry.proofs.TenDigits.{length-ten_digits}
use Rattle.sw_expiry.proofs.reading.after_time.Goals as goal

pub returns-in_err-digits : goal.returns-in_err-digits
returns-in_err-digits c = none-so _ _ _ c.from_residual.ensures
    (λ n rest small same. omega (arith, c.in_err-digits.ensures.cases, ap length same, length-append (ten_digits n) (45 ∷ rest), length-ten_digits n small))

pub returns-in_err-seconds : goal.returns-in_err-seconds
returns-in_err-seconds c = none-so _ _ _ c.from_residual-in_err-seconds.ensures (λ n rest small same.
    c.in_err-seconds.ensures n small
    (c.in_ok-digits.ensures.cases.1 ∙ ap (take 10) same ∙ take_at (ten_digits n) (45 ∷ rest) 10 (length-ten_digits n small)))

pub returns-in_err-path : goal.returns-in_err-path
returns-in_err-path c = none-so _ _ _ c.from_residual-in_err-path.ensures (λ n rest small same.
    let after : c.in_ok-digits.rest.now ≡ 45 ∷ rest =
    c.in_ok-digits.ensures.cases.2 ∙ ap (drop 10) same ∙ drop_at (ten_digits n) (45 ∷ rest) 10 (length-ten_digits n small) in
    let dash = rw after at c.in_err-path.ensures.cases in
    cc)

pub returns : goal.returns
returns c =
    let text = c.args.text.now in
    let digits : take 10 text ≡ ten_digits c.in_ok-seconds.seconds = sym c.in_ok-digits.ensures.cases.1 ∙ c.in_ok-seconds.ensures.1 in
    let dash : take 1 c.in_ok-digits.rest.now ≡ 45 ∷ [] = (slice_eq-Decides Decides-eqb (take 1 c.in_ok-digits.rest.now) (45 ∷ []) _ refl).0
    c.in_ok-path.ensures.cases.0 in
    let after : drop 10 text ≡ 45 ∷ c.in_ok-path.path.now =
    sym c.in_ok-digits.ensures.cases.2 ∙ sym (take-append-drop 1 c.in_ok-digits.rest.now) ∙ rw (dash, ← c.in_ok-path.ensures.cases.1) refl in
    (c.in_ok-seconds.ensures.0, sym (take-append-drop 10 text) ∙ rw (digits, after) refl)

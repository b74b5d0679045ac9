use Rattle.std.proofs.Common.{◌≡◌, ◌*◌, ◌/◌, ℕ, arith, refl, sym, ◌∙◌, ap, subst, List}
use Rattle.std.proofs.lemmas.Bool.{both_ways}
use Rattle.std.proofs.lemmas.Bool.Decides.{Decides-eqb}
use Rattle.std.proofs.lemmas.Slice.Eq.{slice_eq-Decides}
use Rattle.sw_timestamp.specs.TimeText.{IsTimeText}
use Rattle.sw_timestamp.proofs.TimeTextLemmas.{reads_as_one}
use Rattle.sw_expiry.specs.TenDigits.{ten_digits}
use Rattle.sw_expiry.proofs.TenDigits.{ten_digits-time}
use Rattle.sw_expiry.proofs.digits.read_ten_digits.Goals as goal

pub returns-in_default : goal.returns-in_default
returns-in_default c = λ n small is.
    c.in_default.ensures.refuses refl (n * 100000) (subst (λ (x : List ℕ). IsTimeText x (n * 100000)) (sym is) (ten_digits-time n small))

pub returns-else-eq : goal.returns-else-eq
returns-else-eq c = λ n small is.
    let time : c.in-Ok.time ≡ n * 100000 =
    reads_as_one c.args.text.now c.in-Ok.time (n * 100000) c.in-Ok.ensures.reads
    (subst (λ (x : List ℕ). IsTimeText x (n * 100000)) (sym is) (ten_digits-time n small)) in
    let seconds : c.units-seconds.result / 100000 ≡ n = omega (arith, c.units-seconds.ensures.same) in
    let same : c.args.text.now ≡ c.as_slice.result.now = is ∙ sym (c.as_slice.ensures ∙ c.ten_digits.ensures ∙ ap ten_digits seconds) in
    both_ways c.eq.result c.if-eq.false ((slice_eq-Decides Decides-eqb c.args.text.now c.as_slice.result.now c.eq.result c.eq.ensures).1 same)

use Rattle.std.proofs.Common.{ℕ, ◌-◌, ◌≤◌, length, List, arith, ◌∙◌, ap}
use Rattle.std.specs.Prelude.{replicate}
use Rattle.std.proofs.lemmas.List.{length-drop, length-take-le}
use Rattle.sw_expiry.proofs.TenDigits.{at_most_ten, written}
use Rattle.sw_expiry.proofs.digits.ten_digits.Goals as goal

pub overflow_sub-text : goal.overflow_sub-text
overflow_sub-text c = omega (arith, at_most_ten c.args.seconds c.requires, ap length (c.as_bytes-digits.ensures.value ∙ c.format.ensures.text))

pub copy_from_slice-requires : goal.copy_from_slice-requires
copy_from_slice-requires c =
    let fits : length c.as_bytes-digits.result.now ≤ 10 =
    omega (arith, at_most_ten c.args.seconds c.requires, ap length (c.as_bytes-digits.ensures.value ∙ c.format.ensures.text)) in
    let zeros : List ℕ = replicate 10 48 in
    let room : ℕ = 10 - length c.as_bytes-digits.result.now in
    length-take-le (10 - room) _ (omega (arith, length-drop room zeros)) ∙ omega arith

pub returns : goal.returns
returns c =
    rw c.copy_from_slice.ensures.after
    (written c.args.seconds c.as_bytes-digits.result.now c.requires (c.as_bytes-digits.ensures.value ∙ c.format.ensures.text))

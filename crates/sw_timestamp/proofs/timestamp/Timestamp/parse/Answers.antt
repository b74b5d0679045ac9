use Rattle.std.proofs.Common.{◌≡◌, refl, true, false}
use Rattle.sw_timestamp.proofs.TimeTextLemmas.{refuses_decimals, refuses_rest, refuses_seconds}
use Rattle.sw_timestamp.proofs.timestamp.Timestamp.parse.Goals as goal

pub returns-in_default-clause-refuses : goal.returns-in_default-clause-refuses
returns-in_default-clause-refuses c = λ _ t is.
    refuses_rest c.args.text.now c.split_at.result.1.now c.digits_at_front.result t c.digits_at_front.ensures.count c.split_at.ensures.back
    (c.in_default.ensures.none refl) is

pub returns-then-not-has_digits-clause-refuses : goal.returns-then-not-has_digits-clause-refuses
returns-then-not-has_digits-clause-refuses c = λ _ t is.
    refuses_seconds c.args.text.now c.split_at.result.0.now c.digits_at_front.result t c.digits_at_front.ensures.count c.split_at.ensures.front
    (λ digits. absurd (let test = c.if-not-has_digits.ensures in let wrong : false ≡ true = test.1 digits in cc)) is

pub returns-then-not-has_digits-2-clause-refuses :
    goal.returns-then-not-has_digits-2-clause-refuses
returns-then-not-has_digits-2-clause-refuses c = λ _ t is.
    refuses_decimals c.args.text.now c.split_at.result.1.now c.in-Some.decimals.now c.digits_at_front.result t c.digits_at_front.ensures.count
    c.split_at.ensures.back c.in-Some.ensures.some (λ digits. absurd
    (let test = c.if-not-has_digits-2.ensures in let wrong : false ≡ true = test.1 digits in cc)) is

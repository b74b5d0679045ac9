-- The last digits of a number.
use Rattle.std.proofs.Common.{◌≡◌, ℕ, ◌+◌, ◌/◌, ◌%◌, ◌^◌, ◌<◌, zero, suc, List, [], ◌∷◌, ◌++◌, length, refl, ap, sym, ◌∙◌, arith}
use Rattle.std.proofs.Common.{drop, set, take, append_assoc}
use Rattle.std.proofs.lemmas.List.{append-nil, drop_all, drop_at, length-drop, length-take-le, set_at, take_at}
use borrow.Rule.Slice.PartMut.{mid_of, put_mid}
use Rattle.std.specs.Char.{digit_value}
use Rattle.std.specs.Str.Parse.{AllDigits, digits_value}
use Rattle.std.proofs.lemmas.Grind.{common_steps}
use Rattle.std.proofs.lemmas.Bool.Decides.{nat_tests}
use Rattle.std.proofs.lemmas.Int.Digits.{digits_value_push, digits_push}
use Rattle.sw_timestamp.specs.TimeText.{last_digits, normal_text}
use Rattle.std.proofs.Math.ListN.{length-set}

-- a digit of ten is written so that it reads as itself
digit_value-digit : (d : ℕ) → d < 10 → digit_value (48 + d) ≡ d
digit_value-digit d small = grind (arith, nat_tests)

pub length-last_digits : (count n : ℕ) → length (last_digits count n) ≡ count
unfolding last_digits
length-last_digits zero n = refl
length-last_digits (suc count) n = grind (arith, common_steps, length-last_digits count (n / 10))

pub AllDigits-last_digits : (count n : ℕ) → AllDigits 10 (last_digits count n)
unfolding last_digits
AllDigits-last_digits zero n = tt
AllDigits-last_digits (suc count) n =
    digits_push 10 (last_digits count (n / 10)) (48 + n % 10) (AllDigits-last_digits count (n / 10))
    (rw (digit_value-digit (n % 10) (omega arith)) (omega arith))

pub digits_value-last_digits : (count n : ℕ) → n < 10 ^ count → digits_value 10 (last_digits count n) ≡ n
unfolding last_digits
digits_value-last_digits zero n small = omega arith
digits_value-last_digits (suc count) n small =
    let front : digits_value 10 (last_digits count (n / 10)) ≡ n / 10 = digits_value-last_digits count (n / 10) (grind arith) in
    rw (digits_value_push 10 (last_digits count (n / 10)) (48 + n % 10), front, digit_value-digit (n % 10) (omega arith)) (omega arith)

-- one digit more, at the front of the others
pub last_digits-suc : (count n : ℕ) → last_digits (suc count) n ≡ last_digits count (n / 10) ++ (48 + n % 10) ∷ []
unfolding last_digits
last_digits-suc count n = refl

pub last_digits-zero : (n : ℕ) → last_digits 0 n ≡ []
unfolding last_digits
last_digits-zero n = refl

-- what two writes of digits round a point leave
written_round : (whole part tail : List ℕ) → length whole ≡ 10 → length part ≡ 5 → length tail ≡ 6 →
    put_mid 11 5 (set (whole ++ tail) 10 46) part ≡ whole ++ 46 ∷ part
written_round whole part [] ten five six = absurd (omega arith)
written_round whole part (x ∷ r) ten five six =
    let pointed : set (whole ++ x ∷ r) 10 46 ≡ (whole ++ 46 ∷ []) ++ r = set_at whole x r 46 10 ten ∙ sym (append_assoc whole (46 ∷ []) r) in
    let front : take 11 ((whole ++ 46 ∷ []) ++ r) ≡ whole ++ 46 ∷ [] = take_at (whole ++ 46 ∷ []) r 11 (grind (arith, common_steps)) in
    let middle : drop 11 ((whole ++ 46 ∷ []) ++ r) ≡ r = drop_at (whole ++ 46 ∷ []) r 11 (grind (arith, common_steps)) in
    let back : drop 5 r ≡ [] = drop_all 5 r (omega arith) in
    rw (pointed, front, middle, back, append-nil, append_assoc) refl

pub written : (whole part old : List ℕ) → length whole ≡ 10 → length part ≡ 5 → length old ≡ 16 →
    put_mid 11 5 (set (whole ++ drop 10 old) 10 46) part ≡ whole ++ 46 ∷ part
written whole part old ten five sixteen = written_round whole part (drop 10 old) ten five (grind (arith, common_steps))

-- as `write_normal` writes them
pub normal_written : (units : ℕ) (old whole part : List ℕ) → length old ≡ 16
    → whole ≡ last_digits (length (take 10 old)) (units / 100000)
    → part ≡ last_digits (length (mid_of 11 5 (set (whole ++ drop 10 old) 10 46))) (units % 100000)
    → put_mid 11 5 (set (whole ++ drop 10 old) 10 46) part ≡ normal_text units
normal_written units old whole part sixteen is_whole is_part =
    let ten : length (take 10 old) ≡ 10 = length-take-le 10 old (omega arith) in
    let length_whole : length whole ≡ 10 = ap length is_whole ∙ length-last_digits (length (take 10 old)) (units / 100000) ∙ ten in
    let all : length (set (whole ++ drop 10 old) 10 46) ≡ 16 = length-set (whole ++ drop 10 old) 10 46 ∙ grind (arith, common_steps) in
    let five : length (mid_of 11 5 (set (whole ++ drop 10 old) 10 46)) ≡ 5 =
    length-take-le 5 (drop 11 (set (whole ++ drop 10 old) 10 46)) (rw length-drop (omega arith)) in
    let length_part : length part ≡ 5 = ap length is_part ∙ length-last_digits (length (mid_of 11 5 (set (whole ++ drop 10 old) 10 46))) (units % 100000) ∙ five
    in
    let ten_digits : whole ≡ last_digits 10 (units / 100000) = is_whole ∙ ap (λ (n : ℕ). last_digits n (units / 100000)) ten in
    let five_digits : part ≡ last_digits 5 (units % 100000) = is_part ∙ ap (λ (n : ℕ). last_digits n (units % 100000)) five in
    written whole part old length_whole length_part sixteen ∙ rw (ten_digits, five_digits) refl

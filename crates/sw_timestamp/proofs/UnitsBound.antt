-- How large the number of units can be.
use Rattle.std.proofs.Common.{ℕ, ◌*◌, ◌-◌, ◌^◌, ◌<◌, ◌≤◌, List, length, arith, zero, suc, take}
use Rattle.std.specs.Str.Parse.{AllDigits, digits_value}
use Rattle.std.proofs.Math.Nat.{pow-le-pow_right}
use Rattle.std.proofs.lemmas.Int.Digits.{digits_value-lt}
use Rattle.std.proofs.lemmas.Str.Parse.{digits_value-take-le}
use Rattle.sw_timestamp.specs.TimeText.{units_of_digits}

-- at most ten digits write a number below 10 ^ 10
pub ten_digits : (digits : List ℕ) → AllDigits 10 digits → length digits ≤ 10 → digits_value 10 digits < 10000000000
ten_digits digits are_digits fit =
    let most : digits_value 10 digits < 10 ^ length digits = digits_value-lt 10 digits are_digits in
    let limit : 10 ^ length digits ≤ 10 ^ 10 = pow-le-pow_right (omega arith) fit in
    omega arith

-- and so do some of them
pub ten_digits-take : (digits : List ℕ) (i : ℕ) → AllDigits 10 digits → length digits ≤ 10 → digits_value 10 (take i digits) < 10000000000
ten_digits-take digits i are_digits fit =
    omega (arith, ten_digits digits are_digits fit, digits_value-take-le 10 digits i (omega arith))

scaled_lt : (n value : ℕ) → n ≤ 5 → value < 10 ^ n → value * 10 ^ (5 - n) < 100000
scaled_lt zero value small below = omega arith
scaled_lt (suc zero) value small below = omega arith
scaled_lt (suc (suc zero)) value small below = omega arith
scaled_lt (suc (suc (suc zero))) value small below = omega arith
scaled_lt (suc (suc (suc (suc zero)))) value small below = omega arith
scaled_lt (suc (suc (suc (suc (suc zero))))) value small below = omega arith
scaled_lt (suc (suc (suc (suc (suc (suc n)))))) value small below = absurd (omega arith)

-- decimals are less than a second
pub scaled_decimals : (decimals : List ℕ) → AllDigits 10 decimals → length decimals ≤ 5 → digits_value 10 decimals * 10 ^ (5 - length decimals) < 100000
scaled_decimals decimals are_decimals fit =
    scaled_lt (length decimals) (digits_value 10 decimals) fit (digits_value-lt 10 decimals are_decimals)

pub units_bound : (seconds decimals : List ℕ) → AllDigits 10 seconds → length seconds ≤ 10 → AllDigits 10 decimals → length decimals ≤ 5 →
    units_of_digits seconds decimals ≤ 999999999999999
units_bound seconds decimals are_seconds seconds_fit are_decimals decimals_fit =
    let whole : digits_value 10 seconds < 10000000000 = ten_digits seconds are_seconds seconds_fit in
    let part : digits_value 10 decimals * 10 ^ (5 - length decimals) < 100000 =
    scaled_decimals decimals are_decimals decimals_fit in
    omega arith

-- Times as texts. OpenStack Swift's documentation names a write by the value of its X-Timestamp field: seconds since
-- the epoch as a decimal number, which Swift's own nodes write with ten digits, a point and five digits. The limits on
-- the digits that are read, and a unit of 10 microseconds as a whole number, are this project's own.
use Rattle.std.specs.Prelude.{◌≡◌, ℕ, ◌+◌, ◌*◌, ◌-◌, ◌/◌, ◌%◌, ◌^◌, ◌≤◌, zero, suc, List, [], ◌∷◌, ◌++◌, length}
use Rattle.std.specs.Str.Parse.{IsNumeral, AllDigits, digits_value}

-- how many units a second has
abbrev pub units_of_second : ℕ
units_of_second = 100000

-- a point and the decimals, or nothing where there are none
abbrev pub with_point : List ℕ → List ℕ
with_point [] = []
with_point (digit ∷ digits) = 46 ∷ digit ∷ digits

-- the number of units that these digits of seconds and these decimals write
abbrev pub units_of_digits : List ℕ → List ℕ → ℕ
units_of_digits seconds decimals =
    digits_value 10 seconds * units_of_second + digits_value 10 decimals * 10 ^ (5 - length decimals)

-- the text reads as this number of units
pub record IsTimeText (text : List ℕ) (units : ℕ) : Type 0 where
  pub seconds : List ℕ
  pub decimals : List ℕ
  pub is_text : text ≡ seconds ++ with_point decimals
  pub are_seconds : IsNumeral 10 seconds
  pub seconds_fit : length seconds ≤ 10
  pub are_decimals : AllDigits 10 decimals
  pub decimals_fit : length decimals ≤ 5
  pub is_units : units ≡ units_of_digits seconds decimals

-- the last digits of a number, this many of them
unfoldable pub last_digits : ℕ → ℕ → List ℕ
last_digits zero n = []
last_digits (suc count) n = last_digits count (n / 10) ++ (48 + n % 10) ∷ []

-- the normal form of a time: ten digits of seconds, a point and five decimals
abbrev pub normal_text : ℕ → List ℕ
normal_text units = last_digits 10 (units / units_of_second) ++ 46 ∷ last_digits 5 (units % units_of_second)

-- the text that a time is written as: its normal form
abbrev pub text_of : ℕ → List ℕ
text_of units = normal_text units

-- Times in ten decimal digits. (OpenStack Swift writes the times of deletions so, and has none above 9999999999 seconds.)
use Rattle.std.specs.Prelude.{ℕ, ◌-◌, List, ◌++◌, length, decimal, replicate}

-- the decimal text of a number, with zeros before it where it has fewer digits. 48 is '0'
unfoldable pub ten_digits : ℕ → List ℕ
ten_digits n = replicate (10 - length (decimal n)) 48 ++ decimal n

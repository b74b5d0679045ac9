use Rattle.std.proofs.Common.{◌≡◌, ◌++◌, length, drop}
use Rattle.sw_timestamp.specs.TimeText.{last_digits}
use Rattle.sw_timestamp.proofs.writing.write_last_digits.Given as goal

-- what is left of the number gives the digits in front of those that are written
abbrev pub invariant-loop-at : goal.invariant-loop-at
invariant-loop-at l = last_digits (length l.initial.out) l.number ≡ last_digits l.at l.left ++ drop l.at l.out

-- The draws that a generated load is made of. (A linear congruential generator with the multiplier and the increment of Knuth's MMIX; that a draw is the
-- state without its last 33 bits is this project's own.)
use Rattle.std.specs.Prelude.{ℕ, ◌+◌, ◌*◌, ◌/◌, ◌%◌, ◌^◌, zero, suc}

-- the state that comes behind one
abbrev pub state_behind : ℕ → ℕ
state_behind x = (x * 6364136223846793005 + 1442695040888963407) % 2 ^ 64

-- the state behind so many draws; it begins as the seed
unfoldable pub state_after : ℕ → ℕ → ℕ
state_after seed zero = seed
state_after seed (suc n) = state_behind (state_after seed n)

-- the draw of this number, counted from 0: the state behind it without its last 33 bits
abbrev pub draw : ℕ → ℕ → ℕ
draw seed n = state_after seed (n + 1) / 2 ^ 33

-- What a source and a sink in memory are, as contracts see them. (This project's own.)
use Rattle.std.specs.Prelude.{ℕ, ◌-◌, ◌^◌, max, List}
use Rattle.std.specs.Prelude.{Bool, nat_eq, slice_index_or}
use Rattle.std.specs.List.{list_any}

-- a source in memory
pub record Supply : Type 0 where
  pub left : List ℕ  -- the bytes to come
  pub pieces : List ℕ  -- how many bytes each call gives at most, by its number
  pub failing : List ℕ  -- the numbers of the calls that fail, counted from 0
  pub calls : ℕ  -- how many calls there were
  pub faults : ℕ  -- how many of them failed
  pub number : ℕ  -- of the connection that it is an end of

-- whether the call of this number is among those that fail
abbrev pub is_failing : List ℕ → ℕ → Bool
is_failing failing call = list_any (λ n. nat_eq n call) failing

-- how many bytes the call of this number gives at most: one at least, and any number where nothing is said of the call
abbrev pub piece_at : List ℕ → ℕ → ℕ
piece_at pieces call = max 1 (slice_index_or pieces call (2 ^ 64 - 1))

-- a source in memory that never fails
pub record SoundSupply : Type 0 where
  pub left : List ℕ  -- the bytes to come
  pub calls : ℕ  -- how many calls there were

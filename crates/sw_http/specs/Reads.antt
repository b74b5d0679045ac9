-- When a source is read. (This project's own.)
--
-- The one who reads can't make the states of a source that are spoken of here, and can't count back: so the one state whose count is less by
-- one is that before the last call.
use Rattle.std.specs.Prelude.{◌≡◌, ℕ, List, Option, ◌⊎◌}
use Rattle.std.specs.Io.KnownBytes.{Consumes}
use Rattle.sw_outside.specs.Counts.{raised}
use Rattle.sw_http.specs.Input.{IfSeen}

-- the last call of a source came when P held of what had been seen of the input, where that is told
pub record IsReadLast {A : Type 0} (left : A → Option (List ℕ)) (calls : A → ℕ) (old new : A) (input : Option (List ℕ)) (P : List ℕ → Type 0) : Type 0 where
  pub source : A  -- as it was before that call
  pub called : calls new ≡ raised (calls source)
  pub bytes : List ℕ  -- what the calls before it gave
  pub given : Consumes (left old) (left source) bytes
  pub needed : IfSeen input (left source) P

-- No call of a source was made, or P held of what had been seen of the input before the last one. Where P holds of the fronts of what it holds of, it
-- held before each.
pub record ReadsWhile {A : Type 0} (left : A → Option (List ℕ)) (calls : A → ℕ) (old new : A) (input : Option (List ℕ)) (P : List ℕ → Type 0) : Type 0 where
  pub bytes : List ℕ  -- what the calls gave
  pub given : Consumes (left old) (left new) bytes
  pub last : (calls new ≡ calls old) ⊎ IsReadLast left calls old new input P

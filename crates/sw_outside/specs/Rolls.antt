-- A list with room for promised items, as contracts see it. (This project's own.)
use Rattle.std.specs.Prelude.{ℕ, List}

pub record Promised (T : Type 0) : Type 0 where
  pub items : List T
  pub promised : ℕ  -- how many items there is room for, those that stand there too

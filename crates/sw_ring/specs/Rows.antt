-- The rows of a ring that is accepted. (This project's own.)
use Rattle.std.specs.Prelude.{ℕ, ◌==◌, ◌&&◌, List, length, Bool, not, nat_eq, IsTrue}
use Rattle.std.specs.List.{list_all}
use Rattle.sw_ring.specs.Faults.{has_repeat, has_unknown}

-- as many devices as there are replicas, all known, and none twice
abbrev pub is_good : ℕ → ℕ → List ℕ → Bool
is_good devices replicas row = (length row == replicas) && not (has_unknown devices row) && not (has_repeat nat_eq row)

abbrev pub AreGood : ℕ → ℕ → List (List ℕ) → Type 0
AreGood devices replicas table = IsTrue (list_all (is_good devices replicas) table)

-- What stores tell of a ring. (This project's own.)
use Rattle.std.specs.Prelude.{◌≡◌, ℕ, List, Option, Some, IfSome}
pub use Rattle.sw_outside.specs.Faults.{faults_after}

-- What stores tell of a ring's name: nothing; or that they have no such ring; or its text.
abbrev pub Telling : Type 0
Telling = Option (Option (List ℕ))

-- the stores have this text, as far as they tell
abbrev pub IsKept : Telling → List ℕ → Type 0
IsKept told text = IfSome told (λ known. known ≡ Some text)

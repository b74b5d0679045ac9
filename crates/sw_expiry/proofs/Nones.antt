-- What holds where nothing is found.
use Rattle.std.proofs.Common.{◌≡◌, Option, None, Some, MatchOption}

pub none-so : {A : Type 0} (r : Option A) (P : Type 0) (Q : A → Type 0) → r ≡ None → P → MatchOption r P Q
none-so None P Q is holds = holds
none-so (Some x) P Q is holds = cc

-- What a session makes of one of its ends: its source, or its sink. (This project's own.)
use Rattle.std.specs.Prelude.{ℕ, List, Option}

pub record Passage : Type 0 where
  pub before : Option (List ℕ)  -- what a source had left as the session began, or a sink had taken; none where it isn't told
  pub now : Option (List ℕ)  -- the same at its end
  pub faults : ℕ  -- how many of its calls had failed as the session began
  pub faults_now : ℕ  -- and at its end

-- that of an end whose content and count are told so
abbrev pub passage : {A : Type 0} → (A → Option (List ℕ)) → (A → ℕ) → A → A → Passage
passage content faults old new = record { before = content old; now = content new; faults = faults old; faults_now = faults new }

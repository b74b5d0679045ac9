-- What one look at bytes says. (This project's own.)
use Rattle.std.specs.Prelude.{ℕ, List, ◌++◌, ⊤}
use Rattle.sw_message.specs.declared.look.Look.{Look}
use Rattle.sw_message.specs.declared.look.Look.TheVariants as looks

-- what was found there, that nothing is there so far, or that nothing will be, whatever follows
abbrev pub IsLook : {A : Type 0} → (A → Type 0) → (List ℕ → Type 0) → List ℕ → Look A → Type 0
IsLook found none bytes (looks.Whole a) = found a
IsLook found none bytes looks.NotYet = none bytes
IsLook found none bytes looks.Never = (more : List ℕ) → none (bytes ++ more)

-- P, where nothing is there so far
abbrev pub OnNotYet : {A : Type 0} → Look A → Type 0 → Type 0
OnNotYet (looks.Whole a) P = ⊤
OnNotYet looks.NotYet P = P
OnNotYet looks.Never P = ⊤

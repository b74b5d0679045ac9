-- What a pass does for several things, one after the other. (This project's own.)
use Rattle.std.specs.Prelude.{◌≡◌, Bool, true, false, List, [], ◌∷◌, ◌⊎◌}
use Rattle.sw_pass.specs.declared.outcome.Outcome.{Outcome}

-- the items in order, each from what is known of the nodes and the counts that the one before it left; none follows one that wanted memory
module _ {A S : Type 0} (one : A → S → Outcome → S → Outcome → Bool → Type 0) where
  abbrev pub InTurn : List A → S → Outcome → S → Outcome → Bool → Type 0
  InTurn [] s o t p on = (t ≡ s) × (p ≡ o) × (on ≡ true)
  InTurn (x ∷ xs) s o t p on =
      ((mid : S) × (between : Outcome) × one x s o mid between true × InTurn xs mid between t p on)
      ⊎ (one x s o t p false × (on ≡ false))

-- What each step on a word tells the pass that makes it. (This project's own.)
use Rattle.std.specs.Prelude.{◌≡◌, ◌≢◌, ℕ, ◌%◌, ◌^◌, true, false, List, [], ◌∷◌, Option, Some, None}
use Rattle.atomic_table.specs.Table.{Me, Step, rest}
use Rattle.sw_turn.specs.declared.booked.Book.{Book}
use Rattle.sw_turn.specs.declared.booked.Known.{Known}
use Rattle.sw_turn.specs.declared.booked.View.{View}
use Rattle.sw_turn.specs.Known.{first_of, taken_in, AreApart, AreParts}
use Rattle.sw_turn.specs.Rule.{Finds}

module _ {B E O : Type 0} where
  -- it has a ticket, of which the word that it found is the remainder
  abbrev pub Drawn : Step (Option B) → Me (Option B) (View B E O) → ℕ → Me (Option B) (View B E O) → Type 0
  Drawn s v n w = (t : ℕ) × (t % 2 ^ 64 ≡ n) × (w ≡ (record v.0 { ticket = Some t }, v.1))

  -- where its ticket is the one whose turn it is, it has the value, and knows its whole history
  abbrev pub Looked : (B → Book E O) → Step (Option B) → Me (Option B) (View B E O) → ℕ → Me (Option B) (View B E O) → Type 0
  Looked book s v n w =
      (t : ℕ) → v.0.ticket ≡ Some t
      → (n ≡ t % 2 ^ 64 → (k : Known B E O) × (b : B) × Finds book v.0 k b × (w ≡ (record v.0 { known = k; turn = true }, (0, Some b) ∷ v.1)))
      × (n ≢ t % 2 ^ 64 → w ≡ v)

  -- what is known after a look at the value in hand
  abbrev pub in_hand : (B → Book E O) → View B E O → List (ℕ × Option B) → Known B E O
  in_hand book v [] = v.known
  in_hand book v ((k, None) ∷ cs) = v.known
  in_hand book v ((k, Some b) ∷ cs) = taken_in v.known (first_of v.numbers) b (book b)

  -- it knows the whole history of the value in hand, and made what is new in it
  abbrev pub Counted : (B → Book E O) → Step (Option B) → Me (Option B) (View B E O) → ℕ → Me (Option B) (View B E O) → Type 0
  Counted book s v n w = w ≡ (record v.0 { known = in_hand book v.0 v.1 }, v.1)

  abbrev pub Passed : Step (Option B) → Me (Option B) (View B E O) → ℕ → Me (Option B) (View B E O) → Type 0
  Passed s v n w = w ≡ (record v.0 { ticket = None; turn = false }, rest v.1)

  -- what the parts of which it was joined knew grew into what it knows, and its numbers are its own
  abbrev pub Recalled : Step (Option B) → Me (Option B) (View B E O) → ℕ → Me (Option B) (View B E O) → Type 0
  Recalled s v n w = AreParts v.0.seats v.0.known v.0.parts × AreApart v.0.seats v.0.numbers × (w ≡ (record v.0 { parts = [] }, v.1))

-- That no text of a grammar stands in front of bytes. (This project's own.)
--
-- A grammar is given by the test of a text's parts and by the printer that makes the text of them.
use Rattle.std.specs.Prelude.{◌≡◌, ℕ, ◌≤◌, Bool, false, List, [], ◌++◌, length, drop, ◌==◌, ◌⊎◌}
use Rattle.std.specs.List.{list_any}

-- none at all
pub record HasNone {A : Type 0} (Is : A → Type 0) (print : A → List ℕ) (bytes : List ℕ) : Type 0 where
  pub none : (parts : A) (rest : List ℕ) → Is parts → ¬ (bytes ≡ print parts ++ rest)

-- none of at most room bytes
pub record HasNoneWithin {A : Type 0} (Is : A → Type 0) (print : A → List ℕ) (room : ℕ) (bytes : List ℕ) : Type 0 where
  pub none : (parts : A) (rest : List ℕ) → Is parts → length (print parts) ≤ room → ¬ (bytes ≡ print parts ++ rest)

abbrev pub is_line_feed : ℕ → Bool
is_line_feed b = b == 10

-- no line feed stands behind the first `seen` bytes
abbrev pub HasNoNewLine : ℕ → List ℕ → Type 0
HasNoNewLine seen bytes = list_any is_line_feed (drop seen bytes) ≡ false

-- bytes that are not refused: up to their last line feed, where anything stands there, more bytes can make a text of them
pub record IsUnfinished (MayBecome : List ℕ → Type 0) (bytes : List ℕ) : Type 0 where
  pub front : List ℕ
  pub tail : List ℕ
  pub whole : bytes ≡ front ++ tail
  pub no_line : list_any is_line_feed tail ≡ false
  pub may : (front ≡ []) ⊎ MayBecome front

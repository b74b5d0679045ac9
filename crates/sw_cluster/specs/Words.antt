-- The words of the command line. (This project's own.)
use Rattle.std.specs.Prelude.{ℕ, Bool, false, List, [], ◌∷◌, length, codes, ◌&&◌, nat_le, Option, None, Some}
use Rattle.std.specs.Str.{bytes_eq}
use Rattle.std.specs.List.{list_all}
use Rattle.sw_words.specs.Words.{is_plain_word}

-- whether the words are `run` and a ring
abbrev pub are_run_words : List (List ℕ) → Bool
are_run_words (command ∷ ring ∷ []) = bytes_eq command (codes "run") && is_plain_word ring
are_run_words _ = false

-- whether the words are `where`, a ring, and the names of an account, of a container or of an object
abbrev pub are_where_words : List (List ℕ) → Bool
are_where_words (command ∷ ring ∷ account ∷ names) =
    bytes_eq command (codes "where") && (nat_le (length names) 2 && list_all is_plain_word (ring ∷ account ∷ names))
are_where_words _ = false

-- the ring that the words name
abbrev pub ring_word : List (List ℕ) → List ℕ
ring_word (command ∷ ring ∷ names) = ring
ring_word _ = []

-- the names that the words of `where` ask for
abbrev pub account_word : List (List ℕ) → List ℕ
account_word (command ∷ ring ∷ account ∷ names) = account
account_word _ = []

abbrev pub container_word : List (List ℕ) → Option (List ℕ)
container_word (command ∷ ring ∷ account ∷ container ∷ names) = Some container
container_word _ = None

abbrev pub object_word : List (List ℕ) → Option (List ℕ)
object_word (command ∷ ring ∷ account ∷ container ∷ object ∷ names) = Some object
object_word _ = None

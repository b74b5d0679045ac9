-- The words of the command line. (This project's own.)
use Rattle.std.specs.Prelude.{ℕ, Bool, List, codes, not, nat_eq}
use Rattle.std.specs.List.{starts_with}

-- whether a word names something: it begins with no `-`
abbrev pub is_plain_word : List ℕ → Bool
is_plain_word word = not (starts_with nat_eq word (codes "-"))

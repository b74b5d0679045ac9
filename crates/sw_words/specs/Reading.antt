-- How the words of `serve` are read. (This project's own. What is promised of them doesn't rest on these definitions: they are a step of its
-- proof.)
use Rattle.std.specs.Prelude.{ℕ, Bool, ◌&&◌, ◌==◌, if◌then◌else◌, nat_le, List, [], ◌∷◌, length, codes, Option, None, Some}
use Rattle.std.specs.Char.{is_ascii_digit}
use Rattle.std.specs.List.{list_all}
use Rattle.std.specs.Str.{bytes_eq}
use Rattle.std.specs.Str.Parse.{digits_value}
use Rattle.sw_words.specs.Words.{is_plain_word}
use Rattle.sw_words.specs.declared.serve.ServeOptions.{ServeOptions}

-- the word behind the first such name, where the words are names and values in turn
unfoldable pub value_of : List ℕ → List (List ℕ) → Option (List ℕ)
value_of wanted [] = None
value_of wanted (name ∷ []) = None
value_of wanted (name ∷ value ∷ words) = if bytes_eq name wanted then Some value else value_of wanted words

-- whether a text is 1 to 20 digits
abbrev pub is_numeral : List ℕ → Bool
is_numeral text = nat_le 1 (length text) && (nat_le (length text) 20 && list_all is_ascii_digit text)

-- the number that a text writes, where it is one of those from `least` to `greatest`
unfoldable pub number_within : ℕ → ℕ → List ℕ → Option ℕ
number_within least greatest text =
    if is_numeral text && (nat_le least (digits_value 10 text) && nat_le (digits_value 10 text) greatest)
    then Some (digits_value 10 text)
    else None

-- one step, and where it found something the next
infixl 10 ◌>>=◌
abbrev pub ◌>>=◌ : {A B : Type 0} → Option A → (A → Option B) → Option B
None >>= f = None
(Some x) >>= f = f x

-- the number that stands behind this name
abbrev pub number_of : List ℕ → ℕ → ℕ → List (List ℕ) → Option ℕ
number_of name least greatest words = value_of name words >>= number_within least greatest

-- the numbers behind the four names
unfoldable pub options_in : List (List ℕ) → Option ServeOptions
options_in words = do
  port ← number_of (codes "--port") 1 65535 words
  workers ← number_of (codes "--workers") 1 16 words
  connections ← number_of (codes "--connections") 1 65536 words
  passes ← number_of (codes "--passes") 0 65536 words
  Some (record { port = port; workers = workers; connections = connections; passes = passes })

-- what the words of `serve` write
abbrev pub options_of : List (List ℕ) → Option ServeOptions
options_of (command ∷ ring ∷ words) =
    if bytes_eq command (codes "serve") && (is_plain_word ring && (length words == 8)) then options_in words else None
options_of _ = None

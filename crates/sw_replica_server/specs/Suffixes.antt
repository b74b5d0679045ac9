-- The suffixes that a text names. (OpenStack Swift's replicators join the suffixes that they ask for by `-`.)
use Rattle.std.specs.Prelude.{◌≡◌, ℕ, ◌<◌, ◌==◌, ◌↔◌, Bool, List, drop, Option, None, Some}
use Rattle.std.specs.Int.{w16, to_be_bytes}
use Rattle.std.specs.List.{All, Contains, slice_split}
use Rattle.std.specs.List.Sorted.{IsStrictlySortedBy}
use Rattle.std.specs.Ordering.{nat_cmp}
use Rattle.hex.specs.Hex.{encode_lower}

-- the three lower-case digits of a suffix, which is below 4,096: of the four of its two bytes all but the first
abbrev pub suffix_digits : ℕ → List ℕ
suffix_digits suffix = drop 1 (encode_lower (to_be_bytes w16 suffix))

-- the text is this suffix
pub record IsSuffix (text : List ℕ) (suffix : ℕ) : Type 0 where
  pub below : suffix < 4096
  pub digits : text ≡ suffix_digits suffix

-- the byte between suffixes: `-`
abbrev pub is_dash : ℕ → Bool
is_dash b = b == 45

-- the pieces of a text between its dashes
abbrev pub pieces : List ℕ → List (List ℕ)
pieces text = slice_split is_dash text

-- each of these pieces is a suffix
abbrev pub AreSuffixes : List (List ℕ) → Type 0
AreSuffixes pieces = (piece : List ℕ) → Contains pieces piece → (suffix : ℕ) × IsSuffix piece suffix

-- one of these pieces is this suffix
abbrev pub HasSuffix : List (List ℕ) → ℕ → Type 0
HasSuffix pieces suffix = (piece : List ℕ) × Contains pieces piece × IsSuffix piece suffix

-- suffixes in order, each once
pub record AreInOrder (suffixes : List ℕ) : Type 0 where
  pub ascending : IsStrictlySortedBy nat_cmp suffixes
  pub below : All (λ suffix. suffix < 4096) suffixes

-- the text names these suffixes: each of its pieces is a suffix, and these are all of them, in order and each once
pub record AreNamed (text suffixes : List ℕ) : Type 0 where
  pub each : AreSuffixes (pieces text)
  pub all : (suffix : ℕ) → Contains suffixes suffix ↔ HasSuffix (pieces text) suffix
  pub ascending : IsStrictlySortedBy nat_cmp suffixes

-- the suffixes that a text names, where each of its pieces is one
abbrev pub IsNaming : List ℕ → Option (List ℕ) → Type 0
IsNaming text None = ¬ AreSuffixes (pieces text)
IsNaming text (Some suffixes) = AreNamed text suffixes

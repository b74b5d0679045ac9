-- The words of `serve`. (This project's own.)
use Rattle.std.specs.Prelude.{◌≡◌, ◌≤◌, ℕ, true, List, [], ◌∷◌, length, codes}
use Rattle.std.specs.Char.{is_ascii_digit}
use Rattle.std.specs.List.{flat_map, list_all}
use Rattle.std.specs.List.Sorted.{IsPermutation}
use Rattle.std.specs.Str.Parse.{digits_value}
use Rattle.sw_words.specs.Words.{is_plain_word}
use Rattle.sw_words.specs.declared.serve.ServeOptions.{ServeOptions}

-- a text is 1 to 20 decimal digits, and what they write is this number, which is one of those from `least` to `greatest`
pub record IsNumberWithin (least greatest : ℕ) (text : List ℕ) (number : ℕ) : Type 0 where
  pub some : 1 ≤ length text
  pub few : length text ≤ 20
  pub digits : list_all is_ascii_digit text ≡ true
  pub value : digits_value 10 text ≡ number
  pub at_least : least ≤ number
  pub at_most : number ≤ greatest

-- the words are `serve`, a ring that begins with no `-`, and then the four options in any order, each as its name and its value; and these
-- are the numbers that the values write
pub record AreServeWords (words : List (List ℕ)) (options : ServeOptions) : Type 0 where
  pub ring : List ℕ
  pub pairs : List (List ℕ × List ℕ)
  pub port : List ℕ
  pub workers : List ℕ
  pub connections : List ℕ
  pub passes : List ℕ
  pub in_words : words ≡ codes "serve" ∷ ring ∷ flat_map (λ pair. pair.0 ∷ pair.1 ∷ []) pairs
  pub plain_ring : is_plain_word ring ≡ true
  pub in_any_order :
      IsPermutation
      ((codes "--port", port) ∷ (codes "--workers", workers) ∷ (codes "--connections", connections) ∷ (codes "--passes", passes) ∷ [])
      pairs
  pub port_number : IsNumberWithin 1 65535 port options.port
  pub workers_number : IsNumberWithin 1 16 workers options.workers
  pub connections_number : IsNumberWithin 1 65536 connections options.connections
  pub passes_number : IsNumberWithin 0 65536 passes options.passes

-- the program offers this: until connections are served by threads, one worker and no passes. It is all that such threads change here
abbrev pub IsOffered : ServeOptions → Type 0
IsOffered options = (options.workers ≡ 1) × (options.passes ≡ 0)

-- the words ask for this, and it is offered
pub record IsServe (words : List (List ℕ)) (options : ServeOptions) : Type 0 where
  pub are_words : AreServeWords words options
  pub offered : IsOffered options

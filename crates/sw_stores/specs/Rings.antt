-- What stores in memory are, as contracts see them. (This project's own.)
use Rattle.std.specs.Prelude.{◌≡◌, ℕ, List, Option, None, Some, MatchBool, MatchResult, Result, Ok, Err, find, ◌⊎◌}
use Rattle.std.specs.Option.{option_map}
use Rattle.std.specs.Str.{bytes_eq}
use Rattle.sw_outside.specs.Supply.{is_failing}
use Rattle.sw_outside.specs.declared.store_error.StoreError.{StoreError}
use Rattle.sw_outside.specs.declared.store_error.StoreError.TheVariants as errors
use Rattle.sw_keeper.specs.MemState.{MemState as KeeperState}
use Rattle.sw_volume.specs.MemState.{MemState}
use Rattle.sw_stores.specs.Shelf.{IsFresh, rests_in}
use Rattle.sw_stores.specs.Starting.{StartsFrom}
use Rattle.sw_stores.specs.declared.mem_stores.RingText.{RingText}
use Rattle.sw_stores.specs.declared.part_shelf.Slot.{Slot}

-- stores in memory
pub record StoresState : Type 0 where
  pub rings : List RingText
  pub failing : List ℕ  -- the numbers of the calls that fail, counted from 0
  pub calls : ℕ  -- how many rings were read and parts of locks started, or tried
  pub faults : ℕ  -- how many of these calls failed
  pub parts : List (Slot (MemState × KeeperState))

-- the text of the ring of a name
abbrev pub text_in : List RingText → List ℕ → Option (List ℕ)
text_in rings name = option_map (λ ring. ring.text) (find (λ ring. bytes_eq ring.name name) rings)

-- how stores in memory answer where they have this text, or none
abbrev pub IsFound : Option (List ℕ) → Result (List ℕ) StoreError → Type 0
IsFound None result = result ≡ Err errors.Failed
IsFound (Some text) result = (result ≡ Ok text) ⊎ (result ≡ Err errors.NoMemory)

-- and how a call is answered: one that is to fail fails
abbrev pub IsGiven : StoresState → List ℕ → Result (List ℕ) StoreError → Type 0
IsGiven stores name result = MatchBool (is_failing stores.failing stores.calls) (result ≡ Err errors.Failed) (IsFound (text_in stores.rings name) result)

-- so it is where a lock's part is to be started; no other start fails, and only where none rests it may want memory
abbrev pub IsStart : StoresState → ℕ → ℕ → Result (MemState × KeeperState) StoreError → Type 0
IsStart stores device stripe result =
    MatchBool (is_failing stores.failing stores.calls) (result ≡ Err errors.Failed)
    (MatchResult result (StartsFrom IsFresh (rests_in stores.parts device stripe))
    (λ error. (error ≡ errors.NoMemory) × (rests_in stores.parts device stripe ≡ None)))

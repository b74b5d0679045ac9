-- What the reader's own steps do to the input. (This project's own.)
use Rattle.std.specs.Prelude.{◌≡◌, ℕ, ◌<◌, ◌≤◌, ⊤, Bool, List, ◌++◌, length, Option, None, Some, IfSome, Result, MatchResult}
use Rattle.std.specs.Io.KnownBytes.{Consumes, Keeps, IsAtEnd}
use Rattle.sw_outside.specs.Counts.{raised}
use Rattle.sw_outside.specs.Faults.{HasRisen}
use Rattle.httparse.specs.Ascii.{crlf_bytes}
use Rattle.httparse.specs.Grammar.{AllPass, is_ows, is_extension_byte}
use Rattle.httparse.specs.Pieces.{Stops, is_newline}
use Rattle.sw_http.specs.declared.input.ReadError.{ReadError}
use Rattle.sw_http.specs.declared.input.ReadError.TheVariants.{Failed, NoMemory}
use Rattle.sw_http.specs.declared.reader.HttpFault.{HttpFault}
use Rattle.sw_http.specs.declared.reader.HttpFault.TheVariants as faults
use Rattle.sw_http.specs.declared.run.Class.{Class}
use Rattle.sw_http.specs.declared.run.Class.TheVariants.{LineEnds, Blanks, Extension}
use Rattle.sw_http.specs.declared.run.Run.{Run}
use Rattle.sw_http.specs.declared.run.Run.TheVariants.{Begun, Ended, TooMany}

-- a read put n bytes of the source behind those that were there, none only at the source's end
pub record HasRead (before after : List ℕ) (left left_now : Option (List ℕ)) (n : ℕ) : Type 0 where
  pub piece : List ℕ
  pub behind : after ≡ before ++ piece
  pub size : length piece ≡ n
  pub read : Consumes left left_now piece
  pub at_end : n ≡ 0 → IsAtEnd left_now

-- a read put n bytes behind those that were there at `Ok(n)`, and nothing was read at `Err`
abbrev pub ReadsBehind : {E : Type 0} → List ℕ → List ℕ → Option (List ℕ) → Option (List ℕ) → Result ℕ E → Type 0
ReadsBehind before after left left_now result =
    MatchResult result (HasRead before after left left_now) (λ _. (after ≡ before) × Keeps left left_now)

-- one call of the source failed: its count of faults rose by one, or stands at its type's end
abbrev pub HasFailed : ℕ → ℕ → Type 0
HasFailed before now = (now ≡ raised before) × (before ≤ now) × HasRisen before now

-- what was seen of the input, which is all of it but what the source has left: where both are told, P holds of it
abbrev pub IfSeen : Option (List ℕ) → Option (List ℕ) → (List ℕ → Type 0) → Type 0
IfSeen None left P = ⊤
IfSeen (Some input) None P = ⊤
IfSeen (Some input) (Some left) P = (seen : List ℕ) × (input ≡ seen ++ left) × P seen

-- ---- runs of bytes that are passed over

-- the test of a byte of this class
abbrev pub test_of : Class → ℕ → Bool
test_of LineEnds = is_newline
test_of Blanks = is_ows
test_of Extension = is_extension_byte

-- so many bytes that pass the test were taken off the input
pub record TakesRun (test : ℕ → Bool) (before after : Option (List ℕ)) (count : ℕ) : Type 0 where
  pub run : List ℕ
  pub passes : AllPass test run
  pub size : length run ≡ count
  pub taken : Consumes before after run

-- no more than limit bytes that pass the test, and nothing else, were taken off the input
pub record TakesFew (test : ℕ → Bool) (limit : ℕ) (before after : Option (List ℕ)) : Type 0 where
  pub count : ℕ
  pub few : count ≤ limit
  pub takes : TakesRun test before after count

-- all bytes pass the test, and they are no more than limit
pub record IsAllRun (test : ℕ → Bool) (limit : ℕ) (bytes : List ℕ) : Type 0 where
  pub passes : AllPass test bytes
  pub few : length bytes ≤ limit

-- in front of bytes stand more than limit bytes that pass the test
pub record IsLongRun (test : ℕ → Bool) (limit : ℕ) (bytes : List ℕ) : Type 0 where
  pub run : List ℕ
  pub rest : List ℕ
  pub passes : AllPass test run
  pub many : limit < length run
  pub whole : bytes ≡ run ++ rest

-- what stands in front of the input once a run was passed over
abbrev pub IsRun : (ℕ → Bool) → ℕ → Option (List ℕ) → Option (List ℕ) → List ℕ → Option (List ℕ) → Run → Type 0
IsRun test limit before after held left (Begun count) = TakesRun test before after count × (count ≤ limit) × Stops test held
IsRun test limit before after held left Ended = IfSome before (IsAllRun test limit) × IsAtEnd left × IsAtEnd after
IsRun test limit before after held left TooMany = IfSome before (IsLongRun test limit)

-- no run of at most limit bytes and then a byte that ends it stands in front of bytes
pub record HasNoRun (test : ℕ → Bool) (limit : ℕ) (bytes : List ℕ) : Type 0 where
  pub none : (run rest : List ℕ) → AllPass test run → length run ≤ limit → Stops test rest → ¬ (bytes ≡ run ++ rest)

-- no line end stands in front of bytes
pub record HasNoLineEnd (bytes : List ℕ) : Type 0 where
  pub none : (rest : List ℕ) → ¬ (bytes ≡ crlf_bytes ++ rest)

-- bytes are the front of a line end, and not all of it
pub record IsLineEndCut (bytes : List ℕ) : Type 0 where
  pub more : List ℕ
  pub whole : bytes ++ more ≡ crlf_bytes
  pub short : length bytes < 2

-- the same, and they are no less than what was held
abbrev pub IsShort : List ℕ → List ℕ → Type 0
IsShort held bytes = IsLineEndCut bytes × (length held ≤ length bytes)

-- ---- errors

-- how an error of a read is told
abbrev pub fault_of : ReadError → HttpFault
fault_of Failed = faults.ReadFault
fault_of NoMemory = faults.NoMemory

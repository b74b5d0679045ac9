-- A head that is taken off the input, and what is skipped before it. (This project's own.)
use Rattle.std.specs.Prelude.{◌≡◌, ℕ, ◌+◌, ◌<◌, List, ◌++◌, length, Option, IfSome, ◌⊎◌}
use Rattle.std.specs.Io.KnownBytes.{Consumes, IsAtEnd}
use Rattle.httparse.specs.Grammar.{RequestHead, MayBecomeRequest, print_request}
use Rattle.httparse.specs.Pieces.{Stops, is_newline}
use Rattle.sw_http.specs.Continue.{BeginsNone}
use Rattle.sw_http.specs.Fronts.{IsUnfinished}
use Rattle.sw_http.specs.Request.{IsSkipped}
use Rattle.sw_http.specs.declared.opening.Opening.{Opening}
use Rattle.sw_http.specs.declared.opening.Opening.TheVariants.{Head, Ended, Bad}
use Rattle.sw_message.specs.Head.{IsHead, IsOpen, HasNoHead}
use Rattle.sw_message.specs.declared.parts.OpenRequest.{OpenRequest}

-- bytes begin with no line end and with no whole head, and may still become one
pub record IsHeadCut (bytes : List ℕ) : Type 0 where
  pub begins : Stops is_newline bytes
  pub none : HasNoHead bytes
  pub short : length bytes < 65536
  pub unfinished : IsUnfinished MayBecomeRequest bytes

-- bytes begin with no line end, and with a head or what may still become one
abbrev pub MayBeginHead : List ℕ → Type 0
MayBeginHead bytes = IsHeadCut bytes ⊎ ((h : RequestHead) × (rest : List ℕ) × IsHead h × (bytes ≡ print_request h ++ rest))

-- a head of len bytes was taken off the input
pub record TakesHead (before after : Option (List ℕ)) (open_ : OpenRequest) (len : ℕ) : Type 0 where
  pub head : RequestHead
  pub is_head : IsHead head
  pub is_open : IsOpen head open_
  pub len_is : length (print_request head) ≡ len
  pub taken : Consumes before after (print_request head)

-- a head and the line ends before it were taken off the input, and so many bytes may the body have
pub record Opens (before after : Option (List ℕ)) (open_ : OpenRequest) (room : ℕ) : Type 0 where
  pub skipped : List ℕ
  pub are_skipped : IsSkipped skipped
  pub head : RequestHead
  pub is_head : IsHead head
  pub is_open : IsOpen head open_
  pub room_is : length (skipped ++ print_request head) + room ≡ 1073741824
  pub taken : Consumes before after (skipped ++ print_request head)

-- no head begins the bytes, and they aren't line ends to be skipped
pub record IsHeadless (bytes : List ℕ) : Type 0 where
  pub none : BeginsNone bytes
  pub not_skipped : ¬ (IsSkipped bytes)

-- what stood in front of the input
abbrev pub IsOpening : Option (List ℕ) → Option (List ℕ) → Option (List ℕ) → Opening → Type 0
IsOpening before after left (Head open_ room) = Opens before after open_ room
IsOpening before after left Ended = IfSome before IsSkipped × IsAtEnd left × IsAtEnd after
IsOpening before after left Bad = IfSome before IsHeadless

-- When a client is told to go on, and what then stands before the reply. (RFC 9110 section 10.1.1 and RFC 9112 section 9.3.)
use Rattle.std.specs.Prelude.{◌≡◌, ℕ, ◌<◌, Bool, true, List, [], ◌+◌, ◌++◌, length, Option, IfSome, codes, is_some, ◌&&◌, ◌⊎◌, if◌then◌else◌}
use Rattle.std.specs.Io.KnownBytes.{Consumes, Appends}
use Rattle.httparse.specs.Ascii.{crlf_bytes}
use Rattle.httparse.specs.Grammar.{RequestHead, MayBecomeRequest, print_request}
use Rattle.sw_outside.specs.Counts.{raised}
use Rattle.sw_outside.specs.Taken.{AppendsPart}
use Rattle.sw_message.specs.Framing.{framing_of, is_framed, says}
use Rattle.sw_message.specs.Head.{IsHead, fields_of}
use Rattle.httparse.specs.Pieces.{Stops, is_newline}
use Rattle.sw_http.specs.ChunkSteps.{MayBecomeBody}
use Rattle.sw_http.specs.Fronts.{IsUnfinished}
use Rattle.sw_http.specs.Request.{IsSkipped, IsNoRequest, Parts, AreParts, text_of, request_of, Reads}
use Rattle.sw_message.specs.declared.fields.Field.{Field}
use Rattle.sw_message.specs.declared.request.Request.{Request}

-- whether the client waits to be told: there is a body, its framing is good, and the last Expect field says so
abbrev pub asks_continue : List Field → Bool
asks_continue fields = is_some (framing_of fields) && (is_framed fields && says (codes "expect") (codes "100-continue") fields)

-- what is written once a head with these fields came, and before its body is read
unfoldable pub continue_text : List Field → List ℕ
continue_text fields = if asks_continue fields then codes "HTTP/1.1 100 Continue" ++ (crlf_bytes ++ crlf_bytes) else []

-- the same for a head
abbrev pub continue_of : RequestHead → List ℕ
continue_of h = continue_text (fields_of h)

-- how many calls of the sink there were, once a client with these fields was told: one more where it waits to be told
abbrev pub puts_after : List Field → ℕ → ℕ
puts_after fields calls = if asks_continue fields then raised calls else calls

-- the request was taken off the input: its text stood in front, and is gone; and the client was told to go on where it asked
pub record Takes (before after taken taken_now : Option (List ℕ)) (request : Request) : Type 0 where
  pub parts : Parts
  pub are_parts : AreParts parts
  pub request_is : request ≡ request_of parts
  pub consumed : Consumes before after (text_of parts)
  pub continued : Appends taken taken_now (continue_of parts.head)

-- this head stands in front of the input, behind line ends that are skipped
pub record HasHead (input : Option (List ℕ)) (head : RequestHead) : Type 0 where
  pub skipped : List ℕ
  pub are_skipped : IsSkipped skipped
  pub is_head : IsHead head
  pub rest : Option (List ℕ)
  pub stands : Consumes input rest (skipped ++ print_request head)

-- no head stands in front of bytes, behind line ends that are skipped
pub record BeginsNone (bytes : List ℕ) : Type 0 where
  pub none : (skipped rest : List ℕ) (h : RequestHead) → IsSkipped skipped → IsHead h → ¬ (bytes ≡ skipped ++ (print_request h ++ rest))

-- what was written is what the head in front of the input asks for: nothing where there is none
abbrev pub Continues : Option (List ℕ) → Option (List ℕ) → Option (List ℕ) → Type 0
Continues input taken taken_now =
    ((h : RequestHead) × HasHead input h × Appends taken taken_now (continue_of h)) ⊎ (IfSome input BeginsNone × Appends taken taken_now [])

-- no front of the input is a request's text, and what was written is what its head asked for
pub record FindsNoRequest (input taken taken_now : Option (List ℕ)) : Type 0 where
  pub no_request : IfSome input IsNoRequest
  pub continued : Continues input taken taken_now

-- a front of what the head in front of the input asks for was written
abbrev pub IsToldPart : Option (List ℕ) → Option (List ℕ) → Option (List ℕ) → Type 0
IsToldPart input taken taken_now = (h : RequestHead) × HasHead input h × AppendsPart taken taken_now (continue_of h)

-- the same, or nothing was written
abbrev pub MayContinue : Option (List ℕ) → Option (List ℕ) → Option (List ℕ) → Type 0
MayContinue input taken taken_now = Appends taken taken_now [] ⊎ IsToldPart input taken taken_now

-- line ends to be skipped, and nothing else, were taken off the input
pub record Skips (before after : Option (List ℕ)) : Type 0 where
  pub skipped : List ℕ
  pub are_skipped : IsSkipped skipped
  pub taken : Consumes before after skipped

-- a read failed: before the head was whole, and then the request can still be read; or behind it, and then a part of the body may be gone
abbrev pub IsCut : Option (List ℕ) → Option (List ℕ) → Option (List ℕ) → Option (List ℕ) → Type 0
IsCut before after taken taken_now =
    (Skips before after × Appends taken taken_now []) ⊎ ((h : RequestHead) × HasHead before h × Appends taken taken_now (continue_of h))

-- bytes are line ends that are skipped, all that stand in front, and then what may still become a head, and isn't longer than one
pub record AwaitsHead (bytes : List ℕ) : Type 0 where
  pub none : BeginsNone bytes
  pub skipped : List ℕ
  pub are_skipped : IsSkipped skipped
  pub begun : List ℕ
  pub whole : bytes ≡ skipped ++ begun
  pub all_skipped : (begun ≡ []) ⊎ Stops is_newline begun
  pub short : length begun < 65536
  pub unfinished : IsUnfinished MayBecomeRequest begun

-- bytes begin with this head, behind line ends that are skipped
pub record StartsWithHead (bytes : List ℕ) (head : RequestHead) : Type 0 where
  pub skipped : List ℕ
  pub are_skipped : IsSkipped skipped
  pub is_head : IsHead head
  pub rest : List ℕ
  pub whole : bytes ≡ skipped ++ (print_request head ++ rest)

-- a head stands in front of bytes, behind line ends that are skipped, or may still come
abbrev pub MayHaveHead : List ℕ → Type 0
MayHaveHead bytes = AwaitsHead bytes ⊎ ((h : RequestHead) × StartsWithHead bytes h)

-- bytes begin with this head, behind line ends that are skipped, and then comes what may still become the body that it announces. That has room:
-- a request has at most 1,073,741,824 bytes
pub record AwaitsBody (bytes : List ℕ) (head : RequestHead) : Type 0 where
  pub skipped : List ℕ
  pub are_skipped : IsSkipped skipped
  pub is_head : IsHead head
  pub begun : List ℕ
  pub whole : bytes ≡ skipped ++ (print_request head ++ begun)
  pub room : ℕ
  pub room_is : length (skipped ++ print_request head) + room ≡ 1073741824
  pub may : MayBecomeBody (framing_of (fields_of head)) room begun

-- no front of bytes is a request's text
abbrev pub HasNoRequest : List ℕ → Type 0
HasNoRequest bytes = (p : Parts) (rest : List ℕ) → ¬ (Reads bytes p rest)

-- no whole request stands in bytes, and more bytes may still make one: a head may still come, or one stands there and its body may still come
pub record NeedsMore (bytes : List ℕ) : Type 0 where
  pub none : HasNoRequest bytes
  pub may : AwaitsHead bytes ⊎ ((h : RequestHead) × AwaitsBody bytes h)

-- a read failed when these bytes of the input had been seen: no whole request stood in them, so the read was needed; and by then the client had
-- been told what the head in front of them asks for, in one call, and nothing where no whole head stood there. It was needed only where a head
-- could still come, or behind one whose body could
pub record IsCutShort (taken taken_now : Option (List ℕ)) (calls calls_now : ℕ) (seen : List ℕ) : Type 0 where
  pub needed : HasNoRequest seen
  pub told : (AwaitsHead seen × Appends taken taken_now [] × (calls_now ≡ calls))
      ⊎ ((h : RequestHead) × AwaitsBody seen h × Appends taken taken_now (continue_of h)
      × (calls_now ≡ puts_after (fields_of h) calls))

-- the write that tells the client failed: its head asks to be told, and it and the line ends before it were taken off the input, and nothing else
pub record IsStopped (before after taken taken_now : Option (List ℕ)) (calls calls_now : ℕ) : Type 0 where
  pub skipped : List ℕ
  pub are_skipped : IsSkipped skipped
  pub head : RequestHead
  pub is_head : IsHead head
  pub asks : asks_continue (fields_of head) ≡ true
  pub consumed : Consumes before after (skipped ++ print_request head)
  pub told : AppendsPart taken taken_now (continue_of head)
  pub called : calls_now ≡ raised calls

-- the sink was called once, and the head in front of the input asks to be told
abbrev pub IsToldOnce : Option (List ℕ) → ℕ → ℕ → Type 0
IsToldOnce input calls calls_now = (h : RequestHead) × HasHead input h × (asks_continue (fields_of h) ≡ true) × (calls_now ≡ raised calls)

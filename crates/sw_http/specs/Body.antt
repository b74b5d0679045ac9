-- The text of a body, and what is handed out of it. (RFC 9112 section 6.3, in the profile of this product.)
use Rattle.std.specs.Prelude.{◌≡◌, ℕ, ◌+◌, ◌≤◌, ⊤, List, [], ◌++◌, length, Option, None, Some, nat_le, if◌then◌else◌}
use Rattle.std.specs.List.{flat_map}
use Rattle.sw_http.specs.Chunked.{ChunkedText, IsChunked, print_chunked, chunk_bytes}
use Rattle.sw_message.specs.declared.framing.Framing.{Framing}
use Rattle.sw_message.specs.declared.framing.Framing.TheVariants.{Unframed, Length, Chunked}
use Rattle.sw_message.specs.declared.request.Body.{Body}
use Rattle.sw_message.specs.declared.request.Body.TheVariants.{Whole, TooLarge}

-- a body as it stands in a message: its bytes alone, or chunks
pub data BodyText : Type 0 where
  Plain : List ℕ → BodyText
  Chunks : ChunkedText → BodyText

-- the text of a body
abbrev pub print_body : BodyText → List ℕ
print_body (Plain bytes) = bytes
print_body (Chunks b) = print_chunked b

-- the bytes that a body carries: those of its chunks, joined
abbrev pub content_of : BodyText → List ℕ
content_of (Plain bytes) = bytes
content_of (Chunks b) = flat_map chunk_bytes b.chunks

-- the body ends where its framing says
abbrev pub IsBody : Framing → BodyText → Type 0
IsBody Unframed (Plain bytes) = bytes ≡ []
IsBody (Length len) (Plain bytes) = length bytes ≡ len
IsBody Chunked (Chunks b) = IsChunked b
IsBody Chunked (Plain bytes) = ⊥
IsBody Unframed (Chunks b) = ⊥
IsBody (Length len) (Chunks b) = ⊥

-- the same, where the head may have no good framing
abbrev pub IsFramedBody : Option Framing → BodyText → Type 0
IsFramedBody None text = ⊥
IsFramedBody (Some framing) text = IsBody framing text

-- what is handed out of a body with these bytes: all of them, or that they are too many
abbrev pub body_of : List ℕ → Body
body_of bytes = if nat_le (length bytes) 5242880 then Whole bytes else TooLarge

-- what is handed out once these bytes came behind it
abbrev pub extended : Body → List ℕ → Body
extended (Whole bytes) more = body_of (bytes ++ more)
extended TooLarge more = TooLarge

-- a body that is kept is no larger than it may be
abbrev pub IsWithinLimit : Body → Type 0
IsWithinLimit (Whole bytes) = length bytes ≤ 5242880
IsWithinLimit TooLarge = ⊤

-- it is kept, also with so many bytes more
abbrev pub IsKeptWith : Body → ℕ → Type 0
IsKeptWith (Whole bytes) more = length bytes + more ≤ 5242880
IsKeptWith TooLarge more = ⊥

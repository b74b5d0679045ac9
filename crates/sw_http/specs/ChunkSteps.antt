-- What the reader's own steps take of a chunked body. (This project's own.)
use Rattle.std.specs.Prelude.{◌≡◌, ℕ, ◌+◌, ◌<◌, ◌≤◌, ⊤, Bool, List, ◌∷◌, ◌++◌, length, take, drop, All, Option, None, Some, IfSome, ◌==◌, ◌⊎◌}
use Rattle.std.specs.List.{flat_map}
use Rattle.std.specs.Char.{is_ascii_hexdigit}
use Rattle.std.specs.Io.KnownBytes.{Consumes}
use Rattle.httparse.specs.Ascii.{crlf_bytes, semicolon}
use Rattle.httparse.specs.Grammar.{AllPass, ChunkLine, IsChunkLine, chunk_size, print_chunk_line, print_extension, IsExtension, is_ows, is_extension_byte}
use Rattle.httparse.specs.Grammar.{MayBecomeChunkLine}
use Rattle.httparse.specs.Grammar.{Field, LineEnd, MayBecomeSection, print_section}
use Rattle.httparse.specs.Pieces.{Stops}
use Rattle.sw_http.specs.Body.{BodyText, IsFramedBody, print_body, content_of, body_of, extended, IsWithinLimit}
use Rattle.sw_http.specs.Chunked.{Chunk, IsChunk, print_chunk, chunk_bytes, ChunkedText, IsChunked, print_chunked, IsLast, IsTrailer}
use Rattle.sw_http.specs.Fronts.{HasNone, HasNoneWithin, IsUnfinished}
use Rattle.sw_http.specs.Input.{IsAllRun}
use Rattle.sw_http.specs.declared.chunk_line.SizeLine.{SizeLine}
use Rattle.sw_http.specs.declared.chunk.Step.{Step}
use Rattle.sw_http.specs.declared.chunk.Step.TheVariants.{More, Last, Bad}
use Rattle.sw_message.specs.declared.framing.Framing.{Framing}
use Rattle.sw_message.specs.declared.framing.Framing.TheVariants.{Unframed, Length, Chunked}
use Rattle.sw_message.specs.declared.request.Body.{Body}

-- ---- the line that tells a chunk's size

-- no chunk line stands in front of bytes
abbrev pub HasNoLine : List ℕ → Type 0
HasNoLine = HasNone IsChunkLine print_chunk_line

-- bytes are the first digits of a chunk line, no more than it may have, or none
pub record IsDigitsCut (bytes : List ℕ) : Type 0 where
  pub digits : AllPass is_ascii_hexdigit bytes
  pub few : length bytes ≤ 16

-- n bytes in front are the digits of a chunk line, if there is one
pub record HasDigits (bytes : List ℕ) (n : ℕ) : Type 0 where
  pub within : n ≤ length bytes
  pub some : 0 < n
  pub few : n ≤ 16
  pub digits : AllPass is_ascii_hexdigit (take n bytes)
  pub stops : Stops is_ascii_hexdigit (drop n bytes)

abbrev pub is_semicolon : ℕ → Bool
is_semicolon b = b == semicolon

-- an extension can't go on with these bytes, nor begin with them where there is none
abbrev pub EndsExtension : Option (List ℕ) → List ℕ → Type 0
EndsExtension None bytes = Stops is_semicolon bytes
EndsExtension (Some text) bytes = Stops is_extension_byte bytes

-- an extension of len bytes was taken off the input, all of it
pub record TakesExtension (before after : Option (List ℕ)) (held : List ℕ) (len : ℕ) : Type 0 where
  pub extension : Option (List ℕ)
  pub is_extension : IsExtension extension
  pub len_is : length (print_extension extension) ≡ len
  pub taken : Consumes before after (print_extension extension)
  pub ends : EndsExtension extension held

-- no extension of at most room bytes, and then a line end, stands in front of bytes
abbrev pub HasNoExtension : ℕ → List ℕ → Type 0
HasNoExtension room =
    HasNone (λ extension. IsExtension extension × (length (print_extension extension) ≤ room)) (λ extension. print_extension extension ++ crlf_bytes)

-- bytes are a semicolon and the first of an extension, no more than room of them
pub record IsExtensionCut (room : ℕ) (bytes : List ℕ) : Type 0 where
  pub text : List ℕ
  pub begins : bytes ≡ semicolon ∷ text
  pub all : IsAllRun is_extension_byte room text

-- what stands behind the digits of a chunk line: blanks, an extension, the line end
abbrev pub print_tail : List ℕ → Option (List ℕ) → List ℕ
print_tail pad extension = pad ++ (print_extension extension ++ crlf_bytes)

-- the rest of a chunk line behind its digits was taken off the input
pub record TakesTail (before after : Option (List ℕ)) (len : ℕ) : Type 0 where
  pub pad : List ℕ
  pub extension : Option (List ℕ)
  pub are_blanks : AllPass is_ows pad
  pub is_extension : IsExtension extension
  pub len_is : length (print_tail pad extension) ≡ len
  pub taken : Consumes before after (print_tail pad extension)

-- no such rest of at most room bytes stands in front of bytes
abbrev pub HasNoTail : ℕ → List ℕ → Type 0
HasNoTail =
    HasNoneWithin {A = List ℕ × Option (List ℕ)} (λ tail. AllPass is_ows tail.0 × IsExtension tail.1) (λ tail. print_tail tail.0 tail.1)

-- no such rest stands in front of bytes, and more bytes can still make one. All but a line end is within the room
pub record IsTailCut (room : ℕ) (bytes : List ℕ) : Type 0 where
  pub none : HasNoTail room bytes
  pub pad : List ℕ
  pub extension : Option (List ℕ)
  pub are_blanks : AllPass is_ows pad
  pub is_extension : IsExtension extension
  pub more : List ℕ
  pub whole : bytes ++ more ≡ print_tail pad extension
  pub few : length bytes ≤ room + 2

-- a chunk line of this size and length was taken off the input
pub record TakesLine (before after : Option (List ℕ)) (size_line : SizeLine) : Type 0 where
  pub line : ChunkLine
  pub is_line : IsChunkLine line
  pub size_is : chunk_size line ≡ size_line.size
  pub len_is : length (print_chunk_line line) ≡ size_line.len
  pub taken : Consumes before after (print_chunk_line line)

-- no chunk line of at most room bytes stands in front of bytes
abbrev pub HasNoLineWithin : ℕ → List ℕ → Type 0
HasNoLineWithin = HasNoneWithin IsChunkLine print_chunk_line

-- no chunk line stands in front of bytes, and more bytes can still make one. All but its digits and a line end is within the room
pub record IsLineCut (room : ℕ) (bytes : List ℕ) : Type 0 where
  pub none : HasNoLineWithin room bytes
  pub may : MayBecomeChunkLine bytes
  pub few : length bytes ≤ room + 18

-- ---- the bytes of a body

-- len bytes were taken off the input, and the body now has them too
pub record TakesBytes (before after : Option (List ℕ)) (body body_now : Body) (len : ℕ) : Type 0 where
  pub bytes : List ℕ
  pub size : length bytes ≡ len
  pub taken : Consumes before after bytes
  pub kept : body_now ≡ extended body bytes

-- len bytes and a line end were taken off the input, and the body now has the bytes too
pub record TakesData (before after : Option (List ℕ)) (body body_now : Body) (len : ℕ) : Type 0 where
  pub bytes : List ℕ
  pub size : length bytes ≡ len
  pub taken : Consumes before after (bytes ++ crlf_bytes)
  pub kept : body_now ≡ extended body bytes

-- no len bytes and a line end stand in front of bytes
abbrev pub HasNoData : ℕ → List ℕ → Type 0
HasNoData len = HasNone (λ content. length content ≡ len) (λ content. content ++ crlf_bytes)

-- these are not all there, and more bytes can still make them
pub record IsDataCut (len : ℕ) (bytes : List ℕ) : Type 0 where
  pub none : HasNoData len bytes
  pub content : List ℕ
  pub size : length content ≡ len
  pub more : List ℕ
  pub whole : bytes ++ more ≡ content ++ crlf_bytes

-- the same behind the line of a chunk that has room
pub record IsSizedCut (room : ℕ) (size_line : SizeLine) (bytes : List ℕ) : Type 0 where
  pub fits : size_line.len + size_line.size + 2 ≤ room
  pub cut : IsDataCut size_line.size bytes

-- more bytes can make bytes a chunk, and there is room for all of it
pub record MayBecomeChunk (room : ℕ) (bytes : List ℕ) : Type 0 where
  pub chunk : Chunk
  pub is_chunk : IsChunk chunk
  pub fits : length (print_chunk chunk) ≤ room
  pub more : List ℕ
  pub whole : bytes ++ more ≡ print_chunk chunk

-- a chunk of len bytes with its line was taken off the input, and the body now has its bytes too
pub record TakesChunk (before after : Option (List ℕ)) (body body_now : Body) (len : ℕ) : Type 0 where
  pub chunk : Chunk
  pub is_chunk : IsChunk chunk
  pub len_is : length (print_chunk chunk) ≡ len
  pub taken : Consumes before after (print_chunk chunk)
  pub kept : body_now ≡ extended body chunk.bytes

-- the line of size 0 was taken off the input
pub record TakesLast (before after : Option (List ℕ)) (len : ℕ) : Type 0 where
  pub line : ChunkLine
  pub is_last : IsLast line
  pub len_is : length (print_chunk_line line) ≡ len
  pub taken : Consumes before after (print_chunk_line line)

-- no text of a chunked body of at most room bytes stands in front of bytes
abbrev pub HasNoChunked : ℕ → List ℕ → Type 0
HasNoChunked = HasNoneWithin IsChunked print_chunked

-- none does, and more bytes can still make a chunk or the line of size 0
pub record IsChunkCut (room : ℕ) (bytes : List ℕ) : Type 0 where
  pub none : HasNoChunked room bytes
  pub may : MayBecomeChunkLine bytes ⊎ MayBecomeChunk room bytes
  pub few : length bytes ≤ room + 18

-- what was taken in one step through the chunks
abbrev pub IsStep : ℕ → Option (List ℕ) → Option (List ℕ) → Body → Body → Step → Type 0
IsStep room before after body body_now (More len) = TakesChunk before after body body_now len × (0 < len) × (len ≤ room)
IsStep room before after body body_now (Last len) = TakesLast before after len × (len ≤ room) × (body_now ≡ body)
IsStep room before after body body_now Bad = IfSome before (HasNoChunked room)

-- chunks were taken off the input, and the body now has their bytes too; the room is less by their length
pub record TakesChunks (before after : Option (List ℕ)) (body body_now : Body) (room room_now : ℕ) : Type 0 where
  pub chunks : List Chunk
  pub are_chunks : All IsChunk chunks
  pub room_is : length (flat_map print_chunk chunks) + room_now ≡ room
  pub taken : Consumes before after (flat_map print_chunk chunks)
  pub kept : body_now ≡ extended body (flat_map chunk_bytes chunks)

-- a chunked body of at most room bytes was taken off the input, and the body now has its bytes too
pub record TakesChunked (before after : Option (List ℕ)) (body body_now : Body) (room : ℕ) : Type 0 where
  pub text : ChunkedText
  pub is_chunked : IsChunked text
  pub fits : length (print_chunked text) ≤ room
  pub taken : Consumes before after (print_chunked text)
  pub kept : body_now ≡ extended body (flat_map chunk_bytes text.chunks)

-- ---- the trailer

-- no trailer stands in front of bytes
abbrev pub HasNoTrailer : List ℕ → Type 0
HasNoTrailer = HasNone {A = List Field × LineEnd} (λ trailer. IsTrailer trailer.0 trailer.1) (λ trailer. print_section trailer.0 trailer.1)

-- no whole trailer stands in front of bytes, and more bytes can still make one; without a line feed there is no need to look
pub record IsTrailerCut (bytes : List ℕ) : Type 0 where
  pub none : HasNoTrailer bytes
  pub short : length bytes < 65536
  pub unfinished : IsUnfinished MayBecomeSection bytes

-- the first len bytes are a trailer
pub record IsTrailerAt (bytes : List ℕ) (len : ℕ) : Type 0 where
  pub fields : List Field
  pub end : LineEnd
  pub is_trailer : IsTrailer fields end
  pub within : len ≤ length bytes
  pub len_is : len ≡ length (print_section fields end)
  pub stands : bytes ≡ print_section fields end ++ drop len bytes

-- a trailer of at most room bytes was taken off the input
pub record TakesTrailer (before after : Option (List ℕ)) (room : ℕ) : Type 0 where
  pub fields : List Field
  pub end : LineEnd
  pub is_trailer : IsTrailer fields end
  pub fits : length (print_section fields end) ≤ room
  pub taken : Consumes before after (print_section fields end)

-- no trailer of at most room bytes stands in front of bytes
abbrev pub HasNoTrailerWithin : ℕ → List ℕ → Type 0
HasNoTrailerWithin =
    HasNoneWithin {A = List Field × LineEnd} (λ trailer. IsTrailer trailer.0 trailer.1) (λ trailer. print_section trailer.0 trailer.1)

-- ---- a chunked body that is not all there

-- bytes are the line of size 0, and then what may still become a trailer
pub record MayBecomeEnd (bytes : List ℕ) : Type 0 where
  pub line : ChunkLine
  pub is_last : IsLast line
  pub rest : List ℕ
  pub whole : bytes ≡ print_chunk_line line ++ rest
  pub cut : IsTrailerCut rest

-- bytes are chunks, and then what may still become the next one, the line of size 0 or the trailer behind it. All but a trailer, or the digits and
-- the end of a line, is within the room
pub record MayBecomeChunked (room : ℕ) (bytes : List ℕ) : Type 0 where
  pub chunks : List Chunk
  pub are_chunks : All IsChunk chunks
  pub left : ℕ
  pub left_is : length (flat_map print_chunk chunks) + left ≡ room
  pub begun : List ℕ
  pub whole : bytes ≡ flat_map print_chunk chunks ++ begun
  pub few : length begun ≤ left + 65536
  pub may : MayBecomeChunkLine begun ⊎ (MayBecomeChunk left begun ⊎ MayBecomeEnd begun)

-- no chunked body of at most room bytes stands in front of bytes, and more bytes can still make one
pub record IsChunkedCut (room : ℕ) (bytes : List ℕ) : Type 0 where
  pub none : HasNoChunked room bytes
  pub may : MayBecomeChunked room bytes

-- ---- a whole body

-- nothing was read of a body that has at least len bytes
pub record IsUnread (len : ℕ) (body : Body) : Type 0 where
  pub within : IsWithinLimit body
  pub becomes : (bytes : List ℕ) → len ≤ length bytes → extended body bytes ≡ body_of bytes

-- a body with this framing, of at most room bytes, was taken off the input
pub record TakesBody (before after : Option (List ℕ)) (framing : Option Framing) (room : ℕ) (body : Body) : Type 0 where
  pub text : BodyText
  pub is_body : IsFramedBody framing text
  pub fits : length (print_body text) ≤ room
  pub taken : Consumes before after (print_body text)
  pub body_is : body ≡ body_of (content_of text)

-- no such body of at most room bytes stands in front of bytes; where the framing is bad there is none
abbrev pub HasNoBody : Option Framing → ℕ → List ℕ → Type 0
HasNoBody framing = HasNoneWithin (IsFramedBody framing) print_body

-- more bytes can still make a body with this framing, which has room: never where the framing is bad, nor where the length is more than the room
abbrev pub MayBecomeBody : Option Framing → ℕ → List ℕ → Type 0
MayBecomeBody None room bytes = ⊥
MayBecomeBody (Some Unframed) room bytes = ⊥
MayBecomeBody (Some (Length len)) room bytes = (length bytes < len) × (len ≤ room)
MayBecomeBody (Some Chunked) room bytes = MayBecomeChunked room bytes

-- no such body stands in front of bytes, and more bytes can still make one
pub record IsBodyCut (framing : Option Framing) (room : ℕ) (bytes : List ℕ) : Type 0 where
  pub none : HasNoBody framing room bytes
  pub may : MayBecomeBody framing room bytes

-- memory is taken for a body with this framing: it has bytes, and room
abbrev pub MayKeep : Option Framing → ℕ → Type 0
MayKeep None room = ⊥
MayKeep (Some Unframed) room = ⊥
MayKeep (Some (Length len)) room = (0 < len) × (len ≤ room)
MayKeep (Some Chunked) room = ⊤

-- The text of a chunked body. (RFC 9112 section 7.1; what a chunk line and a field line are is `httparse`'s grammar.)
use Rattle.std.specs.Prelude.{◌≡◌, ℕ, ◌<◌, ◌≤◌, List, ◌++◌, length, All}
use Rattle.std.specs.List.{flat_map}
use Rattle.httparse.specs.Ascii.{crlf_bytes}
use Rattle.httparse.specs.Grammar.{ChunkLine, IsChunkLine, chunk_size, print_chunk_line, Field, IsField, LineEnd, print_section}

-- a chunk: the line that tells its size, and its bytes
pub record Chunk : Type 0 where
  pub line : ChunkLine
  pub bytes : List ℕ

-- there are as many bytes as the line says, and some
pub record IsChunk (c : Chunk) : Type 0 where
  pub is_line : IsChunkLine c.line
  pub some : 0 < chunk_size c.line
  pub size : length c.bytes ≡ chunk_size c.line

-- the text of a chunk
abbrev pub print_chunk : Chunk → List ℕ
print_chunk c = print_chunk_line c.line ++ (c.bytes ++ crlf_bytes)

-- the bytes that a chunk carries
abbrev pub chunk_bytes : Chunk → List ℕ
chunk_bytes c = c.bytes

-- the parts of a chunked body: the chunks, the line of size 0, the trailer and its empty line
pub record ChunkedText : Type 0 where
  pub chunks : List Chunk
  pub last : ChunkLine
  pub trailer : List Field
  pub end : LineEnd

-- the text of a chunked body
abbrev pub print_chunked : ChunkedText → List ℕ
print_chunked b = flat_map print_chunk b.chunks ++ (print_chunk_line b.last ++ print_section b.trailer b.end)

-- a line of size 0, which ends the chunks
pub record IsLast (line : ChunkLine) : Type 0 where
  pub is_line : IsChunkLine line
  pub none : chunk_size line ≡ 0

-- a trailer is within the limits of a head
pub record IsTrailer (fields : List Field) (end : LineEnd) : Type 0 where
  pub are_fields : All IsField fields
  pub size : length (print_section fields end) ≤ 65536
  pub few_fields : length fields ≤ 128

-- the parts are those of a chunked body
pub record IsChunked (b : ChunkedText) : Type 0 where
  pub are_chunks : All IsChunk b.chunks
  pub is_last : IsLast b.last
  pub is_trailer : IsTrailer b.trailer b.end

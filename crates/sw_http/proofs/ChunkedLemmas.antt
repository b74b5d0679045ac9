-- Chunked bodies: bytes begin with one at most, and when none can stand in front.
use Rattle.std.proofs.Common.{◌≡◌, ℕ, ◌+◌, ◌-◌, ◌<◌, ◌≤◌, List, [], ◌∷◌, ◌++◌, length, Option, IfSome, refl, sym, ap, ◌∙◌, subst, arith, append_assoc}
use Rattle.std.proofs.Common.{◌⊎◌, inl, inr, append-nil, length-append}
use Rattle.std.specs.Prelude.{All}
use Rattle.std.specs.List.{flat_map}
use Rattle.std.specs.Io.KnownBytes.{Consumes}
use Rattle.std.proofs.KnownBytes.{Consumes-trans, Consumes-nil}
use Rattle.std.proofs.lemmas.List.Elements.{All-head, All-tail, All-cons, All-nil, All-append}
use Rattle.httparse.specs.Ascii.{crlf_bytes}
use Rattle.httparse.specs.Grammar.{ChunkLine, IsChunkLine, chunk_size, print_chunk_line, Field, LineEnd, print_section, MayBecomeChunkLine}
use Rattle.httparse.proofs.ChunkLemmas.{chunk_line_unique}
use Rattle.httparse.proofs.GrammarLemmas.{section_unique}
use Rattle.sw_http.specs.Body.{extended, IsWithinLimit}
use Rattle.sw_http.specs.Chunked.{Chunk, IsChunk, print_chunk, chunk_bytes, ChunkedText, IsChunked, print_chunked, IsLast, IsTrailer}
use Rattle.sw_http.specs.ChunkSteps.{HasNoLineWithin, HasNoData, TakesData, TakesLine, TakesChunk, TakesLast, HasNoChunked, TakesChunks, TakesChunked}
use Rattle.sw_http.specs.ChunkSteps.{TakesTrailer, HasNoTrailerWithin}
use Rattle.sw_http.specs.ChunkSteps.{IsLineCut, IsSizedCut, MayBecomeChunk, IsChunkCut, IsTrailerCut, MayBecomeEnd, IsChunkedCut}
use Rattle.sw_http.specs.declared.chunk_line.SizeLine.{SizeLine}
use Rattle.sw_message.specs.declared.request.Body.{Body}
use Rattle.sw_http.proofs.BodyLemmas.{extended_none, extended_twice, extended_within}
use Rattle.sw_http.specs.Input.{IfSeen}
use Rattle.sw_http.proofs.InputLemmas.{if_behind, if_taken, none_within, seen_behind, seen_map}
use Rattle.sw_http.proofs.ListLemmas.{fronts_same, same_rest}

abbrev chunked : List Chunk → ChunkLine → List Field → LineEnd → List ℕ
chunked cs last trailer end = flat_map print_chunk cs ++ (print_chunk_line last ++ print_section trailer end)

regroup : (line bytes end more tail rest : List ℕ) → (((line ++ (bytes ++ end)) ++ more) ++ tail) ++ rest ≡ line ++ (bytes ++ (end ++ ((more ++ tail) ++ rest)))
regroup line bytes end more tail rest = simp append_assoc

-- the first chunk, and what stands behind it
chunk_split : (c : Chunk) (cs : List Chunk) (last : ChunkLine) (trailer : List Field) (end : LineEnd) (rest : List ℕ)
    → chunked (c ∷ cs) last trailer end ++ rest ≡ print_chunk_line c.line ++ (c.bytes ++ (crlf_bytes ++ (chunked cs last trailer end ++ rest)))
chunk_split c cs last trailer end rest = regroup (print_chunk_line c.line) c.bytes crlf_bytes (flat_map print_chunk cs)
    (print_chunk_line last ++ print_section trailer end) rest

-- the line of size 0, and what stands behind it
last_split : (last : ChunkLine) (trailer : List Field) (end : LineEnd) (rest : List ℕ)
    → chunked [] last trailer end ++ rest ≡ print_chunk_line last ++ (print_section trailer end ++ rest)
last_split last trailer end rest = append_assoc (print_chunk_line last) (print_section trailer end) rest

chunk_length : (c : Chunk) → length (print_chunk c) ≡ length (print_chunk_line c.line) + (length c.bytes + 2)
chunk_length c = omega (arith, length-append (print_chunk_line c.line) (c.bytes ++ crlf_bytes), length-append c.bytes crlf_bytes)

chunked_length : (c : Chunk) (cs : List Chunk) (last : ChunkLine) (trailer : List Field) (end : LineEnd)
    → length (chunked (c ∷ cs) last trailer end) ≡ length (print_chunk c) + length (chunked cs last trailer end)
chunked_length c cs last trailer end =
    ap length (append_assoc (print_chunk c) (flat_map print_chunk cs) (print_chunk_line last ++ print_section trailer end))
    ∙ length-append (print_chunk c) (chunked cs last trailer end)

last_length : (last : ChunkLine) (trailer : List Field) (end : LineEnd)
    → length (chunked [] last trailer end) ≡ length (print_chunk_line last) + length (print_section trailer end)
last_length last trailer end = length-append (print_chunk_line last) (print_section trailer end)

-- ---- bytes begin with one chunked body at most

record SameChunked (cs ds : List Chunk) (last final : ChunkLine) (trailer others : List Field) (end stop : LineEnd) (r q : List ℕ) : Type 0 where
  chunks : cs ≡ ds
  lines : last ≡ final
  trailers : trailer ≡ others
  ends : end ≡ stop
  rests : r ≡ q

not_last : (line other : ChunkLine) → IsLast line → 0 < chunk_size other → line ≡ other → ⊥
not_last line other last some same = omega (arith, last.none, some, ap chunk_size same)

chunked_unique : (cs ds : List Chunk) (last final : ChunkLine) (trailer others : List Field) (end stop : LineEnd) (r q : List ℕ)
    → All IsChunk cs → All IsChunk ds → IsLast last → IsLast final → IsTrailer trailer end → IsTrailer others stop
    → chunked cs last trailer end ++ r ≡ chunked ds final others stop ++ q → SameChunked cs ds last final trailer others end stop r q
chunked_unique [] [] last final trailer others end stop r q are others_are is other_is t u e =
    let lines = chunk_line_unique _ last final _ _ (is.is_line, refl) (
      other_is.is_line,
      sym (last_split last trailer end r) ∙ e ∙ last_split final others stop q,
    ) in
    let sections = section_unique _ trailer others end stop r q (t.are_fields, refl) (u.are_fields, lines.1) in
    record { chunks = refl; lines = lines.0; trailers = sections.0; ends = sections.1; rests = sections.2 }
chunked_unique [] (d ∷ ds) last final trailer others end stop r q are others_are is other_is t u e =
    let first = All-head IsChunk d ds others_are in
    let lines = chunk_line_unique _ last d.line _ _ (is.is_line, refl)
    (first.is_line, sym (last_split last trailer end r) ∙ e ∙ chunk_split d ds final others stop q) in
    absurd (not_last last d.line is first.some lines.0)
chunked_unique (c ∷ cs) [] last final trailer others end stop r q are others_are is other_is t u e =
    let first = All-head IsChunk c cs are in
    let lines = chunk_line_unique _ final c.line _ _ (other_is.is_line, refl)
    (first.is_line, sym (last_split final others stop q) ∙ sym e ∙ chunk_split c cs last trailer end r) in
    absurd (not_last final c.line other_is first.some lines.0)
chunked_unique (c ∷ cs) (d ∷ ds) last final trailer others end stop r q are others_are is other_is t u e =
    let first = All-head IsChunk c cs are in
    let second = All-head IsChunk d ds others_are in
    let lines = chunk_line_unique _ c.line d.line _ _ (first.is_line, refl)
    (second.is_line, sym (chunk_split c cs last trailer end r) ∙ e ∙ chunk_split d ds final others stop q) in
    let bytes = fronts_same c.bytes d.bytes _ _ (first.size ∙ ap chunk_size lines.0 ∙ sym second.size) lines.1 in
    let rest = chunked_unique cs ds last final trailer others end stop r q (All-tail IsChunk c cs are) (All-tail IsChunk d ds others_are) is other_is t u
    (same_rest crlf_bytes _ _ bytes.1) in
    record {
      chunks = λ i. record { line = lines.0 i; bytes = bytes.0 i } ∷ rest.chunks i;
      lines = rest.lines;
      trailers = rest.trailers;
      ends = rest.ends;
      rests = rest.rests;
    }

pub chunked_same : (a b : ChunkedText) (r q : List ℕ) → IsChunked a → IsChunked b → print_chunked a ++ r ≡ print_chunked b ++ q → (a ≡ b) × (r ≡ q)
chunked_same a b r q is are e =
    let same = chunked_unique a.chunks b.chunks a.last b.last a.trailer b.trailer a.end b.end r q is.are_chunks are.are_chunks is.is_last are.is_last
    is.is_trailer are.is_trailer e in
    (λ i. record { chunks = same.chunks i; last = same.lines i; trailer = same.trailers i; end = same.ends i }, same.rests)

-- ---- no chunked body in front

-- by cases: there are no chunks, or there is a first one
abbrev IsNoLast : ℕ → List ℕ → Type 0
IsNoLast room bytes = (last : ChunkLine) (trailer : List Field) (end : LineEnd) (after : List ℕ) → IsLast last → IsTrailer trailer end
    → length (print_chunk_line last) + length (print_section trailer end) ≤ room → ¬ (bytes ≡ print_chunk_line last ++ (print_section trailer end ++ after))

abbrev IsNoFirst : ℕ → List ℕ → Type 0
IsNoFirst room bytes = (c : Chunk) (b : ChunkedText) (after : List ℕ) → IsChunk c → IsChunked b → length (print_chunk c) + length (print_chunked b) ≤ room
    → ¬ (bytes ≡ print_chunk_line c.line ++ (c.bytes ++ (crlf_bytes ++ (print_chunked b ++ after))))

no_chunked : (room : ℕ) (bytes : List ℕ) → IsNoLast room bytes → IsNoFirst room bytes → HasNoChunked room bytes
no_chunked room bytes no_last no_first = record {
  none = λ b rest is fits e. go b.chunks b.last b.trailer b.end rest is.are_chunks is.is_last is.is_trailer fits e;
}
  where
    go : (cs : List Chunk) (last : ChunkLine) (trailer : List Field) (end : LineEnd) (rest : List ℕ) → All IsChunk cs → IsLast last → IsTrailer trailer end
        → length (chunked cs last trailer end) ≤ room → ¬ (bytes ≡ chunked cs last trailer end ++ rest)
    go [] last trailer end rest are is t fits e =
        no_last last trailer end rest is t (omega (arith, fits, last_length last trailer end)) (e ∙ last_split last trailer end rest)
    go (c ∷ cs) last trailer end rest are is t fits e =
        no_first c (record { chunks = cs; last = last; trailer = trailer; end = end }) rest (All-head IsChunk c cs are)
        (record { are_chunks = All-tail IsChunk c cs are; is_last = is; is_trailer = t })
        (omega (arith, fits, chunked_length c cs last trailer end)) (e ∙ chunk_split c cs last trailer end rest)

pub no_chunked_line : (room : ℕ) (bytes : List ℕ) → HasNoLineWithin room bytes → HasNoChunked room bytes
no_chunked_line room bytes none_there = no_chunked room bytes
    (λ last trailer end after is t fits e. none_there.none last _ is.is_line (omega (arith, fits)) e)
    (λ c b after is are fits e. none_there.none c.line _ is.is_line (omega (arith, fits, chunk_length c)) e)

-- where a line of size 0 stands in front there are no chunks, and the trailer follows
no_chunked_after_last : (room : ℕ) (line : ChunkLine) (rest : List ℕ) → IsLast line
    → ((trailer : List Field) (end : LineEnd) (after : List ℕ) → IsTrailer trailer end →
    length (print_chunk_line line) + length (print_section trailer end) ≤ room
    → ¬ (rest ≡ print_section trailer end ++ after))
    → HasNoChunked room (print_chunk_line line ++ rest)
no_chunked_after_last room line rest is_last none_there = no_chunked room _
    (λ last trailer end after is t fits e.
    let lines = chunk_line_unique _ line last rest _ (is_last.is_line, refl) (is.is_line, e) in
    none_there trailer end after t (omega (arith, fits, ap (λ (l : ChunkLine). length (print_chunk_line l)) lines.0)) lines.1)
    (λ c b after is are fits e.
    let lines = chunk_line_unique _ line c.line rest _ (is_last.is_line, refl) (is.is_line, e) in
    not_last line c.line is_last is.some lines.0)

pub no_chunked_last : (room len : ℕ) (line : ChunkLine) (rest : List ℕ) → IsLast line → length (print_chunk_line line) ≡ len → room < len
    → HasNoChunked room (print_chunk_line line ++ rest)
no_chunked_last room len line rest is_last len_is many =
    no_chunked_after_last room line rest is_last λ trailer end after t fits e. omega (arith, fits, len_is, many)

pub no_chunked_trailer : (room left len : ℕ) (line : ChunkLine) (rest : List ℕ) → IsLast line → length (print_chunk_line line) ≡ len → len + left ≡ room
    → HasNoTrailerWithin left rest → HasNoChunked room (print_chunk_line line ++ rest)
no_chunked_trailer room left len line rest is_last len_is left_is none_there =
    no_chunked_after_last room line rest is_last λ trailer end after t fits e. none_there.none (trailer, end) after t (omega (arith, fits, len_is, left_is)) e

-- where a line of another size stands in front a chunk of that size follows
no_chunked_after_line : (room : ℕ) (line : ChunkLine) (rest : List ℕ) → IsChunkLine line → 0 < chunk_size line
    → ((c : Chunk) (b : ChunkedText) (after : List ℕ) → IsChunk c → c.line ≡ line → IsChunked b → length (print_chunk c) + length (print_chunked b) ≤ room
    → ¬ (rest ≡ c.bytes ++ (crlf_bytes ++ (print_chunked b ++ after))))
    → HasNoChunked room (print_chunk_line line ++ rest)
no_chunked_after_line room line rest is_line some none_there = no_chunked room _
    (λ last trailer end after is t fits e.
    let lines = chunk_line_unique _ last line _ rest (is.is_line, e) (is_line, refl) in
    not_last last line is some lines.0)
    (λ c b after is are fits e.
    let lines = chunk_line_unique _ c.line line _ rest (is.is_line, e) (is_line, refl) in
    none_there c b after is lines.0 are fits (sym lines.1))

pub no_chunked_size : (room : ℕ) (line : ChunkLine) (rest : List ℕ) → IsChunkLine line → 0 < chunk_size line →
    room < length (print_chunk_line line) + chunk_size line + 2
    → HasNoChunked room (print_chunk_line line ++ rest)
no_chunked_size room line rest is_line some many = no_chunked_after_line room line rest is_line some
    λ c b after is same are fits e.
    omega (arith, fits, many, chunk_length c, is.size, ap chunk_size same, ap (λ (l : ChunkLine). length (print_chunk_line l)) same)

pub no_chunked_data : (room : ℕ) (line : ChunkLine) (rest : List ℕ) → IsChunkLine line → 0 < chunk_size line → HasNoData (chunk_size line) rest
    → HasNoChunked room (print_chunk_line line ++ rest)
no_chunked_data room line rest is_line some none_there = no_chunked_after_line room line rest is_line some
    λ c b after is same are fits e.
    none_there.none c.bytes _ (is.size ∙ ap chunk_size same) (e ∙ sym (append_assoc c.bytes crlf_bytes (print_chunked b ++ after)))

-- where a chunk stands in front, and no body that fits the rest of the room follows
pub no_chunked_behind : (room left : ℕ) (chunk : Chunk) (rest : List ℕ) → IsChunk chunk → length (print_chunk chunk) + left ≡ room → HasNoChunked left rest
    → HasNoChunked room (print_chunk chunk ++ rest)
no_chunked_behind room left chunk rest is_chunk left_is none_there =
    subst (HasNoChunked room) (sym (split chunk rest))
    (no_chunked_after_line room chunk.line (chunk.bytes ++ (crlf_bytes ++ rest)) is_chunk.is_line is_chunk.some
    λ c b after is same are fits e.
    let bytes = fronts_same chunk.bytes c.bytes _ _ (is_chunk.size ∙ sym (is.size ∙ ap chunk_size same)) e in
    let size : length (print_chunk c) ≡ length (print_chunk chunk) = omega
    (arith, chunk_length c, chunk_length chunk, is.size, is_chunk.size, ap chunk_size same, ap (λ (l : ChunkLine). length (print_chunk_line l)) same) in
    none_there.none b after are (smaller c b size fits) (same_rest crlf_bytes _ _ bytes.1))
  where
    split : (c : Chunk) (after : List ℕ) → print_chunk c ++ after ≡ print_chunk_line c.line ++ (c.bytes ++ (crlf_bytes ++ after))
    split c after = regroup_chunk (print_chunk_line c.line) c.bytes crlf_bytes after
      where
        regroup_chunk : (line bytes end tail : List ℕ) → (line ++ (bytes ++ end)) ++ tail ≡ line ++ (bytes ++ (end ++ tail))
        regroup_chunk line bytes end tail = simp append_assoc

    smaller : (c : Chunk) (b : ChunkedText) → length (print_chunk c) ≡ length (print_chunk chunk) → length (print_chunk c) + length (print_chunked b) ≤ room
        → length (print_chunked b) ≤ left
    smaller c b size fits = omega (arith, size, fits, left_is)

no_chunked_behind_all : (cs : List Chunk) (room left : ℕ) (rest : List ℕ) → All IsChunk cs → length (flat_map print_chunk cs) + left ≡ room →
    HasNoChunked left rest
    → HasNoChunked room (flat_map print_chunk cs ++ rest)
no_chunked_behind_all [] room left rest are left_is none_there = subst (λ (n : ℕ). HasNoChunked n rest) (add-zero_left left left_is) none_there
  where
    add-zero_left : (n : ℕ) → 0 + n ≡ room → n ≡ room
    add-zero_left n e = omega (arith, e)
no_chunked_behind_all (c ∷ cs) room left rest are left_is none_there =
    let size : length (print_chunk c) + (length (flat_map print_chunk cs) + left) ≡ room =
    omega (arith, left_is, length-append (print_chunk c) (flat_map print_chunk cs)) in
    subst (HasNoChunked room) (sym (append_assoc (print_chunk c) (flat_map print_chunk cs) rest))
    (no_chunked_behind room (length (flat_map print_chunk cs) + left) c _ (All-head IsChunk c cs are) size
    (no_chunked_behind_all cs (length (flat_map print_chunk cs) + left) left rest (All-tail IsChunk c cs are) refl none_there))

-- ---- chunks that were taken

pub chunk_taken : (a b c : Option (List ℕ)) (body now : Body) (size_line : SizeLine) → TakesLine a b size_line → 0 < size_line.size →
    TakesData b c body now size_line.size
    → TakesChunk a c body now (size_line.len + size_line.size + 2)
chunk_taken a b c body now size_line takes some data_takes =
    let chunk : Chunk = record { line = takes.line; bytes = data_takes.bytes } in
    record {
      chunk = chunk;
      is_chunk = record { is_line = takes.is_line; some = omega (arith, takes.size_is, some); size = data_takes.size ∙ sym takes.size_is };
      len_is = omega (arith, chunk_length chunk, takes.len_is, data_takes.size);
      taken = Consumes-trans a b c _ _ takes.taken data_takes.taken;
      kept = data_takes.kept;
    }

pub no_chunks_yet : (a : Option (List ℕ)) (body : Body) (room : ℕ) → IsWithinLimit body → TakesChunks a a body body room room
no_chunks_yet a body room within = record {
  chunks = [];
  are_chunks = All-nil _;
  room_is = omega arith;
  taken = Consumes-nil a;
  kept = sym (extended_none body within);
}

flat_map-append : {A : Type 0} (f : A → List ℕ) (xs ys : List A) → flat_map f (xs ++ ys) ≡ flat_map f xs ++ flat_map f ys
flat_map-append f [] ys = refl
flat_map-append f (x ∷ xs) ys = ap (λ (l : List ℕ). f x ++ l) (flat_map-append f xs ys) ∙ sym (append_assoc (f x) (flat_map f xs) (flat_map f ys))

flat_map_one : {A : Type 0} (f : A → List ℕ) (xs : List A) (y : A) → flat_map f (xs ++ y ∷ []) ≡ flat_map f xs ++ f y
flat_map_one f xs y = flat_map-append f xs (y ∷ []) ∙ ap (λ (l : List ℕ). flat_map f xs ++ l) (append-nil (f y))

pub chunks_more : (a b c : Option (List ℕ)) (body mid now : Body) (room left less len : ℕ) → TakesChunks a b body mid room left → TakesChunk b c mid now len →
    len + less ≡ left
    → TakesChunks a c body now room less
chunks_more a b c body mid now room left less len before takes less_is = record {
  chunks = before.chunks ++ takes.chunk ∷ [];
  are_chunks = All-append IsChunk before.chunks (takes.chunk ∷ []) before.are_chunks (All-cons IsChunk takes.chunk [] takes.is_chunk (All-nil _));
  room_is = omega (arith, before.room_is, less_is, takes.len_is, ap length texts, length-append (flat_map print_chunk before.chunks) (print_chunk takes.chunk));
  taken = subst (Consumes a c) (sym texts) (Consumes-trans a b c _ _ before.taken takes.taken);
  kept = takes.kept ∙ ap (λ (x : Body). extended x takes.chunk.bytes) before.kept ∙ extended_twice body _ takes.chunk.bytes
      ∙ ap (extended body) (sym (flat_map_one chunk_bytes before.chunks takes.chunk));
}
  where
    texts : flat_map print_chunk (before.chunks ++ takes.chunk ∷ []) ≡ flat_map print_chunk before.chunks ++ print_chunk takes.chunk
    texts = flat_map_one print_chunk before.chunks takes.chunk

pub chunks_within : (a b : Option (List ℕ)) (body now : Body) (room left : ℕ) → TakesChunks a b body now room left → IsWithinLimit now
chunks_within a b body now room left takes = subst IsWithinLimit (sym takes.kept) (extended_within body _)

pub chunked_taken : (a b c d : Option (List ℕ)) (body mid now : Body) (room left len : ℕ) → TakesChunks a b body mid room left → TakesLast b c len → now ≡ mid →
    len ≤ left
    → TakesTrailer c d (left - len) → TakesChunked a d body now room
chunked_taken a b c d body mid now room left len before last same within trailer = record {
  text = record { chunks = before.chunks; last = last.line; trailer = trailer.fields; end = trailer.end };
  is_chunked = record { are_chunks = before.are_chunks; is_last = last.is_last; is_trailer = trailer.is_trailer };
  fits = omega (
    arith,
    before.room_is,
    last.len_is,
    trailer.fits,
    within,
    length-append (flat_map print_chunk before.chunks) (print_chunk_line last.line ++ print_section trailer.fields trailer.end),
    length-append (print_chunk_line last.line) (print_section trailer.fields trailer.end),
  );
  taken = Consumes-trans a b d _ _ before.taken (Consumes-trans b c d _ _ last.taken trailer.taken);
  kept = same ∙ before.kept;
}

pub chunks_refused : (a b : Option (List ℕ)) (body now : Body) (room left : ℕ) → TakesChunks a b body now room left → IfSome b (HasNoChunked left) →
    IfSome a (HasNoChunked room)
chunks_refused a b body now room left takes none_there =
    if_behind a b _ (HasNoChunked room) (HasNoChunked left) takes.taken
    (λ rest holds. no_chunked_behind_all takes.chunks room left rest takes.are_chunks takes.room_is holds) none_there

pub trailer_refused : (a b c : Option (List ℕ)) (body now : Body) (room left len : ℕ) → TakesChunks a b body now room left → TakesLast b c len → len ≤ left
    → IfSome c (HasNoTrailerWithin (left - len)) → IfSome a (HasNoChunked room)
trailer_refused a b c body now room left len takes last within none_there =
    chunks_refused a b body now room left takes
    (if_behind b c _ (HasNoChunked left) (HasNoTrailerWithin (left - len)) last.taken
    (λ rest holds. no_chunked_trailer left (left - len) len last.line rest last.is_last last.len_is (omega arith) holds) none_there)

-- ---- why a step refuses

pub step_last_long : (a b : Option (List ℕ)) (size_line : SizeLine) (room : ℕ) → TakesLine a b size_line → size_line.size ≡ 0 → room < size_line.len →
    IfSome a (HasNoChunked room)
step_last_long a b size_line room takes none many =
    if_taken a b _ (HasNoChunked room) takes.taken λ rest.
    no_chunked_last room size_line.len takes.line rest (record { is_line = takes.is_line; none = takes.size_is ∙ none }) takes.len_is many

pub step_last : (a b : Option (List ℕ)) (size_line : SizeLine) → TakesLine a b size_line → size_line.size ≡ 0 → TakesLast a b size_line.len
step_last a b size_line takes none =
    record { line = takes.line; is_last = record { is_line = takes.is_line; none = takes.size_is ∙ none }; len_is = takes.len_is; taken = takes.taken }

pub step_too_long : (a b : Option (List ℕ)) (size_line : SizeLine) (room : ℕ) → TakesLine a b size_line → 0 < size_line.size →
    room < size_line.len + size_line.size + 2
    → IfSome a (HasNoChunked room)
step_too_long a b size_line room takes some many =
    if_taken a b _ (HasNoChunked room) takes.taken λ rest.
    no_chunked_size room takes.line rest takes.is_line (omega (arith, takes.size_is, some)) (omega (arith, takes.size_is, takes.len_is, many))

pub step_no_data : (a b : Option (List ℕ)) (size_line : SizeLine) (room : ℕ) → TakesLine a b size_line → 0 < size_line.size →
    IfSome b (HasNoData size_line.size)
    → IfSome a (HasNoChunked room)
step_no_data a b size_line room takes some none_there =
    if_behind a b _ (HasNoChunked room) (HasNoData size_line.size) takes.taken
    (λ rest holds. no_chunked_data room takes.line rest takes.is_line (omega (arith, takes.size_is, some))
    (subst (λ (n : ℕ). HasNoData n rest) (sym takes.size_is) holds))
    none_there

-- ---- a read failed in a chunked body

pub chunk_cut_line : (a left : Option (List ℕ)) (room : ℕ) → IfSeen a left (IsLineCut room) → IfSeen a left (IsChunkCut room)
chunk_cut_line a left room = seen_map a left (IsLineCut room) (IsChunkCut room)
    λ bytes cut. record { none = no_chunked_line room bytes cut.none; may = inl cut.may; few = cut.few }

pub chunk_cut_data : (a b left : Option (List ℕ)) (size_line : SizeLine) (room : ℕ) → TakesLine a b size_line → 0 < size_line.size →
    IfSeen b left (IsSizedCut room size_line)
    → IfSeen a left (IsChunkCut room)
chunk_cut_data a b left size_line room takes some cut =
    seen_behind a b left _ (IsChunkCut room) (IsSizedCut room size_line) takes.taken
    (λ rest sized.
    let is_some : 0 < chunk_size takes.line = omega (arith, takes.size_is, some) in
    let chunk : Chunk = record { line = takes.line; bytes = sized.cut.content } in
    record {
      none = no_chunked_data room takes.line rest takes.is_line is_some (subst (λ (n : ℕ). HasNoData n rest) (sym takes.size_is) sized.cut.none);
      may = inr (record {
        chunk = chunk;
        is_chunk = record { is_line = takes.is_line; some = is_some; size = sized.cut.size ∙ sym takes.size_is };
        fits = omega (arith, chunk_length chunk, takes.len_is, sized.cut.size, sized.fits);
        more = sized.cut.more;
        whole = append_assoc (print_chunk_line takes.line) rest sized.cut.more ∙ ap (λ (l : List ℕ). print_chunk_line takes.line ++ l) sized.cut.whole;
      });
      few = omega (
        arith,
        sized.fits,
        sized.cut.size,
        takes.len_is,
        length-append (print_chunk_line takes.line) rest,
        length-append rest sized.cut.more,
        ap length sized.cut.whole,
        length-append sized.cut.content crlf_bytes,
      );
    })
    cut

-- what may still become a chunk or a line may become one behind the chunks
may_go_on : (room : ℕ) (bytes : List ℕ) → MayBecomeChunkLine bytes ⊎ MayBecomeChunk room bytes
    → MayBecomeChunkLine bytes ⊎ (MayBecomeChunk room bytes ⊎ MayBecomeEnd bytes)
may_go_on room bytes (inl may) = inl may
may_go_on room bytes (inr may) = inr (inl may)

-- bytes behind chunks
chunked_cut : (a b now : Option (List ℕ)) (body body_now : Body) (room left : ℕ) (P : List ℕ → Type 0) → TakesChunks a b body body_now room left
    → ((rest : List ℕ) → P rest → HasNoChunked left rest)
    → ((rest : List ℕ) → P rest → MayBecomeChunkLine rest ⊎ (MayBecomeChunk left rest ⊎ MayBecomeEnd rest))
    → ((rest : List ℕ) → P rest → length rest ≤ left + 65536)
    → IfSeen b now P → IfSeen a now (IsChunkedCut room)
chunked_cut a b now body body_now room left P takes none may few cut =
    seen_behind a b now _ (IsChunkedCut room) P takes.taken
    (λ rest holds. record {
      none = no_chunked_behind_all takes.chunks room left rest takes.are_chunks takes.room_is (none rest holds);
      may = record {
        chunks = takes.chunks;
        are_chunks = takes.are_chunks;
        left = left;
        left_is = takes.room_is;
        begun = rest;
        whole = refl;
        few = few rest holds;
        may = may rest holds;
      };
    }) cut

pub chunks_cut : (a b now : Option (List ℕ)) (body body_now : Body) (room left : ℕ) → TakesChunks a b body body_now room left → IfSeen b now (IsChunkCut left)
    → IfSeen a now (IsChunkedCut room)
chunks_cut a b now body body_now room left takes cut =
    chunked_cut a b now body body_now room left (IsChunkCut left) takes (λ rest c. c.none) (λ rest c. may_go_on left rest c.may)
    (λ rest c. omega (arith, c.few)) cut

-- a trailer behind the line of size 0
record IsEndCut (room : ℕ) (bytes : List ℕ) : Type 0 where
  none : HasNoChunked room bytes
  may : MayBecomeEnd bytes
  few : length bytes ≤ room + 65536

pub trailer_cut : (a b c now : Option (List ℕ)) (body body_now : Body) (room left len : ℕ) → TakesChunks a b body body_now room left → TakesLast b c len →
    len ≤ left
    → IfSeen c now IsTrailerCut → IfSeen a now (IsChunkedCut room)
trailer_cut a b c now body body_now room left len takes last within cut =
    chunked_cut a b now body body_now room left (IsEndCut left) takes (λ rest e. e.none) (λ rest e. inr (inr e.may)) (λ rest e. e.few)
    (seen_behind b c now _ (IsEndCut left) IsTrailerCut last.taken
    (λ rest trailer. record {
      none = no_chunked_trailer left (left - len) len last.line rest last.is_last last.len_is (omega arith) (none_within _ _ (left - len) rest trailer.none);
      may = record { line = last.line; is_last = last.is_last; rest = rest; whole = refl; cut = trailer };
      few = omega (arith, within, last.len_is, trailer.short, length-append (print_chunk_line last.line) rest);
    }) cut)

-- What is kept of a body, and what was taken of it.
use Rattle.std.proofs.Common.{◌≡◌, ℕ, ◌+◌, ◌<◌, ◌≤◌, List, [], ◌++◌, length, take, drop, Option, None, Some, IfSome, refl, sym, ap, ◌∙◌, subst, arith}
use Rattle.std.proofs.Common.{◌-◌, append_assoc, append-nil, length-append, length-take-le, inl, inr}
use Rattle.std.specs.Prelude.{replicate}
use Rattle.std.proofs.lemmas.List.{length-replicate}
use Rattle.std.specs.Io.KnownBytes.{Consumes, Keeps, IsAtEnd, prepend_known}
use Rattle.std.proofs.KnownBytes.{Consumes-trans, Consumes-nil, Consumes-kept, Consumes-whole}
use Rattle.std.proofs.lemmas.Bool.{cases_lt, cond-true, cond-false, le-leb, lt-leb}
use Rattle.httparse.specs.Ascii.{crlf_bytes}
use Rattle.sw_http.specs.Body.{Plain, Chunks, BodyText, IsBody, print_body, body_of, extended, IsWithinLimit}
use Rattle.sw_http.specs.ChunkSteps.{TakesBytes, TakesData, HasNoData, TakesChunked, HasNoChunked, IsUnread, TakesBody, HasNoBody}
use Rattle.sw_http.specs.ChunkSteps.{IsDataCut, IsChunkedCut, IsBodyCut}
use Rattle.sw_http.specs.Input.{IfSeen, IsShort, HasNoLineEnd}
use Rattle.sw_message.specs.declared.framing.Framing.TheVariants.{Unframed, Length, Chunked}
use Rattle.sw_message.specs.declared.request.Body.{Body}
use Rattle.sw_message.specs.declared.request.Body.TheVariants.{Whole, TooLarge}
use Rattle.sw_http.proofs.InputLemmas.{front_taken, if_behind, no_bytes, no_end_short, seen_behind, seen_map}
use Rattle.sw_http.proofs.ReadsLemmas.{seen_before}
use Rattle.sw_http.proofs.ListLemmas.{fronts_same}

-- ---- what is kept

pub body_fits : (bytes : List ℕ) → length bytes ≤ 5242880 → body_of bytes ≡ Whole bytes
body_fits bytes fits = cond-true _ _ _ (le-leb (length bytes) 5242880 fits)

pub body_too_large : (bytes : List ℕ) → 5242880 < length bytes → body_of bytes ≡ TooLarge
body_too_large bytes large = cond-false _ _ _ (lt-leb (length bytes) 5242880 large)

pub extended_none : (body : Body) → IsWithinLimit body → extended body [] ≡ body
extended_none (Whole bytes) within = ap body_of (append-nil bytes) ∙ body_fits bytes within
extended_none TooLarge within = refl

pub extended_within : (body : Body) (more : List ℕ) → IsWithinLimit (extended body more)
extended_within (Whole bytes) more = elim (cases_lt 5242880 (length (bytes ++ more))) [
  | inl large ↦ subst IsWithinLimit (sym (body_too_large (bytes ++ more) large)) tt
  | inr fits ↦ subst IsWithinLimit (sym (body_fits (bytes ++ more) fits)) fits
]
extended_within TooLarge more = tt

pub extended_twice : (body : Body) (more others : List ℕ) → extended (extended body more) others ≡ extended body (more ++ others)
extended_twice (Whole bytes) more others = elim (cases_lt 5242880 (length (bytes ++ more))) [
  | inl large ↦ ap (λ (b : Body). extended b others) (body_too_large (bytes ++ more) large)
      ∙ sym (body_too_large (bytes ++ (more ++ others)) (omega (
        arith,
        large,
        ap length (append_assoc bytes more others),
        length-append (bytes ++ more) others,
      )))
  | inr fits ↦ ap (λ (b : Body). extended b others) (body_fits (bytes ++ more) fits) ∙ ap body_of (append_assoc bytes more others)
]
extended_twice TooLarge more others = refl

-- ---- bytes that were taken

pub no_content : (a : Option (List ℕ)) (body : Body) → IsWithinLimit body → TakesBytes a a body body 0
no_content a body within = record { bytes = []; size = refl; taken = Consumes-nil a; kept = sym (extended_none body within) }

pub content_within : (a b : Option (List ℕ)) (body now : Body) (len : ℕ) → TakesBytes a b body now len → IsWithinLimit now
content_within a b body now len takes = subst IsWithinLimit (sym takes.kept) (extended_within body takes.bytes)

pub content_kept : (a b c : Option (List ℕ)) (body now : Body) (len : ℕ) → TakesBytes a b body now len → Keeps b c → TakesBytes a c body now len
content_kept a b c body now len takes kept = record {
  bytes = takes.bytes;
  size = takes.size;
  taken = Consumes-kept a b c takes.bytes takes.taken kept;
  kept = takes.kept;
}

pub content_step : (a : Option (List ℕ)) (held after : List ℕ) (left : Option (List ℕ)) (body mid now : Body) (count piece : ℕ)
    → TakesBytes a (prepend_known held left) body mid count → piece ≤ length held → after ≡ drop piece held → now ≡ extended mid (take piece held)
    → TakesBytes a (prepend_known after left) body now (count + piece)
content_step a held after left body mid now count piece takes within after_is now_is = record {
  bytes = takes.bytes ++ take piece held;
  size = omega (arith, length-append takes.bytes (take piece held), takes.size, length-take-le piece held within);
  taken = Consumes-trans a _ _ takes.bytes (take piece held) takes.taken
      (subst (λ (l : List ℕ). Consumes (prepend_known held left) (prepend_known l left) (take piece held)) (sym after_is) (front_taken held left piece));
  kept = now_is ∙ ap (λ (b : Body). extended b (take piece held)) takes.kept ∙ extended_twice body takes.bytes (take piece held);
}

-- so many more were read straight to where they stay, while nothing was held
pub content_straight : (a : Option (List ℕ)) (held : List ℕ) (left now : Option (List ℕ)) (body mid after : Body) (count piece : ℕ)
    → TakesBytes a (prepend_known held left) body mid count → length held ≡ 0 → TakesBytes left now mid after piece
    → TakesBytes a (prepend_known held now) body after (count + piece)
content_straight a held left now body mid after count piece takes none more = record {
  bytes = takes.bytes ++ more.bytes;
  size = omega (arith, length-append takes.bytes more.bytes, takes.size, more.size);
  taken = Consumes-trans a _ _ takes.bytes more.bytes takes.taken
      (subst (λ (l : List ℕ). Consumes (prepend_known l left) (prepend_known l now) more.bytes) (sym (no_bytes held none)) (go left now more.taken));
  kept = more.kept ∙ ap (λ (b : Body). extended b more.bytes) takes.kept ∙ extended_twice body takes.bytes more.bytes;
}
  where
    go : (x y : Option (List ℕ)) → Consumes x y more.bytes → Consumes (prepend_known [] x) (prepend_known [] y) more.bytes
    go None y taken = tt
    go (Some xs) None taken = taken
    go (Some xs) (Some ys) taken = taken

-- the input ended before
pub content_short : (a b : Option (List ℕ)) (body now : Body) (count len : ℕ) → TakesBytes a b body now count → IsAtEnd b → count < len
    → IfSome a (λ (bytes : List ℕ). length bytes < len)
content_short a b body now count len takes end short =
    Consumes-whole a b takes.bytes (λ (bytes : List ℕ). length bytes < len) takes.taken end (omega (arith, takes.size))

-- ---- the bytes of a chunk and their line end

pub data_taken : (a b c : Option (List ℕ)) (body now : Body) (len : ℕ) → TakesBytes a b body now len → Consumes b c crlf_bytes → TakesData a c body now len
data_taken a b c body now len takes end = record {
  bytes = takes.bytes;
  size = takes.size;
  taken = Consumes-trans a b c takes.bytes crlf_bytes takes.taken end;
  kept = takes.kept;
}

pub no_data_short : (len : ℕ) (bytes : List ℕ) → length bytes < len → HasNoData len bytes
no_data_short len bytes short = record {
  none = λ content rest size e. omega (arith, size, ap length e, length-append (content ++ crlf_bytes) rest, length-append content crlf_bytes);
}

pub no_data_end : (len : ℕ) (content bytes : List ℕ) → length content ≡ len → HasNoLineEnd bytes → HasNoData len (content ++ bytes)
no_data_end len content bytes size none_there = record {
  none = λ other rest same e. none_there.none rest (fronts_same content other bytes _ (size ∙ sym same) (e ∙ append_assoc other crlf_bytes rest)).1;
}

-- ---- a whole body

pub plain_taken : (a b : Option (List ℕ)) (body now : Body) (len room : ℕ) → IsUnread len body → TakesBytes a b body now len → len ≤ room
    → TakesBody a b (Some (Length len)) room now
plain_taken a b body now len room unread takes fits = record {
  text = Plain takes.bytes;
  is_body = takes.size;
  fits = omega (arith, takes.size);
  taken = takes.taken;
  body_is = takes.kept ∙ unread.becomes takes.bytes (omega (arith, takes.size));
}

pub no_plain : (len room : ℕ) (bytes : List ℕ) → length bytes < len → HasNoBody (Some (Length len)) room bytes
no_plain len room bytes short = record { none = go }
  where
    go : (text : BodyText) (rest : List ℕ) → IsBody (Length len) text → length (print_body text) ≤ room → ¬ (bytes ≡ print_body text ++ rest)
    go (Plain content) rest size fits e = omega (arith, size, ap length e, length-append content rest)
    go (Chunks b) rest size fits e = size

pub no_plain_room : (len room : ℕ) (bytes : List ℕ) → room < len → HasNoBody (Some (Length len)) room bytes
no_plain_room len room bytes many = record { none = go }
  where
    go : (text : BodyText) (rest : List ℕ) → IsBody (Length len) text → length (print_body text) ≤ room → ¬ (bytes ≡ print_body text ++ rest)
    go (Plain content) rest size fits e = omega (arith, size, fits)
    go (Chunks b) rest size fits e = size

pub chunks_taken : (a b : Option (List ℕ)) (body now : Body) (room : ℕ) → IsUnread 0 body → TakesChunked a b body now room →
    TakesBody a b (Some Chunked) room now
chunks_taken a b body now room unread takes = record {
  text = Chunks takes.text;
  is_body = takes.is_chunked;
  fits = takes.fits;
  taken = takes.taken;
  body_is = takes.kept ∙ unread.becomes _ (omega arith);
}

pub no_chunks : (room : ℕ) (bytes : List ℕ) → HasNoChunked room bytes → HasNoBody (Some Chunked) room bytes
no_chunks room bytes none_there = record { none = go }
  where
    go : (text : BodyText) (rest : List ℕ) → IsBody Chunked text → length (print_body text) ≤ room → ¬ (bytes ≡ print_body text ++ rest)
    go (Plain content) rest is fits e = is
    go (Chunks b) rest is fits e = none_there.none b rest is fits e

pub no_body_taken : (a : Option (List ℕ)) (body : Body) (room : ℕ) → IsUnread 0 body → TakesBody a a (Some Unframed) room body
no_body_taken a body room unread = record {
  text = Plain [];
  is_body = refl;
  fits = omega arith;
  taken = Consumes-nil a;
  body_is = sym (extended_none body unread.within) ∙ unread.becomes [] (omega arith);
}

-- no body has a bad framing
pub no_framing : (room : ℕ) (bytes : List ℕ) → HasNoBody None room bytes
no_framing room bytes = record { none = λ text rest is fits e. is }

-- the bytes of a chunk were taken, and no line end follows
pub data_none : (a b : Option (List ℕ)) (body now : Body) (len : ℕ) → TakesBytes a b body now len → IfSome b HasNoLineEnd → IfSome a (HasNoData len)
data_none a b body now len takes none_there =
    if_behind a b takes.bytes (HasNoData len) HasNoLineEnd takes.taken (λ rest holds. no_data_end len takes.bytes rest takes.size holds) none_there

-- ---- a read failed in a body

pub content_cut : (a b left : Option (List ℕ)) (body now : Body) (count len : ℕ) → TakesBytes a b body now count → count < len →
    IfSeen b left (λ (s : List ℕ). length s ≡ 0)
    → IfSeen a left (λ (s : List ℕ). length s < len)
content_cut a b left body now count len takes short none_there =
    seen_behind a b left takes.bytes (λ (s : List ℕ). length s < len) (λ (s : List ℕ). length s ≡ 0) takes.taken
    (λ rest none. omega (arith, short, none, takes.size, length-append takes.bytes rest)) none_there

cut_short : (len : ℕ) (bytes : List ℕ) → length bytes < len → IsDataCut len bytes
cut_short len bytes short =
    let missing : List ℕ = replicate (len - length bytes) 0 in
    record {
      none = no_data_short len bytes short;
      content = bytes ++ missing;
      size = omega (arith, short, length-append bytes missing, length-replicate {A = ℕ} (len - length bytes) 0);
      more = missing ++ crlf_bytes;
      whole = sym (append_assoc bytes missing crlf_bytes);
    }

pub data_cut_short : (a left : Option (List ℕ)) (len : ℕ) → IfSeen a left (λ (s : List ℕ). length s < len) → IfSeen a left (IsDataCut len)
data_cut_short a left len = seen_map a left (λ (s : List ℕ). length s < len) (IsDataCut len) (cut_short len)

pub data_cut_end : (a b left : Option (List ℕ)) (held : List ℕ) (body now : Body) (len : ℕ) → TakesBytes a b body now len → IfSeen b left (IsShort held) →
    IfSeen a left (IsDataCut len)
data_cut_end a b left held body now len takes cut =
    seen_behind a b left takes.bytes (IsDataCut len) (IsShort held) takes.taken
    (λ rest short. record {
      none = no_data_end len takes.bytes rest takes.size (no_end_short rest short.0.short);
      content = takes.bytes;
      size = takes.size;
      more = short.0.more;
      whole = append_assoc takes.bytes rest short.0.more ∙ ap (λ (l : List ℕ). takes.bytes ++ l) short.0.whole;
    }) cut

pub plain_cut : (a left : Option (List ℕ)) (len room : ℕ) → len ≤ room → IfSeen a left (λ (s : List ℕ). length s < len) →
    IfSeen a left (IsBodyCut (Some (Length len)) room)
plain_cut a left len room fits =
    seen_map a left (λ (s : List ℕ). length s < len) (IsBodyCut (Some (Length len)) room)
    (λ bytes short. record { none = no_plain len room bytes short; may = (short, fits) })

pub chunks_body_cut : (a left : Option (List ℕ)) (room : ℕ) → IfSeen a left (IsChunkedCut room) → IfSeen a left (IsBodyCut (Some Chunked) room)
chunks_body_cut a left room =
    seen_map a left (IsChunkedCut room) (IsBodyCut (Some Chunked) room)
    (λ bytes cut. record { none = no_chunks room bytes cut.none; may = cut.may })

-- bytes of a body were read straight to where they stay, while nothing was held
pub content_cut_straight : (a left now : Option (List ℕ)) (held : List ℕ) (body body_now : Body) (count len : ℕ)
    → TakesBytes a (prepend_known held left) body body_now count → count < len → length held ≡ 0
    → IfSeen left now (λ (s : List ℕ). s ≡ []) → IfSeen a now (λ (s : List ℕ). length s < len)
content_cut_straight a left now held body body_now count len takes short none seen =
    content_cut a (prepend_known held left) now body body_now count len takes short
    (seen_map (prepend_known held left) now (λ (s : List ℕ). s ≡ held) (λ (s : List ℕ). length s ≡ 0) (λ bytes same. ap length same ∙ none)
    (seen_before held left now seen))

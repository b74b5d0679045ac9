-- Trailers in front of bytes: when none can come any more.
use Rattle.std.proofs.Common.{◌≡◌, ℕ, ◌<◌, ◌≤◌, false, List, [], ◌∷◌, ◌++◌, length, take, drop, Option, IfSome, sym, ap, ◌∙◌, arith, length-append, length-take}
use Rattle.std.specs.Prelude.{◌==◌}
use Rattle.std.specs.Io.KnownBytes.{Keeps, prepend_known}
use Rattle.std.specs.List.{list_any}
use Rattle.std.proofs.lemmas.List.{length-map}
use Rattle.httparse.specs.Grammar.{LineEnd, Field, print_section, HasNoSection}
use Rattle.httparse.specs.Spans.{IsSectionAt, IsSectionWithin, SectionOverflows, header_bytes, name_and_value}
use Rattle.httparse.specs.declared.spans.HeaderSpan.{HeaderSpan}
use Rattle.httparse.proofs.GrammarLemmas.{section_unique, ReadsSection-append}
use Rattle.sw_http.specs.ChunkSteps.{HasNoTrailer, IsTrailerAt, TakesTrailer, HasNoTrailerWithin}
use Rattle.sw_http.proofs.InputLemmas.{kept_consumes, text_taken, if_kept, if_always, if_some_map, none_within}
use Rattle.sw_message.proofs.TextLemmas.{section_ends, no_new_text, short_text}

few_fields : (bytes : List ℕ) (headers : List HeaderSpan) (len count : ℕ) (fields : List Field) (last : LineEnd) →
    IsSectionAt bytes 0 headers len count fields last
    → length headers ≤ 128 → length fields ≤ 128
few_fields bytes headers len count fields last at room =
    omega (
      arith,
      sym (length-map fields name_and_value) ∙ sym (ap length at.fields_are) ∙ length-map (take count headers) (header_bytes bytes),
      length-take {A = HeaderSpan},
    )

-- what the parser found is a trailer, where it isn't too long
pub trailer_found : (bytes : List ℕ) (headers : List HeaderSpan) (len count : ℕ) (fields : List Field) (last : LineEnd) →
    IsSectionAt bytes 0 headers len count fields last
    → IsSectionWithin bytes headers len count → length headers ≤ 128 → len ≤ 65536 → IsTrailerAt bytes len
trailer_found bytes headers len count fields last at within room size = record {
  fields = fields;
  end = last;
  is_trailer = record { are_fields = at.reads.0; size = omega (arith, at.len_is, size); few_fields = few_fields bytes headers len count fields last at room };
  within = within.len_fits;
  len_is = omega (arith, at.len_is);
  stands = at.reads.1;
}

same_size : (fields others : List Field) (last end : LineEnd) → fields ≡ others → last ≡ end →
    length (print_section fields last) ≡ length (print_section others end)
same_size fields others last end same ends = λ i. length (print_section (same i) (ends i))

-- the parser found one that is too long: none can come any more
pub never_too_long : (bytes : List ℕ) (headers : List HeaderSpan) (len count : ℕ) (fields : List Field) (last : LineEnd) →
    IsSectionAt bytes 0 headers len count fields last
    → 65536 < len → (more : List ℕ) → HasNoTrailer (bytes ++ more)
never_too_long bytes headers len count fields last at many more = record {
  none = λ other rest is e.
      let same = section_unique (bytes ++ more) fields other.0 last other.1 _ rest (ReadsSection-append bytes fields last _ more at.reads) (is.are_fields, e) in
      omega (arith, many, at.len_is, is.size, same_size fields other.0 last other.1 same.0 same.1);
}

-- any that can still come has too many fields
pub never_over : (bytes : List ℕ) → SectionOverflows 128 bytes → (more : List ℕ) → HasNoTrailer (bytes ++ more)
never_over bytes over more = record { none = λ trailer rest is e. absurd (omega (arith, over more trailer.0 trailer.1 rest (is.are_fields, e), is.few_fields)) }

pub no_section : (bytes : List ℕ) → HasNoSection bytes → HasNoTrailer bytes
no_section bytes none_there = record { none = λ trailer rest is e. none_there trailer.0 trailer.1 rest (is.are_fields, e) }

-- no trailer in front of the first bytes, and no line feed behind them
pub not_yet : (bytes : List ℕ) (seen : ℕ) → HasNoTrailer (take seen bytes) → list_any (λ b. b == 10) (drop seen bytes) ≡ false → HasNoTrailer bytes
not_yet bytes seen none_seen no_feed = record {
  none = λ trailer rest is e.
      no_new_text (print_section trailer.0 trailer.1) rest bytes seen (section_ends trailer.0 trailer.1) (λ after same. none_seen.none trailer after is same)
      no_feed e;
}

-- none in front of so many bytes
pub never_long : (bytes : List ℕ) → HasNoTrailer bytes → 65536 ≤ length bytes → (more : List ℕ) → HasNoTrailer (bytes ++ more)
never_long bytes none_there long more = record {
  none = λ trailer rest is e. none_there.none trailer _ is (short_text (print_section trailer.0 trailer.1) rest bytes more (omega (arith, is.size)) e);
}

pub no_trailer_in_none : (bytes : List ℕ) → bytes ≡ [] → HasNoTrailer bytes
no_trailer_in_none bytes none = record {
  none = λ trailer rest is e.
      let ends = section_ends trailer.0 trailer.1 in
      omega (arith, ap length (sym none ∙ e), length-append (print_section trailer.0 trailer.1) rest, ap length ends.1, length-append ends.0 (10 ∷ []));
}

-- ---- a trailer that was taken, or not

pub trailer_taken : (a : Option (List ℕ)) (held after : List ℕ) (left : Option (List ℕ)) (len room : ℕ) → Keeps a (prepend_known held left) →
    IsTrailerAt held len → after ≡ drop len held
    → len ≤ room → TakesTrailer a (prepend_known after left) room
trailer_taken a held after left len room kept at after_is fits = record {
  fields = at.fields;
  end = at.end;
  is_trailer = at.is_trailer;
  fits = omega (arith, at.len_is, fits);
  taken = kept_consumes a _ _ _ kept (text_taken held after _ left (at.stands ∙ ap (λ (l : List ℕ). print_section at.fields at.end ++ l) (sym after_is)));
}

pub trailer_over : (a : Option (List ℕ)) (held : List ℕ) (left : Option (List ℕ)) (len room : ℕ) → Keeps a (prepend_known held left) → IsTrailerAt held len →
    room < len
    → IfSome a (HasNoTrailerWithin room)
trailer_over a held left len room kept at many =
    if_kept a _ (HasNoTrailerWithin room) kept (if_always held left (HasNoTrailerWithin room) λ more. record {
      none = λ other rest is fits e.
          let same = section_unique (held ++ more) at.fields other.0 at.end other.1 _ rest
          (ReadsSection-append held at.fields at.end _ more (at.is_trailer.are_fields, at.stands)) (is.are_fields, e) in
          omega (arith, many, at.len_is, fits, same_size at.fields other.0 at.end other.1 same.0 same.1);
    })

pub trailer_none : (a : Option (List ℕ)) (room : ℕ) → IfSome a HasNoTrailer → IfSome a (HasNoTrailerWithin room)
trailer_none a room = if_some_map a HasNoTrailer (HasNoTrailerWithin room) (none_within _ _ room)

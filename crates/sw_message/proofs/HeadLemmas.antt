-- Heads in front of bytes: what begins one, and when none can come any more.
use Rattle.std.proofs.Common.{◌≡◌, ℕ, ◌≤◌, false, List, [], ◌∷◌, ◌++◌, length, take, drop, refl, sym, ap, ◌∙◌, subst, arith, length-take}
use Rattle.std.specs.Prelude.{◌==◌}
use Rattle.std.specs.List.{list_any}
use Rattle.std.proofs.lemmas.List.{length-map}
use Rattle.httparse.specs.Grammar.{LineEnd, crlf, lf, print_blank, RequestHead, print_request, ReadsRequest}
use Rattle.httparse.specs.Pieces.{Stops, is_newline}
use Rattle.httparse.specs.Spans.{IsRequestAt, IsRequestWithin, RequestOverflows, header_bytes, name_and_value}
use Rattle.httparse.specs.declared.spans.HeaderSpan.{HeaderSpan}
use Rattle.httparse.specs.declared.spans.RequestSpans.{RequestSpans}
use Rattle.httparse.proofs.GrammarLemmas.{print_request-append, request_prefix_free}
use Rattle.httparse.proofs.PieceLemmas.{Stops_token}
use Rattle.sw_message.specs.Head.{HasNoHead, IsHeadAt}
use Rattle.sw_message.specs.Head.{IsHead, IsPath}
use Rattle.sw_message.proofs.TextLemmas.{head_ends, no_new_text, short_text}

-- a head begins with neither CR nor LF
pub head_stops : (h : RequestHead) (rest : List ℕ) → IsHead h → Stops is_newline (print_request h ++ rest)
head_stops h rest is =
    subst (Stops is_newline) (sym (print_request-append h rest))
    (at_once h.blank h.method _ is.at_once (Stops_token h.method _ is.valid.method.0 is.valid.method.1))
  where
    at_once : (ends : List LineEnd) (word after : List ℕ) → ends ≡ [] → Stops is_newline (word ++ after) →
        Stops is_newline (print_blank ends ++ (word ++ after))
    at_once [] word after none stops = stops
    at_once (e ∷ ends) word after none stops = absurd (cc)

blank_none : (ends : List LineEnd) (rest : List ℕ) → Stops is_newline (print_blank ends ++ rest) → ends ≡ []
blank_none [] rest stops = refl
blank_none (crlf ∷ ends) rest stops = absurd (cc)
blank_none (lf ∷ ends) rest stops = absurd (cc)

-- a head in front of bytes that begin with no line end has no empty line before it
pub no_blank : (bytes : List ℕ) (h : RequestHead) (rest : List ℕ) → Stops is_newline bytes → bytes ≡ print_request h ++ rest → h.blank ≡ []
no_blank bytes h rest stops e =
    blank_none h.blank _ (subst (Stops is_newline) (e ∙ print_request-append h rest) stops)

-- a text that begins with a slash is a path
pub path_begins : (target rest : List ℕ) → target ≡ 47 ∷ rest → IsPath target
path_begins target rest e = subst IsPath (sym e) refl

pub path_split : (target : List ℕ) → IsPath target → (rest : List ℕ) × (target ≡ 47 ∷ rest)
path_split [] is = absurd is
path_split (b ∷ target) is = (target, ap (λ (x : ℕ). x ∷ target) is)

-- what the parser found is a head, where it passes the tests
pub head_found : (bytes : List ℕ) (headers : List HeaderSpan) (spans : RequestSpans) (h : RequestHead) → Stops is_newline bytes
    → IsRequestAt bytes headers spans h → IsRequestWithin bytes headers spans → length headers ≤ 128 → spans.len ≤ 65536 → spans.version ≡ 1 → IsPath h.target
    → IsHeadAt bytes headers spans
head_found bytes headers spans h stops at within room size version path =
    let few : length h.fields ≤ 128 =
    omega (
      arith,
      sym (length-map h.fields name_and_value) ∙ sym (ap length at.fields) ∙ length-map (take spans.headers headers) (header_bytes bytes),
      length-take {A = HeaderSpan},
    ) in
    record {
      head = h;
      is_head = record {
        valid = at.reads.0;
        at_once = no_blank bytes h _ stops at.reads.1;
        size = omega (arith, at.len);
        few_fields = few;
        version = sym at.version ∙ version;
        path = path;
      };
      at = at;
      within = within;
    }

-- the parser found one that is no head of this server: none can come any more
pub never_other : (bytes : List ℕ) (h : RequestHead) (rest : List ℕ) → ReadsRequest bytes h rest → (IsHead h → ⊥) → (more : List ℕ) → HasNoHead (bytes ++ more)
never_other bytes h rest reads other more = record {
  none = λ k after is e. other (subst IsHead (sym (request_prefix_free bytes more h k rest after reads (is.valid, e)).0) is);
}

-- any head that can still come has too many fields
pub never_over : (bytes : List ℕ) → RequestOverflows 128 bytes → (more : List ℕ) → HasNoHead (bytes ++ more)
never_over bytes over more = record { none = λ k after is e. absurd (omega (arith, over more k after (is.valid, e), is.few_fields)) }

-- no head in front of the first bytes, and no line feed behind them
pub not_yet : (bytes : List ℕ) (seen : ℕ) → HasNoHead (take seen bytes) → list_any (λ b. b == 10) (drop seen bytes) ≡ false → HasNoHead bytes
not_yet bytes seen none_seen no_feed = record {
  none = λ h rest is e. no_new_text (print_request h) rest bytes seen (head_ends h) (λ after same. none_seen.none h after is same) no_feed e;
}

-- no head in front of so many bytes
pub never_long : (bytes : List ℕ) → HasNoHead bytes → 65536 ≤ length bytes → (more : List ℕ) → HasNoHead (bytes ++ more)
never_long bytes none_there long more = record {
  none = λ h rest is e. none_there.none h _ is (short_text (print_request h) rest bytes more (omega (arith, is.size)) e);
}

pub no_head_in_none : (bytes : List ℕ) → bytes ≡ [] → HasNoHead bytes
no_head_in_none bytes none = record { none = λ h rest is e. subst (Stops is_newline) (sym e ∙ none) (head_stops h rest is) }

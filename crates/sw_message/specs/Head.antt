-- What a head is, and how one is looked for in front of bytes. (RFC 9112 sections 2, 3 and 5, in the profile of this product.)
use Rattle.std.specs.Prelude.{◌≡◌, ℕ, ◌≤◌, Bool, List, [], ◌∷◌, ◌++◌, length, map, ◌==◌}
use Rattle.std.specs.List.{before_first, after_first}
use Rattle.httparse.specs.Grammar.{RequestHead, IsRequestHead, print_request, field_value}
use Rattle.httparse.specs.Grammar as grammar
use Rattle.httparse.specs.Spans.{IsRequestAt, IsRequestWithin, span_bytes}
use Rattle.httparse.specs.declared.spans.HeaderSpan.{HeaderSpan}
use Rattle.httparse.specs.declared.spans.RequestSpans.{RequestSpans}
use Rattle.sw_message.specs.declared.fields.Field.{Field}
use Rattle.sw_message.specs.declared.parts.OpenRequest.{OpenRequest}

-- the target is a path: it begins with a slash
abbrev pub IsPath : List ℕ → Type 0
IsPath [] = ⊥
IsPath (b ∷ target) = b ≡ 47

-- a head that this server takes
pub record IsHead (h : RequestHead) : Type 0 where
  pub valid : IsRequestHead h
  pub at_once : h.blank ≡ []  -- empty lines before it are skipped bytes, and no part of it
  pub size : length (print_request h) ≤ 65536
  pub few_fields : length h.fields ≤ 128
  pub version : h.minor ≡ 1
  pub path : IsPath h.target

-- a field as the parser reads it: the value without the white space around it
abbrev pub field_of : grammar.Field → Field
field_of f = record { name = f.name; value = field_value f }

-- the fields of a head
abbrev pub fields_of : RequestHead → List Field
fields_of h = map field_of h.fields

-- the byte that ends the path of a target and begins its query
abbrev pub is_question_mark : ℕ → Bool
is_question_mark b = b == 63

-- the parts of this head, as they are handed out
pub record IsOpen (head : RequestHead) (open_ : OpenRequest) : Type 0 where
  pub method : open_.method ≡ head.method
  pub path : open_.path ≡ before_first is_question_mark head.target
  pub query : open_.query ≡ after_first is_question_mark head.target
  pub fields : open_.fields ≡ fields_of head

-- no front of bytes is a head
pub record HasNoHead (bytes : List ℕ) : Type 0 where
  pub none : (h : RequestHead) (rest : List ℕ) → IsHead h → ¬ (bytes ≡ print_request h ++ rest)

-- the spans are those of a head that stands in front of bytes
pub record IsHeadAt (bytes : List ℕ) (headers : List HeaderSpan) (spans : RequestSpans) : Type 0 where
  pub head : RequestHead
  pub is_head : IsHead head
  pub at : IsRequestAt bytes headers spans head
  pub within : IsRequestWithin bytes headers spans

-- the field that a header's spans cover
abbrev pub field_at : List ℕ → HeaderSpan → Field
field_at bytes h = record { name = span_bytes bytes h.name; value = span_bytes bytes h.value }

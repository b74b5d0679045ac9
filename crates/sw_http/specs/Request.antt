-- What a request is, and what its text is. (RFC 9112 sections 2, 3, 5 and 6, in the profile of this product.)
--
-- A request's text is the printed form of its parts: line ends that are skipped, a head, a body. The definitions speak of texts and
-- say nothing of reading, so no way of cutting the input into pieces occurs in them.
use Rattle.std.specs.Prelude.{◌≡◌, ℕ, ◌≤◌, List, ◌++◌, length}
use Rattle.std.specs.List.{before_first, after_first}
use Rattle.httparse.specs.Grammar.{RequestHead, print_request, AllPass}
use Rattle.httparse.specs.Pieces.{is_newline}
use Rattle.sw_http.specs.Body.{BodyText, IsFramedBody, print_body, content_of, body_of}
use Rattle.sw_message.specs.Framing.{framing_of, is_framed}
use Rattle.sw_message.specs.Head.{IsHead, fields_of, is_question_mark}
use Rattle.sw_message.specs.declared.request.Request.{Request}

-- CR and LF bytes that are skipped before a head
pub record IsSkipped (bytes : List ℕ) : Type 0 where
  pub newlines : AllPass is_newline bytes
  pub few : length bytes ≤ 65536

-- the parts of a request's text
pub record Parts : Type 0 where
  pub skipped : List ℕ
  pub head : RequestHead
  pub body : BodyText

-- the text of a request
abbrev pub text_of : Parts → List ℕ
text_of p = p.skipped ++ (print_request p.head ++ print_body p.body)

-- the parts are those of a request
pub record AreParts (p : Parts) : Type 0 where
  pub skipped : IsSkipped p.skipped
  pub head : IsHead p.head
  pub body : IsFramedBody (framing_of (fields_of p.head)) p.body
  pub size : length (text_of p) ≤ 1073741824

-- the request that the parts are
abbrev pub request_of : Parts → Request
request_of p = record {
  method = p.head.method;
  path = before_first is_question_mark p.head.target;
  query = after_first is_question_mark p.head.target;
  fields = fields_of p.head;
  framed = is_framed (fields_of p.head);
  body = body_of (content_of p.body);
}

-- bytes are a request's text and then rest
pub record Reads (bytes : List ℕ) (p : Parts) (rest : List ℕ) : Type 0 where
  pub parts : AreParts p
  pub whole : bytes ≡ text_of p ++ rest

-- no front of bytes is a request's text, and they aren't line ends to be skipped
pub record IsNoRequest (bytes : List ℕ) : Type 0 where
  pub none : (p : Parts) (rest : List ℕ) → ¬ (Reads bytes p rest)
  pub not_skipped : ¬ (IsSkipped bytes)

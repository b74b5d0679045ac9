-- The text of a reply. (RFC 9112 sections 4 and 5; which fields a reply has is the server's choice.)
use Rattle.std.specs.Prelude.{◌≡◌, ◌⊎◌, ℕ, ◌+◌, ◌^◌, ◌<◌, ◌≤◌, Bool, List, [], ◌++◌, length, decimal, unwrap_or, codes, ◌==◌, ◌||◌, if◌then◌else◌, MatchBool}
use Rattle.std.specs.List.{flat_map}
use Rattle.http.specs.StatusCode.{reason_phrase}
use Rattle.httparse.specs.Ascii.{crlf_bytes}
use Rattle.sw_message.specs.declared.fields.Field.{Field}
use Rattle.sw_message.specs.declared.response.ReplyBody.{ReplyBody}
use Rattle.sw_message.specs.declared.response.ReplyBody.TheVariants.{Whole, LeftOut}
use Rattle.sw_message.specs.declared.response.Response.{Response}

-- the version, the number and its reason
abbrev pub status_line : ℕ → List ℕ
status_line status = codes "HTTP/1.1 " ++ (decimal status ++ (codes " " ++ (unwrap_or (reason_phrase status) [] ++ crlf_bytes)))

-- a field's line
abbrev pub field_line : Field → List ℕ
field_line f = f.name ++ (codes ": " ++ (f.value ++ crlf_bytes))

-- a reply with these numbers has neither a length nor a body
abbrev pub has_no_body : ℕ → Bool
has_no_body status = (status == 100) || (status == 204)

-- how many bytes a GET would carry
abbrev pub body_length : ReplyBody → ℕ
body_length (Whole bytes) = length bytes
body_length (LeftOut count) = count

-- the bytes that are carried
abbrev pub carried : ReplyBody → List ℕ
carried (Whole bytes) = bytes
carried (LeftOut count) = []

-- the last field, which says how long the body is
abbrev pub length_line : Response → List ℕ
length_line r = if has_no_body r.status then [] else codes "Content-Length: " ++ (decimal (body_length r.body) ++ crlf_bytes)

-- what follows the head
abbrev pub body_bytes : Response → List ℕ
body_bytes r = if has_no_body r.status then [] else carried r.body

-- all bytes of a reply
unfoldable pub reply_text : Response → List ℕ
reply_text r = status_line r.status ++ (flat_map field_line r.fields ++ (length_line r ++ (crlf_bytes ++ body_bytes r)))

-- room for the text of a reply: what its fields and its body take, and 128 bytes for the other lines
abbrev pub room_for : Response → ℕ
room_for r = (length (carried r.body) + 128) + length (flat_map field_line r.fields)

-- The text of a reply takes no more than that, where its numbers are of 64 bits.
abbrev pub FitsItsRoom : Type 0
FitsItsRoom = (r : Response) → r.status < 2 ^ 64 → body_length r.body < 2 ^ 64 → length (reply_text r) ≤ room_for r

-- A reply carries as many bytes as its length says, or none: none where it has no length.
abbrev pub CarriesItsLength : Type 0
CarriesItsLength = (r : Response) → MatchBool (has_no_body r.status)
    ((length_line r ≡ []) × (body_bytes r ≡ []))
    ((length_line r ≡ codes "Content-Length: " ++ (decimal (body_length r.body) ++ crlf_bytes))
    × ((body_bytes r ≡ []) ⊎ (length (body_bytes r) ≡ body_length r.body)))

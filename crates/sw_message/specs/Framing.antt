-- How a head says where its body ends. (RFC 9112 section 6, in the profile of this product.)
use Rattle.std.specs.Prelude.{ℕ, Bool, false, not, List, length, Option, None, Some, codes, nat_le, ◌==◌, ◌&&◌, ◌||◌, if◌then◌else◌}
use Rattle.std.specs.Option.{option_and_then, option_map}
use Rattle.std.specs.Char.{is_ascii_digit}
use Rattle.std.specs.List.{list_all}
use Rattle.std.specs.Str.{bytes_eq, str_eq_ignore_ascii_case}
use Rattle.std.specs.Str.Parse.{digits_value}
use Rattle.sw_message.specs.Fields.{is_named, has_field, field_count, field_value_of}
use Rattle.sw_message.specs.declared.fields.Field.{Field}
use Rattle.sw_message.specs.declared.framing.Framing.{Framing}
use Rattle.sw_message.specs.declared.framing.Framing.TheVariants.{Unframed, Length, Chunked}

-- the number that a Content-Length value writes: 1 to 18 digits
unfoldable pub length_of : List ℕ → Option ℕ
length_of value =
    if (nat_le 1 (length value) && nat_le (length value) 18) && list_all is_ascii_digit value
    then Some (digits_value 10 value) else None

-- whether the field has another name, or this very value
abbrev pub agrees : List ℕ → List ℕ → Field → Bool
agrees name value f = not (is_named name f) || bytes_eq f.value value

-- whether each Content-Length has this text
abbrev pub all_agree : List ℕ → List Field → Bool
all_agree value fields = list_all (agrees (codes "content-length") value) fields

-- the length that a value gives, where each Content-Length has the same text
abbrev pub length_in : List Field → List ℕ → Option ℕ
length_in fields value = if all_agree value fields then length_of value else None

-- the length that all Content-Length fields give
abbrev pub one_length : List Field → Option ℕ
one_length fields = option_and_then (length_in fields) (field_value_of (codes "content-length") fields)

-- whether there is a value, and it is this word in any case
abbrev pub is_word : List ℕ → Option (List ℕ) → Bool
is_word word None = false
is_word word (Some value) = str_eq_ignore_ascii_case value word

-- whether the last field of this name has this word as its value, in any case
abbrev pub says : List ℕ → List ℕ → List Field → Bool
says name word fields = is_word word (field_value_of name fields)

-- whether one field says that the body is chunked, and no other speaks of its coding
abbrev pub is_chunked : List Field → Bool
is_chunked fields = field_count (codes "transfer-encoding") fields == 1 && says (codes "transfer-encoding") (codes "chunked") fields

-- where the body ends, by these fields: a length or chunks, and not both; none where the head begins no request
unfoldable pub framing_of : List Field → Option Framing
framing_of fields =
    if has_field (codes "transfer-encoding") fields
    then (if has_field (codes "content-length") fields then None else (if is_chunked fields then Some Chunked else None))
    else (if has_field (codes "content-length") fields then option_map Length (one_length fields) else Some Unframed)

-- whether the fields speak of a body
abbrev pub is_framed : List Field → Bool
is_framed fields = has_field (codes "content-length") fields || has_field (codes "transfer-encoding") fields

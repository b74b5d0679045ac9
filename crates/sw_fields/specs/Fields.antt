-- What single fields of a request say. (OpenStack Swift's object server. Of a field that stands several times the last one counts.)
use Rattle.std.specs.Prelude.{◌≡◌, ℕ, Bool, true, false, ◌-◌, ◌==◌, ◌&&◌, ◌||◌, List, length, take, drop, codes, nat_lt, Option, None, Some, if◌then◌else◌}
use Rattle.std.specs.List.{prefix_len, suffix_len}
use Rattle.std.specs.Option.{option_and_then, option_map_or}
use Rattle.std.specs.Str.{bytes_eq, is_utf8, str_eq_ignore_ascii_case}
use Rattle.hex.specs.Hex.{encode_lower}
use Rattle.sw_message.specs.Fields.{field_value_of}
use Rattle.sw_message.specs.declared.fields.Field.{Field}
use Rattle.sw_timestamp.specs.TimeText.{IsTimeText}

-- whether the field of this name has this value
abbrev pub has_value : List ℕ → List ℕ → List Field → Bool
has_value name value fields = option_map_or (λ v. bytes_eq v value) (field_value_of name fields) false

-- whether another node sends what it has
abbrev pub is_replicated : List Field → Bool
is_replicated fields =
    has_value (codes "x-backend-replication") (codes "True") fields || has_value (codes "x-backend-replication") (codes "true") fields

-- whether the write is to be refused where an object stands
abbrev pub asks_for_none : List Field → Bool
asks_for_none fields = has_value (codes "if-none-match") (codes "*") fields

-- ---- the time of a write

-- the fields give a write this time
abbrev pub IsTimeOf : List Field → ℕ → Type 0
IsTimeOf fields time = (text : List ℕ) × (field_value_of (codes "x-timestamp") fields ≡ Some text) × IsTimeText text time

-- the time that they give, where they give one
abbrev pub IsTime : List Field → Option ℕ → Type 0
IsTime fields None = (time : ℕ) → ¬ (IsTimeOf fields time)
IsTime fields (Some time) = IsTimeOf fields time

-- ---- the content type

-- whether a text is a content type: UTF-8, and not empty
abbrev pub is_type : List ℕ → Bool
is_type value = nat_lt 0 (length value) && is_utf8 value

abbrev pub checked_type : List ℕ → Option (List ℕ)
checked_type value = if is_type value then Some value else None

-- the content type that the fields give, where it is one
abbrev pub type_of : List Field → Option (List ℕ)
type_of fields = option_and_then checked_type (field_value_of (codes "content-type") fields)

-- ---- the ETag

abbrev pub is_quote : ℕ → Bool
is_quote b = b == 34

-- a text from its first byte on that is no double quote
abbrev pub behind_quotes : List ℕ → List ℕ
behind_quotes text = drop (prefix_len is_quote text) text

-- a text up to its last byte that is no double quote
abbrev pub before_quotes : List ℕ → List ℕ
before_quotes text = take (length text - suffix_len is_quote text) text

-- a text without the double quotes around it
abbrev pub unquoted : List ℕ → List ℕ
unquoted text = before_quotes (behind_quotes text)

-- whether a text is this digest in hexadecimal, in either case and with or without quotes
abbrev pub shows_digest : List ℕ → List ℕ → Bool
shows_digest digest text = str_eq_ignore_ascii_case (unquoted text) (encode_lower digest)

-- whether the ETag, where one is given, is this digest
abbrev pub agrees_with : List ℕ → List Field → Bool
agrees_with digest fields = option_map_or (shows_digest digest) (field_value_of (codes "etag") fields) true

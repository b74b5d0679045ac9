-- The text of a query. (Its names and the texts that mean yes are those of the OpenStack Swift documentation, "Show
-- container details and list objects"; the greatest limit is Swift's default. That a limit which is no number counts as
-- absent, and which fault comes first, is this project's own.)
use Rattle.std.specs.Prelude.{◌≡◌, ℕ, Bool, true, false, not, ◌&&◌, ◌||◌, ◌==◌, if◌then◌else◌, nat_lt, List, [], ◌∷◌, length, fold, codes, Option, None, Some}
use Rattle.std.specs.Char.{is_ascii_digit}
use Rattle.std.specs.List.{list_all}
use Rattle.std.specs.Str.{bytes_eq, is_utf8, str_to_ascii_lowercase}
use Rattle.std.specs.Str.Parse.{digits_value}
use Rattle.form_urlencoded.specs.Form.{decode, raw_pairs}
use Rattle.sw_listing.specs.declared.bad_query.BadQuery.{BadQuery}
use Rattle.sw_listing.specs.declared.bad_query.BadQuery.TheVariants as bad
use Rattle.sw_listing.specs.declared.query.Query.{Query}

-- the value of the last of these pairs that has the name, and else the one so far
abbrev pub value_from : List ℕ → List ℕ → List (List ℕ × List ℕ) → List ℕ
value_from name value pairs = fold (λ v pair. if bytes_eq (decode pair.0) name then decode pair.1 else v) value pairs

-- the last value of a name; an empty text where there is none
abbrev pub value_of : List ℕ → List ℕ → List ℕ
value_of name query = value_from name [] (raw_pairs query)

-- digits, one at least
abbrev pub is_numeral : List ℕ → Bool
is_numeral text = not (length text == 0) && list_all is_ascii_digit text

-- the number that a limit writes; 10,000 where it writes none
abbrev pub limit_of : List ℕ → ℕ
limit_of text = if is_numeral text then digits_value 10 text else 10000

-- a delimiter is empty or one ASCII byte
abbrev pub is_bad_delimiter : List ℕ → Bool
is_bad_delimiter [] = false
is_bad_delimiter (byte ∷ []) = not (nat_lt byte 128)
is_bad_delimiter (byte ∷ next ∷ bytes) = true

abbrev pub delimiter_of : List ℕ → Option ℕ
delimiter_of [] = None
delimiter_of (byte ∷ []) = if nat_lt byte 128 then Some byte else None
delimiter_of (byte ∷ next ∷ bytes) = None

-- a text is this word, in any case of the letters
abbrev pub is_word : List ℕ → List ℕ → Bool
is_word word text = bytes_eq (str_to_ascii_lowercase text) (str_to_ascii_lowercase word)

-- a text says yes
abbrev pub is_on : List ℕ → Bool
is_on text =
    is_word (codes "true") text || is_word (codes "yes") text || is_word (codes "on") text
    || is_word (codes "t") text || is_word (codes "y") text || is_word (codes "1") text

-- whether one of the texts isn't UTF-8
abbrev pub is_no_text : List ℕ → Bool
is_no_text query =
    not (is_utf8 (value_of (codes "marker") query)) || not (is_utf8 (value_of (codes "end_marker") query))
    || not (is_utf8 (value_of (codes "prefix") query))

-- the first thing that is wrong with a query
abbrev pub fault_of : List ℕ → Option BadQuery
fault_of query =
    if is_no_text query then Some bad.NotText
    else if nat_lt 10000 (limit_of (value_of (codes "limit") query)) then Some bad.Limit
    else if is_bad_delimiter (value_of (codes "delimiter") query) then Some bad.Delimiter
    else if is_word (codes "xml") (value_of (codes "format") query) then Some bad.Format
    else None

-- what a query with no fault asks for
pub record ReadsAs (query : List ℕ) (read : Query) : Type 0 where
  pub limit : read.limit ≡ limit_of (value_of (codes "limit") query)
  pub marker : read.marker ≡ value_of (codes "marker") query
  pub end_marker : read.end_marker ≡ value_of (codes "end_marker") query
  pub prefix : read.prefix ≡ value_of (codes "prefix") query
  pub delimiter : read.delimiter ≡ delimiter_of (value_of (codes "delimiter") query)
  pub reverse : read.reverse ≡ is_on (value_of (codes "reverse") query)
  pub json : read.json ≡ is_word (codes "json") (value_of (codes "format") query)

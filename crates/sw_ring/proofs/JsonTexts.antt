-- Which bytes are a JSON value, by what the reader states.
use Rattle.std.proofs.Common.{◌≡◌, ℕ, List, Bool, true, false, Some, None, cond, refl}
use Rattle.std.specs.Str.{IsUtf8, is_utf8}
use Rattle.std.proofs.lemmas.Str.{IsUtf8-from_is_utf8, is_utf8-from_IsUtf8}
use Rattle.serde_json.specs.Data.{Data}
use Rattle.serde_json.specs.Read.{read}
use Rattle.sw_ring.specs.Texts.{json_in}

pub json_in-Some : (bytes : List ℕ) (d : Data) → IsUtf8 bytes → read bytes ≡ Some d → json_in bytes ≡ Some d
unfolding json_in
json_in-Some bytes d text is = let valid : is_utf8 bytes ≡ true = is_utf8-from_IsUtf8 bytes text in rw valid is

refused : (bytes : List ℕ) (valid : Bool) → is_utf8 bytes ≡ valid → (IsUtf8 bytes → read bytes ≡ None) → cond valid (read bytes) None ≡ None
refused bytes true e none = none (IsUtf8-from_is_utf8 bytes e)
refused bytes false e none = refl

pub json_in-None : (bytes : List ℕ) → (IsUtf8 bytes → read bytes ≡ None) → json_in bytes ≡ None
unfolding json_in
json_in-None bytes none = refused bytes _ refl none

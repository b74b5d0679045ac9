-- The JSON objects that requests for replicas are answered with. (RFC 8259; what they tell is this project's own.) They have no white space, and
-- none of their strings has a character that needs an escape.
use Rattle.std.specs.Prelude.{ℕ, List, [], ◌∷◌, ◌++◌, map, zero, suc}
use Rattle.std.specs.BTreeMap.{insert_entry}
use Rattle.std.specs.Cmp.Lexicographic.{slice_cmp}
use Rattle.std.specs.List.{fold, join_with_byte}
use Rattle.std.specs.Map.{values_of}
use Rattle.std.specs.Ordering.{nat_cmp}
use Rattle.hex.specs.Hex.{encode_lower}
use Rattle.sw_diskfile.specs.FileNames.{name_text}
use Rattle.sw_diskfile.specs.declared.picking.Picked.{Picked}
use Rattle.sw_object_steps.specs.Journals.{Hash}
use Rattle.sw_suffix.specs.SuffixTexts.{files}
use Rattle.sw_suffix.specs.declared.dir_line.DirLine.{DirLine}
use Rattle.sw_suffix.specs.declared.told.SuffixHash.{SuffixHash}
use Rattle.sw_replica_server.specs.Suffixes.{suffix_digits}

-- ---- JSON

-- a string: a text between quotation marks (34)
abbrev pub quoted : List ℕ → List ℕ
quoted text = 34 ∷ text ++ 34 ∷ []

-- a list: its items with a comma (44) between each two, between brackets (91, 93)
abbrev pub listed : List (List ℕ) → List ℕ
listed items = 91 ∷ join_with_byte 44 items ++ 93 ∷ []

-- a member: its name, a colon (58) and its value
abbrev pub member : List ℕ → List ℕ → List ℕ
member name value = quoted name ++ 58 ∷ value

-- an object: its members with a comma between each two, between braces (123, 125)
abbrev pub object : List (List ℕ) → List ℕ
object members = 123 ∷ join_with_byte 44 members ++ 125 ∷ []

-- what stands before the member at this place: a comma, but before the first nothing
abbrev pub comma : ℕ → List ℕ
comma zero = []
comma (suc place) = 44 ∷ []

-- ---- hashes

-- the digits of a suffix, and those of its MD5
abbrev pub hash_member : SuffixHash → List ℕ
hash_member one = member (suffix_digits one.suffix) (quoted (encode_lower one.md5))

-- what is compared of some suffixes: a member for each, as they stand. A read tells them in ascending order, and so their digits
abbrev pub hashes_text : List SuffixHash → List ℕ
hashes_text hashes = object (map hash_member hashes)

-- ---- files

-- the names of the files of a hash, the base first
abbrev pub names_list : Picked → List ℕ
names_list picked = listed (map (λ file. quoted (name_text file)) (files picked))

-- the digits of a hash, and the names of its files
abbrev pub files_member : DirLine → List ℕ
files_member line = member (encode_lower line.hash) (names_list line.picked)

-- lines and the hashes that they are put by, with one line more in its place
abbrev pub with_line : List (Hash × DirLine) → DirLine → List (Hash × DirLine)
with_line put line = insert_entry (slice_cmp nat_cmp) put line.hash line

-- lines in byte order of their hashes. Reads tell of each hash once; of several lines of one hash the last would stay
abbrev pub by_hash : List DirLine → List DirLine
by_hash lines = values_of (fold with_line [] lines)

-- the files of some hashes: a member for each, in byte order of the hashes
abbrev pub files_text : List DirLine → List ℕ
files_text lines = object (map files_member (by_hash lines))

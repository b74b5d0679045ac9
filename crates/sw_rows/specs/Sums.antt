-- Hash, count and bytes of rows, each a fold over the rows. (OpenStack Swift's container server keeps all three: its hash
-- is the XOR of the MD5s of `<name>-<created_at>`; that the sum of bytes ends at 2^64 - 1 is this project's own.)
use Rattle.std.specs.Prelude.{ℕ, ◌-◌, ◌^◌, min, not, List, ◌∷◌, ◌++◌, if◌then◌else◌, fold, count_by, sum_by, bit_xor}
use Rattle.std.specs.Int.{w128, from_be_bytes}
use Rattle.md5.specs.Md5.{md5}
use Rattle.sw_rows.specs.declared.row.Row.{Row}
use Rattle.sw_rows.specs.declared.numbered.Numbered.{Numbered}
use Rattle.sw_timestamp.specs.TimeText.{text_of}

-- the name, a hyphen and the time
abbrev pub row_text : Row → List ℕ
row_text row = row.name ++ 45 ∷ text_of row.created_at

-- the MD5 of that text as a number with the high byte first
unfoldable pub row_hash : Row → ℕ
row_hash row = from_be_bytes w128 (md5 (row_text row))

-- the XOR over all rows, deleted ones too
abbrev pub hash_of : List Numbered → ℕ
hash_of list = fold (λ hash n. bit_xor hash (row_hash n.row)) 0 list

-- how many rows are live
abbrev pub count_of : List Numbered → ℕ
count_of list = count_by (λ n. not n.row.deleted) list

-- 1 for a live row
abbrev pub live_count : Row → ℕ
live_count row = if not row.deleted then 1 else 0

-- how many bytes of a live object a row tells of
abbrev pub live_size : Row → ℕ
live_size row = if row.deleted then 0 else row.size

-- the sizes of the live rows together, up to 2^64 - 1
abbrev pub bytes_of : List Numbered → ℕ
bytes_of list = min (sum_by (λ n. live_size n.row) list) (2 ^ 64 - 1)

-- The order of records: that of their files, by folder and name. (This project's own.)
use Rattle.std.specs.Prelude.{List, map}
use Rattle.std.specs.Cmp.Lexicographic.{slice_cmp}
use Rattle.std.specs.List.Sorted.{IsStrictlySortedBy}
use Rattle.std.specs.Ordering.{nat_cmp, ordering_then}
use Rattle.std.specs.declared.cmp.Ordering.{Ordering}
use Rattle.sw_pending.specs.Names.{folder_text, name_text}
use Rattle.sw_pending.specs.Records.{key_of}
use Rattle.sw_pending.specs.declared.filed.Filed.{Filed}
use Rattle.sw_pending.specs.declared.key.RecordKey.{RecordKey}

-- byte order of the folders, and in one folder that of the names
abbrev pub key_cmp : RecordKey → RecordKey → Ordering
key_cmp key other = ordering_then (slice_cmp nat_cmp (folder_text key.hash) (folder_text other.hash)) (slice_cmp nat_cmp (name_text key) (name_text other))

-- the records are in order of folder and name, each key once
abbrev pub AreAscending : List Filed → Type 0
AreAscending records = IsStrictlySortedBy key_cmp (map key_of records)

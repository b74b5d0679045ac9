-- The text of the records of a device: a text line for each. (This project's own.)
use Rattle.std.specs.Prelude.{ℕ, List, [], ◌∷◌, ◌++◌, map, codes, slice_index_or}
use Rattle.std.specs.List.{flat_map, join_with_byte}
use Rattle.sw_pending.specs.Names.{folder_text, name_text}
use Rattle.sw_pending.specs.Records.{key_of}
use Rattle.sw_pending.specs.declared.filed.Filed.{Filed}

-- the path of the file of a record
abbrev pub record_path : Filed → List ℕ
record_path filed = folder_text filed.name.hash ++ 47 ∷ name_text (key_of filed)

-- the names of devices, which are places among these, with a comma between each two; or a hyphen where there is none
abbrev pub names_text : List (List ℕ) → List ℕ → List ℕ
names_text devices [] = codes "-"
names_text devices (d ∷ ds) = join_with_byte 44 (map (λ device. slice_index_or devices device []) (d ∷ ds))

-- the path of a record's file, and the devices that were told of it
abbrev pub record_line : List (List ℕ) → Filed → List ℕ
record_line devices filed = record_path filed ++ 32 ∷ names_text devices filed.done ++ 10 ∷ []

-- the text of records, in the order of the list
abbrev pub pending_text : List (List ℕ) → List Filed → List ℕ
pending_text devices records = flat_map (record_line devices) records

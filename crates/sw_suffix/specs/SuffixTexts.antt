-- The text whose MD5 nodes compare for a suffix directory. The OpenStack Swift documentation ("Replication") has a hash for each suffix directory,
-- and sends only those whose hashes differ. What is hashed is this project's own.
use Rattle.std.specs.Prelude.{List, [], ℕ, ◌∷◌, ◌++◌}
use Rattle.std.specs.List.{flat_map}
use Rattle.std.specs.Option.{option_to_list}
use Rattle.hex.specs.Hex.{encode_lower}
use Rattle.sw_diskfile.specs.FileNames.{name_text}
use Rattle.sw_diskfile.specs.declared.file_name.FileName.{FileName}
use Rattle.sw_diskfile.specs.declared.picking.Picked.{Picked}
use Rattle.sw_suffix.specs.declared.dir_line.DirLine.{DirLine}

-- the picked files, the base first
abbrev pub files : Picked → List FileName
files picked = option_to_list picked.base ++ option_to_list picked.meta

-- the line of a file: the digits of its hash, a slash (47), the file's name, and a line feed (10)
abbrev pub file_line : List ℕ → FileName → List ℕ
file_line digits file = digits ++ 47 ∷ name_text file ++ 10 ∷ []

-- the text of a hash directory: a line for each picked file, with the hash in lower-case digits
abbrev pub line_text : DirLine → List ℕ
line_text line = flat_map (file_line (encode_lower line.hash)) (files line.picked)

-- the text of a suffix: those of its hash directories, one after the other
abbrev pub suffix_text : List DirLine → List ℕ
suffix_text lines = flat_map line_text lines

-- Names of the files in a hash directory. OpenStack Swift's object server names each file by the time of its write, and by
-- an ending: `.data` for an object's data, `.ts` for a tombstone and `.meta` for a later change of metadata.
use Rattle.std.specs.Prelude.{List, ℕ, ◌++◌, codes, take, drop, Bool, ◌&&◌, nat_le, Option, None, Some, if◌then◌else◌}
use Rattle.std.specs.Str.{bytes_eq}
use Rattle.sw_diskfile.specs.declared.file_name.FileName.{FileName}
use Rattle.sw_timestamp.specs.TimeText.{text_of, units_of_digits}
use Rattle.sw_timestamp.specs.declared.tag.Tag.{Tag}
use Rattle.sw_timestamp.specs.declared.tag.Tag.TheVariants.{Put, Del, Meta}

-- the ending of a kind of file
abbrev pub ending : Tag → List ℕ
ending Put = codes ".data"
ending Del = codes ".ts"
ending Meta = codes ".meta"

-- the name of the file of a write
abbrev pub name_text : FileName → List ℕ
name_text file = text_of file.time ++ ending file.tag

-- the file of this kind whose time these digits write, ten of seconds, one byte, and five of decimals
abbrev pub file_with_tag : List ℕ → Tag → FileName
file_with_tag text tag = record { time = units_of_digits (take 10 text) (take 5 (drop 11 text)); tag = tag }

-- whether the text is the name of this file, and its time is one that a write can have: at most 9999999999.99999 seconds, as
-- a number of 10-microsecond units
abbrev pub is_name_of : List ℕ → FileName → Bool
is_name_of text file = bytes_eq (name_text file) text && nat_le file.time 999999999999999

-- the file of a write that has this name, or none
unfoldable pub named : List ℕ → Option FileName
named text =
    if is_name_of text (file_with_tag text Put) then Some (file_with_tag text Put)
    else if is_name_of text (file_with_tag text Del) then Some (file_with_tag text Del)
    else if is_name_of text (file_with_tag text Meta) then Some (file_with_tag text Meta)
    else None

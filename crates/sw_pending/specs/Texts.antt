-- The text of a record's file: lines, and an empty one. (This project's own. The lines of paths and times are those of
-- objects' files.)
use Rattle.std.specs.Prelude.{ℕ, Bool, true, false, List, [], ◌∷◌, ◌++◌, map, codes, decimal}
use Rattle.std.specs.List.{join_with_byte}
use Rattle.sw_metafile.specs.Texts.{line, path_line, time_line}
use Rattle.sw_pending.specs.declared.filed.Filed.{Filed}

abbrev pub first_line : List ℕ
first_line = codes "SWC1 pending\n"

abbrev pub flag_text : Bool → List ℕ
flag_text false = codes "0"
flag_text true = codes "1"

abbrev pub queue_line : Bool → List ℕ
queue_line queue = line (codes "queue ") (flag_text queue)

-- the numbers of the devices with a comma between each two, or a dash where there is none
abbrev pub devices_text : List ℕ → List ℕ
devices_text [] = codes "-"
devices_text (d ∷ ds) = join_with_byte 44 (map decimal (d ∷ ds))

abbrev pub done_line : List ℕ → List ℕ
done_line done = line (codes "done ") (devices_text done)

unfoldable pub record_text : Filed → List ℕ
record_text filed =
    first_line ++ path_line filed.name.account filed.name.container filed.name.object ++ time_line filed.time ++ queue_line filed.queue
    ++ done_line filed.done ++ 10 ∷ []

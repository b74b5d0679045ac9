-- What is promised of the definitions on rows. (This project's own.)
use Rattle.std.specs.Prelude.{◌≡◌, ℕ, ◌<◌, ◌≤◌, List, Option, None, Some, if◌then◌else◌, fold}
use Rattle.std.specs.List.{All, Contains}
use Rattle.std.proofs.Common.{◌⊎◌}
use Rattle.std.specs.Str.{bytes_eq}
use Rattle.sw_rows.specs.declared.row.Row.{Row}
use Rattle.sw_rows.specs.declared.numbered.Numbered.{Numbered}
use Rattle.sw_rows.specs.Rows.{Listed, IsListed, find_named, is_at_least, merged}

-- of the row that a name has and another one of its name, the one that counts more; of two that count the same, the first
abbrev pub greater : Option Row → Row → Row
greater None row = row
greater (Some present) row = if is_at_least present row then present else row

-- after a merge the merged row's name has the greater of its two rows, and every other name the row that it had
abbrev pub KeepsTheGreatest : Type 0
KeepsTheGreatest = (l : Listed) (row : Row) (name : List ℕ)
    → find_named (merged l row).list name
    ≡ (if bytes_eq row.name name then Some (greater (find_named l.list row.name) row) else find_named l.list name)

-- a row of the later rows stood under its number before, or has a number that was given out since
abbrev pub IsOldOrNew : Listed → Listed → Numbered → Type 0
IsOldOrNew before now n = (Contains before.list n × (n.rowid ≤ before.top)) ⊎ ((before.top < n.rowid) × (n.rowid ≤ now.top))

-- after any merges, each row is one that stood before or has a new number
abbrev pub NumbersRise : Type 0
NumbersRise = (l : Listed) (rows : List Row) → IsListed l → All (IsOldOrNew l (fold merged l rows)) (fold merged l rows).list

-- The history of an object directory, as a lock keeps it. (This project's own.)
use Rattle.std.specs.Prelude.{ℕ}
use Rattle.sw_objdir.specs.Directories.{Kept}
use Rattle.sw_object_steps.specs.declared.entry.ObjEntry.{ObjEntry}
use Rattle.sw_shared.specs.declared.booked.Began.{Began}
use Rattle.sw_turn.specs.declared.booked.Book.{Book}

-- what it began from
abbrev pub began_of : {V : Type 0} → Kept V → Began V
began_of k = record {
  volume = k.began;
  secrets = k.secrets;
  power = k.power;
  max_entries = k.journal.max_entries;
  max_bytes = k.journal.max_bytes;
}

abbrev pub book_of : {V : Type 0} → (V → ℕ) → Kept V → Book ObjEntry (Began V)
book_of faults k = record { entries = k.journal.entries; opening = began_of k; faults = faults k.volume }

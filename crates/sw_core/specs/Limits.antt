-- How much the journal of an object lock holds. (This project's own.)
use Rattle.std.specs.Prelude.{ℕ, []}
use Rattle.sw_object_steps.specs.Rules.{ObjJournal}

abbrev pub journal_entries : ℕ
journal_entries = 262144

-- of a lock where no directory is open
abbrev pub empty_journal : ObjJournal
empty_journal = record { entries = []; doubts = []; max_entries = journal_entries; max_bytes = 0 }

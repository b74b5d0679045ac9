-- How much the journal of a container lock holds. (This project's own.)
use Rattle.std.specs.Prelude.{ℕ, []}
use Rattle.sw_container_steps.specs.Rules.{ContJournal}

abbrev pub journal_entries : ℕ
journal_entries = 262144

abbrev pub empty_journal : ContJournal
empty_journal = record { entries = []; doubts = []; max_entries = journal_entries; max_bytes = 0 }

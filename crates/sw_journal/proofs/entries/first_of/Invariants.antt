use Rattle.std.proofs.Common.{◌≡◌, [], take}
use Rattle.std.specs.List.{filter}
use Rattle.sw_journal.specs.Entries.{is_write_of}
use Rattle.sw_journal.proofs.entries.first_of.Given as goal

abbrev pub invariant-loop-i : goal.invariant-loop-i
invariant-loop-i l = filter (is_write_of l.hash) (take l.i l.entries) ≡ []

use Rattle.std.proofs.Common.{◌≡◌, take}
use Rattle.sw_cleanup.specs.Cleaning.{names_of}
use Rattle.sw_cleanup.proofs.names.names_of_writes.Given as goal

-- the names among the texts so far
abbrev pub invariant-loop-text : goal.invariant-loop-text
invariant-loop-text l = l.names.items ≡ names_of (take l.text-index l.texts)

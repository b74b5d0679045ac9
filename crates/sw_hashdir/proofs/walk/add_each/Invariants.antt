use Rattle.std.proofs.Common.{take}
use Rattle.sw_hashdir.specs.Walks.{Adds, IsNamedIn}
use Rattle.sw_hashdir.proofs.walk.add_each.Given as goal

-- the paths of the files so far were added
abbrev pub invariant-loop-file : goal.invariant-loop-file
invariant-loop-file l = Adds l.initial.found l.found (IsNamedIn l.dir (take l.file-index l.files))

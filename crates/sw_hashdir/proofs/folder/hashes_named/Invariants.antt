use Rattle.std.proofs.Common.{◌↔◌, take}
use Rattle.std.specs.List.{Contains}
use Rattle.sw_object_steps.specs.Journals.{Hash}
use Rattle.sw_hashdir.specs.Partitions.{HasFolder, IsHashName}
use Rattle.sw_hashdir.proofs.folder.hashes_named.Given as goal

-- the hashes of the folders so far
abbrev pub invariant-loop-folder : goal.invariant-loop-folder
invariant-loop-folder l = (hash : Hash) → Contains l.set.keys hash ↔ HasFolder (IsHashName l.power l.part l.suffix) (take l.folder-index l.folders) hash

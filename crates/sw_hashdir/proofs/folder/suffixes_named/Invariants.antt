use Rattle.std.proofs.Common.{ℕ, ◌↔◌, take}
use Rattle.std.specs.List.{Contains}
use Rattle.sw_hashdir.specs.Partitions.{HasFolder, IsSuffixName}
use Rattle.sw_hashdir.proofs.folder.suffixes_named.Given as goal

-- the suffixes of the folders so far
abbrev pub invariant-loop-folder : goal.invariant-loop-folder
invariant-loop-folder l = (suffix : ℕ) → Contains l.set.keys suffix ↔ HasFolder IsSuffixName (take l.folder-index l.folders) suffix

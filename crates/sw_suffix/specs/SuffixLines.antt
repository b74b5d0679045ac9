-- What a hash directory's line can be, and which lines a suffix has. (This project's own.)
use Rattle.std.specs.Prelude.{◌≡◌, ◌≢◌, ◌≤◌, true, List, [], map, IfSome}
use Rattle.std.specs.Cmp.Lexicographic.{slice_cmp}
use Rattle.std.specs.List.{All}
use Rattle.std.specs.List.Sorted.{IsStrictlySortedBy}
use Rattle.std.specs.Ordering.{nat_cmp}
use Rattle.sw_diskfile.specs.Picking.{is_base, is_meta}
use Rattle.sw_diskfile.specs.declared.picking.Picked.{Picked}
use Rattle.sw_hashpath.specs.HashParts.{IsDigest}
use Rattle.sw_suffix.specs.SuffixTexts.{files}
use Rattle.sw_suffix.specs.declared.dir_line.DirLine.{DirLine}

-- the base is data or a tombstone, and the meta is metadata
pub record HasKinds (picked : Picked) : Type 0 where
  pub base : IfSome picked.base (λ file. is_base file ≡ true)
  pub meta : IfSome picked.meta (λ file. is_meta file.tag ≡ true)

-- a line of a hash directory that has files. The times of writes are up to 9999999999.99999 seconds, in units of 10 microseconds
pub record IsLine (line : DirLine) : Type 0 where
  pub digest : IsDigest line.hash
  pub kinds : HasKinds line.picked
  pub full : files line.picked ≢ []
  pub times : All (λ file. file.time ≤ 999999999999999) (files line.picked)

-- lines of hash directories that have files, in strictly ascending order of their hashes
pub record AreSuffixLines (lines : List DirLine) : Type 0 where
  pub each : All IsLine lines
  pub ascending : IsStrictlySortedBy (slice_cmp nat_cmp) (map (λ line. line.hash) lines)

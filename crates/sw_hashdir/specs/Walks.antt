-- The files below `objects`, by their paths. (The directories are OpenStack Swift's: partitions, suffixes and hashes.)
use Rattle.std.specs.Prelude.{◌≡◌, ℕ, zero, suc, ◌↔◌, ◌⊎◌, List, ◌∷◌, ◌++◌, codes}
use Rattle.std.specs.List.{Contains}
use Rattle.sw_volume.specs.Volume.{Contents, IsFileIn, first_segment}

-- a name without a slash
abbrev pub IsSegment : List ℕ → Type 0
IsSegment name = first_segment name ≡ name

-- dir is top, or a folder at most so many levels below it
abbrev pub IsWithin : ℕ → List ℕ → List ℕ → Type 0
IsWithin zero top dir = dir ≡ top
IsWithin (suc levels) top dir = (dir ≡ top) ⊎ ((name : List ℕ) × IsSegment name × IsWithin levels (top ++ 47 ∷ name) dir)

-- the path of a file that stands in top, or in a folder at most so many levels below it
pub record IsPathWithin (holds : Contents) (levels : ℕ) (top path : List ℕ) : Type 0 where
  pub dir : List ℕ
  pub file : List ℕ
  pub within : IsWithin levels top dir
  pub stands : IsFileIn holds dir file
  pub is_path : path ≡ dir ++ 47 ∷ file

-- the path of a file in `objects`, or in a partition, a suffix or a hash directory below it
abbrev pub IsPathBelow : Contents → List ℕ → Type 0
IsPathBelow holds path = IsPathWithin holds 3 (codes "objects") path

-- the path of one of these names in dir
abbrev pub IsNamedIn : List ℕ → List (List ℕ) → List ℕ → Type 0
IsNamedIn dir names path = (name : List ℕ) × Contains names name × (path ≡ dir ++ 47 ∷ name)

-- the new list has what the old one has and that of which P holds, and nothing else
abbrev pub Adds : List (List ℕ) → List (List ℕ) → (List ℕ → Type 0) → Type 0
Adds old new P = (path : List ℕ) → Contains new path ↔ (Contains old path ⊎ P path)

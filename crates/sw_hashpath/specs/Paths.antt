-- The hash of a path (OpenStack Swift documentation, "The Rings": the MD5 of the path between the cluster's prefix and
-- suffix).
use Rattle.std.specs.Prelude.{ℕ, List, [], ◌∷◌, ◌++◌, Option, Some, None, Result, Ok, Err}
use Rattle.std.specs.List.{join_with_byte}
use Rattle.md5.specs.Md5.{md5}
use Rattle.sw_hashpath.specs.BadNames.{names}
use Rattle.sw_hashpath.specs.declared.bad_name.BadName.{BadName}
use Rattle.sw_hashpath.specs.declared.secrets.Secrets.{Secrets}

-- the prefix, a slash, the names with a slash between each two, and the suffix
unfoldable pub path_text : Secrets → List ℕ → Option (List ℕ) → Option (List ℕ) → List ℕ
path_text secrets account container object = secrets.prefix ++ 47 ∷ join_with_byte 47 (names account container object) ++ secrets.suffix

-- what an optional name adds to a path: a slash and the name
abbrev pub segment : Option (List ℕ) → List ℕ
segment None = []
segment (Some name) = 47 ∷ name

abbrev pub hash_of : Secrets → List ℕ → Option (List ℕ) → Option (List ℕ) → List ℕ
hash_of secrets account container object = md5 (path_text secrets account container object)

-- the value, unless something is wrong with the names
abbrev pub unless_bad : {T : Type 0} → Option BadName → T → Result T BadName
unless_bad None value = Ok value
unless_bad (Some bad) value = Err bad

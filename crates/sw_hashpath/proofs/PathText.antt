-- A path's text, name by name.
use Rattle.std.proofs.Common.{◌≡◌, ℕ, List, ◌++◌, Option, Some, None, append_assoc}
use Rattle.sw_hashpath.specs.Paths.{path_text, segment}
use Rattle.sw_hashpath.specs.declared.secrets.Secrets.{Secrets}

pub path_text-segments : (s : Secrets) (a : List ℕ) (c o : Option (List ℕ)) →
    (((s.prefix ++ segment (Some a)) ++ segment c) ++ segment o) ++ s.suffix ≡ path_text s a c o
unfolding path_text
path_text-segments s a None None = simp append_assoc
path_text-segments s a None (Some o) = simp append_assoc
path_text-segments s a (Some c) None = simp append_assoc
path_text-segments s a (Some c) (Some o) = simp append_assoc

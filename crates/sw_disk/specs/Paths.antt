-- Paths of folders: the names on the way from the disk's own folder, with a slash between each two. That folder has the empty path. (This project's own.)
use Rattle.std.specs.Prelude.{ℕ, zero, suc, Bool, false, ◌==◌, ◌||◌, ◌&&◌, if◌then◌else◌, List, [], ◌∷◌}
use Rattle.std.specs.Str.{bytes_eq}

-- whether a path has a slash
abbrev pub has_slash : List ℕ → Bool
has_slash [] = false
has_slash (b ∷ bs) = b == 47 || has_slash bs

-- the folder in which one stands: what is before the last slash, and the disk's own folder where there is none
abbrev pub above : List ℕ → List ℕ
above [] = []
above (b ∷ bs) = if has_slash bs then b ∷ above bs else []

-- the last name of a path: what is behind the last slash, and all of it where there is none
abbrev pub last_name : List ℕ → List ℕ
last_name [] = []
last_name (b ∷ bs) = if has_slash bs then last_name bs else (if b == 47 then bs else b ∷ bs)

-- the folder that is so many steps above
abbrev pub steps_above : ℕ → List ℕ → List ℕ
steps_above zero dir = dir
steps_above (suc n) dir = steps_above n (above dir)

-- whether two paths of files are the same: their folders are, and their names there
abbrev pub is_path : List ℕ → List ℕ → List ℕ → List ℕ → Bool
is_path dir file d f = bytes_eq dir d && bytes_eq file f

-- Which names of an account, a container and an object are no names, and why. The limits of 256 bytes for accounts and
-- containers and of 1,024 for objects are those of the OpenStack Swift documentation ("API constraints"), and so are
-- UTF-8 and no slash in the first two. The zero byte and the longer objects of accounts that begin with a dot are this
-- project's own.
use Rattle.std.specs.Prelude.{ℕ, ◌==◌, ◌&&◌, ◌||◌, List, ◌∷◌, ◌++◌, length, slice_index, Bool, not, nat_lt, if◌then◌else◌, Option, Some, None}
use Rattle.std.specs.List.{list_any}
use Rattle.std.specs.Option.{option_to_list}
use Rattle.std.specs.Str.{is_utf8}
use Rattle.sw_hashpath.specs.declared.bad_name.BadName.{BadName}
use Rattle.sw_hashpath.specs.declared.bad_name.BadName.TheVariants.{Empty, Slash, TooLong, NotText}

-- the names of a place: the account, and the container where there is one
abbrev pub place_names : List ℕ → Option (List ℕ) → List (List ℕ)
place_names account container = account ∷ option_to_list container

-- all names that are given
abbrev pub names : List ℕ → Option (List ℕ) → Option (List ℕ) → List (List ℕ)
names account container object = place_names account container ++ option_to_list object

abbrev pub is_empty : List ℕ → Bool
is_empty name = length name == 0

-- 47 is '/'
abbrev pub has_slash : List ℕ → Bool
has_slash name = list_any (λ b. b == 47) name

abbrev pub is_over : ℕ → List ℕ → Bool
is_over limit name = nat_lt limit (length name)

-- how many bytes an object's name has at most. 46 is '.'
abbrev pub object_limit : List ℕ → ℕ
object_limit account = if slice_index account 0 == 46 then 2048 else 1024

abbrev pub is_too_long : List ℕ → Option (List ℕ) → Option (List ℕ) → Bool
is_too_long account container object =
    list_any (is_over 256) (place_names account container) || list_any (is_over (object_limit account)) (option_to_list object)

-- UTF-8 without a zero byte
abbrev pub is_text : List ℕ → Bool
is_text name = is_utf8 name && not (list_any (λ b. b == 0) name)

-- the first thing that is wrong with these names
unfoldable pub bad_name : List ℕ → Option (List ℕ) → Option (List ℕ) → Option BadName
bad_name account container object =
    if list_any is_empty (names account container object) then Some Empty
    else if list_any has_slash (place_names account container) then Some Slash
    else if is_too_long account container object then Some TooLong
    else if list_any (λ name. not (is_text name)) (names account container object) then Some NotText
    else None

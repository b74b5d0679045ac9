-- The rules that a record keeps. (The account of the queue of what expires is OpenStack Swift's; the rules are this project's
-- own.)
use Rattle.std.specs.Prelude.{ℕ, Bool, true, ◌&&◌, ◌||◌, ◌==◌, nat_lt, not, if◌then◌else◌, List, [], ◌∷◌, codes}
use Rattle.std.specs.List.{list_all, list_any}
use Rattle.std.specs.Str.{bytes_eq}

-- ---- the queue

abbrev pub is_queue_account : List ℕ → Bool
is_queue_account account = bytes_eq account (codes ".expiring_objects")

-- whether a record is for no entry of the queue, or is of the queue's account
abbrev pub is_queue_right : Bool → List ℕ → Bool
is_queue_right queue account = not queue || is_queue_account account

-- ---- devices

-- whether each device comes after the one before it, and the first after `last`
abbrev pub are_after : ℕ → List ℕ → Bool
are_after last [] = true
are_after last (d ∷ ds) = nat_lt last d && are_after d ds

-- whether the devices are in order, each once
abbrev pub are_in_order : List ℕ → Bool
are_in_order [] = true
are_in_order (d ∷ ds) = are_after d ds

-- whether the device is one of those that are done
abbrev pub is_done : ℕ → List ℕ → Bool
is_done device done = list_any (λ d. device == d) done

abbrev pub are_done : List ℕ → List ℕ → Bool
are_done devices done = list_all (λ device. is_done device done) devices

-- devices that are in order, with this one in its place, once
abbrev pub with_device : ℕ → List ℕ → List ℕ
with_device device [] = device ∷ []
with_device device (d ∷ ds) =
    if nat_lt device d then device ∷ d ∷ ds else if device == d then d ∷ ds else d ∷ with_device device ds

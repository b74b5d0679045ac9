-- What is promised of the names in the expirer's queue. (This project's own.)
use Rattle.std.specs.Prelude.{◌≡◌, ℕ, ◌+◌, ◌*◌, ◌/◌, ◌<◌, ◌≤◌, nat_lt, if◌then◌else◌, List, length, None, Some}
use Rattle.std.specs.Cmp.Lexicographic.{slice_cmp}
use Rattle.std.specs.Ordering.{nat_cmp}
use Rattle.std.specs.declared.cmp.Ordering.TheVariants.{Less}
use Rattle.sw_hashpath.specs.BadNames.{bad_name}
use Rattle.sw_hashpath.specs.Paths.{hash_of}
use Rattle.sw_hashpath.specs.declared.bad_name.BadName.TheVariants.{TooLong}
use Rattle.sw_hashpath.specs.declared.name.Name.{Name}
use Rattle.sw_hashpath.specs.declared.secrets.Secrets.{Secrets}
use Rattle.sw_expiry.specs.Dues.{TellsOf}
use Rattle.sw_expiry.specs.Queue.{queue_container, queue_entry, queue_fault, queue_name, queue_time}
use Rattle.sw_expiry.specs.declared.due.Due.{Due}

-- what is written for a good name with the hash of its path tells of its deletion
abbrev pub WrittenTells : Type 0
WrittenTells = (secrets : Secrets) (name : Name) (delete_at : ℕ) → delete_at ≤ 9999999999
    → bad_name name.account (Some name.container) (Some name.object) ≡ None
    → name.hash ≡ hash_of secrets name.account (Some name.container) (Some name.object)
    → TellsOf secrets (queue_name secrets name delete_at).object (record { delete_at = delete_at; name = name })

-- and an entry tells of one deletion at most
abbrev pub TellsOfOne : Type 0
TellsOfOne = (secrets : Secrets) (entry : List ℕ) (due other : Due) → TellsOf secrets entry due → TellsOf secrets entry other → due ≡ other

-- the entry of a good name is refused exactly where the names of its path have more than 2,035 bytes, as too long
abbrev pub LongPathsAreRefused : Type 0
LongPathsAreRefused = (name : Name) (delete_at : ℕ) → delete_at ≤ 9999999999
    → bad_name name.account (Some name.container) (Some name.object) ≡ None
    → queue_fault name delete_at ≡ (if nat_lt 2035 (length name.account + (length name.container + length name.object)) then Some TooLong else None)

-- the entry of an earlier time comes first in byte order, whatever the names are
abbrev pub EntriesAreInOrder : Type 0
EntriesAreInOrder = (t u : ℕ) (a b c d o p : List ℕ) → t < u → u ≤ 9999999999
    → slice_cmp nat_cmp (queue_entry t a c o) (queue_entry u b d p) ≡ Less

-- and so does the container of an earlier time
abbrev pub ContainersAreInOrder : Type 0
ContainersAreInOrder = (t u : ℕ) (h k : List ℕ) → queue_time h t < queue_time k u → u ≤ 9999999999
    → slice_cmp nat_cmp (queue_container h t) (queue_container k u) ≡ Less

-- a container's time is at the beginning of the day of each of its deletions or before it, and less than a day and 99 seconds before each deletion
abbrev pub ContainersAreNear : Type 0
ContainersAreNear = (t : ℕ) (hash : List ℕ) → (queue_time hash t ≤ t / 86400 * 86400) × (t < queue_time hash t + 86400 + 99)

-- The names in the expirer's queue: of its account, of its containers and of their entries, one for each deletion that is due. (OpenStack Swift's queue of
-- its object expirer, which has up to a hundred containers a day, and entries `TIME-ACCOUNT/CONTAINER/OBJECT`.)
use Rattle.std.specs.Prelude.{ℕ, ◌-◌, ◌*◌, ◌/◌, ◌%◌, List, ◌∷◌, ◌++◌, codes, Option, Some}
use Rattle.std.specs.Int.{w128, from_be_bytes}
use Rattle.sw_hashpath.specs.BadNames.{bad_name}
use Rattle.sw_hashpath.specs.Paths.{hash_of}
use Rattle.sw_hashpath.specs.declared.bad_name.BadName.{BadName}
use Rattle.sw_hashpath.specs.declared.name.Name.{Name}
use Rattle.sw_hashpath.specs.declared.secrets.Secrets.{Secrets}
use Rattle.sw_expiry.specs.TenDigits.{ten_digits}

abbrev pub queue_account : List ℕ
queue_account = codes ".expiring_objects"

-- the time that a container is named by: the beginning of the day of the deletion, less the object's hash as a number, high byte first, modulo 100, and never
-- below 0. So the entries of one day are spread over a hundred containers
unfoldable pub queue_time : List ℕ → ℕ → ℕ
queue_time hash delete_at = delete_at / 86400 * 86400 - from_be_bytes w128 hash % 100

abbrev pub queue_container : List ℕ → ℕ → List ℕ
queue_container hash delete_at = ten_digits (queue_time hash delete_at)

-- when, and what: the time, a dash, and the object's path. 45 is '-', 47 is '/'
unfoldable pub queue_entry : ℕ → List ℕ → List ℕ → List ℕ → List ℕ
queue_entry delete_at account container object = ten_digits delete_at ++ 45 ∷ account ++ 47 ∷ container ++ 47 ∷ object

-- ---- of an object

abbrev pub container_of : Name → ℕ → List ℕ
container_of name delete_at = queue_container name.hash delete_at

abbrev pub entry_of : Name → ℕ → List ℕ
entry_of name delete_at = queue_entry delete_at name.account name.container name.object

-- the name of the entry, with the hash of its own path
abbrev pub queue_name : Secrets → Name → ℕ → Name
queue_name secrets name delete_at = record {
  account = queue_account;
  container = container_of name delete_at;
  object = entry_of name delete_at;
  hash = hash_of secrets queue_account (Some (container_of name delete_at)) (Some (entry_of name delete_at));
}

-- the first thing that is wrong with that name
abbrev pub queue_fault : Name → ℕ → Option BadName
queue_fault name delete_at = bad_name queue_account (Some (container_of name delete_at)) (Some (entry_of name delete_at))

-- Which deletion an entry of the expirer's queue tells of. (OpenStack Swift's expirer, which reads entries so.)
use Rattle.std.specs.Prelude.{◌≡◌, ℕ, ◌≤◌, List, Some, None}
use Rattle.sw_hashpath.specs.BadNames.{bad_name}
use Rattle.sw_hashpath.specs.Paths.{hash_of}
use Rattle.sw_hashpath.specs.declared.secrets.Secrets.{Secrets}
use Rattle.sw_expiry.specs.Queue.{entry_of}
use Rattle.sw_expiry.specs.declared.due.Due.{Due}

-- the entry is that of this time, which has ten digits at most, and of this name, a good one with the hash of its path
pub record TellsOf (secrets : Secrets) (entry : List ℕ) (due : Due) : Type 0 where
  pub is_entry : entry ≡ entry_of due.name due.delete_at
  pub is_time : due.delete_at ≤ 9999999999
  pub good : bad_name due.name.account (Some due.name.container) (Some due.name.object) ≡ None
  pub hashed : due.name.hash ≡ hash_of secrets due.name.account (Some due.name.container) (Some due.name.object)

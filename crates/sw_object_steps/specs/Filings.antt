-- What a read of the records of several hashes answers. (This project's own.)
use Rattle.std.specs.Prelude.{◌≡◌, ◌↔◌, Bool, true, List, Some}
use Rattle.std.specs.List.{All, Contains}
use Rattle.sw_hashpath.specs.declared.secrets.Secrets.{Secrets}
use Rattle.sw_object_steps.specs.Journals.{Hash}
use Rattle.sw_object_steps.specs.Values.{Records}
use Rattle.sw_pending.specs.Orders.{AreAscending}
use Rattle.sw_pending.specs.Outcomes.{IsRecord}
use Rattle.sw_pending.specs.Records.{key_of}
use Rattle.sw_pending.specs.declared.filed.Filed.{Filed}

-- these are records of names with such hashes, in order of folder and name; and where that is told, exactly those that are filed under these
pub record AreFiled (secrets : Secrets) (at : Hash → Bool) (told : Bool) (records : Hash → Records) (list : List Filed) : Type 0 where
  pub ascending : AreAscending list
  pub sound : All (IsRecord secrets) list
  pub within : All (λ filed. at filed.name.hash ≡ true) list
  pub exact : told ≡ true → (filed : Filed) → at filed.name.hash ≡ true → Contains list filed ↔ (records filed.name.hash (key_of filed) ≡ Some filed)

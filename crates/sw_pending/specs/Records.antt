-- Records of updates. OpenStack Swift's object server files such a record where it couldn't tell a container of a write; that
-- one is filed before each write of a client, and which of its devices are done, are this project's own.
use Rattle.std.specs.Prelude.{◌≡◌, ℕ, false, [], refl}
use Rattle.sw_hashpath.specs.declared.name.Name.{Name}
use Rattle.sw_pending.specs.Rules.{with_device}
use Rattle.sw_pending.specs.declared.filed.Filed.{Filed}
use Rattle.sw_pending.specs.declared.key.RecordKey.{RecordKey}
use Rattle.sw_pending.specs.InOrder.{in_order-with_device}

-- by what a record is found
abbrev pub key_of : Filed → RecordKey
key_of filed = record { hash = filed.name.hash; time = filed.time }

-- that of a write that no device has been told of yet
abbrev pub new_record : Name → ℕ → Filed
new_record name time = record { name = name; time = time; queue = false; done = []; queue_right = refl; in_order = refl }

-- the record with this device done
abbrev pub marked : Filed → ℕ → Filed
marked filed device = record {
  name = filed.name;
  time = filed.time;
  queue = filed.queue;
  done = with_device device filed.done;
  queue_right = filed.queue_right;
  in_order = in_order-with_device device filed.done filed.in_order;
}

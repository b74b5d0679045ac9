-- What a mark does to a record.
use Rattle.std.proofs.Common.{◌≡◌, ℕ, true, List, ap, subst, ◌∙◌}
use Rattle.std.proofs.Math.Bool.{Bool-set}
use Rattle.sw_pending.specs.Laws.{MarksAdd, MarksAreOnce}
use Rattle.sw_pending.specs.Records.{marked}
use Rattle.sw_pending.specs.Rules.{are_in_order, with_device}
use Rattle.sw_pending.specs.declared.filed.Filed.{Filed}
use Rattle.sw_pending.specs.InOrder.{in_order-with_device}
use Rattle.sw_pending.proofs.DeviceOrder.{done-with_device, with_done}

pub marks_add : MarksAdd
marks_add filed device other = done-with_device other device filed.done

-- the record with these devices done
abbrev pub with_devices : Filed → (ds : List ℕ) → are_in_order ds ≡ true → Filed
with_devices filed ds are = record {
  name = filed.name;
  time = filed.time;
  queue = filed.queue;
  done = ds;
  queue_right = filed.queue_right;
  in_order = are;
}

same_devices : (filed : Filed) (ds es : List ℕ) (are : are_in_order ds ≡ true) (also : are_in_order es ≡ true) → ds ≡ es
    → with_devices filed ds are ≡ with_devices filed es also
same_devices filed ds es are also same =
    let P : List ℕ → Type 0 = λ l. (p : are_in_order l ≡ true) → with_devices filed ds are ≡ with_devices filed l p in
    subst P same (λ p. ap (with_devices filed ds) (Bool-set (are_in_order ds) true are p)) also

pub marks_are_once : MarksAreOnce
marks_are_once filed device done =
    same_devices filed (with_device device filed.done) filed.done (in_order-with_device device filed.done filed.in_order) filed.in_order
    (with_done device filed.done filed.in_order done)

pub order_marked : (filed : Filed) (device : ℕ) (done : List ℕ) → done ≡ with_device device filed.done → are_in_order done ≡ true
order_marked filed device done is = ap are_in_order is ∙ in_order-with_device device filed.done filed.in_order

pub marked_is : (filed : Filed) (device : ℕ) (done : List ℕ) (are : are_in_order done ≡ true) → done ≡ with_device device filed.done
    → with_devices filed done are ≡ marked filed device
marked_is filed device done are is =
    same_devices filed done (with_device device filed.done) are (in_order-with_device device filed.done filed.in_order) is

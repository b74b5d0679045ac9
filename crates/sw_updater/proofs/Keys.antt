-- The order of records' files is one.
use Rattle.std.proofs.lemmas.Cmp.{nat_list_cmp_total, on_total, then_total}
use Rattle.std.specs.Cmp.{IsTotalOrder}
use Rattle.sw_pending.specs.Names.{folder_text, name_text}
use Rattle.sw_pending.specs.Orders.{key_cmp}
use Rattle.sw_pending.specs.declared.key.RecordKey.{RecordKey}

pub keys-total : IsTotalOrder key_cmp
keys-total = then_total (on_total (λ (key : RecordKey). folder_text key.hash) nat_list_cmp_total) (on_total name_text nat_list_cmp_total)

-- A control request asks for one thing: no words are in two rows of the table, no name is that of two devices, no text that of two partitions or numbers, and
-- no names are those of two containers.
use Rattle.std.proofs.Common.{◌≡◌, ℕ, List, refl, ap}
use Rattle.sw_message.specs.declared.fields.Field.{Field}
use Rattle.sw_ring.specs.declared.ring.Ring.{Ring}
use Rattle.sw_control.proofs.OnePush.{one_device, one_replication, one_row_push, one_update}
use Rattle.sw_control.proofs.OneSharding.{one_cleaving, one_shard_creation, one_shards_read}
use Rattle.sw_control.specs.Asking.{AsksFor, IsAsked, words_of}
use Rattle.sw_control.specs.Laws.{AsksForOne}
use Rattle.sw_control.specs.declared.asking.Control.{Control}
use Rattle.sw_control.specs.declared.asking.Control.TheVariants.{Trail, Files, Pending, Restart, Replicate, PushRows, Update, Refused}
use Rattle.sw_control.specs.declared.asking.Control.TheVariants.{CreateShards, Cleave, Shards}

one_row : (ring : Ring) (words : List (List ℕ)) (fields : List Field) (a b : Control) → AsksFor ring words fields a → AsksFor ring words fields b → a ≡ b
one_row ring words fields Trail Trail p q = refl
one_row ring words fields Trail (Files j) p (other, known, q) = cc
one_row ring words fields Trail (Pending j) p (other, known, q) = cc
one_row ring words fields Trail (Restart j) p (other, known, q) = cc
one_row ring words fields Trail (Replicate b) p (from', to', part', known, q) = cc
one_row ring words fields Trail (PushRows b) p (from', to', account', container', known, q) = cc
one_row ring words fields Trail (Update b) p (other, known, q) = cc
one_row ring words fields Trail (CreateShards b) p (other, account', container', per_shard', known, q) = cc
one_row ring words fields Trail (Cleave b) p (other, account', container', known, q) = cc
one_row ring words fields Trail (Shards b) p (other, account', container', known, q) = cc
one_row ring words fields (Files i) Trail (name, here, p) q = cc
one_row ring words fields (Files i) (Files j) (name, here, p) (other, known, q) =
    let same : name ≡ other = cc in
    ap Files (one_device ring name other i j same here known)
one_row ring words fields (Files i) (Pending j) (name, here, p) (other, known, q) = cc
one_row ring words fields (Files i) (Restart j) (name, here, p) (other, known, q) = cc
one_row ring words fields (Files i) (Replicate b) (name, here, p) (from', to', part', known, q) = cc
one_row ring words fields (Files i) (PushRows b) (name, here, p) (from', to', account', container', known, q) = cc
one_row ring words fields (Files i) (Update b) (name, here, p) (other, known, q) = cc
one_row ring words fields (Files i) (CreateShards b) (name, here, p) (other, account', container', per_shard', known, q) = cc
one_row ring words fields (Files i) (Cleave b) (name, here, p) (other, account', container', known, q) = cc
one_row ring words fields (Files i) (Shards b) (name, here, p) (other, account', container', known, q) = cc
one_row ring words fields (Pending i) Trail (name, here, p) q = cc
one_row ring words fields (Pending i) (Files j) (name, here, p) (other, known, q) = cc
one_row ring words fields (Pending i) (Pending j) (name, here, p) (other, known, q) =
    let same : name ≡ other = cc in
    ap Pending (one_device ring name other i j same here known)
one_row ring words fields (Pending i) (Restart j) (name, here, p) (other, known, q) = cc
one_row ring words fields (Pending i) (Replicate b) (name, here, p) (from', to', part', known, q) = cc
one_row ring words fields (Pending i) (PushRows b) (name, here, p) (from', to', account', container', known, q) = cc
one_row ring words fields (Pending i) (Update b) (name, here, p) (other, known, q) = cc
one_row ring words fields (Pending i) (CreateShards b) (name, here, p) (other, account', container', per_shard', known, q) = cc
one_row ring words fields (Pending i) (Cleave b) (name, here, p) (other, account', container', known, q) = cc
one_row ring words fields (Pending i) (Shards b) (name, here, p) (other, account', container', known, q) = cc
one_row ring words fields (Restart i) Trail (name, here, p) q = cc
one_row ring words fields (Restart i) (Files j) (name, here, p) (other, known, q) = cc
one_row ring words fields (Restart i) (Pending j) (name, here, p) (other, known, q) = cc
one_row ring words fields (Restart i) (Restart j) (name, here, p) (other, known, q) =
    let same : name ≡ other = cc in
    ap Restart (one_device ring name other i j same here known)
one_row ring words fields (Restart i) (Replicate b) (name, here, p) (from', to', part', known, q) = cc
one_row ring words fields (Restart i) (PushRows b) (name, here, p) (from', to', account', container', known, q) = cc
one_row ring words fields (Restart i) (Update b) (name, here, p) (other, known, q) = cc
one_row ring words fields (Restart i) (CreateShards b) (name, here, p) (other, account', container', per_shard', known, q) = cc
one_row ring words fields (Restart i) (Cleave b) (name, here, p) (other, account', container', known, q) = cc
one_row ring words fields (Restart i) (Shards b) (name, here, p) (other, account', container', known, q) = cc
one_row ring words fields (Replicate a) Trail (from, to, part, here, p) q = cc
one_row ring words fields (Replicate a) (Files j) (from, to, part, here, p) (other, known, q) = cc
one_row ring words fields (Replicate a) (Pending j) (from, to, part, here, p) (other, known, q) = cc
one_row ring words fields (Replicate a) (Restart j) (from, to, part, here, p) (other, known, q) = cc
one_row ring words fields (Replicate a) (Replicate b) (from, to, part, here, p) (from', to', part', known, q) =
    let same_from : from ≡ from' = cc in
    let same_to : to ≡ to' = cc in
    let same_part : part ≡ part' = cc in
    ap Replicate (one_replication ring from to part from' to' part' fields a b same_from same_to same_part here known)
one_row ring words fields (Replicate a) (PushRows b) (from, to, part, here, p) (from', to', account', container', known, q) = cc
one_row ring words fields (Replicate a) (Update b) (from, to, part, here, p) (other, known, q) = cc
one_row ring words fields (Replicate a) (CreateShards b) (from, to, part, here, p) (other, account', container', per_shard', known, q) = cc
one_row ring words fields (Replicate a) (Cleave b) (from, to, part, here, p) (other, account', container', known, q) = cc
one_row ring words fields (Replicate a) (Shards b) (from, to, part, here, p) (other, account', container', known, q) = cc
one_row ring words fields (PushRows a) Trail (from, to, account, container, here, p) q = cc
one_row ring words fields (PushRows a) (Files j) (from, to, account, container, here, p) (other, known, q) = cc
one_row ring words fields (PushRows a) (Pending j) (from, to, account, container, here, p) (other, known, q) = cc
one_row ring words fields (PushRows a) (Restart j) (from, to, account, container, here, p) (other, known, q) = cc
one_row ring words fields (PushRows a) (Replicate b) (from, to, account, container, here, p) (from', to', part', known, q) = cc
one_row ring words fields (PushRows a) (PushRows b) (from, to, account, container, here, p) (from', to', account', container', known, q) =
    let same_from : from ≡ from' = cc in
    let same_to : to ≡ to' = cc in
    let same_account : account ≡ account' = cc in
    let same_container : container ≡ container' = cc in
    ap PushRows (one_row_push ring from to account container from' to' account' container' fields a b same_from same_to same_account same_container here known)
one_row ring words fields (PushRows a) (Update b) (from, to, account, container, here, p) (other, known, q) = cc
one_row ring words fields (PushRows a) (CreateShards b) (from, to, account, container, here, p) (other, account', container', per_shard', known, q) = cc
one_row ring words fields (PushRows a) (Cleave b) (from, to, account, container, here, p) (other, account', container', known, q) = cc
one_row ring words fields (PushRows a) (Shards b) (from, to, account, container, here, p) (other, account', container', known, q) = cc
one_row ring words fields (Update a) Trail (name, here, p) q = cc
one_row ring words fields (Update a) (Files j) (name, here, p) (other, known, q) = cc
one_row ring words fields (Update a) (Pending j) (name, here, p) (other, known, q) = cc
one_row ring words fields (Update a) (Restart j) (name, here, p) (other, known, q) = cc
one_row ring words fields (Update a) (Replicate b) (name, here, p) (from', to', part', known, q) = cc
one_row ring words fields (Update a) (PushRows b) (name, here, p) (from', to', account', container', known, q) = cc
one_row ring words fields (Update a) (Update b) (name, here, p) (other, known, q) =
    let same : name ≡ other = cc in
    ap Update (one_update ring name other fields a b same here known)
one_row ring words fields (Update a) (CreateShards b) (name, here, p) (other, account', container', per_shard', known, q) = cc
one_row ring words fields (Update a) (Cleave b) (name, here, p) (other, account', container', known, q) = cc
one_row ring words fields (Update a) (Shards b) (name, here, p) (other, account', container', known, q) = cc
one_row ring words fields (CreateShards a) Trail (name, account, container, per_shard, here, p) q = cc
one_row ring words fields (CreateShards a) (Files j) (name, account, container, per_shard, here, p) (other, known, q) = cc
one_row ring words fields (CreateShards a) (Pending j) (name, account, container, per_shard, here, p) (other, known, q) = cc
one_row ring words fields (CreateShards a) (Restart j) (name, account, container, per_shard, here, p) (other, known, q) = cc
one_row ring words fields (CreateShards a) (Replicate b) (name, account, container, per_shard, here, p) (from', to', part', known, q) = cc
one_row ring words fields (CreateShards a) (PushRows b) (name, account, container, per_shard, here, p) (from', to', account', container', known, q) = cc
one_row ring words fields (CreateShards a) (Update b) (name, account, container, per_shard, here, p) (other, known, q) = cc
one_row ring words fields (CreateShards a) (CreateShards b) (name, account, container, per_shard, here, p) (other, account', container', per_shard', known, q) =
    let same : name ≡ other = cc in
    let same_account : account ≡ account' = cc in
    let same_container : container ≡ container' = cc in
    let same_per_shard : per_shard ≡ per_shard' = cc in
    ap CreateShards
    (one_shard_creation ring name account container per_shard other account' container' per_shard' fields a b
    same same_account same_container same_per_shard here known)
one_row ring words fields (CreateShards a) (Cleave b) (name, account, container, per_shard, here, p) (other, account', container', known, q) = cc
one_row ring words fields (CreateShards a) (Shards b) (name, account, container, per_shard, here, p) (other, account', container', known, q) = cc
one_row ring words fields (Cleave a) Trail (name, account, container, here, p) q = cc
one_row ring words fields (Cleave a) (Files j) (name, account, container, here, p) (other, known, q) = cc
one_row ring words fields (Cleave a) (Pending j) (name, account, container, here, p) (other, known, q) = cc
one_row ring words fields (Cleave a) (Restart j) (name, account, container, here, p) (other, known, q) = cc
one_row ring words fields (Cleave a) (Replicate b) (name, account, container, here, p) (from', to', part', known, q) = cc
one_row ring words fields (Cleave a) (PushRows b) (name, account, container, here, p) (from', to', account', container', known, q) = cc
one_row ring words fields (Cleave a) (Update b) (name, account, container, here, p) (other, known, q) = cc
one_row ring words fields (Cleave a) (CreateShards b) (name, account, container, here, p) (other, account', container', per_shard', known, q) = cc
one_row ring words fields (Cleave a) (Cleave b) (name, account, container, here, p) (other, account', container', known, q) =
    let same : name ≡ other = cc in
    let same_account : account ≡ account' = cc in
    let same_container : container ≡ container' = cc in
    ap Cleave (one_cleaving ring name account container other account' container' fields a b same same_account same_container here known)
one_row ring words fields (Cleave a) (Shards b) (name, account, container, here, p) (other, account', container', known, q) = cc
one_row ring words fields (Shards a) Trail (name, account, container, here, p) q = cc
one_row ring words fields (Shards a) (Files j) (name, account, container, here, p) (other, known, q) = cc
one_row ring words fields (Shards a) (Pending j) (name, account, container, here, p) (other, known, q) = cc
one_row ring words fields (Shards a) (Restart j) (name, account, container, here, p) (other, known, q) = cc
one_row ring words fields (Shards a) (Replicate b) (name, account, container, here, p) (from', to', part', known, q) = cc
one_row ring words fields (Shards a) (PushRows b) (name, account, container, here, p) (from', to', account', container', known, q) = cc
one_row ring words fields (Shards a) (Update b) (name, account, container, here, p) (other, known, q) = cc
one_row ring words fields (Shards a) (CreateShards b) (name, account, container, here, p) (other, account', container', per_shard', known, q) = cc
one_row ring words fields (Shards a) (Cleave b) (name, account, container, here, p) (other, account', container', known, q) = cc
one_row ring words fields (Shards a) (Shards b) (name, account, container, here, p) (other, account', container', known, q) =
    let same : name ≡ other = cc in
    let same_account : account ≡ account' = cc in
    let same_container : container ≡ container' = cc in
    ap Shards (one_shards_read ring name account container other account' container' a b same same_account same_container here known)
one_row ring words fields Trail Refused p q = elim q [ ]
one_row ring words fields (Files i) Refused p q = elim q [ ]
one_row ring words fields (Pending i) Refused p q = elim q [ ]
one_row ring words fields (Restart i) Refused p q = elim q [ ]
one_row ring words fields (Replicate a) Refused p q = elim q [ ]
one_row ring words fields (PushRows a) Refused p q = elim q [ ]
one_row ring words fields (Update a) Refused p q = elim q [ ]
one_row ring words fields (CreateShards a) Refused p q = elim q [ ]
one_row ring words fields (Cleave a) Refused p q = elim q [ ]
one_row ring words fields (Shards a) Refused p q = elim q [ ]
one_row ring words fields Refused b p q = elim p [ ]

-- where words ask for something that is known, what they ask for is a row of the table
row_of : (ring : Ring) (words : List (List ℕ)) (fields : List Field) (a b : Control) → AsksFor ring words fields a → IsAsked ring words fields b
    → AsksFor ring words fields b
row_of ring words fields a Trail p q = q
row_of ring words fields a (Files j) p q = q
row_of ring words fields a (Pending j) p q = q
row_of ring words fields a (Restart j) p q = q
row_of ring words fields a (Replicate b) p q = q
row_of ring words fields a (PushRows b) p q = q
row_of ring words fields a (Update b) p q = q
row_of ring words fields a (CreateShards b) p q = q
row_of ring words fields a (Cleave b) p q = q
row_of ring words fields a (Shards b) p q = q
row_of ring words fields a Refused p q = q a p

one_asked : (ring : Ring) (words : List (List ℕ)) (fields : List Field) (a b : Control) → IsAsked ring words fields a → IsAsked ring words fields b → a ≡ b
one_asked ring words fields Trail b p q = one_row ring words fields Trail b p (row_of ring words fields Trail b p q)
one_asked ring words fields (Files i) b p q = one_row ring words fields (Files i) b p (row_of ring words fields (Files i) b p q)
one_asked ring words fields (Pending i) b p q = one_row ring words fields (Pending i) b p (row_of ring words fields (Pending i) b p q)
one_asked ring words fields (Restart i) b p q = one_row ring words fields (Restart i) b p (row_of ring words fields (Restart i) b p q)
one_asked ring words fields (Replicate a) b p q = one_row ring words fields (Replicate a) b p (row_of ring words fields (Replicate a) b p q)
one_asked ring words fields (PushRows a) b p q = one_row ring words fields (PushRows a) b p (row_of ring words fields (PushRows a) b p q)
one_asked ring words fields (Update a) b p q = one_row ring words fields (Update a) b p (row_of ring words fields (Update a) b p q)
one_asked ring words fields (CreateShards a) b p q = one_row ring words fields (CreateShards a) b p (row_of ring words fields (CreateShards a) b p q)
one_asked ring words fields (Cleave a) b p q = one_row ring words fields (Cleave a) b p (row_of ring words fields (Cleave a) b p q)
one_asked ring words fields (Shards a) b p q = one_row ring words fields (Shards a) b p (row_of ring words fields (Shards a) b p q)
one_asked ring words fields Refused Trail p q = absurd (p Trail q)
one_asked ring words fields Refused (Files j) p q = absurd (p (Files j) q)
one_asked ring words fields Refused (Pending j) p q = absurd (p (Pending j) q)
one_asked ring words fields Refused (Restart j) p q = absurd (p (Restart j) q)
one_asked ring words fields Refused (Replicate b) p q = absurd (p (Replicate b) q)
one_asked ring words fields Refused (PushRows b) p q = absurd (p (PushRows b) q)
one_asked ring words fields Refused (Update b) p q = absurd (p (Update b) q)
one_asked ring words fields Refused (CreateShards b) p q = absurd (p (CreateShards b) q)
one_asked ring words fields Refused (Cleave b) p q = absurd (p (Cleave b) q)
one_asked ring words fields Refused (Shards b) p q = absurd (p (Shards b) q)
one_asked ring words fields Refused Refused p q = refl

pub asks_for_one : AsksForOne
asks_for_one ring r a b p q = one_asked ring (words_of r) r.fields a b p q

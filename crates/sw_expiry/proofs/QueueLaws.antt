-- The order of entries and containers, and how near a container's time is.
use Rattle.std.proofs.Common.{ℕ, ◌+◌, ◌*◌, ◌-◌, ◌/◌, ◌%◌, ◌<◌, ◌≤◌, List, [], ◌∷◌, ◌++◌, arith}
use Rattle.std.specs.Int.{w128, from_be_bytes}
use Rattle.std.proofs.lemmas.List.{append-nil}
use Rattle.sw_expiry.specs.Laws.{ContainersAreInOrder, ContainersAreNear, EntriesAreInOrder}
use Rattle.sw_expiry.specs.Queue.{queue_time}
use Rattle.sw_expiry.specs.TenDigits.{ten_digits}
use Rattle.sw_expiry.proofs.Entries.{entry-parts}
use Rattle.sw_expiry.proofs.Order.{ten_digits-less}

near : (t number : ℕ) → (t / 86400 * 86400 - number % 100 ≤ t / 86400 * 86400) × (t < t / 86400 * 86400 - number % 100 + 86400 + 99)
near t number = (omega arith, omega arith)

pub containers-near : ContainersAreNear
unfolding queue_time
containers-near t hash = near t (from_be_bytes w128 hash)

pub not-later : (t : ℕ) (hash : List ℕ) → queue_time hash t ≤ t
not-later t hash = omega (arith, (containers-near t hash).0)

pub entries-in-order : EntriesAreInOrder
entries-in-order t u a b c d o p below small =
    rw (entry-parts t a c o, entry-parts u b d p)
    (ten_digits-less t u (45 ∷ (a ++ 47 ∷ (c ++ 47 ∷ o))) (45 ∷ (b ++ 47 ∷ (d ++ 47 ∷ p))) below small)

pub containers-in-order : ContainersAreInOrder
containers-in-order t u h k below small =
    let less = ten_digits-less (queue_time h t) (queue_time k u) [] [] below (omega (arith, not-later u k)) in
    rw (append-nil (ten_digits (queue_time h t)), append-nil (ten_digits (queue_time k u))) at less

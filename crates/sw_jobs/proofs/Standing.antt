-- The devices and the names of a generated list.
use Rattle.std.proofs.Common.{arith, rules, ◌≡◌, ℕ, ◌*◌, ◌+◌, ◌%◌, ◌/◌, ◌==◌, ◌<◌, ◌≤◌, ◌^◌, zero, suc, Bool, true, false, not, ◌&&◌, ◌||◌}
use Rattle.std.proofs.Common.{nat_eq, nat_le, List, [], ◌∷◌, length, max, slice_index, slice_get, unwrap_or, Option, None, Some, refl, subst}
use Rattle.std.specs.Prelude.{IfSome}
use Rattle.std.specs.List.{list_all}
use Rattle.std.proofs.lemmas.Bool.Decides.{nat_tests}
use Rattle.std.proofs.lemmas.Nat.{mod_below}
use Rattle.sw_hashpath.specs.HashParts.{partition_of}
use Rattle.sw_hashpath.specs.declared.secrets.Secrets.{Secrets}
use Rattle.sw_ring.specs.Faults.{has_repeat, has_unknown}
use Rattle.sw_ring.specs.Rows.{is_good}
use Rattle.sw_ring.specs.declared.ring.Ring.{Ring}
use Rattle.sw_jobs.specs.Draws.{draw}
use Rattle.sw_jobs.specs.Laws.{DevicesStand, IsGoodName, NamesAreGood, device_in, name_in}
use Rattle.sw_jobs.specs.Requests.{container_name, name_of, object_name, picked, request}
use Rattle.sw_jobs.proofs.GoodNames.{names-good}
use Rattle.sw_jobs.proofs.Turns.{all-jobs, name_at, pass-each, request-each}

-- ---- rows of a ring

and-both : (a b : Bool) → (a && b) ≡ true → (a ≡ true) × (b ≡ true)
and-both true b is = (refl, is)
and-both false b is = cc

not-true : (b : Bool) → not b ≡ true → b ≡ false
not-true true is = cc
not-true false is = refl

or-both : (a b : Bool) → (a || b) ≡ false → (a ≡ false) × (b ≡ false)
or-both true b is = cc
or-both false b is = (refl, is)

row-good : (devices replicas : ℕ) (table : List (List ℕ)) (p : ℕ) (row : List ℕ) → list_all (is_good devices replicas) table ≡ true
    → slice_get table p ≡ Some row → is_good devices replicas row ≡ true
row-good devices replicas [] p row good at = cc
row-good devices replicas (r ∷ rs) zero row good at =
    let same : r ≡ row = cc in
    subst (λ (x : List ℕ). is_good devices replicas x ≡ true) same (and-both (is_good devices replicas r) (list_all (is_good devices replicas) rs) good).0
row-good devices replicas (r ∷ rs) (suc p) row good at =
    row-good devices replicas rs p row (and-both (is_good devices replicas r) (list_all (is_good devices replicas) rs) good).1 at

not-unknown : (devices device : ℕ) → nat_le devices device ≡ false → device < devices
not-unknown devices device is = grind (arith, nat_tests)

known-at : (devices : ℕ) (row : List ℕ) (i : ℕ) → has_unknown devices row ≡ false → i < length row → slice_index row i < devices
known-at devices [] i known inside = absurd (omega arith)
known-at devices (d ∷ ds) zero known inside = not-unknown devices d (or-both (nat_le devices d) (has_unknown devices ds) known).0
known-at devices (d ∷ ds) (suc i) known inside = known-at devices ds i (or-both (nat_le devices d) (has_unknown devices ds) known).1 (omega arith)

same-count : (m n : ℕ) → (m == n) ≡ true → m ≡ n
same-count m n is = grind (arith, nat_tests)

good-at : (devices replicas : ℕ) (row : List ℕ) (i : ℕ) → is_good devices replicas row ≡ true → i < replicas → slice_index row i < devices
good-at devices replicas row i good few =
    let tests = and-both ((length row == replicas) && not (has_unknown devices row)) (not (has_repeat nat_eq row)) good in
    let both = and-both (length row == replicas) (not (has_unknown devices row)) tests.0 in
    let count : length row ≡ replicas = same-count (length row) replicas both.0 in
    known-at devices row i (not-true (has_unknown devices row) both.1) (omega (arith, count, few))

first-row : (table : List (List ℕ)) → 0 < length table → (row : List ℕ) × (slice_get table 0 ≡ Some row)
first-row [] some = absurd (omega arith)
first-row (row ∷ rows) some = (row, refl)

power-some : (p : ℕ) → 0 < 2 ^ p
power-some p = search rules

pub devices-some : (ring : Ring) → 0 < length ring.devices
devices-some ring =
    let count : length ring.object ≡ 2 ^ ring.power = ring.object_count in
    let rows : 0 < 2 ^ ring.power = power-some ring.power in
    let first = first-row ring.object (omega (arith, count, rows)) in
    let known : slice_index first.0 0 < length ring.devices =
    good-at (length ring.devices) ring.replicas first.0 0 (row-good (length ring.devices) ring.replicas ring.object 0 first.0 ring.object_rows first.1)
    (omega (arith, ring.least_replicas)) in
    omega (arith, known)

picked-known : (ring : Ring) (hash : List ℕ) (draw_of_device : ℕ) → picked ring hash draw_of_device < length ring.devices
unfolding picked
picked-known ring hash n = by (slice_get ring.object (partition_of hash ring.power)) refl
  where
    by : (o : Option (List ℕ)) → slice_get ring.object (partition_of hash ring.power) ≡ o
        → slice_index (unwrap_or o []) (n % ring.replicas) < length ring.devices
    by None at = devices-some ring
    by (Some row) at =
        let some : 0 < ring.replicas = omega (arith, ring.least_replicas) in
        good-at (length ring.devices) ring.replicas row (n % ring.replicas)
        (row-good (length ring.devices) ring.replicas ring.object (partition_of hash ring.power) row ring.object_rows at) (mod_below n ring.replicas some)

-- ---- devices

request-device : (ring : Ring) (seed requests i : ℕ) → device_in (request ring seed requests i) < length ring.devices
request-device ring seed requests i =
    let known = picked-known ring (name_at ring seed requests i).hash (draw seed (5 * i + 4)) in
    request-each (λ w. device_in w < length ring.devices) ring seed requests i known known known

pub devices-stand : DevicesStand
devices-stand ring seed requests = all-jobs (λ w. device_in w < length ring.devices) ring seed requests
    (λ i below. request-device ring seed requests i)
    (λ q. let turn : q % length ring.devices < length ring.devices = mod_below q (length ring.devices) (devices-some ring) in
    pass-each (λ w. device_in w < length ring.devices) ring q turn turn turn)

-- ---- names

named-good : (secrets : Secrets) (k n : ℕ) → k < 4 → n < 10 ^ 8 → IsGoodName secrets (name_of secrets (container_name k) (object_name n))
unfolding name_of
named-good secrets k n few small = record { good = names-good k n few small; hashed = refl }

few-objects : (drawn_object requests : ℕ) → requests ≤ 100000 → drawn_object % max 1 (requests / 4) < 10 ^ 8
few-objects n requests few =
    let some : 0 < max 1 (requests / 4) = omega arith in
    let below : n % max 1 (requests / 4) < max 1 (requests / 4) = mod_below n (max 1 (requests / 4)) some in
    let quarter : max 1 (requests / 4) ≤ 100000 = omega arith in
    omega (arith, below, quarter)

request-name : (ring : Ring) (seed requests i : ℕ) → requests ≤ 100000 → IfSome (name_in (request ring seed requests i)) (IsGoodName ring.secrets)
request-name ring seed requests i few =
    let good = named-good ring.secrets (draw seed (5 * i + 1) % 4) (draw seed (5 * i + 2) % max 1 (requests / 4))
    (mod_below (draw seed (5 * i + 1)) 4 (omega arith)) (few-objects (draw seed (5 * i + 2)) requests few) in
    request-each (λ w. IfSome (name_in w) (IsGoodName ring.secrets)) ring seed requests i good good good

pub names-are-good : NamesAreGood
names-are-good ring seed requests few = all-jobs (λ w. IfSome (name_in w) (IsGoodName ring.secrets)) ring seed requests
    (λ i below. request-name ring seed requests i few)
    (λ q. pass-each (λ w. IfSome (name_in w) (IsGoodName ring.secrets)) ring q tt tt tt)

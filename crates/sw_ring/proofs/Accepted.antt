-- What holds of a ring with which nothing is wrong.
use Rattle.std.proofs.Common.{◌≡◌, ℕ, ◌≤◌, ◌^◌, List, [], ◌∷◌, length, Bool, true, false, ◌||◌, ◌&&◌, not, Option, Some, None, bytes_eq, nat_eq, nat_lt, nat_le}
use Rattle.std.proofs.Common.{cond, refl, true≢false, arith}
use Rattle.std.proofs.lemmas.Grind.{common_steps}
use Rattle.std.specs.List.{list_all, list_any}
use Rattle.sw_ring.specs.Faults.{first_fault, has_repeat, has_unknown}
use Rattle.sw_ring.specs.RingData.{RingData, any_row}
use Rattle.sw_ring.specs.Rows.{AreGood, is_good}
use Rattle.sw_ring.specs.Shapes.{is_sound}

pub record IsAccepted (ring : RingData) : Type 0 where
  pub least_power : 1 ≤ ring.power
  pub greatest_power : ring.power ≤ 16
  pub few_lock_bits : ring.lock_bits ≤ 4
  pub lock_bits_within_power : ring.lock_bits ≤ ring.power
  pub least_replicas : 1 ≤ ring.replicas
  pub greatest_replicas : ring.replicas ≤ 3
  pub few_devices : length ring.devices ≤ 8
  pub distinct_names : has_repeat bytes_eq ring.devices ≡ false
  pub object_count : length ring.object ≡ 2 ^ ring.power
  pub container_count : length ring.container ≡ 2 ^ ring.power
  pub object_known : list_any (has_unknown (length ring.devices)) ring.object ≡ false
  pub container_known : list_any (has_unknown (length ring.devices)) ring.container ≡ false
  pub object_rows : AreGood (length ring.devices) ring.replicas ring.object
  pub container_rows : AreGood (length ring.devices) ring.replicas ring.container

-- where a chain of tests finds nothing, its first test fails and the others find nothing
passes : {T : Type 0} (b : Bool) (x : T) (rest : Option T) → cond b (Some x) rest ≡ None → (b ≡ false) × (rest ≡ None)
passes true x rest e = cc
passes false x rest e = (refl, e)

or-false : (a b : Bool) → (a || b) ≡ false → (a ≡ false) × (b ≡ false)
or-false true b e = absurd (true≢false e)
or-false false b e = (refl, e)

and-true : (a b : Bool) → (a && b) ≡ true → (a ≡ true) × (b ≡ true)
and-true true b e = (refl, e)
and-true false b e = cc

good : (a b c : Bool) → a ≡ true → b ≡ false → c ≡ false → (a && not b && not c) ≡ true
good a b c x y z = rw (x, y, z)

-- rows that pass each test are good
are_good : (devices replicas : ℕ) (table : List (List ℕ)) → list_all (λ row. nat_eq (length row) replicas) table ≡ true
    → list_any (has_unknown devices) table ≡ false → list_any (has_repeat nat_eq) table ≡ false → list_all (is_good devices replicas) table ≡ true
are_good devices replicas [] long known distinct = refl
are_good devices replicas (row ∷ table) long known distinct =
    let l = and-true (nat_eq (length row) replicas) _ long in
    let k = or-false (has_unknown devices row) _ known in
    let d = or-false (has_repeat nat_eq row) _ distinct in
    let here : is_good devices replicas row ≡ true = good _ _ _ l.0 k.0 d.0 in
    rw here (are_good devices replicas table l.1 k.1 d.1)

power_range : (n : ℕ) → (nat_eq n 0 || nat_lt 16 n) ≡ false → (1 ≤ n) × (n ≤ 16)
power_range n e = (grind (arith, common_steps), grind (arith, common_steps))

few : (d r : ℕ) → (nat_lt 8 d || nat_lt 3 r) ≡ false → (d ≤ 8) × (r ≤ 3)
few d r e = (grind (arith, common_steps), grind (arith, common_steps))

within_power : (l p : ℕ) → 1 ≤ p → (nat_eq p 0 || nat_le l p) ≡ true → l ≤ p
within_power l p some e = grind (arith, common_steps)

counts : (o c n : ℕ) → (not (nat_eq o n) || not (nat_eq c n)) ≡ false → (o ≡ n) × (c ≡ n)
counts o c n e = (grind (arith, common_steps), grind (arith, common_steps))

four : (n : ℕ) → nat_le n 4 ≡ true → n ≤ 4
four n e = grind (arith, common_steps)

positive : (n : ℕ) → nat_lt 0 n ≡ true → 1 ≤ n
positive n e = grind (arith, common_steps)

pub accepted : (ring : RingData) → is_sound ring ≡ true → first_fault ring ≡ None → IsAccepted ring
unfolding first_fault
accepted ring sound faultless =
    let power = passes (nat_eq ring.power 0 || nat_lt 16 ring.power) _ _ faultless in
    let names = passes (has_repeat bytes_eq ring.devices) _ _ power.1 in
    let known = passes (any_row (has_unknown (length ring.devices)) ring) _ _ names.1 in
    let count = passes (not (nat_eq (length ring.object) (2 ^ ring.power)) || not (nat_eq (length ring.container) (2 ^ ring.power))) _ _ known.1 in
    let distinct = passes (any_row (has_repeat nat_eq) ring) _ _ count.1 in
    let large = passes (nat_lt 8 (length ring.devices) || nat_lt 3 ring.replicas) _ _ distinct.1 in
    let range = power_range ring.power power.0 in
    let sizes = counts (length ring.object) (length ring.container) (2 ^ ring.power) count.0 in
    let limits = few (length ring.devices) ring.replicas large.0 in
    let unknown = or-false (list_any (has_unknown (length ring.devices)) ring.object) _ known.0 in
    let twice = or-false (list_any (has_repeat nat_eq) ring.object) _ distinct.0 in
    let long = and-true ((nat_le ring.lock_bits 4 && (nat_eq ring.power 0 || nat_le ring.lock_bits ring.power)) && nat_lt 0 ring.replicas) _ sound in
    let some = and-true (nat_le ring.lock_bits 4 && (nat_eq ring.power 0 || nat_le ring.lock_bits ring.power)) _ long.0 in
    let locks = and-true (nat_le ring.lock_bits 4) _ some.0 in
    let rows = and-true (list_all (λ row. nat_eq (length row) ring.replicas) ring.object) _ long.1 in
    record {
      least_power = range.0;
      greatest_power = range.1;
      few_lock_bits = four ring.lock_bits locks.0;
      lock_bits_within_power = within_power ring.lock_bits ring.power range.0 locks.1;
      least_replicas = positive ring.replicas some.1;
      greatest_replicas = limits.1;
      few_devices = limits.0;
      distinct_names = names.0;
      object_count = sizes.0;
      container_count = sizes.1;
      object_known = unknown.0;
      container_known = unknown.1;
      object_rows = are_good (length ring.devices) ring.replicas ring.object rows.0 unknown.0 twice.0;
      container_rows = are_good (length ring.devices) ring.replicas ring.container rows.1 unknown.1 twice.1;
    }

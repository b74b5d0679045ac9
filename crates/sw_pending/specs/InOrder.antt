-- Devices in order stay so with one more in its place: the rule of records that a mark keeps. (This project's own.)
use Rattle.std.specs.Prelude.{◌≡◌, ℕ, Bool, true, false, ◌==◌, nat_lt, if◌then◌else◌, List, [], ◌∷◌, refl}
use Rattle.std.proofs.Common.{inl, inr}
use Rattle.std.proofs.lemmas.Bool.{and_from, and_parts, both_ways, cases_order, eqb-false, lt-ltb}
use Rattle.sw_pending.specs.Rules.{are_after, are_in_order, with_device}

-- a device that isn't before another, nor that one, comes after it
pub comes_later : (d e : ℕ) → nat_lt d e ≡ false → (d == e) ≡ false → nat_lt e d ≡ true
comes_later d e not_before apart =
    elim (cases_order d e) [
      | inl same ↦ absurd (eqb-false d e apart same)
      | inr other ↦ elim other [
        | inl before ↦ absurd (both_ways (nat_lt d e) not_before (lt-ltb d e before))
        | inr later ↦ lt-ltb e d later
      ]
    ]

after-with_device_at : (last d e : ℕ) (ds : List ℕ) → nat_lt last d ≡ true → nat_lt last e ≡ true → are_after e ds ≡ true
    → (nat_lt e d ≡ true → are_after e (with_device d ds) ≡ true)
    → (front : Bool) → nat_lt d e ≡ front → (same : Bool) → (d == e) ≡ same
    → are_after last (if front then d ∷ e ∷ ds else if same then e ∷ ds else e ∷ with_device d ds) ≡ true
after-with_device_at last d e ds before first more rest true front same is =
    and_from (nat_lt last d) (are_after d (e ∷ ds)) before (and_from (nat_lt d e) (are_after e ds) front more)
after-with_device_at last d e ds before first more rest false front true is = and_from (nat_lt last e) (are_after e ds) first more
after-with_device_at last d e ds before first more rest false front false is =
    and_from (nat_lt last e) (are_after e (with_device d ds)) first (rest (comes_later d e front is))

after-with_device : (last d : ℕ) (ds : List ℕ) → nat_lt last d ≡ true → are_after last ds ≡ true → are_after last (with_device d ds) ≡ true
after-with_device last d [] before are = and_from (nat_lt last d) true before refl
after-with_device last d (e ∷ ds) before are =
    after-with_device_at last d e ds before (and_parts (nat_lt last e) (are_after e ds) are).0 (and_parts (nat_lt last e) (are_after e ds) are).1
    (λ later. after-with_device e d ds later (and_parts (nat_lt last e) (are_after e ds) are).1) (nat_lt d e) refl (d == e) refl

in_order-with_device_at : (d e : ℕ) (ds : List ℕ) → are_after e ds ≡ true → (front : Bool) → nat_lt d e ≡ front → (same : Bool) → (d == e) ≡ same
    → are_in_order (if front then d ∷ e ∷ ds else if same then e ∷ ds else e ∷ with_device d ds) ≡ true
in_order-with_device_at d e ds are true front same is = and_from (nat_lt d e) (are_after e ds) front are
in_order-with_device_at d e ds are false front true is = are
in_order-with_device_at d e ds are false front false is = after-with_device e d ds (comes_later d e front is) are

pub in_order-with_device : (d : ℕ) (ds : List ℕ) → are_in_order ds ≡ true → are_in_order (with_device d ds) ≡ true
in_order-with_device d [] are = refl
in_order-with_device d (e ∷ ds) are = in_order-with_device_at d e ds are (nat_lt d e) refl (d == e) refl

-- What a name is rolled up to is text.
use Rattle.std.proofs.Common.{◌≡◌, ℕ, ◌+◌, ◌-◌, ◌<◌, ◌≤◌, List, length, take, get_or, arith}
use Rattle.std.specs.Str.{IsUtf8}
use Rattle.std.proofs.lemmas.Str.{IsUtf8-had, IsUtf8-take, IsCharBoundary-after_ascii}

-- a name up to and with an ASCII byte
pub rolled-IsUtf8 : (name : List ℕ) (size delimiter : ℕ) → ∥ IsUtf8 name ∥₁ → delimiter < 128 → 0 < size → size ≤ length name →
    get_or name (size - 1) 0 ≡ delimiter → ∥ IsUtf8 (take size name) ∥₁
rolled-IsUtf8 name size delimiter had ascii some within is =
    let text : IsUtf8 name = IsUtf8-had name had in
    let next : (size - 1) + 1 ≡ size = omega arith in
    let boundary = IsCharBoundary-after_ascii name (size - 1) text (omega arith) (omega arith) in
    ∣ IsUtf8-take name size text (rw next at boundary) ∣₁

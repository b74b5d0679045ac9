-- Each partition, each suffix of it, and each stripe has a hash.
use Rattle.std.proofs.Common.{◌≡◌, ℕ, zero, suc, ◌+◌, ◌-◌, ◌*◌, ◌/◌, ◌%◌, ◌^◌, ◌<◌, ◌≤◌, List, [], ◌∷◌, ◌++◌, refl, sym, ◌∙◌, ap, subst, arith, All}
use Rattle.std.specs.Int.{byte_at, bytes_high_first, w16, w32, to_be_bytes}
use Rattle.std.proofs.Math.Nat.{mod-eq_of_lt, mul-le-mul_right, suc-mul}
use Rattle.std.proofs.lemmas.List.Elements.{All-append, All-cons}
use Rattle.std.proofs.lemmas.Nat.{div-mul-add, from_be_bytes-to_be_bytes_2, from_be_bytes-to_be_bytes_4, mod_below, pow-add, pow_pos}
use Rattle.sw_hashpath.specs.HashParts.{suffix_of}
use Rattle.sw_object_steps.specs.Journals.{Hash}
use Rattle.sw_object_steps.specs.Parts.{IsOfPart}
use Rattle.sw_core.specs.Worlds.{stripe_at, stripe_in}

-- its first four bytes are the partition's bits and zeros, its last two the suffix
abbrev pub zeros : ℕ → List ℕ → List ℕ
zeros zero bs = bs
zeros (suc n) bs = 0 ∷ zeros n bs

abbrev pub hash_with : ℕ → ℕ → ℕ → Hash
hash_with power part suffix = to_be_bytes w32 (part * 2 ^ (32 - power)) ++ zeros 10 (to_be_bytes w16 suffix)

abbrev IsByte : ℕ → Type 0
IsByte b = b < 256

none : All IsByte []
none k d h = absurd (omega (arith, h))

blank : (n : ℕ) (bs : List ℕ) → All IsByte bs → All IsByte (zeros n bs)
blank zero bs all = all
blank (suc n) bs all = All-cons IsByte 0 (zeros n bs) (omega arith) (blank n bs all)

is-byte : (i n : ℕ) → byte_at i n < 256
is-byte zero n = mod_below n 256 (omega arith)
is-byte (suc i) n = mod_below (n / 256 ^ suc i) 256 (omega arith)

are-bytes : (k n : ℕ) → All IsByte (bytes_high_first k n)
are-bytes zero n = none
are-bytes (suc k) n = All-cons IsByte (byte_at k n) (bytes_high_first k n) (is-byte k n) (are-bytes k n)

-- the first bits of a number that has so many
scaled : (bits power n : ℕ) → bits ≤ power → n < 2 ^ bits → n * 2 ^ (power - bits) < 2 ^ power
scaled bits power n few below =
    let sum : bits + (power - bits) ≡ power = omega (arith, few) in
    let whole : 2 ^ bits * 2 ^ (power - bits) ≡ 2 ^ power = sym (pow-add 2 bits (power - bits)) ∙ ap (λ (m : ℕ). 2 ^ m) sum in
    let most : suc n * 2 ^ (power - bits) ≤ 2 ^ bits * 2 ^ (power - bits) =
    mul-le-mul_right {m = suc n} {n = 2 ^ bits} (2 ^ (power - bits)) (omega (arith, below)) in
    let more : suc n * 2 ^ (power - bits) ≡ n * 2 ^ (power - bits) + 2 ^ (power - bits) = suc-mul n (2 ^ (power - bits)) in
    let some : 0 < 2 ^ (power - bits) = pow_pos (power - bits) in
    subst (λ (m : ℕ). n * 2 ^ (power - bits) < m) whole (omega (arith, most, more, some))

pub of-part : (power part suffix : ℕ) → power ≤ 32 → part < 2 ^ power → IsOfPart power part (hash_with power part suffix)
of-part power part suffix few below =
    let shift : ℕ = 2 ^ (32 - power) in
    let plain : part * shift ≡ part * shift + 0 = omega arith in
    record {
      digest = (
        refl,
        All-append IsByte (to_be_bytes w32 (part * shift)) (zeros 10 (to_be_bytes w16 suffix)) (are-bytes 4 (part * shift))
            (blank 10 (to_be_bytes w16 suffix) (are-bytes 2 suffix)),
      );
      part_is = ap (λ (n : ℕ). n / shift) (from_be_bytes-to_be_bytes_4 (part * shift) (scaled power 32 part few below) ∙ plain) ∙ div-mul-add part shift 0
          (pow_pos (32 - power));
    }

pub of-suffix : (power part suffix : ℕ) → suffix < 4096 → suffix_of (hash_with power part suffix) ≡ suffix
of-suffix power part suffix small =
    let within : suffix < 2 ^ 16 = omega (arith, small) in
    ap (λ (n : ℕ). n % 16 ^ 3) (from_be_bytes-to_be_bytes_2 suffix within) ∙ mod-eq_of_lt small

-- a stripe has the hashes of its first partition
pub of-stripe : (bits power stripe : ℕ) → bits ≤ power → power ≤ 32 → stripe < 2 ^ bits
    → stripe_in bits power (hash_with power (stripe * 2 ^ (power - bits)) 0) ≡ stripe
of-stripe bits power stripe fine few below =
    let shift : ℕ = 2 ^ (power - bits) in
    let within : stripe * shift < 2 ^ power = scaled bits power stripe fine below in
    let plain : stripe * shift ≡ stripe * shift + 0 = omega arith in
    ap (stripe_at bits power) ((of-part power (stripe * shift) 0 few within).part_is)
    ∙ (ap (λ (n : ℕ). n / shift % 2 ^ bits) plain ∙ (ap (λ (n : ℕ). n % 2 ^ bits) (div-mul-add stripe shift 0 (pow_pos (power - bits))) ∙ mod-eq_of_lt below))

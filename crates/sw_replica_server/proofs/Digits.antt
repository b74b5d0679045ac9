-- The digits of a suffix, and what is read of them.
use Rattle.std.proofs.Common.{◌≡◌, ℕ, zero, suc, ◌/◌, ◌%◌, ◌<◌, refl, sym, ◌∙◌, ap, Result, Ok, List, [], ◌∷◌, length, get_or, drop, slice_index, arith}
use Rattle.std.specs.Int.{w16, from_be_bytes, to_be_bytes}
use Rattle.std.proofs.lemmas.Nat.{from_be_bytes-to_be_bytes_2}
use Rattle.hex.proofs.HexLemmas.{decode_sized-encode_lower}
use Rattle.hex.specs.Hex.{decode_sized, encode_lower, encode_with, lower_digits}
use Rattle.hex.specs.declared.error.FromHexError.{FromHexError}
use Rattle.sw_replica_server.specs.Suffixes.{IsSuffix, suffix_digits}

-- the digits of two bytes
two-bytes : (a b : ℕ) → encode_lower (a ∷ b ∷ [])
    ≡ slice_index lower_digits (a / 16) ∷ slice_index lower_digits (a % 16) ∷ slice_index lower_digits (b / 16) ∷ slice_index lower_digits (b % 16) ∷ []
unfolding encode_with
two-bytes a b = refl

four : (s : ℕ) → encode_lower (to_be_bytes w16 s)
    ≡ slice_index lower_digits (s / 256 % 256 / 16) ∷ slice_index lower_digits (s / 256 % 256 % 16)
    ∷ slice_index lower_digits (s % 256 / 16) ∷ slice_index lower_digits (s % 256 % 16) ∷ []
four s = two-bytes (s / 256 % 256) (s % 256)

-- a suffix has three digits
pub three : (s : ℕ) → length (suffix_digits s) ≡ 3
three s = ap (λ (t : List ℕ). length (drop 1 t)) (four s)

-- the first of four is 0
whole : (s : ℕ) → s < 4096 → encode_lower (to_be_bytes w16 s) ≡ 48 ∷ suffix_digits s
whole s lt =
    let high : s / 256 % 256 / 16 ≡ 0 = omega arith in
    four s ∙ (ap (λ (k : ℕ). slice_index lower_digits k ∷ slice_index lower_digits (s / 256 % 256 % 16)
    ∷ slice_index lower_digits (s % 256 / 16) ∷ slice_index lower_digits (s % 256 % 16) ∷ []) high
    ∙ ap (λ (t : List ℕ). 48 ∷ drop 1 t) (sym (four s)))

decodes : (s : ℕ) → s < 4096 → decode_sized (48 ∷ suffix_digits s) 2 ≡ Ok (to_be_bytes w16 s)
decodes s lt = ap (λ (t : List ℕ). decode_sized t 2) (sym (whole s lt)) ∙ decode_sized-encode_lower (to_be_bytes w16 s) 2 refl (are s)
  where
    are : (s k : ℕ) → get_or (to_be_bytes w16 s) k 0 < 256
    are s zero = omega arith
    are s (suc zero) = omega arith
    are s (suc (suc k)) = omega arith

-- what is read of a text of three bytes
abbrev read-digits : List ℕ → Result (List ℕ) FromHexError
read-digits text = decode_sized (48 ∷ slice_index text 0 ∷ slice_index text 1 ∷ slice_index text 2 ∷ []) 2

three-of : (s : ℕ) → slice_index (suffix_digits s) 0 ∷ slice_index (suffix_digits s) 1 ∷ slice_index (suffix_digits s) 2 ∷ [] ≡ suffix_digits s
three-of s =
    let t : suffix_digits s ≡ slice_index lower_digits (s / 256 % 256 % 16) ∷ slice_index lower_digits (s % 256 / 16) ∷ slice_index lower_digits (s % 256 % 16)
    ∷ [] =
    ap (λ (l : List ℕ). drop 1 l) (four s) in
    ap (λ (l : List ℕ). slice_index l 0 ∷ slice_index l 1 ∷ slice_index l 2 ∷ []) t ∙ sym t

pub text-reads : (text : List ℕ) (s : ℕ) → IsSuffix text s → read-digits text ≡ Ok (to_be_bytes w16 s)
text-reads text s is = ap read-digits is.digits ∙ (ap (λ (l : List ℕ). decode_sized (48 ∷ l) 2) (three-of s) ∙ decodes s is.below)

ok_is : (xs ys : List ℕ) → let a : Result (List ℕ) FromHexError = Ok xs in let b : Result (List ℕ) FromHexError = Ok ys in a ≡ b → xs ≡ ys
ok_is xs ys e = cc

pub text-is : (text bytes : List ℕ) (s : ℕ) → read-digits text ≡ Ok bytes → IsSuffix text s → from_be_bytes w16 bytes ≡ s
text-is text bytes s reads is =
    ap (from_be_bytes w16) (ok_is bytes (to_be_bytes w16 s) (sym reads ∙ text-reads text s is))
    ∙ from_be_bytes-to_be_bytes_2 s (let below = is.below in omega (arith, below))

-- one suffix has this text
pub one-suffix : (text : List ℕ) (s other : ℕ) → IsSuffix text s → IsSuffix text other → other ≡ s
one-suffix text s other is also = sym (text-is text (to_be_bytes w16 s) other (text-reads text s is) also)
    ∙ text-is text (to_be_bytes w16 s) s (text-reads text s is) is

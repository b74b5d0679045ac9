-- The digits of suffixes and hashes, and the directories that are made of them.
use Rattle.std.proofs.Common.{◌≡◌, ℕ, zero, suc, ◌+◌, ◌*◌, ◌/◌, ◌%◌, ◌<◌, ◌==◌, refl, sym, ◌∙◌, ap, subst, true, false, not, List, [], ◌∷◌, ◌++◌, length}
use Rattle.std.proofs.Common.{get_or, take, drop, slice_index, arith}
use Rattle.std.proofs.Common.{◌^◌, Bool, Result, Ok, inl, inr}
use Rattle.std.proofs.lemmas.Bool.{and_parts, cases_lt}
use Rattle.std.proofs.lemmas.List.Elements.{All-drop, All-get_or}
use Rattle.std.proofs.lemmas.List.{get_or_past, length-drop}
use Rattle.std.specs.Int.{w16, from_be_bytes, to_be_bytes}
use Rattle.std.specs.List.{All, list_all}
use Rattle.hex.specs.Hex.{decode_sized, encode_lower, encode_with, lower_digits}
use Rattle.hex.specs.declared.error.FromHexError.{FromHexError}
use Rattle.std.proofs.lemmas.Nat.{from_be_bytes-to_be_bytes_2}
use Rattle.hex.proofs.HexLemmas.{decode_sized-encode_lower}
use Rattle.sw_hashpath.specs.HashParts.{IsDigest, suffix_of}
use Rattle.sw_object_steps.specs.Journals.{Hash}
use Rattle.sw_object_steps.specs.Parts.{IsOfPart}
use Rattle.sw_hashdir.specs.Partitions.{IsHashName, IsSuffixName, suffix_digits, suffix_dir_text}
use Rattle.sw_hashdir.specs.Places.{dir_text}
use Rattle.sw_hashdir.specs.Walks.{IsSegment}

-- ---- the digits of a suffix

-- those of two bytes
pub two-bytes : (a b : ℕ) → encode_lower (a ∷ b ∷ [])
    ≡ slice_index lower_digits (a / 16) ∷ slice_index lower_digits (a % 16) ∷ slice_index lower_digits (b / 16) ∷ slice_index lower_digits (b % 16) ∷ []
unfolding encode_with
two-bytes a b = refl

pub suffix-text : (s : ℕ) → s < 4096 → encode_lower (to_be_bytes w16 s) ≡ 48 ∷ suffix_digits s
suffix-text s lt =
    let high : s / 256 % 256 / 16 ≡ 0 = omega arith in
    let first : s / 256 % 256 % 16 ≡ s / 256 = omega arith in
    let second : s % 256 / 16 ≡ s / 16 % 16 = omega arith in
    let third : s % 256 % 16 ≡ s % 16 = omega arith in
    two-bytes (s / 256 % 256) (s % 256) ∙ rw (high, first, second, third) refl

pub suffix-decodes : (s : ℕ) → s < 4096 → decode_sized (48 ∷ suffix_digits s) 2 ≡ Ok (to_be_bytes w16 s)
suffix-decodes s lt = ap (λ (t : List ℕ). decode_sized t 2) (sym (suffix-text s lt))
    ∙ decode_sized-encode_lower (to_be_bytes w16 s) 2 refl (are s)
  where
    are : (s k : ℕ) → get_or (to_be_bytes w16 s) k 0 < 256
    are s zero = omega arith
    are s (suc zero) = omega arith
    are s (suc (suc k)) = omega arith

-- what is read of a folder of the suffix's name
abbrev pub read-digits : List ℕ → Result (List ℕ) FromHexError
read-digits name = decode_sized (48 ∷ slice_index name 0 ∷ slice_index name 1 ∷ slice_index name 2 ∷ []) 2

pub name-reads : (name : List ℕ) (s : ℕ) → IsSuffixName name s → read-digits name ≡ Ok (to_be_bytes w16 s)
name-reads name s is = ap read-digits is.digits ∙ suffix-decodes s is.below

ok_is : (xs ys : List ℕ) → let a : Result (List ℕ) FromHexError = Ok xs in let b : Result (List ℕ) FromHexError = Ok ys in a ≡ b → xs ≡ ys
ok_is xs ys e = cc

pub name-is : (name bytes : List ℕ) (s : ℕ) → read-digits name ≡ Ok bytes → IsSuffixName name s → from_be_bytes w16 bytes ≡ s
name-is name bytes s reads is =
    ap (from_be_bytes w16) (ok_is bytes (to_be_bytes w16 s) (sym reads ∙ name-reads name s is))
    ∙ from_be_bytes-to_be_bytes_2 s (let below = is.below in omega (arith, below))

-- one suffix has this name
pub one-suffix : (name : List ℕ) (s other : ℕ) → IsSuffixName name s → IsSuffixName name other → other ≡ s
one-suffix name s other is also = sym (name-is name (to_be_bytes w16 s) other (name-reads name s is) also)
    ∙ name-is name (to_be_bytes w16 s) s (name-reads name s is) is

-- ---- the digits of a hash

bytes_all : (xs : List ℕ) → All (λ b. b < 256) xs → (i : ℕ) → get_or xs i 0 < 256
bytes_all xs are i =
    elim (cases_lt i (length xs)) [
      | inl inside ↦ All-get_or (λ b. b < 256) xs i 0 inside are
      | inr past ↦ rw (get_or_past xs i 0 past) (omega arith)
    ]

twice : (n : ℕ) → suc n + suc n ≡ suc (suc (n + n))
twice n = omega arith

drop-more : (n : ℕ) (xs : List ℕ) → drop (suc n) xs ≡ drop 1 (drop n xs)
drop-more zero xs = refl
drop-more (suc n) [] = refl
drop-more (suc n) (x ∷ xs) = drop-more n xs

drop-encoded : (n : ℕ) (t xs : List ℕ) → drop (n + n) (encode_with t xs) ≡ encode_with t (drop n xs)
unfolding encode_with
drop-encoded zero t xs = refl
drop-encoded (suc n) t [] = ap (λ (k : ℕ). drop {A = ℕ} k []) (twice n)
drop-encoded (suc n) t (b ∷ rest) = ap (λ (k : ℕ). drop k (encode_with t (b ∷ rest))) (twice n) ∙ drop-encoded n t rest

two-left : (xs : List ℕ) → length xs ≡ 2 → (a : ℕ) × (b : ℕ) × (xs ≡ a ∷ b ∷ [])
two-left [] e = cc
two-left (a ∷ []) e = absurd (omega (arith, e))
two-left (a ∷ b ∷ []) e = (a, b, refl)
two-left (a ∷ b ∷ d ∷ more) e = absurd (omega (arith, e))

-- the digits of the last two bytes
pub last-digits : (a b : ℕ) → b < 256 → take 3 (drop 1 (encode_lower (a ∷ b ∷ []))) ≡ suffix_digits ((a * 256 + b) % 4096)
last-digits a b lt =
    let first : a % 16 ≡ (a * 256 + b) % 4096 / 256 = omega arith in
    let second : b / 16 ≡ (a * 256 + b) % 4096 / 16 % 16 = omega arith in
    let third : b % 16 ≡ (a * 256 + b) % 4096 % 16 = omega arith in
    ap (λ (t : List ℕ). take 3 (drop 1 t)) (two-bytes a b) ∙ rw (first, second, third) refl

pub hash-digits : (hash : Hash) → IsDigest hash → take 3 (drop 29 (encode_lower hash)) ≡ suffix_digits (suffix_of hash)
hash-digits hash is =
    let count = is.0 in
    let left = two-left (drop 14 hash) (length-drop 14 hash ∙ omega (arith, count)) in
    let a : ℕ = left.0 in
    let b : ℕ = left.1 in
    let bytes : All (λ (x : ℕ). x < 256) (a ∷ b ∷ []) = subst (λ (l : List ℕ). All (λ (x : ℕ). x < 256) l) left.2 (All-drop (λ (x : ℕ). x < 256) 14 hash is.1)
    in
    let last : b < 256 = bytes 1 0 (omega arith) in
    let text : drop 29 (encode_lower hash) ≡ drop 1 (encode_lower (a ∷ b ∷ [])) =
    drop-more 28 (encode_lower hash) ∙ ap (drop 1) (drop-encoded 14 lower_digits hash ∙ ap encode_lower left.2) in
    ap (take 3) text
    ∙ (last-digits a b last ∙ ap (λ (l : List ℕ). suffix_digits (from_be_bytes w16 l % 16 ^ 3)) (sym left.2))

-- what is read of a folder of the hash's name
pub hash-reads : (name : List ℕ) (hash : Hash) → IsDigest hash → name ≡ encode_lower hash → decode_sized name 16 ≡ Ok hash
hash-reads name hash is e =
    ap (λ (t : List ℕ). decode_sized t 16) e ∙ decode_sized-encode_lower hash 16 is.0 (bytes_all hash is.1)

pub hash-is : (name bytes : List ℕ) (hash : Hash) → decode_sized name 16 ≡ Ok bytes → IsDigest hash → name ≡ encode_lower hash → bytes ≡ hash
hash-is name bytes hash reads is e = ok_is bytes hash (sym reads ∙ hash-reads name hash is e)

-- one hash has this name
pub one-hash : (power part suffix : ℕ) (name : List ℕ) (hash other : Hash) → IsHashName power part suffix name hash
    → IsHashName power part suffix name other → other ≡ hash
one-hash power part suffix name hash other is also =
    hash-is name other hash (hash-reads name other also.of_part.digest also.digits) is.of_part.digest is.digits

-- ---- directories

pub dir-below : (power part suffix : ℕ) (hash : Hash) → IsOfPart power part hash → suffix_of hash ≡ suffix
    → dir_text power hash ≡ suffix_dir_text part suffix ++ 47 ∷ [] ++ encode_lower hash
dir-below power part suffix hash is e =
    let three : take 3 (drop 29 (encode_lower hash)) ≡ suffix_digits suffix = hash-digits hash is.digest ∙ ap suffix_digits e in
    rw (is.part_is, three) refl

-- ---- no digit is a slash

untrue : (b : Bool) → not b ≡ true → b ≡ false
untrue true e = sym e
untrue false e = refl

no-slash : (t : List ℕ) → list_all (λ d. not (d == 47)) t ≡ true → (i : ℕ) → (get_or t i 0 == 47) ≡ false
no-slash [] all i = refl
no-slash (d ∷ t) all zero = untrue (d == 47) (and_parts (not (d == 47)) (list_all (λ d. not (d == 47)) t) all).0
no-slash (d ∷ t) all (suc i) = no-slash t (and_parts (not (d == 47)) (list_all (λ d. not (d == 47)) t) all).1 i

digit-no-slash : (i : ℕ) → (slice_index lower_digits i == 47) ≡ false
digit-no-slash i = no-slash lower_digits refl i

pub hex-segment : (xs : List ℕ) → IsSegment (encode_lower xs)
unfolding encode_with
hex-segment [] = refl
hex-segment (b ∷ rest) = rw (digit-no-slash (b / 16), digit-no-slash (b % 16), hex-segment rest) refl

pub suffix-segment : (s : ℕ) → IsSegment (suffix_digits s)
suffix-segment s = rw (digit-no-slash (s / 256), digit-no-slash (s / 16 % 16), digit-no-slash (s % 16)) refl

-- The folders of keys: each is that of a suffix, and it is listed where a file stands in it.
use Rattle.std.proofs.Common.{◌≡◌, ℕ, zero, suc, ◌<◌, ◌/◌, ◌%◌, inl, inr, ◌⊎◌, refl, sym, ◌∙◌, ap, Bool, true, false, ◌==◌, List, [], ◌∷◌, ◌++◌, length}
use Rattle.std.proofs.Common.{take, drop}
use Rattle.std.proofs.Common.{get_or, slice_index, length-drop, IsSome, codes, None, Some, arith}
use Rattle.std.proofs.lemmas.Bool.{and_from, and_parts, cond-true}
use Rattle.std.proofs.lemmas.Bool.Decides.{eqb_tells}
use Rattle.std.proofs.lemmas.Cmp.{nat_cmp_total, tied_itself}
use Rattle.std.proofs.lemmas.List.{length-take-le}
use Rattle.std.proofs.lemmas.List.Elements.{All-cons, All-drop, All-head, All-nil, All-tail, All-take}
use Rattle.std.proofs.lemmas.Map.Text.{is_eq-slice_cmp}
use Rattle.std.proofs.lemmas.Slice.Eq.{bytes_eq-Decides}
use Rattle.std.specs.Cmp.Lexicographic.{slice_cmp}
use Rattle.std.specs.List.{All, list_all}
use Rattle.std.specs.Ordering.{is_eq, nat_cmp, ordering_then}
use Rattle.std.specs.declared.cmp.Ordering.{Ordering}
use Rattle.std.specs.declared.cmp.Ordering.TheVariants.{Equal, Greater, Less}
use Rattle.hex.proofs.HexLemmas.{length-encode_with}
use Rattle.hex.specs.Hex.{encode_lower, encode_with, lower_digits}
use Rattle.sw_hashpath.specs.HashParts.{IsDigest}
use Rattle.sw_pending.specs.Names.{IsKey, folder_text, name_text}
use Rattle.sw_pending.specs.Orders.{key_cmp}
use Rattle.sw_pending.specs.declared.key.RecordKey.{RecordKey}
use Rattle.sw_volume.specs.Volume.{Contents, first_segment}
use Rattle.sw_pending_dir.specs.Places.{bytes_at}
use Rattle.sw_pending_dir.specs.Walks.{IsSuffixIn, is_digit, is_suffix, suffix_folder}

-- ---- digits

each-passes : (p : ℕ → Bool) (xs : List ℕ) (i : ℕ) → list_all p xs ≡ true → i < length xs → p (get_or xs i 0) ≡ true
each-passes p [] i all inside = absurd (omega arith)
each-passes p (x ∷ xs) zero all inside = (and_parts (p x) (list_all p xs) all).0
each-passes p (x ∷ xs) (suc i) all inside = each-passes p xs i (and_parts (p x) (list_all p xs) all).1 (omega arith)

all-pass : (p : ℕ → Bool) (xs : List ℕ) → All (λ x. p x ≡ true) xs → list_all p xs ≡ true
all-pass p [] all = refl
all-pass p (x ∷ xs) all = and_from (p x) (list_all p xs) (All-head (λ y. p y ≡ true) x xs all) (all-pass p xs (All-tail (λ y. p y ≡ true) x xs all))

abbrev IsDigit : ℕ → Type 0
IsDigit d = is_digit d ≡ true

digit : (i : ℕ) → i < 16 → IsDigit (slice_index lower_digits i)
digit i below = each-passes is_digit lower_digits i refl below

hex-digits : (xs : List ℕ) → All (λ b. b < 256) xs → All IsDigit (encode_lower xs)
unfolding encode_with
hex-digits [] all = All-nil IsDigit
hex-digits (b ∷ rest) all =
    let byte : b < 256 = All-head (λ c. c < 256) b rest all in
    All-cons IsDigit (slice_index lower_digits (b / 16)) (slice_index lower_digits (b % 16) ∷ encode_lower rest) (digit (b / 16) (omega arith))
    (All-cons IsDigit (slice_index lower_digits (b % 16)) (encode_lower rest) (digit (b % 16) (omega arith))
    (hex-digits rest (All-tail (λ c. c < 256) b rest all)))

-- the last three digits
abbrev pub digits_of : List ℕ → List ℕ
digits_of hash = take 3 (drop 29 (encode_lower hash))

pub digits-suffix : (hash : List ℕ) → IsDigest hash → is_suffix (digits_of hash) ≡ true
digits-suffix hash is =
    let count = is.0 in
    let whole : length (encode_lower hash) ≡ 32 = let l = length-encode_with lower_digits hash in omega (arith, l, count) in
    let left : length (drop 29 (encode_lower hash)) ≡ 3 = let l = length-drop 29 (encode_lower hash) in omega (arith, l, whole) in
    let three : length (digits_of hash) ≡ 3 = length-take-le 3 (drop 29 (encode_lower hash)) (omega (arith, left)) in
    and_from (length (digits_of hash) == 3) (list_all is_digit (digits_of hash)) (ap (λ (n : ℕ). n == 3) three)
    (all-pass is_digit (digits_of hash)
    (All-take IsDigit 3 (drop 29 (encode_lower hash)) (All-drop IsDigit 29 (encode_lower hash) (hex-digits hash is.1))))

no-slash : (d : ℕ) → IsDigit d → (d == 47) ≡ false
no-slash d is = elim (eqb_tells d 47) [
  | inl here ↦ let clash : is_digit 47 ≡ true = ap is_digit (sym here.1) ∙ is in cc
  | inr other ↦ other.0
]

digits-segment : (xs : List ℕ) → list_all is_digit xs ≡ true → first_segment xs ≡ xs
digits-segment [] all = refl
digits-segment (d ∷ xs) all =
    let parts = and_parts (is_digit d) (list_all is_digit xs) all in
    rw (no-slash d parts.0, digits-segment xs parts.1) refl

-- ---- folders

abbrev pub below_root : List ℕ → List ℕ
below_root name = codes "async_pending/" ++ name

-- a file at the place of a key stands in the folder of a suffix
pub in-suffix : (stood : Contents) (key : RecordKey) → IsKey key → IsSome (bytes_at stood key) → IsSuffixIn stood (digits_of key.hash)
in-suffix stood key is stands = record {
  digits = digits-suffix key.hash is.hash;
  stands = record {
    below = digits_of key.hash;
    file = name_text key;
    segment = sym (digits-segment (digits_of key.hash) (and_parts (length (digits_of key.hash) == 3) _ (digits-suffix key.hash is.hash)).1);
    stands = stands;
  };
}

pub folder-some : (name : List ℕ) → is_suffix name ≡ true → suffix_folder name ≡ Some (below_root name)
folder-some name is = cond-true (is_suffix name) (Some (below_root name)) None is

-- ---- order

cmp-front : (p xs ys : List ℕ) → slice_cmp nat_cmp (p ++ xs) (p ++ ys) ≡ slice_cmp nat_cmp xs ys
cmp-front [] xs ys = refl
cmp-front (c ∷ p) xs ys =
    ap (λ (o : Ordering). ordering_then o (slice_cmp nat_cmp (p ++ xs) (p ++ ys))) (tied_itself nat_cmp_total c) ∙ cmp-front p xs ys

pub below-root-cmp : (xs ys : List ℕ) → slice_cmp nat_cmp (below_root xs) (below_root ys) ≡ slice_cmp nat_cmp xs ys
below-root-cmp xs ys = cmp-front (codes "async_pending/") xs ys

pub list_same : (x y : List ℕ) → slice_cmp nat_cmp x y ≡ Equal → x ≡ y
list_same x y e = (bytes_eq-Decides x y).0 (sym (is_eq-slice_cmp x y) ∙ ap is_eq e)

list_tied : (x : List ℕ) → slice_cmp nat_cmp x x ≡ Equal
list_tied [] = refl
list_tied (b ∷ x) = ap (λ (o : Ordering). ordering_then o (slice_cmp nat_cmp x x)) (tied_itself nat_cmp_total b) ∙ list_tied x

module _ (key other : RecordKey) where
  abbrev folders_cmp : Ordering
  folders_cmp = slice_cmp nat_cmp (folder_text key.hash) (folder_text other.hash)

  abbrev names_cmp : Ordering
  names_cmp = slice_cmp nat_cmp (name_text key) (name_text other)

  pub less-by-folder : folders_cmp ≡ Less → key_cmp key other ≡ Less
  less-by-folder e = ap (λ (o : Ordering). ordering_then o names_cmp) e

  pub less-by-name : folder_text key.hash ≡ folder_text other.hash → names_cmp ≡ Less → key_cmp key other ≡ Less
  less-by-name same e =
      ap (λ (o : Ordering). ordering_then o names_cmp) (ap (λ (f : List ℕ). slice_cmp nat_cmp (folder_text key.hash) f) (sym same) ∙ list_tied
      (folder_text key.hash))
      ∙ e

  pub less-cases : key_cmp key other ≡ Less → (folders_cmp ≡ Less) ⊎ ((folder_text key.hash ≡ folder_text other.hash) × (names_cmp ≡ Less))
  less-cases = by folders_cmp refl
    where
      by : (o : Ordering) → folders_cmp ≡ o → ordering_then o names_cmp ≡ Less
          → (folders_cmp ≡ Less) ⊎ ((folder_text key.hash ≡ folder_text other.hash) × (names_cmp ≡ Less))
      by Less e less = inl e
      by Equal e less = inr (list_same (folder_text key.hash) (folder_text other.hash) e, less)
      by Greater e less = cc

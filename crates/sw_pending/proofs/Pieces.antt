-- Texts that are written piece by piece to the front of a list.
use Rattle.std.proofs.Common.{◌≡◌, ℕ, ◌+◌, ◌-◌, List, [], ◌∷◌, ◌++◌, length, take, drop, sym, ap, ◌∙◌, append_assoc, arith, length-append}
use Rattle.std.proofs.lemmas.List.{drop-drop, drop_at, take_at}
use Rattle.hex.specs.Hex.{encode_lower, lower_digits}
use Rattle.hex.proofs.HexLemmas.{length-encode_with}
use borrow.Rule.Slice.PartMut.{post_of, put_mid}

-- one piece more behind those that stand there
pub piece_more : (front piece old : List ℕ) (a k : ℕ) → length front ≡ a → put_mid a k (front ++ drop a old) piece ≡ (front ++ piece) ++ drop (a + k) old
piece_more front piece old a k count =
    let first : take a (front ++ drop a old) ≡ front = take_at front (drop a old) a count in
    let rest : post_of a k (front ++ drop a old) ≡ drop (a + k) old = ap (drop k) (drop_at front (drop a old) a count) ∙ drop-drop k a old in
    ap (λ (l : List ℕ). l ++ (piece ++ post_of a k (front ++ drop a old))) first
    ∙ ap (λ (l : List ℕ). front ++ (piece ++ l)) rest
    ∙ sym (append_assoc front piece (drop (a + k) old))

-- the digits of a hash, a dash and a time
pub name_pieces : (digits time old : List ℕ) (count : ℕ) → length digits ≡ 32 → length time ≡ count
    → put_mid 33 (33 + count - 33) (put_mid 32 1 (digits ++ post_of 0 32 old) (45 ∷ [])) time ≡ (digits ++ 45 ∷ time) ++ drop (33 + count) old
name_pieces digits time old count two_each is =
    let all : 33 + count - 33 ≡ count = omega arith in
    let long : length (digits ++ 45 ∷ []) ≡ 33 = let l = length-append digits (45 ∷ []) in omega (arith, l, two_each) in
    ap (λ (k : ℕ). put_mid 33 k (put_mid 32 1 (digits ++ post_of 0 32 old) (45 ∷ [])) time) all
    ∙ ap (λ (l : List ℕ). put_mid 33 count l time) (piece_more digits (45 ∷ []) old 32 1 two_each)
    ∙ piece_more (digits ++ 45 ∷ []) time old 33 count long
    ∙ ap (λ (l : List ℕ). l ++ drop (33 + count) old) (append_assoc digits (45 ∷ []) time)

pub hex_length : (hash : List ℕ) → length hash ≡ 16 → length (encode_lower hash) ≡ 32
hex_length hash is = let l = length-encode_with lower_digits hash in omega (arith, l, is)

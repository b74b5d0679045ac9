-- A text of hashes has one list of them.
use Rattle.std.proofs.Common.{◌≡◌, ℕ, ◌<◌, List, [], ◌∷◌, ◌++◌, append_assoc, length, take, drop, map, get_or, eqb, refl, sym, ◌∙◌, ap, true≢false, inl, inr}
use Rattle.std.proofs.Common.{arith}
use Rattle.std.proofs.lemmas.Bool.{cases_lt}
use Rattle.std.proofs.lemmas.List.{drop_at, get_or_past, take_at}
use Rattle.std.proofs.lemmas.List.Elements.{All-get_or, All-head, All-tail}
use Rattle.std.specs.List.{All, join_with_byte}
use Rattle.hex.proofs.HexLemmas.{decode_of-encode_lower, decode_of-same, length-encode_with}
use Rattle.hex.specs.Hex.{decode_of, encode_lower, lower_digits}
use Rattle.sw_hashpath.specs.HashParts.{IsDigest}
use Rattle.sw_suffix.specs.declared.told.SuffixHash.{SuffixHash}
use Rattle.sw_replica_server.specs.Laws.{HashesFromText, IsTold}
use Rattle.sw_replica_server.specs.ReplicaText.{hash_member}
use Rattle.sw_replica_server.specs.Suffixes.{suffix_digits}
use Rattle.sw_replica_server.proofs.Digits.{one-suffix, three}

-- ---- a member

bytes_all : (xs : List ℕ) → All (λ b. b < 256) xs → (i : ℕ) → get_or xs i 0 < 256
bytes_all xs are i =
    elim (cases_lt i (length xs)) [
      | inl inside ↦ All-get_or (λ b. b < 256) xs i 0 inside are
      | inr past ↦ rw (get_or_past xs i 0 past) (omega arith)
    ]

digests_differ : (a b : List ℕ) → IsDigest a → IsDigest b → encode_lower a ≡ encode_lower b → a ≡ b
digests_differ a b is_a is_b e =
    decode_of-same (encode_lower a) a b (decode_of-encode_lower a (bytes_all a is_a.1)) (ap decode_of e ∙ decode_of-encode_lower b (bytes_all b is_b.1))

two_digits_each : (digest : List ℕ) → IsDigest digest → length (encode_lower digest) ≡ 32
two_digits_each digest is = let e = length-encode_with lower_digits digest in let l = is.0 in omega (arith, e, l)

-- two parts of one length are one, and so is what stands behind them
split : (n : ℕ) (a b r s : List ℕ) → length a ≡ n → length b ≡ n → a ++ r ≡ b ++ s → (a ≡ b) × (r ≡ s)
split n a b r s la lb e =
    (sym (take_at a r n la) ∙ ap (λ l. take n l) e ∙ take_at b s n lb, sym (drop_at a r n la) ∙ ap (λ l. drop n l) e ∙ drop_at b s n lb)

spread : (d e r : List ℕ) → ((34 ∷ d ++ 34 ∷ []) ++ 58 ∷ (34 ∷ e ++ 34 ∷ [])) ++ r ≡ 34 ∷ (d ++ 34 ∷ 58 ∷ 34 ∷ (e ++ 34 ∷ r))
spread d e r =
    ap (λ (l : List ℕ). 34 ∷ l) (append_assoc (d ++ 34 ∷ []) (58 ∷ 34 ∷ (e ++ 34 ∷ [])) r
    ∙ (append_assoc d (34 ∷ []) (58 ∷ 34 ∷ ((e ++ 34 ∷ []) ++ r)) ∙ ap (λ (l : List ℕ). d ++ 34 ∷ 58 ∷ 34 ∷ l) (append_assoc e (34 ∷ []) r)))

one-hash : (s t : ℕ) (a b : List ℕ) → s ≡ t → a ≡ b → let x : SuffixHash = record { suffix = s; md5 = a } in let y : SuffixHash =
    record { suffix = t; md5 = b } in x ≡ y
one-hash s t a b suffixes digests = rw (suffixes, digests) refl

-- one text has one first member, and one rest
first : (x y : SuffixHash) (r s : List ℕ) → IsTold x → IsTold y → hash_member x ++ r ≡ hash_member y ++ s → (x ≡ y) × (r ≡ s)
first x y r s is is' same =
    let whole = sym (spread (suffix_digits x.suffix) (encode_lower x.md5) r) ∙ (same ∙ spread (suffix_digits y.suffix) (encode_lower y.md5) s) in
    let at_suffix = split 3 (suffix_digits x.suffix) (suffix_digits y.suffix) (34 ∷ 58 ∷ 34 ∷ (encode_lower x.md5 ++ 34 ∷ r))
    (34 ∷ 58 ∷ 34 ∷ (encode_lower y.md5 ++ 34 ∷ s)) (three x.suffix) (three y.suffix) (ap (λ l. drop 1 l) whole) in
    let at_md5 = split 32 (encode_lower x.md5) (encode_lower y.md5) (34 ∷ r) (34 ∷ s) (two_digits_each x.md5 is.1) (two_digits_each y.md5 is'.1)
    (ap (λ l. drop 3 l) at_suffix.1) in
    let suffixes : y.suffix ≡ x.suffix =
    one-suffix (suffix_digits x.suffix) x.suffix y.suffix (record { below = is.0; digits = refl }) (record { below = is'.0; digits = at_suffix.0 }) in
    (one-hash x.suffix y.suffix x.md5 y.md5 (sym suffixes) (digests_differ x.md5 y.md5 is.1 is'.1 at_md5.0), ap (λ l. drop 1 l) at_md5.1)

-- ---- all members

-- what stands behind a member: the brace at the end, or a comma and the others
abbrev behind : List (List ℕ) → List ℕ
behind [] = 125 ∷ []
behind (m ∷ ms) = 44 ∷ (join_with_byte 44 (m ∷ ms) ++ 125 ∷ [])

front : (m : List ℕ) (ms : List (List ℕ)) → join_with_byte 44 (m ∷ ms) ++ 125 ∷ [] ≡ m ++ behind ms
front m [] = refl
front m (n ∷ ms) = append_assoc m (44 ∷ join_with_byte 44 (n ∷ ms)) (125 ∷ [])

begins : (x : SuffixHash) (r : List ℕ) → 125 ∷ [] ≡ hash_member x ++ r → ⊥
begins x r same =
    let whole = same ∙ spread (suffix_digits x.suffix) (encode_lower x.md5) r in
    true≢false (ap (λ l. eqb (get_or l 0 0) 125) whole)

-- what stands behind two members is the same only where the others are
others-same : (ms ns : List (List ℕ)) → behind ms ≡ behind ns → join_with_byte 44 ms ++ 125 ∷ [] ≡ join_with_byte 44 ns ++ 125 ∷ []
others-same [] [] same = refl
others-same [] (n ∷ ns) same = absurd (true≢false (ap (λ l. eqb (get_or l 0 0) 125) same))
others-same (m ∷ ms) [] same = absurd (true≢false (ap (λ l. eqb (get_or l 0 0) 44) same))
others-same (m ∷ ms) (n ∷ ns) same = ap (λ l. drop 1 l) same

one-list : (hashes others : List SuffixHash) → All IsTold hashes → All IsTold others
    → join_with_byte 44 (map hash_member hashes) ++ 125 ∷ [] ≡ join_with_byte 44 (map hash_member others) ++ 125 ∷ [] → hashes ≡ others
one-list [] [] are are' same = refl
one-list [] (y ∷ ys) are are' same = absurd (begins y (behind (map hash_member ys)) (same ∙ front (hash_member y) (map hash_member ys)))
one-list (x ∷ xs) [] are are' same = absurd (begins x (behind (map hash_member xs)) (sym same ∙ front (hash_member x) (map hash_member xs)))
one-list (x ∷ xs) (y ∷ ys) are are' same =
    let heads = first x y (behind (map hash_member xs)) (behind (map hash_member ys)) (All-head IsTold x xs are) (All-head IsTold y ys are')
    (sym (front (hash_member x) (map hash_member xs)) ∙ (same ∙ front (hash_member y) (map hash_member ys))) in
    let rest = one-list xs ys (All-tail IsTold x xs are) (All-tail IsTold y ys are') (others-same (map hash_member xs) (map hash_member ys) heads.1) in
    ap (λ (h : SuffixHash). h ∷ xs) heads.0 ∙ ap (λ (l : List SuffixHash). y ∷ l) rest

pub hashes_from_text : HashesFromText
hashes_from_text hashes others are are' same = one-list hashes others are are' (ap (λ l. drop 1 l) same)

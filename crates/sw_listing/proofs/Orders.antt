-- Names in byte order, and what they begin with.
use Rattle.std.proofs.Common.{◌≡◌, ℕ, ◌+◌, ◌/◌, ◌%◌, ◌<◌, Bool, true, false, cond, ◌&&◌, inl, inr, List, [], ◌∷◌, ◌++◌, refl, sym, ◌∙◌, ap, arith}
use Rattle.std.proofs.Common.{subst}
use Rattle.std.specs.Cmp.Lexicographic.{slice_cmp}
use Rattle.std.specs.Ordering.{is_le, nat_cmp, ordering_reverse, ordering_then}
use Rattle.std.specs.Prelude.{nat_lt}
use Rattle.std.specs.Str.{IsUtf8}
use Rattle.std.specs.declared.cmp.Ordering.{Ordering}
use Rattle.std.specs.declared.cmp.Ordering.TheVariants.{Less, Equal, Greater}
use Rattle.std.proofs.lemmas.Bool.{lt-ltb, ltb-true}
use Rattle.std.proofs.lemmas.Cmp.{alike_right, nat_cmp_total, nat_list_cmp_total, tied_itself}
use Rattle.std.proofs.lemmas.Map.Lookups.{exact_unsigned}
use lib.Utf8.{encode, encodes, scalar, scalars, scalar_cases}

-- a name begins with a text
abbrev pub Begins : List ℕ → List ℕ → Type 0
Begins name text = (rest : List ℕ) × (name ≡ text ++ rest)

-- a name isn't below what it begins with
pub le-begins : (text rest : List ℕ) → is_le (slice_cmp nat_cmp text (text ++ rest)) ≡ true
le-begins [] [] = refl
le-begins [] (x ∷ xs) = refl
le-begins (a ∷ text) rest = rw (tied_itself nat_cmp_total a) (le-begins text rest)

-- between a text and a name that begins with it, names begin with it
pub between-begins : (text name rest : List ℕ) → is_le (slice_cmp nat_cmp text name) ≡ true → slice_cmp nat_cmp name (text ++ rest) ≡ Less → Begins name text
between-begins [] name rest low high = (name, refl)
between-begins (a ∷ text) [] rest low high = cc
between-begins (a ∷ text) (b ∷ name) rest low high = at (nat_cmp a b) refl low high (λ l h. between-begins text name rest l h)
  where
    at : (o : Ordering) → nat_cmp a b ≡ o → is_le (ordering_then o (slice_cmp nat_cmp text name)) ≡ true →
        ordering_then (nat_cmp b a) (slice_cmp nat_cmp name (text ++ rest)) ≡ Less →
        (is_le (slice_cmp nat_cmp text name) ≡ true → slice_cmp nat_cmp name (text ++ rest) ≡ Less → Begins name text) → Begins (b ∷ name) (a ∷ text)
    at Less is low high further =
        let back : nat_cmp b a ≡ Greater = nat_cmp_total.antisymm b a ∙ ap ordering_reverse is in
        let wrong : Greater ≡ Less = sym (ap (λ (o : Ordering). ordering_then o (slice_cmp nat_cmp name (text ++ rest))) back) ∙ high in
        cc
    at Equal is low high further =
        let same : a ≡ b = exact_unsigned a b is in
        let back : nat_cmp b a ≡ Equal = nat_cmp_total.antisymm b a ∙ ap ordering_reverse is in
        let less : slice_cmp nat_cmp name (text ++ rest) ≡ Less =
        sym (ap (λ (o : Ordering). ordering_then o (slice_cmp nat_cmp name (text ++ rest))) back) ∙ high in
        let begins = further low less in
        (begins.0, ap (λ (l : List ℕ). b ∷ l) begins.1 ∙ ap (λ (x : ℕ). x ∷ (text ++ begins.0)) (sym same))
    at Greater is low high further = cc

-- each byte is below 255
abbrev pub IsLow : List ℕ → Type 0
IsLow [] = Unit {0}
IsLow (b ∷ bs) = (b < 255) × IsLow bs

low-append : (bs ds : List ℕ) → IsLow bs → IsLow ds → IsLow (bs ++ ds)
low-append [] ds low more = more
low-append (b ∷ bs) ds low more = (low.0, low-append bs ds low.1 more)

low-rest : (bs ds : List ℕ) → IsLow (bs ++ ds) → IsLow ds
low-rest [] ds low = low
low-rest (b ∷ bs) ds low = low-rest bs ds low.1

low-encode : (c : ℕ) → c < 1114112 → IsLow (encode c)
unfolding encode
low-encode c below = at (nat_lt c 128) (nat_lt c 2048) (nat_lt c 65536) refl refl refl
  where
    at : (x y z : Bool) → nat_lt c 128 ≡ x → nat_lt c 2048 ≡ y → nat_lt c 65536 ≡ z → IsLow (cond x (c ∷ []) (cond y ((192 + c / 64) ∷ (128 + c % 64) ∷ [])
        (cond z ((224 + c / 4096) ∷ (128 + (c / 64) % 64) ∷ (128 + c % 64) ∷ [])
        ((240 + c / 262144) ∷ (128 + (c / 4096) % 64) ∷ (128 + (c / 64) % 64) ∷ (128 + c % 64) ∷ []))))
    at true y z a b d = let less : c < 128 = ltb-true c 128 a in (omega arith, tt)
    at false true z a b d = let less : c < 2048 = ltb-true c 2048 b in (omega arith, (omega arith, tt))
    at false false true a b d = let less : c < 65536 = ltb-true c 65536 d in (omega arith, (omega arith, (omega arith, tt)))
    at false false false a b d = (omega arith, (omega arith, (omega arith, (omega arith, tt))))

low-encodes : (cs : List ℕ) → scalars cs ≡ true → IsLow (encodes cs)
low-encodes [] are = tt
low-encodes (c ∷ cs) are = at (scalar c) refl are (λ h. low-encodes cs h)
  where
    small : scalar c ≡ true → c < 1114112
    small is = elim (scalar_cases c is) [ inl below ↦ omega arith | inr above ↦ above.1 ]

    at : (b : Bool) → scalar c ≡ b → (b && scalars cs) ≡ true → (scalars cs ≡ true → IsLow (encodes cs)) → IsLow (encode c ++ encodes cs)
    at true is all rest = low-append (encode c) (encodes cs) (low-encode c (small is)) (rest all)
    at false is all rest = cc

-- no byte of a text is 255
pub low-text : (bs : List ℕ) → IsUtf8 bs → IsLow bs
low-text bs text = subst IsLow text.1.1 (low-encodes text.0 text.1.0)

less_of : (a b : ℕ) → a < b → nat_cmp a b ≡ Less
less_of a b below = rw (lt-ltb a b below) refl

low-below : (text rest : List ℕ) → IsLow rest → slice_cmp nat_cmp (text ++ rest) (text ++ 255 ∷ []) ≡ Less
low-below [] [] low = refl
low-below [] (b ∷ bs) low = rw (less_of b 255 low.0) refl
low-below (a ∷ text) rest low = rw (tied_itself nat_cmp_total a) (low-below text rest low)

-- a name that begins with a text is below the text with the byte 255 behind
pub begins-below : (text name : List ℕ) → IsLow name → Begins name text → slice_cmp nat_cmp name (text ++ 255 ∷ []) ≡ Less
begins-below text name low begins =
    let rest : IsLow begins.0 = low-rest text begins.0 (subst IsLow begins.1 low) in
    ap (λ (x : List ℕ). slice_cmp nat_cmp x (text ++ 255 ∷ [])) begins.1 ∙ low-below text begins.0 rest

-- ---- at or above, and below

flipped_le : (o : Ordering) → is_le o ≡ true → (o ≡ Greater → ⊥)
flipped_le Less is = λ e. cc
flipped_le Equal is = λ e. cc
flipped_le Greater is = λ e. cc

pub le-lt : (a b c : List ℕ) → is_le (slice_cmp nat_cmp a b) ≡ true → slice_cmp nat_cmp b c ≡ Less → slice_cmp nat_cmp a c ≡ Less
le-lt a b c le lt = at (slice_cmp nat_cmp a b) refl le
  where
    at : (o : Ordering) → slice_cmp nat_cmp a b ≡ o → is_le o ≡ true → slice_cmp nat_cmp a c ≡ Less
    at Less is h = nat_list_cmp_total.trans a b c is lt
    at Equal is h = nat_list_cmp_total.congr a b c is ∙ lt
    at Greater is h = cc

-- of two texts, the one is below the other, or the other is at or below it
pub less_or : (a b : List ℕ) → (slice_cmp nat_cmp a b ≡ Less → ⊥) → is_le (slice_cmp nat_cmp b a) ≡ true
less_or a b apart = at (slice_cmp nat_cmp a b) refl apart
  where
    at : (o : Ordering) → slice_cmp nat_cmp a b ≡ o → (o ≡ Less → ⊥) → is_le (slice_cmp nat_cmp b a) ≡ true
    at Less is h = absurd (h refl)
    at Equal is h = ap is_le (nat_list_cmp_total.antisymm b a ∙ ap ordering_reverse is)
    at Greater is h = ap is_le (nat_list_cmp_total.antisymm b a ∙ ap ordering_reverse is)

pub less-le : (a b : List ℕ) → slice_cmp nat_cmp a b ≡ Less → is_le (slice_cmp nat_cmp a b) ≡ true
less-le a b less = ap is_le less

pub lt-le : (a b c : List ℕ) → slice_cmp nat_cmp a b ≡ Less → is_le (slice_cmp nat_cmp b c) ≡ true → slice_cmp nat_cmp a c ≡ Less
lt-le a b c lt le = at (slice_cmp nat_cmp b c) refl le
  where
    at : (o : Ordering) → slice_cmp nat_cmp b c ≡ o → is_le o ≡ true → slice_cmp nat_cmp a c ≡ Less
    at Less is h = nat_list_cmp_total.trans a b c lt is
    at Equal is h = sym (alike_right nat_list_cmp_total b c a is) ∙ lt
    at Greater is h = cc

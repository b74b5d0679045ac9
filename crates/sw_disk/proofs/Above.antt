-- The folder above, byte by byte.
use Rattle.std.proofs.Common.{false, zero, suc, ◌⊎◌, ◌-◌, ◌≤◌, drop, subst, ◌≡◌, ◌≢◌, ℕ, ◌<◌, true, List, [], ◌∷◌, ◌++◌, length, take, get_or, ◌+◌, refl, inl}
use Rattle.std.proofs.Common.{inr, arith}
use Rattle.std.proofs.lemmas.Bool.{cases_Bool}
use Rattle.std.proofs.lemmas.Bool.Decides.{nat_tests}
use Rattle.std.proofs.lemmas.List.{take_more}
use Rattle.sw_disk.specs.Paths.{above, has_slash, last_name}

has_slash-push : (xs : List ℕ) (b : ℕ) → b ≢ 47 → has_slash (xs ++ b ∷ []) ≡ has_slash xs
has_slash-push [] b ne = grind (arith, nat_tests)
has_slash-push (x ∷ xs) b ne = rw (has_slash-push xs b ne)

has_slash-slash : (xs : List ℕ) → has_slash (xs ++ 47 ∷ []) ≡ true
has_slash-slash [] = refl
has_slash-slash (x ∷ xs) = let h = has_slash-slash xs in grind (arith, nat_tests)

-- another byte at the end of a path changes nothing of what is before the last slash
pub above-push : (xs : List ℕ) (b : ℕ) → b ≢ 47 → above (xs ++ b ∷ []) ≡ above xs
above-push [] b ne = refl
above-push (x ∷ xs) b ne = rw (has_slash-push xs b ne, above-push xs b ne)

pub above-slash : (xs : List ℕ) → above (xs ++ 47 ∷ []) ≡ xs
above-slash [] = refl
above-slash (x ∷ xs) = rw (has_slash-slash xs, above-slash xs)

pub length-above : (b : ℕ) (bs : List ℕ) → length (above (b ∷ bs)) < length (b ∷ bs)
length-above b [] = omega arith
length-above b (c ∷ bs) = let h = length-above c bs in elim (cases_Bool (has_slash (c ∷ bs))) [
  | inl slash ↦ rw slash (omega arith)
  | inr none ↦ rw none (omega arith)
]

pub above-take_slash : (s : List ℕ) (i : ℕ) → i < length s → get_or s i 0 ≡ 47 → above (take (i + 1) s) ≡ take i s
above-take_slash s i h e = rw (take_more s i 0 h, e) (above-slash (take i s))

pub above-take_other : (s : List ℕ) (i : ℕ) → i < length s → get_or s i 0 ≢ 47 → above (take (i + 1) s) ≡ above (take i s)
above-take_other s i h ne = rw (take_more s i 0 h) (above-push (take i s) (get_or s i 0) ne)

no_slash : (s : List ℕ) → ((k : ℕ) → k < length s → get_or s k 0 ≢ 47) → has_slash s ≡ false
no_slash [] none = refl
no_slash (b ∷ bs) none =
    let first : b ≢ 47 = none 0 (omega arith) in
    let rest : has_slash bs ≡ false = no_slash bs (λ k h. none (suc k) (omega arith)) in
    grind (arith, nat_tests)

a_slash : (s : List ℕ) (i : ℕ) → i < length s → get_or s i 0 ≡ 47 → has_slash s ≡ true
a_slash [] i lt e = absurd (omega (arith, lt))
a_slash (b ∷ bs) zero lt e = grind (arith, nat_tests)
a_slash (b ∷ bs) (suc i) lt e = let rest : has_slash bs ≡ true = a_slash bs i (omega (arith, lt)) e in grind (arith, nat_tests)

-- what is behind the last slash
pub last_name-drop : (s : List ℕ) (n : ℕ) → n ≤ length s → ((k : ℕ) → n ≤ k → k < length s → get_or s k 0 ≢ 47) → (n ≡ 0) ⊎ (get_or s (n - 1) 0 ≡ 47)
    → drop n s ≡ last_name s
last_name-drop [] zero le none from = refl
last_name-drop [] (suc n) le none from = absurd (omega (arith, le))
last_name-drop (b ∷ bs) zero le none from =
    let first : b ≢ 47 = none 0 (omega arith) (omega arith) in
    let rest : has_slash bs ≡ false = no_slash bs (λ k h. none (suc k) (omega arith) (omega arith)) in
    grind (arith, nat_tests)
last_name-drop (b ∷ bs) (suc zero) le none from =
    let rest : has_slash bs ≡ false = no_slash bs (λ k h. none (suc k) (omega arith) (omega arith)) in
    let here : b ≡ 47 = behind from in
    grind (arith, nat_tests)
  where
    behind : (suc zero ≡ 0) ⊎ (get_or (b ∷ bs) (suc zero - 1) 0 ≡ 47) → b ≡ 47
    behind (inl e) = absurd (omega (arith, e))
    behind (inr e) = e
last_name-drop (b ∷ bs) (suc (suc n)) le none from =
    let slash : get_or bs n 0 ≡ 47 = behind from in
    let rest : has_slash bs ≡ true = a_slash bs n (omega (arith, le)) slash in
    let more : drop (suc n) bs ≡ last_name bs = last_name-drop bs (suc n) (omega (arith, le)) (λ k h g. none (suc k) (omega arith) (omega arith))
    (inr (before slash)) in
    grind (arith, nat_tests)
  where
    behind : (suc (suc n) ≡ 0) ⊎ (get_or (b ∷ bs) (suc (suc n) - 1) 0 ≡ 47) → get_or bs n 0 ≡ 47
    behind (inl e) = absurd (omega (arith, e))
    behind (inr e) = subst (λ (k : ℕ). get_or (b ∷ bs) k 0 ≡ 47) (let i : suc (suc n) - 1 ≡ suc n = omega arith in i) e

    before : get_or bs n 0 ≡ 47 → get_or bs (suc n - 1) 0 ≡ 47
    before e = subst (λ (k : ℕ). get_or bs k 0 ≡ 47) (let i : n ≡ suc n - 1 = omega arith in i) e

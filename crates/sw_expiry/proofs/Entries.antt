-- An entry is that of one time and one path.
use Rattle.std.proofs.Common.{◌≡◌, ℕ, ◌≤◌, false, List, [], ◌∷◌, ◌++◌, length, refl, sym, ◌∙◌, arith, append_assoc}
use Rattle.sw_hashpath.specs.BadNames.{has_slash}
use Rattle.sw_expiry.specs.Queue.{queue_entry}
use Rattle.sw_expiry.specs.TenDigits.{ten_digits}
use Rattle.sw_expiry.proofs.Slashes.{cut-once}
use Rattle.sw_expiry.proofs.TenDigits.{length-ten_digits, ten_digits-injective}

-- the time first, and then each name behind its byte
pub entry-parts : (t : ℕ) (a c o : List ℕ) → queue_entry t a c o ≡ ten_digits t ++ 45 ∷ (a ++ 47 ∷ (c ++ 47 ∷ o))
unfolding queue_entry
entry-parts t a c o = simp append_assoc

-- texts of one length begin one text only where they are one
pub same-front : (xs ys r s : List ℕ) → length xs ≡ length ys → xs ++ r ≡ ys ++ s → (xs ≡ ys) × (r ≡ s)
same-front [] [] r s lengths same = (refl, same)
same-front [] (y ∷ ys) r s lengths same = absurd (omega arith)
same-front (x ∷ xs) [] r s lengths same = absurd (omega arith)
same-front (x ∷ xs) (y ∷ ys) r s lengths same =
    let rest = same-front xs ys r s (omega arith) cc in
    let first : x ≡ y = cc in
    (cc, rest.1)

pub same-time : (t u : ℕ) (r s : List ℕ) → t ≤ 9999999999 → u ≤ 9999999999 → ten_digits t ++ r ≡ ten_digits u ++ s → (t ≡ u) × (r ≡ s)
same-time t u r s small_t small_u same =
    let parts = same-front (ten_digits t) (ten_digits u) r s (length-ten_digits t small_t ∙ sym (length-ten_digits u small_u)) same in
    (ten_digits-injective t u small_t small_u parts.0, parts.1)

pub same-entry : (t u : ℕ) (a b c d o p : List ℕ) → t ≤ 9999999999 → u ≤ 9999999999 → has_slash a ≡ false → has_slash b ≡ false → has_slash c ≡ false →
    has_slash d ≡ false → queue_entry t a c o ≡ queue_entry u b d p → (t ≡ u) × (a ≡ b) × (c ≡ d) × (o ≡ p)
same-entry t u a b c d o p small_t small_u none_a none_b none_c none_d same =
    let time = same-time t u (45 ∷ (a ++ 47 ∷ (c ++ 47 ∷ o))) (45 ∷ (b ++ 47 ∷ (d ++ 47 ∷ p))) small_t small_u
    (sym (entry-parts t a c o) ∙ same ∙ entry-parts u b d p) in
    let path : a ++ 47 ∷ (c ++ 47 ∷ o) ≡ b ++ 47 ∷ (d ++ 47 ∷ p) = cc time.1 in
    let account = cut-once a b (c ++ 47 ∷ o) (d ++ 47 ∷ p) none_a none_b path in
    let container = cut-once c d o p none_c none_d account.1 in
    (time.0, account.0, container.0, container.1)

-- what follows the time and the dash is the path
pub same-path : (t u : ℕ) (path b d p : List ℕ) → t ≤ 9999999999 → u ≤ 9999999999 → ten_digits t ++ 45 ∷ path ≡ queue_entry u b d p →
    path ≡ b ++ 47 ∷ (d ++ 47 ∷ p)
same-path t u path b d p small_t small_u same =
    let time = same-time t u (45 ∷ path) (45 ∷ (b ++ 47 ∷ (d ++ 47 ∷ p))) small_t small_u (same ∙ entry-parts u b d p) in
    cc time.1

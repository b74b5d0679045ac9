-- What is wrong with the names of a shard one of which is too long.
use Rattle.std.proofs.Common.{◌≡◌, ℕ, ◌+◌, ◌/◌, ◌%◌, ◌==◌, ◌<◌, ◌^◌, zero, suc, Bool, true, false, cond, ◌||◌, ◌⊎◌, inl, inr, List, [], ◌∷◌, ◌++◌, length}
use Rattle.std.proofs.Common.{drop, slice_index, Option, None, Some, Result, Err, ◌↔◌, refl, sym, ◌∙◌, ap, arith}
use Rattle.std.specs.Fmt.{decimal}
use Rattle.std.proofs.lemmas.Bool.{lt-ltb, ne_eqb}
use Rattle.std.proofs.lemmas.Fmt.{decimal_by_steps}
use Rattle.std.proofs.lemmas.List.{length-append}
use Rattle.std.proofs.lemmas.List.Folds.{list_any-append}
use Rattle.hex.specs.Hex.{encode_lower, encode_with, lower_digits}
use Rattle.md5.specs.Md5.{md5}
use Rattle.sw_hashpath.specs.BadNames.{bad_name, has_slash, is_empty, is_over}
use Rattle.sw_hashpath.specs.declared.bad_name.BadName.{BadName}
use Rattle.sw_hashpath.specs.declared.bad_name.BadName.TheVariants.{Slash, TooLong}
use Rattle.sw_hashpath.specs.declared.name_error.NameError.{NameError}
use Rattle.sw_hashpath.specs.declared.place.Place.{Place}
use Rattle.sw_timestamp.specs.TimeText.{last_digits, normal_text}
use Rattle.sw_timestamp.proofs.NormalText.{last_digits-suc, last_digits-zero}
use Rattle.sw_shard_range.specs.ShardNames.{shard_account, shard_container}

-- ---- no slash stands in digits

both-none : (xs ys : List ℕ) → has_slash xs ≡ false → has_slash ys ≡ false → has_slash (xs ++ ys) ≡ false
both-none xs ys none_x none_y = list_any-append (λ b. b == 47) xs ys ∙ rw (none_x, none_y) refl

cons-none : (x : ℕ) (xs : List ℕ) → (x == 47) ≡ false → has_slash xs ≡ false → has_slash (x ∷ xs) ≡ false
cons-none x xs none rest = rw (none, rest) refl

digit-none : (d : ℕ) → (48 + d == 47) ≡ false
digit-none d = ne_eqb (48 + d) 47 (λ e. omega arith)

decimal-none : (n : ℕ) → n < 2 ^ 64 → has_slash (decimal n) ≡ false
decimal-none n small = decimal_by_steps (λ n ds. has_slash ds ≡ false) (λ n less. cons-none (48 + n) [] (digit-none n) refl)
    (λ n ds more none. both-none ds ((48 + n % 10) ∷ []) none (cons-none (48 + n % 10) [] (digit-none (n % 10)) refl)) n small

last_digits-none : (count n : ℕ) → has_slash (last_digits count n) ≡ false
last_digits-none zero n = rw (last_digits-zero n) refl
last_digits-none (suc count) n = rw (last_digits-suc count n)
    (both-none (last_digits count (n / 10)) ((48 + n % 10) ∷ []) (last_digits-none count (n / 10)) (cons-none (48 + n % 10) [] (digit-none (n % 10)) refl))

-- what is read of a table without a slash is none
table-none : (t : List ℕ) (k : ℕ) → has_slash t ≡ false → (slice_index t k == 47) ≡ false
table-none [] k none = refl
table-none (x ∷ xs) k none = at (x == 47) refl none k (λ j h. table-none xs j h)
  where
    at : (b : Bool) → (x == 47) ≡ b → (b || has_slash xs) ≡ false → (k : ℕ) → ((j : ℕ) → has_slash xs ≡ false → (slice_index xs j == 47) ≡ false)
        → (slice_index (x ∷ xs) k == 47) ≡ false
    at true is none k rest = cc
    at false is none zero rest = is
    at false is none (suc k) rest = rest k none

encode-none : (t xs : List ℕ) → has_slash t ≡ false → has_slash (encode_with t xs) ≡ false
unfolding encode_with
encode-none t [] none = refl
encode-none t (b ∷ bs) none =
    cons-none (slice_index t (b / 16)) (slice_index t (b % 16) ∷ encode_with t bs) (table-none t (b / 16) none)
    (cons-none (slice_index t (b % 16)) (encode_with t bs) (table-none t (b % 16) none) (encode-none t bs none))

normal-none : (time : ℕ) → has_slash (normal_text time) ≡ false
normal-none time =
    both-none (last_digits 10 (time / 100000)) (46 ∷ last_digits 5 (time % 100000)) (last_digits-none 10 (time / 100000))
    (cons-none 46 (last_digits 5 (time % 100000)) refl (last_digits-none 5 (time % 100000)))

or-false : (b : Bool) → (b || false) ≡ b
or-false true = refl
or-false false = refl

-- a slash stands in a text, or in none of it and what is behind
behind-none : (xs ys : List ℕ) → has_slash ys ≡ false → has_slash (xs ++ ys) ≡ has_slash xs
behind-none xs ys none = list_any-append (λ b. b == 47) xs ys ∙ rw none (or-false (has_slash xs))

container-slash : (container : List ℕ) (time index : ℕ) → index < 2 ^ 64 → has_slash (shard_container container time index) ≡ has_slash container
unfolding shard_container
container-slash container time index small =
    let digest : List ℕ = 45 ∷ encode_lower (md5 container) in
    let moment : List ℕ = 45 ∷ normal_text time in
    behind-none (container ++ digest ++ moment) (45 ∷ decimal index) (cons-none 45 (decimal index) refl (decimal-none index small))
    ∙ behind-none (container ++ digest) moment (cons-none 45 (normal_text time) refl (normal-none time))
    ∙ behind-none container digest (cons-none 45 (encode_lower (md5 container)) refl (encode-none lower_digits (md5 container) refl))

-- ---- too long

long-names : (a c : List ℕ) → is_empty a ≡ false → is_empty c ≡ false → (is_over 256 a || is_over 256 c) ≡ true →
    bad_name a (Some c) None ≡ Some (cond (has_slash a || has_slash c) Slash TooLong)
unfolding bad_name
long-names a c some_a some_c over = rw (some_a, some_c) (at (has_slash a) (has_slash c) (is_over 256 a) (is_over 256 c) _ over)
  where
    at : (x y u v : Bool) (other : Option BadName) → (u || v) ≡ true →
        cond (x || (y || false)) (Some Slash) (cond ((u || (v || false)) || false) (Some TooLong) other) ≡ Some (cond (x || y) Slash TooLong)
    at true y u v other over = refl
    at false true u v other over = refl
    at false false true v other over = refl
    at false false false true other over = refl
    at false false false false other over = cc

some-end : (xs ys : List ℕ) (y : ℕ) → is_empty (xs ++ y ∷ ys) ≡ false
some-end xs ys y = ne_eqb (length (xs ++ y ∷ ys)) 0 (λ e. omega (arith, length-append xs (y ∷ ys), e))

some-container : (container : List ℕ) (time index : ℕ) → is_empty (shard_container container time index) ≡ false
unfolding shard_container
some-container container time index = some-end (container ++ 45 ∷ encode_lower (md5 container) ++ 45 ∷ normal_text time) (decimal index) 45

over-one : (a c : List ℕ) → (256 < length a) ⊎ (256 < length c) → (is_over 256 a || is_over 256 c) ≡ true
over-one a c (inl long) = rw (lt-ltb 256 (length a) long) refl
over-one a c (inr long) = rw (lt-ltb 256 (length c) long) (at (is_over 256 a))
  where
    at : (b : Bool) → (b || true) ≡ true
    at true = refl
    at false = refl

-- names one of which is too long have a slash before that where one stands in what they are made of
pub long-fault : (account container : List ℕ) (time index : ℕ) → index < 2 ^ 64 →
    (256 < length (shard_account account)) ⊎ (256 < length (shard_container container time index)) →
    bad_name (shard_account account) (Some (shard_container container time index)) None ≡ Some (cond (has_slash account || has_slash container) Slash TooLong)
long-fault account container time index small long =
    long-names (shard_account account) (shard_container container time index) (some-end [] (drop 1 (shard_account account)) 46)
    (some-container container time index) (over-one (shard_account account) (shard_container container time index) long)
    ∙ ap (λ (b : Bool). Some (cond (has_slash account || b) Slash TooLong)) (container-slash container time index small)

-- so an error that tells this fault tells what is wrong, and nothing else does
pub long-told : (account container : List ℕ) (time index : ℕ) (fault : BadName) → index < 2 ^ 64 →
    (256 < length (shard_account account)) ⊎ (256 < length (shard_container container time index)) →
    fault ≡ cond (has_slash account || has_slash container) Slash TooLong → (bad : BadName) →
    ◌≡◌ {A = Result Place NameError} (Err (NameError.Bad fault)) (Err (NameError.Bad bad))
    ↔ (bad_name (shard_account account) (Some (shard_container container time index)) None ≡ Some bad)
long-told account container time index fault small long is bad =
    let found = long-fault account container time index small long ∙ ap Some (sym is) in
    told (bad_name (shard_account account) (Some (shard_container container time index)) None) found
  where
    told : (b : Option BadName) → b ≡ Some fault → ◌≡◌ {A = Result Place NameError} (Err (NameError.Bad fault)) (Err (NameError.Bad bad)) ↔ (b ≡ Some bad)
    told b found = (λ e. cc, λ e. cc)

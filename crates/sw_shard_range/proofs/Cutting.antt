-- Bounds among the names that are left.
use Rattle.std.proofs.Common.{◌≡◌, ℕ, ◌+◌, ◌==◌, ◌≤◌, ◌&&◌, Bool, true, false, cond, List, [], ◌∷◌, ◌++◌, length, take}
use Rattle.std.proofs.Common.{Option, None, Some, Bor, refl, sym, ◌∙◌, ap, arith}
use Rattle.std.specs.Option.{MatchOption, option_copied}
use Rattle.std.proofs.lemmas.List.{append-nil, take-append-le, take_all}
use Rattle.sw_rows.specs.declared.row.Row.{Row}
use Rattle.sw_shard_range.specs.Bounds.{every, names_left}

-- the names that are left, where the next row was taken
abbrev pub waiting : Option Row → List Row → List (List ℕ)
waiting None left = []
waiting (Some row) left = row.name ∷ names_left left

abbrev pub is_any : List (List ℕ) → Bool
is_any [] = false
is_any (n ∷ ns) = true

-- a name is a bound where it is the last of so many, and another one is left
pub every-step : (per_shard come : ℕ) (name : List ℕ) (names : List (List ℕ)) →
    every per_shard come (name ∷ names)
    ≡ cond ((come + 1 == per_shard) && is_any names) (name ∷ every per_shard 0 names) (every per_shard (come + 1) names)
every-step per_shard come name [] = at (come + 1 == per_shard)
  where
    at : (b : Bool) → [] ≡ cond (b && false) (name ∷ []) []
    at true = refl
    at false = refl
every-step per_shard come name (m ∷ ms) = at (come + 1 == per_shard)
  where
    at : (b : Bool) → cond b (name ∷ every per_shard 0 (m ∷ ms)) (every per_shard (come + 1) (m ∷ ms))
        ≡ cond (b && true) (name ∷ every per_shard 0 (m ∷ ms)) (every per_shard (come + 1) (m ∷ ms))
    at true = refl
    at false = refl

-- what was taken, and what is left behind it
pub taken-waiting : (next : Option (Bor Row)) (old new : List Row) →
    MatchOption next ((names_left old ≡ []) × (new ≡ [])) (λ row. names_left old ≡ row.now.name ∷ names_left new) →
    waiting (option_copied next) new ≡ names_left old
taken-waiting None old new taken = sym taken.0
taken-waiting (Some row) old new taken = sym taken

-- the first bounds, where so many were found
pub first-bounds : (n : ℕ) (bounds more all : List (List ℕ)) → bounds ++ more ≡ all → length bounds ≡ n → take n all ≡ bounds
first-bounds n bounds more all whole full =
    ap (take n) (sym whole) ∙ take-append-le n bounds more (omega arith) ∙ take_all n bounds (omega arith)

-- all bounds, where there are no more than so many
pub all-bounds : (n : ℕ) (bounds all : List (List ℕ)) → bounds ++ [] ≡ all → length bounds ≤ n → take n all ≡ bounds
all-bounds n bounds all whole few =
    ap (take n) (sym whole ∙ append-nil bounds) ∙ take_all n bounds few

-- Lists of ranges whose states change.
use Rattle.std.proofs.Common.{◌≡◌, ℕ, ◌+◌, ◌<◌, ◌≤◌, zero, suc, true, List, [], ◌∷◌, length, get_or, set, refl, ◌∙◌, ap, arith}
use Rattle.std.proofs.Math.Bool.{Bool-set}
use Rattle.sw_shard_range.specs.Names.{is_hidden}
use Rattle.sw_shard_range.specs.Ranges.{fault_from}
use Rattle.sw_shard_range.specs.States.{all_in_state, with_state}
use Rattle.sw_shard_range.specs.declared.range.Range.{Range}

-- a range in this state, whatever proof it keeps that its shard is hidden
abbrev in_state : ℕ → (r : Range) → is_hidden r.shard ≡ true → Range
in_state state r hidden = record { lower = r.lower; upper = r.upper; shard = r.shard; state = state; hidden = hidden }

in-state : (state : ℕ) (r : Range) (hidden : is_hidden r.shard ≡ true) → in_state state r hidden ≡ record r { state = state }
in-state state r hidden = ap (λ (h : is_hidden r.shard ≡ true). in_state state r h) (Bool-set (is_hidden r.shard) true hidden r.hidden)

-- the first so many of a list are in this state
abbrev pub first_in_state : ℕ → ℕ → List Range → List Range
first_in_state state n [] = []
first_in_state state zero (r ∷ rs) = r ∷ rs
first_in_state state (suc n) (r ∷ rs) = record r { state = state } ∷ first_in_state state n rs

pub none-yet : (state : ℕ) (l : List Range) → first_in_state state 0 l ≡ l
none-yet state [] = refl
none-yet state (r ∷ rs) = refl

step : (state n : ℕ) (l : List Range) (r : Range) → n < length l → r ≡ get_or (first_in_state state n l) n r
    → set (first_in_state state n l) n (record r { state = state }) ≡ first_in_state state (suc n) l
step state n [] r within is = let no : ⊥ = omega (arith, within) in absurd no
step state zero (x ∷ xs) r within is = rw is (ap (λ (l : List Range). record x { state = state } ∷ l) (sym-none state xs))
  where
    sym-none : (state : ℕ) (l : List Range) → l ≡ first_in_state state 0 l
    sym-none state [] = refl
    sym-none state (y ∷ ys) = refl
step state (suc n) (x ∷ xs) r within is =
    let less : n < length xs = omega (arith, within) in
    ap (λ (l : List Range). record x { state = state } ∷ l) (step state n xs r less is)

pub one-more : (state n : ℕ) (l now : List Range) (r : Range) (hidden : is_hidden r.shard ≡ true) → n < length l → now ≡ first_in_state state n l
    → r ≡ get_or now n r
    → set now n (record { lower = r.lower; upper = r.upper; shard = r.shard; state = state; hidden = hidden }) ≡ first_in_state state (n + 1) l
one-more state n l now r hidden within same is =
    let next : n + 1 ≡ suc n = omega arith in
    ap (λ (x : Range). set now n x) (in-state state r hidden) ∙ rw next (rw same (step state n l r within (rw same at is)))

pub all-of : (state n : ℕ) (l : List Range) → length l ≤ n → first_in_state state n l ≡ all_in_state state l
all-of state n [] le = refl
all-of state zero (r ∷ rs) le = let no : ⊥ = omega (arith, le) in absurd no
all-of state (suc n) (r ∷ rs) le = ap (λ (l : List Range). record r { state = state } ∷ l) (all-of state n rs (omega (arith, le)))

-- ---- one range

set-one : (state n : ℕ) (l : List Range) (r : Range) → n < length l → r ≡ get_or l n r → set l n (record r { state = state }) ≡ with_state state n l
set-one state n [] r within is = let no : ⊥ = omega (arith, within) in absurd no
set-one state zero (x ∷ xs) r within is = rw is refl
set-one state (suc n) (x ∷ xs) r within is = ap (λ (l : List Range). x ∷ l) (set-one state n xs r (omega (arith, within)) is)

pub set-state : (state n : ℕ) (l : List Range) (r : Range) (hidden : is_hidden r.shard ≡ true) → n < length l → r ≡ get_or l n r
    → set l n (record { lower = r.lower; upper = r.upper; shard = r.shard; state = state; hidden = hidden }) ≡ with_state state n l
set-state state n l r hidden within is = ap (λ (x : Range). set l n x) (in-state state r hidden) ∙ set-one state n l r within is

pub beyond-state : (state n : ℕ) (l : List Range) → length l ≤ n → l ≡ with_state state n l
beyond-state state n [] le = refl
beyond-state state zero (x ∷ xs) le = let no : ⊥ = omega (arith, le) in absurd no
beyond-state state (suc n) (x ∷ xs) le = ap (λ (l : List Range). x ∷ l) (beyond-state state n xs (omega (arith, le)))

-- ---- bounds stay

pub fault-all : (state : ℕ) (b : List ℕ) (i : ℕ) (l : List Range) → fault_from b i (all_in_state state l) ≡ fault_from b i l
fault-all state b i [] = refl
fault-all state b i (r ∷ []) = refl
fault-all state b i (r ∷ s ∷ rs) = rw (fault-all state r.upper (i + 1) (s ∷ rs)) refl

pub fault-with : (state n : ℕ) (b : List ℕ) (i : ℕ) (l : List Range) → fault_from b i (with_state state n l) ≡ fault_from b i l
fault-with state n b i [] = refl
fault-with state zero b i (r ∷ []) = refl
fault-with state (suc n) b i (r ∷ []) = refl
fault-with state zero b i (r ∷ s ∷ rs) = refl
fault-with state (suc zero) b i (r ∷ s ∷ rs) = rw (fault-with state zero r.upper (i + 1) (s ∷ rs)) refl
fault-with state (suc (suc n)) b i (r ∷ s ∷ rs) = rw (fault-with state (suc n) r.upper (i + 1) (s ∷ rs)) refl

pub length-all : (state : ℕ) (l : List Range) → length (all_in_state state l) ≡ length l
length-all state [] = refl
length-all state (r ∷ rs) = rw (length-all state rs) refl

pub length-with : (state n : ℕ) (l : List Range) → length (with_state state n l) ≡ length l
length-with state n [] = refl
length-with state zero (r ∷ rs) = refl
length-with state (suc n) (r ∷ rs) = rw (length-with state n rs) refl

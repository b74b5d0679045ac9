-- Texts and bounds in byte order.
use Rattle.std.proofs.Common.{◌≡◌, ℕ, Bool, true, false, not, ◌&&◌, ◌||◌, List, [], ◌∷◌, refl, ap, rules}
use Rattle.std.specs.Cmp.Lexicographic.{slice_cmp}
use Rattle.std.specs.Ordering.{is_lt, nat_cmp}
use Rattle.std.specs.declared.cmp.Ordering.{Ordering}
use Rattle.std.specs.declared.cmp.Ordering.TheVariants.{Less, Equal, Greater}
use Rattle.std.proofs.lemmas.Cmp.{nat_list_cmp_total}
use Rattle.sw_shard_range.specs.Names.{is_above, is_after, is_beyond, is_empty}

pub less-from : (o : Ordering) → is_lt o ≡ true → o ≡ Less
less-from Less is = refl
less-from Equal is = cc
less-from Greater is = cc

-- what is above what is above a text is above it
pub above-trans : (x y z : List ℕ) → is_above y x ≡ true → is_above z y ≡ true → is_above z x ≡ true
above-trans x y z low high = ap is_lt (nat_list_cmp_total.trans x y z (less-from (slice_cmp nat_cmp x y) low) (less-from (slice_cmp nat_cmp y z) high))

-- what is above a text isn't empty
pub above-some : (x y : List ℕ) → is_above y x ≡ true → is_empty y ≡ false
above-some [] [] above = cc
above-some (a ∷ x) [] above = cc
above-some x (b ∷ y) above = search rules

-- no name is beyond an open end
pub open-end : (upper name : List ℕ) → is_empty upper ≡ true → is_beyond upper name ≡ false
open-end upper name open_end = rw open_end refl

-- a name is beyond a bound exactly where the bound is one, and the name is above it
pub beyond-parts : (upper name : List ℕ) → is_beyond upper name ≡ true → (is_empty upper ≡ false) × (is_above name upper ≡ true)
beyond-parts upper name beyond = at (is_empty upper) refl beyond
  where
    at : (b : Bool) → is_empty upper ≡ b → (not b && is_above name upper) ≡ true → (is_empty upper ≡ false) × (is_above name upper ≡ true)
    at true is beyond = cc
    at false is beyond = (is, beyond)

pub beyond-from : (upper name : List ℕ) → is_empty upper ≡ false → is_above name upper ≡ true → is_beyond upper name ≡ true
beyond-from upper name some above = rw (some, above) refl

-- what comes after a bound that is one is above it
pub after-above : (lower name : List ℕ) → is_empty lower ≡ false → is_after lower name ≡ true → is_above name lower ≡ true
after-above lower name some after = rw some at after

pub above-after : (lower name : List ℕ) → is_above name lower ≡ true → is_after lower name ≡ true
above-after lower name above = at (is_empty lower)
  where
    at : (b : Bool) → (b || is_above name lower) ≡ true
    at true = refl
    at false = above

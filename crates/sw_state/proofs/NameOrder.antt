-- The order of names: strict, and total on distinct names.
use Rattle.std.proofs.Common.{◌≡◌, ℕ, Bool, true, false, ◌&&◌, List, refl, ◌∙◌, ap}
use Rattle.std.specs.Cmp.Lexicographic.{slice_cmp}
use Rattle.std.specs.Ordering.{nat_cmp, is_lt, is_eq, ordering_reverse}
use Rattle.std.specs.Str.{bytes_eq}
use Rattle.std.specs.declared.cmp.Ordering.{Ordering}
use Rattle.std.specs.declared.cmp.Ordering.TheVariants.{Less, Equal, Greater}
use Rattle.std.proofs.lemmas.Cmp.{nat_list_cmp_total, tied_itself}
use Rattle.std.proofs.lemmas.Map.Text.{is_eq-slice_cmp}
use Rattle.sw_state.specs.HeadNames.{is_before}

-- both parts of a test
pub both : (a b : Bool) → (a && b) ≡ true → (a ≡ true) × (b ≡ true)
both true b is = (refl, is)
both false b is = cc

pub both_from : (a b : Bool) → a ≡ true → b ≡ true → (a && b) ≡ true
both_from a b is_a is_b = rw (is_a, is_b) refl

less : (o : Ordering) → is_lt o ≡ true → o ≡ Less
less Less is = refl
less Equal is = cc
less Greater is = cc

pub before-itself : (a : List ℕ) → is_before a a ≡ false
before-itself a = ap is_lt (tied_itself nat_list_cmp_total a)

pub before-trans : (a b c : List ℕ) → is_before a b ≡ true → is_before b c ≡ true → is_before a c ≡ true
before-trans a b c ab bc =
    ap is_lt (nat_list_cmp_total.trans a b c (less (slice_cmp nat_cmp a b) ab) (less (slice_cmp nat_cmp b c) bc))

reversed : (o p : Ordering) → p ≡ ordering_reverse o → is_lt o ≡ true → is_lt p ≡ false
reversed Less p is less = ap is_lt is
reversed Equal p is less = cc
reversed Greater p is less = cc

pub before-asym : (a b : List ℕ) → is_before a b ≡ true → is_before b a ≡ false
before-asym a b ab =
    reversed (slice_cmp nat_cmp a b) (slice_cmp nat_cmp b a) (nat_list_cmp_total.antisymm b a) ab

compared : (o p : Ordering) → p ≡ ordering_reverse o → is_lt o ≡ false → is_eq o ≡ false → is_lt p ≡ true
compared Less p is less equal = cc
compared Equal p is less equal = cc
compared Greater p is less equal = ap is_lt is

pub before-other : (a b : List ℕ) → is_before a b ≡ false → bytes_eq a b ≡ false → is_before b a ≡ true
before-other a b ab apart =
    compared (slice_cmp nat_cmp a b) (slice_cmp nat_cmp b a) (nat_list_cmp_total.antisymm b a) ab (is_eq-slice_cmp a b ∙ apart)

-- The order of bases, and of two states' bases and metas.
use Rattle.std.proofs.Common.{◌≡◌, ℕ, Bool, true, false, cond, ◌&&◌, ◌||◌, not, refl, sym, ◌∙◌, ap, arith, Option, None, Some, nat_lt}
use Rattle.std.specs.Prelude.{◌==◌}
use Rattle.std.proofs.lemmas.Bool.Decides.{nat_tests}
use Rattle.sw_state.specs.Bases.{base_time, higher, is_above, is_deletion}
use Rattle.sw_state.specs.Metas.{Meta, above_base, is_later, later}
use Rattle.sw_state.specs.declared.base.Base.{Base}

-- a time and whether it is a deletion's, above another such pair
abbrev beats : ℕ → Bool → ℕ → Bool → Bool
beats t d u e = nat_lt u t || ((u == t) && (d && not e))

beats-trans : (t u v : ℕ) (d e f : Bool) → beats t d u e ≡ true → beats u e v f ≡ true → beats t d v f ≡ true
beats-trans t u v true true true x y = grind (arith, nat_tests)
beats-trans t u v true true false x y = grind (arith, nat_tests)
beats-trans t u v true false true x y = grind (arith, nat_tests)
beats-trans t u v true false false x y = grind (arith, nat_tests)
beats-trans t u v false true true x y = grind (arith, nat_tests)
beats-trans t u v false true false x y = grind (arith, nat_tests)
beats-trans t u v false false true x y = grind (arith, nat_tests)
beats-trans t u v false false false x y = grind (arith, nat_tests)

beats-not : (t u v : ℕ) (d e f : Bool) → beats t d u e ≡ false → beats u e v f ≡ false → beats t d v f ≡ false
beats-not t u v true true true x y = grind (arith, nat_tests)
beats-not t u v true true false x y = grind (arith, nat_tests)
beats-not t u v true false true x y = grind (arith, nat_tests)
beats-not t u v true false false x y = grind (arith, nat_tests)
beats-not t u v false true true x y = grind (arith, nat_tests)
beats-not t u v false true false x y = grind (arith, nat_tests)
beats-not t u v false false true x y = grind (arith, nat_tests)
beats-not t u v false false false x y = grind (arith, nat_tests)

pub above-trans : (c b a : Base) → is_above c b ≡ true → is_above b a ≡ true → is_above c a ≡ true
above-trans c b a = beats-trans (base_time c) (base_time b) (base_time a) (is_deletion c) (is_deletion b) (is_deletion a)

pub above-not : (c b a : Base) → is_above c b ≡ false → is_above b a ≡ false → is_above c a ≡ false
above-not c b a = beats-not (base_time c) (base_time b) (base_time a) (is_deletion c) (is_deletion b) (is_deletion a)

itself : (t : ℕ) (d : Bool) → beats t d t d ≡ false
itself t true = grind (arith, nat_tests)
itself t false = grind (arith, nat_tests)

pub above-itself : (b : Base) → is_above b b ≡ false
above-itself b = itself (base_time b) (is_deletion b)

-- of two bases one at most is above the other
pub above-asym : (a b : Base) → is_above b a ≡ true → is_above a b ≡ false
above-asym a b is = asym_at a b (is_above a b) refl is
  where
    asym_at : (a b : Base) (p : Bool) → is_above a b ≡ p → is_above b a ≡ true → is_above a b ≡ false
    asym_at a b true ab ba = absurd (let loop : is_above a a ≡ true = above-trans a b a ab ba in let none = above-itself a in cc)
    asym_at a b false ab ba = ab

-- the higher of three is the same in whichever order they are compared
assoc_at : (a b c : Base) (p q : Bool) → is_above b a ≡ p → is_above c b ≡ q
    → higher (Some (cond p b a)) (Some c) ≡ higher (Some a) (Some (cond q c b))
assoc_at a b c true true ba cb = rw (cb, above-trans c b a cb ba) refl
assoc_at a b c true false ba cb = rw (cb, ba) refl
assoc_at a b c false true ba cb = refl
assoc_at a b c false false ba cb = rw (ba, above-not c b a cb ba) refl

pub higher-assoc : (a b c : Option Base) → higher (higher a b) c ≡ higher a (higher b c)
higher-assoc a b None = refl
higher-assoc a None (Some c) = refl
higher-assoc None (Some b) (Some c) = refl
higher-assoc (Some a) (Some b) (Some c) = assoc_at a b c (is_above b a) (is_above c b) refl refl

pub higher-itself : (a : Option Base) → higher a a ≡ a
higher-itself None = refl
higher-itself (Some a) = rw (above-itself a) refl

meta_assoc_at : (m n o : Meta) (p q : Bool) → nat_lt m.0 n.0 ≡ p → nat_lt n.0 o.0 ≡ q
    → later (Some (cond p n m)) (Some o) ≡ later (Some m) (Some (cond q o n))
meta_assoc_at m n o true true mn on = let mo : nat_lt m.0 o.0 ≡ true = grind (arith, nat_tests) in rw (on, mo) refl
meta_assoc_at m n o true false mn on = rw (on, mn) refl
meta_assoc_at m n o false true mn on = refl
meta_assoc_at m n o false false mn on = let mo : nat_lt m.0 o.0 ≡ false = grind (arith, nat_tests) in rw (mn, mo) refl

pub later-assoc : (m n o : Option Meta) → later (later m n) o ≡ later m (later n o)
later-assoc m n None = refl
later-assoc m None (Some o) = refl
later-assoc None (Some n) (Some o) = refl
later-assoc (Some m) (Some n) (Some o) = meta_assoc_at m n o (nat_lt m.0 n.0) (nat_lt n.0 o.0) refl refl

pub later-itself : (m : Option Meta) → later m m ≡ m
later-itself None = refl
later-itself (Some m) = let same : nat_lt m.0 m.0 ≡ false = grind (arith, nat_tests) in rw same refl

pub higher-none : (a : Option Base) → higher None a ≡ a
higher-none None = refl
higher-none (Some a) = refl

pub later-none : (m : Option Meta) → later None m ≡ m
later-none None = refl
later-none (Some m) = refl

-- whether a time is later than a base, where there is one
abbrev pub after : Option Base → ℕ → Bool
after None t = true
after (Some b) t = nat_lt (base_time b) t

pub is_later-some : (b : Option Base) (m : Meta) → is_later b (Some m) ≡ after b m.0
is_later-some None m = refl
is_later-some (Some b) m = refl

pub above_base-some : (b : Option Base) (m : Meta) → above_base b (Some m) ≡ cond (after b m.0) (Some m) None
above_base-some None m = refl
above_base-some (Some b) m = refl

pub above_base-none : (b : Option Base) → above_base b None ≡ None
above_base-none None = refl
above_base-none (Some b) = refl

after_chosen : (t u k : ℕ) (d e p : Bool) → beats u e t d ≡ p → nat_lt (cond p u t) k ≡ (nat_lt t k && nat_lt u k)
after_chosen t u k true true true is = grind (arith, nat_tests)
after_chosen t u k true true false is = grind (arith, nat_tests)
after_chosen t u k true false true is = grind (arith, nat_tests)
after_chosen t u k true false false is = grind (arith, nat_tests)
after_chosen t u k false true true is = grind (arith, nat_tests)
after_chosen t u k false true false is = grind (arith, nat_tests)
after_chosen t u k false false true is = grind (arith, nat_tests)
after_chosen t u k false false false is = grind (arith, nat_tests)

base_time-cond : (p : Bool) (a b : Base) → base_time (cond p b a) ≡ cond p (base_time b) (base_time a)
base_time-cond true a b = refl
base_time-cond false a b = refl

both_true : (p : Bool) → (p && true) ≡ p
both_true true = refl
both_true false = refl

-- later than the higher of two is later than both
pub after-higher : (a b : Option Base) (t : ℕ) → after (higher a b) t ≡ (after a t && after b t)
after-higher a None t = sym (both_true (after a t))
after-higher None (Some b) t = refl
after-higher (Some a) (Some b) t =
    ap (λ (k : ℕ). nat_lt k t) (base_time-cond (is_above b a) a b)
    ∙ after_chosen (base_time a) (base_time b) t (is_deletion a) (is_deletion b) (is_above b a) refl

-- a base that was compared before makes no difference
again_at : (a b : Base) (p : Bool) → is_above b a ≡ p → higher (Some (cond p b a)) (Some a) ≡ Some (cond p b a)
again_at a b true is = rw (above-asym a b is) refl
again_at a b false is = rw (above-itself a) refl

pub higher-again : (a b : Option Base) → higher (higher a b) a ≡ higher a b
higher-again None None = refl
higher-again None (Some b) = refl
higher-again (Some a) None = higher-itself (Some a)
higher-again (Some a) (Some b) = again_at a b (is_above b a) refl

later_again_at : (m n : Meta) (p : Bool) → nat_lt m.0 n.0 ≡ p → later (Some (cond p n m)) (Some m) ≡ Some (cond p n m)
later_again_at m n true is = let earlier : nat_lt n.0 m.0 ≡ false = grind (arith, nat_tests) in rw earlier refl
later_again_at m n false is = let same : nat_lt m.0 m.0 ≡ false = grind (arith, nat_tests) in rw same refl

pub later-again : (m n : Option Meta) → later (later m n) m ≡ later m n
later-again None None = refl
later-again None (Some n) = refl
later-again (Some m) None = later-itself (Some m)
later-again (Some m) (Some n) = later_again_at m n (nat_lt m.0 n.0) refl

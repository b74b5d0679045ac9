-- Where a name is among ranges that are all names, each once: in one that is left to its shard, or behind all of these.
use Rattle.std.proofs.Common.{◌≡◌, ℕ, ◌+◌, zero, suc, Bool, true, false, cond, not, ◌&&◌, ◌||◌, nat_lt, arith, List, [], ◌∷◌, length, take}
use Rattle.std.proofs.Common.{Option, None, Some, refl, sym, ◌∙◌, subst, ◌⊎◌, inl, inr}
use Rattle.std.proofs.lemmas.Bool.{and_parts}
use Rattle.std.proofs.lemmas.Bool.Decides.{nat_tests}
use Rattle.std.proofs.lemmas.Slice.Eq.{bytes_eq-Decides}
use Rattle.std.specs.Str.{bytes_eq}
use Rattle.sw_container_steps.specs.Serving.{served_by, shard_at}
use Rattle.sw_listing.specs.Asking.{is_above, is_before}
use Rattle.sw_shard_listing.proofs.Members.{In}
use Rattle.sw_shard_listing.specs.Ranges.{is_between, is_up_to}
use Rattle.sw_shard_range.proofs.Order.{beyond-parts, open-end}
use Rattle.sw_shard_range.specs.Laws.{AreTiled}
use Rattle.sw_shard_range.specs.Names as names
use Rattle.sw_shard_range.specs.Ranges.{fault_from, fits_inside, fits_last, index_in}
use Rattle.sw_shard_range.specs.declared.range.Range.{Range}
use Rattle.sw_sharded_listing.specs.Parts.{end_of, has_own, served_in}

-- ---- two ranges, one behind the other

same-text : (x y : List ℕ) → bytes_eq x y ≡ true → x ≡ y
same-text x y same = (bytes_eq-Decides x y).0 same

fit : (fits : Bool) (rest : Option ℕ) (index : ℕ) → cond fits rest (Some index) ≡ None → (fits ≡ true) × (rest ≡ None)
fit true rest index none = (refl, none)
fit false rest index none = cc

-- the first of ranges of which more follow
pub record IsInside (bound : List ℕ) (index : ℕ) (r : Range) (rs : List Range) : Type 0 where
  pub begins : r.lower ≡ bound
  pub ends : is_before bound r.upper ≡ true
  pub rest : fault_from r.upper (index + 1) rs ≡ None

pub inside : (bound : List ℕ) (index : ℕ) (r s : Range) (rs : List Range) → fault_from bound index (r ∷ s ∷ rs) ≡ None → IsInside bound index r (s ∷ rs)
inside bound index r s rs none =
    let f = fit (fits_inside bound r) (fault_from r.upper (index + 1) (s ∷ rs)) index none in
    let both = and_parts (bytes_eq r.lower bound) (names.is_above r.upper r.lower) f.0 in
    let begins : r.lower ≡ bound = same-text r.lower bound both.0 in
    record { begins = begins; ends = subst (λ (x : List ℕ). is_before x r.upper ≡ true) begins both.1; rest = f.1 }

-- the last range
pub record IsLast (bound : List ℕ) (r : Range) : Type 0 where
  pub begins : r.lower ≡ bound
  pub ends : names.is_empty r.upper ≡ true

pub last : (bound : List ℕ) (index : ℕ) (r : Range) → fault_from bound index (r ∷ []) ≡ None → IsLast bound r
last bound index r none =
    let f = fit (fits_last bound r) None index none in
    let both = and_parts (bytes_eq r.lower bound) (names.is_empty r.upper) f.0 in
    record { begins = same-text r.lower bound both.0; ends = both.1 }

-- ---- a name among them

-- the container has it itself, behind all ranges that are left to shards
pub record IsOwn (bound : List ℕ) (o : Option (List Range)) (served : List Range) (cursor : ℕ) (name : List ℕ) : Type 0 where
  pub none : served_by o cursor name ≡ None
  pub has : has_own o cursor ≡ true
  pub behind : is_above (end_of bound served) name ≡ true

-- it is left to the shard of this range
pub record IsLeft (o : Option (List Range)) (served : List Range) (cursor : ℕ) (name : List ℕ) : Type 0 where
  pub range : Range
  pub among : In range served
  pub shard : served_by o cursor name ≡ Some range.shard
  pub has : is_between range.lower range.upper name ≡ true

abbrev pub IsSomewhere : List ℕ → Option (List Range) → List Range → ℕ → List ℕ → Type 0
IsSomewhere bound o served cursor name = IsOwn bound o served cursor name ⊎ IsLeft o served cursor name

up-to : (empty before : Bool) → (not empty && before) ≡ false → (empty || not before) ≡ true
up-to true before is = refl
up-to false true is = cc
up-to false false is = refl

-- a name that isn't beyond the upper bound is in the range that begins below it
between : (bound : List ℕ) (r : Range) (name : List ℕ) → r.lower ≡ bound → is_above bound name ≡ true → names.is_beyond r.upper name ≡ false
    → is_between r.lower r.upper name ≡ true
between bound r name begins above within =
    let low : is_above r.lower name ≡ true = subst (λ (x : List ℕ). is_above x name ≡ true) (sym begins) above in
    let high : is_up_to r.upper name ≡ true = up-to (names.is_empty r.upper) (is_before r.upper name) within in
    rw low high

never : (n : ℕ) → nat_lt n 0 ≡ false
never n = grind (arith, nat_tests)

always : (n : ℕ) → nat_lt 0 (suc n) ≡ true
always n = grind (arith, nat_tests)

pub fewer : (c n : ℕ) → nat_lt (suc c) (suc n) ≡ nat_lt c n
fewer c n = grind (arith, nat_tests)

-- the first range is left to its shard, and has the name
in-first : (r : Range) (rs : List Range) (c : ℕ) (name : List ℕ) → names.is_beyond r.upper name ≡ false → is_between r.lower r.upper name ≡ true
    → IsLeft (Some (r ∷ rs)) (r ∷ take c rs) (suc c) name
in-first r rs c name within has = record {
  range = r;
  among = inl refl;
  shard = rw within (rw (always c) refl);
  has = has;
}

-- the name is beyond the first range, and so where it is among the others
one-more : (r s : Range) (rs : List Range) (c : ℕ) (name : List ℕ) → names.is_beyond r.upper name ≡ true
    → served_by (Some (r ∷ s ∷ rs)) (suc c) name ≡ served_by (Some (s ∷ rs)) c name
one-more r s rs c name beyond = rw beyond (by (index_in (s ∷ rs) name))
  where
    by : (i : ℕ) → cond (nat_lt (1 + i) (suc c)) (shard_at (r ∷ s ∷ rs) (1 + i)) None ≡ cond (nat_lt i c) (shard_at (s ∷ rs) i) None
    by i =
        let next : 1 + i ≡ suc i = omega arith in
        rw next (rw (fewer i c) refl)

further : (bound : List ℕ) (r s : Range) (rs : List Range) (c : ℕ) (name : List ℕ) → names.is_beyond r.upper name ≡ true
    → IsSomewhere r.upper (Some (s ∷ rs)) (take c (s ∷ rs)) c name
    → IsSomewhere bound (Some (r ∷ s ∷ rs)) (r ∷ take c (s ∷ rs)) (suc c) name
further bound r s rs c name beyond (inl own) = inl (record {
  none = one-more r s rs c name beyond ∙ own.none;
  has = fewer c (length (s ∷ rs)) ∙ own.has;
  behind = own.behind;
})
further bound r s rs c name beyond (inr left) = inr (record {
  range = left.range;
  among = inr left.among;
  shard = one-more r s rs c name beyond ∙ left.shard;
  has = left.has;
})

-- what is beyond a bound is above it
above-bound : (bound name : List ℕ) → names.is_beyond bound name ≡ true → is_above bound name ≡ true
above-bound bound name beyond =
    let b = beyond-parts bound name beyond in
    let low : is_before bound name ≡ true = b.1 in
    rw (b.0, low) refl

somewhere : (bound : List ℕ) (index : ℕ) (rs : List Range) (cursor : ℕ) (name : List ℕ) → fault_from bound index rs ≡ None → is_above bound name ≡ true
    → IsSomewhere bound (Some rs) (take cursor rs) cursor name
somewhere bound index [] cursor name none above = cc
somewhere bound index (r ∷ rs) zero name none above = inl (record {
  none = rw (never (index_in (r ∷ rs) name)) refl;
  has = always (length rs);
  behind = above;
})
somewhere bound index (r ∷ []) (suc c) name none above =
    let l = last bound index r none in
    let within : names.is_beyond r.upper name ≡ false = open-end r.upper name l.ends in
    inr (in-first r [] c name within (between bound r name l.begins above within))
somewhere bound index (r ∷ s ∷ rs) (suc c) name none above =
    by (names.is_beyond r.upper name) refl (λ beyond. somewhere r.upper (index + 1) (s ∷ rs) c name i.rest (above-bound r.upper name beyond))
  where
    i : IsInside bound index r (s ∷ rs)
    i = inside bound index r s rs none

    by : (b : Bool) → names.is_beyond r.upper name ≡ b
        → (names.is_beyond r.upper name ≡ true → IsSomewhere r.upper (Some (s ∷ rs)) (take c (s ∷ rs)) c name)
        → IsSomewhere bound (Some (r ∷ s ∷ rs)) (take (suc c) (r ∷ s ∷ rs)) (suc c) name
    by true beyond rest = further bound r s rs c name beyond (rest beyond)
    by false within rest = inr (in-first r (s ∷ rs) c name within (between bound r name i.begins above within))

-- a name is left to the shard of a range that has it, or is the container's own
pub where-is : (o : Option (List Range)) (cursor : ℕ) (name : List ℕ) → ((ranges : List Range) → o ≡ Some ranges → AreTiled ranges)
    → IsSomewhere [] o (served_in o cursor) cursor name
where-is None cursor name tiled = inl (record { none = refl; has = refl; behind = refl })
where-is (Some ranges) cursor name tiled = somewhere [] 0 ranges cursor name (tiled ranges refl) refl

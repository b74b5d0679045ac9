-- Lists of ranges that are all names, each once.
use Rattle.std.proofs.Common.{◌≡◌, ℕ, ◌+◌, ◌<◌, zero, suc, Bool, true, false, cond, not, List, [], ◌∷◌, ◌++◌, length, get_or}
use Rattle.std.proofs.Common.{None, Some, refl, sym, ◌∙◌, ap, subst, arith}
use Rattle.std.specs.List.{slice_get}
use Rattle.std.specs.List.Sorted.{IsPartitionedBy}
use Rattle.std.specs.Str.{bytes_eq}
use Rattle.std.proofs.lemmas.Bool.{and_parts, not-true}
use Rattle.std.proofs.lemmas.Slice.Eq.{bytes_eq-Decides}
use Rattle.sw_shard_range.specs.Laws.{IsInARange, IsInOneRange}
use Rattle.sw_shard_range.specs.Names.{is_above, is_after, is_beyond, is_empty}
use Rattle.sw_shard_range.specs.Ranges.{fault_from, fits_inside, fits_last, has, index_in}
use Rattle.sw_shard_range.specs.declared.range.Range.{Range}
use Rattle.sw_shard_range.proofs.Order.{above-after, above-some, above-trans, after-above, beyond-from, beyond-parts, open-end}

-- ---- what is known of ranges none of which is at fault

same-text : (a b : List ℕ) → bytes_eq a b ≡ true → a ≡ b
same-text a b same = (bytes_eq-Decides a b).0 same

-- a range that others follow
record Inside (bound : List ℕ) (index : ℕ) (r : Range) (others : List Range) : Type 0 where
  begins : r.lower ≡ bound
  ends : is_above r.upper r.lower ≡ true
  rest : fault_from r.upper (index + 1) others ≡ None

inside : (b : List ℕ) (i : ℕ) (r s : Range) (rs : List Range) → fault_from b i (r ∷ s ∷ rs) ≡ None → Inside b i r (s ∷ rs)
inside b i r s rs whole = at (fits_inside b r) refl whole
  where
    at : (t : Bool) → fits_inside b r ≡ t → cond t (fault_from r.upper (i + 1) (s ∷ rs)) (Some i) ≡ None → Inside b i r (s ∷ rs)
    at true is whole =
        let both = and_parts (bytes_eq r.lower b) (is_above r.upper r.lower) is in
        record { begins = same-text r.lower b both.0; ends = both.1; rest = whole }
    at false is whole = cc

-- the last range
record Last (bound : List ℕ) (r : Range) : Type 0 where
  begins : r.lower ≡ bound
  ends : is_empty r.upper ≡ true

last : (b : List ℕ) (i : ℕ) (r : Range) → fault_from b i (r ∷ []) ≡ None → Last b r
last b i r whole = at (fits_last b r) refl whole
  where
    at : (t : Bool) → fits_last b r ≡ t → cond t None (Some i) ≡ None → Last b r
    at true is whole =
        let both = and_parts (bytes_eq r.lower b) (is_empty r.upper) is in
        record { begins = same-text r.lower b both.0; ends = both.1 }
    at false is whole = cc

begins-there : (b : List ℕ) (i : ℕ) (r : Range) (rs : List Range) → fault_from b i (r ∷ rs) ≡ None → r.lower ≡ b
begins-there b i r [] whole = (last b i r whole).begins
begins-there b i r (s ∷ rs) whole = (inside b i r s rs whole).begins

-- ---- the index of a name

pub in-a-range : (b : List ℕ) (i : ℕ) (rs : List Range) (name : List ℕ) → fault_from b i rs ≡ None → index_in rs name < length rs
in-a-range b i [] name whole = cc
in-a-range b i (r ∷ []) name whole = rw (open-end r.upper name (last b i r whole).ends) (omega arith)
in-a-range b i (r ∷ s ∷ rs) name whole = at (is_beyond r.upper name) (in-a-range r.upper (i + 1) (s ∷ rs) name (inside b i r s rs whole).rest)
  where
    at : (t : Bool) → index_in (s ∷ rs) name < length (s ∷ rs) → cond t (1 + index_in (s ∷ rs) name) 0 < length (r ∷ s ∷ rs)
    at true rest = omega arith
    at false rest = omega arith

has-from : (r : Range) (name : List ℕ) → is_after r.lower name ≡ true → is_beyond r.upper name ≡ false → has r name ≡ true
has-from r name after up_to = rw (after, up_to) refl

has-after : (r : Range) (name : List ℕ) → has r name ≡ true → is_after r.lower name ≡ true
has-after r name h = (and_parts (is_after r.lower name) (not (is_beyond r.upper name)) h).0

has-up_to : (r : Range) (name : List ℕ) → has r name ≡ true → is_beyond r.upper name ≡ false
has-up_to r name h = not-true (is_beyond r.upper name) (and_parts (is_after r.lower name) (not (is_beyond r.upper name)) h).1

-- the range of the index has the name, where the name comes after the bound at which the ranges begin
has-that : (b : List ℕ) (i : ℕ) (rs : List Range) (range : Range) (name : List ℕ) → fault_from b i rs ≡ None → is_after b name ≡ true →
    slice_get rs (index_in rs name) ≡ Some range → has range name ≡ true
has-that b i [] range name whole after found = cc
has-that b i (r ∷ []) range name whole after found =
    let l = last b i r whole in
    let up_to : is_beyond r.upper name ≡ false = open-end r.upper name l.ends in
    let here : slice_get (r ∷ []) (cond (is_beyond r.upper name) (1 + 0) 0) ≡ Some range = found in
    let there : slice_get (r ∷ []) 0 ≡ Some range = rw up_to at here in
    let same : r ≡ range = cc in
    subst (λ (x : Range). has x name ≡ true) same
    (has-from r name (subst (λ (x : List ℕ). is_after x name ≡ true) (sym l.begins) after) up_to)
has-that b i (r ∷ s ∷ rs) range name whole after found =
    at (is_beyond r.upper name) refl found (λ a f. has-that r.upper (i + 1) (s ∷ rs) range name n.rest a f)
  where
    n : Inside b i r (s ∷ rs)
    n = inside b i r s rs whole

    at : (t : Bool) → is_beyond r.upper name ≡ t → slice_get (r ∷ s ∷ rs) (cond t (1 + index_in (s ∷ rs) name) 0) ≡ Some range →
        (is_after r.upper name ≡ true → slice_get (s ∷ rs) (index_in (s ∷ rs) name) ≡ Some range → has range name ≡ true) → has range name ≡ true
    at true is found further =
        let one_more : 1 + index_in (s ∷ rs) name ≡ suc (index_in (s ∷ rs) name) = omega arith in
        further (above-after r.upper name (beyond-parts r.upper name is).1) (rw one_more at found)
    at false is found further =
        let same : r ≡ range = cc in
        subst (λ (x : Range). has x name ≡ true) same
        (has-from r name (subst (λ (x : List ℕ). is_after x name ≡ true) (sym n.begins) after) is)

-- ranges that begin at a bound have only names above it
behind : (b : List ℕ) (i : ℕ) (rs : List Range) (k : ℕ) (range : Range) (name : List ℕ) → fault_from b i rs ≡ None → is_empty b ≡ false →
    slice_get rs k ≡ Some range → has range name ≡ true → is_above name b ≡ true
behind b i [] k range name whole some found h = cc
behind b i (r ∷ rs) zero range name whole some found h =
    let same : r ≡ range = cc in
    let there : range.lower ≡ b = ap (λ (x : Range). x.lower) (sym same) ∙ begins-there b i r rs whole in
    after-above b name some (subst (λ (x : List ℕ). is_after x name ≡ true) there (has-after range name h))
behind b i (r ∷ []) (suc k) range name whole some found h = cc
behind b i (r ∷ s ∷ rs) (suc k) range name whole some found h =
    let n = inside b i r s rs whole in
    let up : is_above r.upper b ≡ true = subst (λ (x : List ℕ). is_above r.upper x ≡ true) n.begins n.ends in
    above-trans b r.upper name up (behind r.upper (i + 1) (s ∷ rs) k range name n.rest (above-some r.lower r.upper n.ends) found h)

-- a range that has the name is that of its index
is-that : (b : List ℕ) (i : ℕ) (rs : List Range) (k : ℕ) (range : Range) (name : List ℕ) → fault_from b i rs ≡ None → slice_get rs k ≡ Some range →
    has range name ≡ true → k ≡ index_in rs name
is-that b i [] k range name whole found h = cc
is-that b i (r ∷ rs) zero range name whole found h =
    let same : range ≡ r = cc in
    rw (has-up_to r name (subst (λ (x : Range). has x name ≡ true) same h)) refl
is-that b i (r ∷ []) (suc k) range name whole found h = cc
is-that b i (r ∷ s ∷ rs) (suc k) range name whole found h =
    let n = inside b i r s rs whole in
    let some : is_empty r.upper ≡ false = above-some r.lower r.upper n.ends in
    let above : is_above name r.upper ≡ true = behind r.upper (i + 1) (s ∷ rs) k range name n.rest some found h in
    let rest : k ≡ index_in (s ∷ rs) name = is-that r.upper (i + 1) (s ∷ rs) k range name n.rest found h in
    rw (beyond-from r.upper name some above) (omega arith)

pub is-in-a-range : IsInARange
is-in-a-range ranges name tiled = in-a-range [] 0 ranges name tiled

pub is-in-one-range : IsInOneRange
is-in-one-range ranges name index range tiled found = (
  λ h. is-that [] 0 ranges index range name tiled found h,
  λ is. has-that [] 0 ranges range name tiled refl (subst (λ (k : ℕ). slice_get ranges k ≡ Some range) is found),
)

-- ---- the upper bounds rise

-- a name beyond one of the ranges is above the bound at which they begin
beyond-above : (b : List ℕ) (i : ℕ) (rs : List Range) (name : List ℕ) (k : ℕ) (d : Range) → fault_from b i rs ≡ None → k < length rs →
    is_beyond (get_or rs k d).upper name ≡ true → is_above name b ≡ true
beyond-above b i [] name k d whole within passes = absurd (omega arith)
beyond-above b i (r ∷ []) name zero d whole within passes =
    let wrong : is_beyond r.upper name ≡ false = open-end r.upper name (last b i r whole).ends in
    cc
beyond-above b i (r ∷ []) name (suc k) d whole within passes = absurd (omega arith)
beyond-above b i (r ∷ s ∷ rs) name zero d whole within passes =
    let n = inside b i r s rs whole in
    above-trans b r.upper name (subst (λ (x : List ℕ). is_above r.upper x ≡ true) n.begins n.ends) (beyond-parts r.upper name passes).1
beyond-above b i (r ∷ s ∷ rs) name (suc k) d whole within passes =
    let n = inside b i r s rs whole in
    above-trans b r.upper name (subst (λ (x : List ℕ). is_above r.upper x ≡ true) n.begins n.ends)
    (beyond-above r.upper (i + 1) (s ∷ rs) name k d n.rest (omega arith) passes)

-- of ranges none of which is at fault, those that a name is beyond come first
pub partitioned : (b : List ℕ) (i : ℕ) (rs : List Range) (name : List ℕ) → fault_from b i rs ≡ None → IsPartitionedBy (λ r. is_beyond r.upper name) rs
partitioned b i [] name whole j k d le within passes = absurd (omega arith)
partitioned b i (r ∷ rs) name whole zero zero d le within passes = passes
partitioned b i (r ∷ []) name whole zero (suc k) d le within passes = absurd (omega arith)
partitioned b i (r ∷ []) name whole (suc j) k d le within passes = absurd (omega arith)
partitioned b i (r ∷ s ∷ rs) name whole zero (suc k) d le within passes =
    let n = inside b i r s rs whole in
    beyond-from r.upper name (above-some r.lower r.upper n.ends) (beyond-above r.upper (i + 1) (s ∷ rs) name k d n.rest (omega arith) passes)
partitioned b i (r ∷ s ∷ rs) name whole (suc j) zero d le within passes = absurd (omega arith)
partitioned b i (r ∷ s ∷ rs) name whole (suc j) (suc k) d le within passes =
    partitioned r.upper (i + 1) (s ∷ rs) name (inside b i r s rs whole).rest j k d (omega arith) (omega arith) passes

-- ---- the fault of a list, range after range

-- of ranges before a last one, the first is looked at as one that others follow
pub fault-step : (b : List ℕ) (i : ℕ) (r : Range) (rs : List Range) (l : Range) →
    fault_from b i (r ∷ (rs ++ l ∷ [])) ≡ cond (fits_inside b r) (fault_from r.upper (i + 1) (rs ++ l ∷ [])) (Some i)
fault-step b i r [] l = refl
fault-step b i r (s ∷ rs) l = refl

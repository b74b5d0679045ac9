-- Which shard a name is left to.
use Rattle.std.proofs.Common.{◌≡◌, ℕ, zero, suc, ◌+◌, ◌<◌, ◌≤◌, nat_lt, Bool, true, false, cond, List, [], ◌∷◌, length, map, Option}
use Rattle.std.proofs.Common.{None, Some, All, refl, sym, ◌∙◌, ap, subst, arith}
use Rattle.std.proofs.lemmas.Bool.{lt-ltb, ltb-false, ltb-true}
use Rattle.std.proofs.lemmas.List.Elements.{All-head, All-tail}
use Rattle.sw_hashpath.specs.declared.place.Place.{Place}
use Rattle.sw_shard_range.proofs.Tiling.{in-a-range}
use Rattle.sw_shard_range.specs.Names.{is_beyond, is_hidden}
use Rattle.sw_shard_range.specs.Ranges.{index_in as index_among}
use Rattle.sw_shard_range.specs.declared.range.Range.{Range}
use Rattle.sw_shard_laws.specs.Laws.{TiledRangesFit}
use Rattle.sw_shard_laws.specs.Ledger.{Way, index_in, served_in, shard_in, way_of}

-- a name that is served is in a closed range
pub served-at : (ws : List Way) (c : ℕ) (name : List ℕ) (s : Place) → served_in (Some ws) c name ≡ Some s
    → (shard_in ws (index_in ws name) ≡ Some s) × (index_in ws name < c)
served-at ws c name s is = by (nat_lt (index_in ws name) c) refl is
  where
    by : (b : Bool) → nat_lt (index_in ws name) c ≡ b → cond b (shard_in ws (index_in ws name)) None ≡ Some s
        → (shard_in ws (index_in ws name) ≡ Some s) × (index_in ws name < c)
    by true low is = (is, ltb-true (index_in ws name) c low)
    by false low is = cc

-- a name that is served below a cursor is served below the next
pub serving-on : (o : Option (List Way)) (c : ℕ) (name : List ℕ) (s : Place) → served_in o c name ≡ Some s → served_in o (c + 1) name ≡ Some s
serving-on None c name s is = cc
serving-on (Some ws) c name s is =
    let at = served-at ws c name s is in
    let low = at.1 in
    let next : nat_lt (index_in ws name) (c + 1) ≡ true = lt-ltb (index_in ws name) (c + 1) (omega (arith, low)) in
    rw next at.0

-- a name that is served once the range at the cursor is closed, and wasn't before, is in that range
pub newly-served : (ws : List Way) (c : ℕ) (name : List ℕ) (s : Place) → served_in (Some ws) c name ≡ None → served_in (Some ws) (c + 1) name ≡ Some s
    → (index_in ws name ≡ c) × (shard_in ws c ≡ Some s)
newly-served ws c name s before after =
    let at = served-at ws (c + 1) name s after in
    let same : index_in ws name ≡ c = by (nat_lt (index_in ws name) c) refl before at.0 at.1 in
    (same, subst (λ (i : ℕ). shard_in ws i ≡ Some s) same at.0)
  where
    by : (b : Bool) → nat_lt (index_in ws name) c ≡ b → cond b (shard_in ws (index_in ws name)) None ≡ None → shard_in ws (index_in ws name) ≡ Some s
        → index_in ws name < c + 1 → index_in ws name ≡ c
    by true low is at below = let clash : None ≡ Some s = sym is ∙ at in cc
    by false low is at below = let high = ltb-false (index_in ws name) c low in omega (arith, high, below)

-- where no range is closed no name is served
pub none-served : (ws : List Way) (name : List ℕ) → served_in (Some ws) 0 name ≡ None
none-served ws name = by (nat_lt (index_in ws name) 0) refl
  where
    by : (b : Bool) → nat_lt (index_in ws name) 0 ≡ b → cond b (shard_in ws (index_in ws name)) None ≡ None
    by true low = let below = ltb-true (index_in ws name) 0 low in absurd (omega (arith, below))
    by false low = refl

pub shard-there : (ws : List Way) (i : ℕ) → i < length ws → (s : Place) × (shard_in ws i ≡ Some s)
shard-there [] i low = absurd (omega arith)
shard-there (w ∷ ws) zero low = (w.shard, refl)
shard-there (w ∷ ws) (suc i) low = shard-there ws i (omega arith)

-- where each range is closed, each name is served
pub all-served : (ws : List Way) (c : ℕ) (name : List ℕ) → index_in ws name < length ws → length ws ≤ c → (s : Place) × (served_in (Some ws) c name ≡ Some s)
all-served ws c name low high =
    let at = shard-there ws (index_in ws name) low in
    let below : nat_lt (index_in ws name) c ≡ true = lt-ltb (index_in ws name) c (omega (arith, low, high)) in
    (at.0, rw below at.1)

-- ---- ranges that are all names, each once

index-same : (rs : List Range) (name : List ℕ) → index_in (map way_of rs) name ≡ index_among rs name
index-same [] name = refl
index-same (r ∷ rs) name = ap (λ (i : ℕ). cond (is_beyond r.upper name) (1 + i) 0) (index-same rs name)

length-same : (rs : List Range) → length (map way_of rs) ≡ length rs
length-same [] = refl
length-same (r ∷ rs) = ap suc (length-same rs)

hidden-shards : (rs : List Range) → All (λ (r : Range). is_hidden r.shard ≡ true) rs → (i : ℕ) (s : Place) → shard_in (map way_of rs) i ≡ Some s
    → is_hidden s ≡ true
hidden-shards [] all i s is = cc
hidden-shards (r ∷ rs) all zero s is =
    let P : Range → Type 0 = λ x. is_hidden x.shard ≡ true in
    let same : r.shard ≡ s = cc in
    subst (λ (x : Place). is_hidden x ≡ true) same (All-head P r rs all)
hidden-shards (r ∷ rs) all (suc i) s is =
    let P : Range → Type 0 = λ x. is_hidden x.shard ≡ true in hidden-shards rs (All-tail P r rs all) i s is

pub tiled-fit : TiledRangesFit
tiled-fit rs tiled hidden = (
  record {
    within = λ name.
        let low = in-a-range [] 0 rs name tiled in
        let same = index-same rs name in
        let many = length-same rs in omega (arith, low, same, many);
    hidden = hidden-shards rs hidden;
  },
  index-same rs,
)

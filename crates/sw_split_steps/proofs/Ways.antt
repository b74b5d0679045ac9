-- Ranges, and what a ledger has of them.
use Rattle.std.proofs.Common.{◌≡◌, ℕ, zero, suc, ◌+◌, nat_lt, cond, List, [], ◌∷◌, length, Option, None, Some, refl, sym, ◌∙◌, ap}
use Rattle.std.specs.Option.{option_map}
use Rattle.sw_container_steps.specs.Serving.{served_by, shard_at}
use Rattle.sw_hashpath.specs.declared.place.Place.{Place}
use Rattle.sw_shard_laws.specs.Ledger.{Way, index_in, served_in, shard_in, way_of}
use Rattle.sw_shard_range.specs.Names.{is_beyond}
use Rattle.sw_shard_range.specs.Ranges.{index_in as index_among}
use Rattle.sw_shard_range.specs.States.{all_in_state, with_state}
use Rattle.sw_shard_range.specs.declared.range.Range.{Range}
use Rattle.sw_split_steps.specs.Laws.{ServedAgrees}
use Rattle.sw_split_steps.specs.Tables.{ways_of}

-- ---- the same ranges in other states

pub ways-all : (state : ℕ) (rs : List Range) → ways_of (all_in_state state rs) ≡ ways_of rs
ways-all state [] = refl
ways-all state (r ∷ rs) = ap (λ (ws : List Way). way_of r ∷ ws) (ways-all state rs)

pub ways-with : (state n : ℕ) (rs : List Range) → ways_of (with_state state n rs) ≡ ways_of rs
ways-with state n [] = refl
ways-with state zero (r ∷ rs) = refl
ways-with state (suc n) (r ∷ rs) = ap (λ (ws : List Way). way_of r ∷ ws) (ways-with state n rs)

-- ---- indexes and shards

pub length-ways : (rs : List Range) → length (ways_of rs) ≡ length rs
length-ways [] = refl
length-ways (r ∷ rs) = ap suc (length-ways rs)

pub index-ways : (rs : List Range) (name : List ℕ) → index_in (ways_of rs) name ≡ index_among rs name
index-ways [] name = refl
index-ways (r ∷ rs) name = ap (λ (i : ℕ). cond (is_beyond r.upper name) (1 + i) 0) (index-ways rs name)

shard-ways : (rs : List Range) (i : ℕ) → shard_in (ways_of rs) i ≡ shard_at rs i
shard-ways [] i = refl
shard-ways (r ∷ rs) zero = refl
shard-ways (r ∷ rs) (suc i) = shard-ways rs i

pub served-same : (o : Option (List Range)) (cursor : ℕ) (name : List ℕ) → served_by o cursor name ≡ served_in (option_map ways_of o) cursor name
served-same None cursor name = refl
served-same (Some rs) cursor name =
    ap (λ (s : Option Place). cond (nat_lt (index_among rs name) cursor) s None) (sym (shard-ways rs (index_among rs name)))
    ∙ ap (λ (i : ℕ). cond (nat_lt i cursor) (shard_in (ways_of rs) i) None) (sym (index-ways rs name))

pub served-agrees : ServedAgrees
served-agrees t name = served-same t.ranges t.cursor name

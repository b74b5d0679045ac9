-- What is among the segments of parts, and which parts there are.
use Rattle.std.proofs.Common.{◌≡◌, ℕ, zero, suc, Bool, true, false, List, [], ◌∷◌, ◌++◌, map, take, Option, None, Some, refl, subst, ◌⊎◌, inl, inr}
use Rattle.std.proofs.lemmas.List.Elements.{All-contains}
use Rattle.std.specs.List.{All}
use Rattle.sw_hashpath.specs.declared.place.Place.{Place}
use Rattle.sw_machine.specs.Machine.{Machine}
use Rattle.sw_rows.specs.declared.numbered.Numbered.{Numbered}
use Rattle.sw_shard_listing.proofs.Members.{In, in-append, in-append-left, in-append-right, in-contains, in-reverse, reverse-in}
use Rattle.sw_shard_listing.specs.Ranges.{Segment, all_within, within}
use Rattle.sw_shard_range.specs.declared.range.Range.{Range}
use Rattle.sw_sharded_listing.specs.Laws.{segment_of}
use Rattle.sw_sharded_listing.specs.Parts.{Part, has_own, own_part, own_parts, served_in, turned}
use Rattle.sw_across_laws.specs.Picked.{held_segments, picked_part, picked_parts, tables_at}

-- ---- segments of parts

-- the rows that a part shows
abbrev pub shown_of : Machine → Part → Segment
shown_of m p = segment_of p (tables_at m p)

module _ (m : Machine) where
  pub into : (ps : List Part) (p : Part) (n : Numbered) → In p ps → In n (within (shown_of m p)) → In n (all_within (held_segments m ps))
  into [] p n i j = absurd i
  into (q ∷ ps) p n (inl same) j =
      in-append-left n (within (shown_of m q)) (all_within (held_segments m ps)) (subst (λ (x : Part). In n (within (shown_of m x))) same j)
  into (q ∷ ps) p n (inr i) j = in-append-right n (within (shown_of m q)) (all_within (held_segments m ps)) (into ps p n i j)

  -- a part of these shows the row
  abbrev IsShownBy : List Part → Numbered → Type 0
  IsShownBy ps n = (p : Part) × In p ps × In n (within (shown_of m p))

  pub out-of : (ps : List Part) (n : Numbered) → In n (all_within (held_segments m ps)) → IsShownBy ps n
  out-of [] n i = absurd i
  out-of (q ∷ ps) n i = by (out-of ps n) (in-append n (within (shown_of m q)) (all_within (held_segments m ps)) i)
    where
      by : (In n (all_within (held_segments m ps)) → IsShownBy ps n) → In n (within (shown_of m q)) ⊎ In n (all_within (held_segments m ps))
          → IsShownBy (q ∷ ps) n
      by rest (inl a) = (q, inl refl, a)
      by rest (inr a) = let p = rest a in (p.0, inr p.1, p.2)

-- ---- the parts of a container

in-turned : (back : Bool) (ps : List Part) (p : Part) → In p ps → In p (turned back ps)
in-turned true ps p i = in-reverse p ps i
in-turned false ps p i = i

turned-in : (back : Bool) (ps : List Part) (p : Part) → In p (turned back ps) → In p ps
turned-in true ps p i = reverse-in p ps i
turned-in false ps p i = i

module _ (pick : Place → ℕ) where
  mapped-in : (rs : List Range) (r : Range) → In r rs → In (picked_part pick r) (map (picked_part pick) rs)
  mapped-in [] r i = absurd i
  mapped-in (s ∷ rs) r (inl same) = inl (λ k. picked_part pick (same k))
  mapped-in (s ∷ rs) r (inr i) = inr (mapped-in rs r i)

  -- the part is that of one of these ranges
  abbrev pub IsOfShard : List Range → Part → Type 0
  IsOfShard rs p = (r : Range) × In r rs × (p ≡ picked_part pick r)

  in-mapped : (rs : List Range) (p : Part) → In p (map (picked_part pick) rs) → IsOfShard rs p
  in-mapped [] p i = absurd i
  in-mapped (s ∷ rs) p (inl same) = (s, inl refl, same)
  in-mapped (s ∷ rs) p (inr i) = let r = in-mapped rs p i in (r.0, inr r.1, r.2)

  module _ (device : ℕ) (place : Place) (back : Bool) (o : Option (List Range)) (cursor : ℕ) where
    abbrev served : List Range
    served = served_in o cursor

    abbrev own : List Part
    own = own_parts device place served (has_own o cursor)

    abbrev all : List Part
    all = map (picked_part pick) served ++ own

    -- each range that is left to its shard has a part
    pub shard-in : (r : Range) → In r served → In (picked_part pick r) (picked_parts pick device place back o cursor)
    shard-in r i = in-turned back all (picked_part pick r) (in-append-left (picked_part pick r) (map (picked_part pick) served) own (mapped-in served r i))

    -- and so has what the container has itself
    pub own-in : has_own o cursor ≡ true → In (own_part device place served) (picked_parts pick device place back o cursor)
    own-in has =
        in-turned back all (own_part device place served)
        (in-append-right (own_part device place served) (map (picked_part pick) served) own (at (has_own o cursor) has))
      where
        at : (b : Bool) → b ≡ true → In (own_part device place served) (own_parts device place served b)
        at true has = inl refl
        at false has = cc

    -- there are no others
    pub one-of : (p : Part) → In p (picked_parts pick device place back o cursor) → IsOfShard served p ⊎ (p ≡ own_part device place served)
    one-of p i = by (in-append p (map (picked_part pick) served) own (turned-in back all p i))
      where
        at : (b : Bool) → In p (own_parts device place served b) → p ≡ own_part device place served
        at true (inl same) = same
        at true (inr never) = absurd never
        at false never = absurd never

        by : In p (map (picked_part pick) served) ⊎ In p own → IsOfShard served p ⊎ (p ≡ own_part device place served)
        by (inl a) = inl (in-mapped served p a)
        by (inr a) = inr (at (has_own o cursor) a)

-- ---- ranges that are left to shards

take-in : (n : ℕ) (rs : List Range) (r : Range) → In r (take n rs) → In r rs
take-in zero rs r i = absurd i
take-in (suc n) [] r i = absurd i
take-in (suc n) (s ∷ rs) r (inl same) = inl same
take-in (suc n) (s ∷ rs) r (inr i) = inr (take-in n rs r i)

-- what is true of all ranges is true of these
pub of-served : (P : Range → Type 0) (o : Option (List Range)) (cursor : ℕ) → ((ranges : List Range) → o ≡ Some ranges → All P ranges) → (r : Range)
    → In r (served_in o cursor) → P r
of-served P None cursor each r i = absurd i
of-served P (Some ranges) cursor each r i = All-contains P ranges r (each ranges refl) (in-contains r ranges (take-in cursor ranges r i))

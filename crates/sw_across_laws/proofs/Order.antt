-- Parts of ranges that are all names, each once, are in order, whichever devices are picked.
use Rattle.std.proofs.Common.{◌≡◌, ℕ, ◌+◌, zero, suc, Bool, true, false, not, nat_lt, arith, if◌then◌else◌, List, [], ◌∷◌, ◌++◌, length, map, take}
use Rattle.std.proofs.Common.{Option, None, Some, refl, sym, ◌∙◌, subst, ◌⊎◌, inl, inr}
use Rattle.std.specs.Bool.{⊤}
use Rattle.std.proofs.lemmas.Bool.{and_parts}
use Rattle.std.proofs.lemmas.Bool.Decides.{nat_tests}
use Rattle.sw_hashpath.specs.declared.place.Place.{Place}
use Rattle.sw_listing.specs.Asking.{is_above, is_before}
use Rattle.sw_machine.specs.Machine.{Machine}
use Rattle.sw_shard_listing.proofs.Bounds.{above-is, over}
use Rattle.sw_shard_listing.proofs.Order.{Lt, lt-total, lt-trans}
use Rattle.sw_shard_listing.specs.Laws.{AreInTurn}
use Rattle.sw_shard_listing.specs.Ranges.{is_between, is_up_to}
use Rattle.sw_shard_range.specs.Laws.{AreTiled}
use Rattle.sw_shard_range.specs.Ranges.{fault_from}
use Rattle.sw_shard_range.specs.declared.range.Range.{Range}
use Rattle.sw_sharded_listing.proofs.Turning.{InOrder, in-turn, turned-order}
use Rattle.sw_sharded_listing.specs.Parts.{Part, end_of}
use Rattle.sw_across_laws.proofs.Tiled.{fewer, inside, last}
use Rattle.sw_across_laws.specs.Picked.{held_segments, picked_part, picked_parts, tables_at}

abbrev HasName : Part → List ℕ → Type 0
HasName p n = is_between p.lower p.upper n ≡ true

-- ---- names of two parts

abbrev up_to : List ℕ → List ℕ → Bool
up_to [] x = true
up_to (b ∷ bs) x = not (is_before (b ∷ bs) x)

up-to-is : (bound x : List ℕ) → is_up_to bound x ≡ up_to bound x
up-to-is [] x = refl
up-to-is (b ∷ bs) x = grind (arith, nat_tests)

not-both : (b : Bool) → not b ≡ true → b ≡ true → ⊥
not-both true is same = cc
not-both false is same = cc

-- there is a text below the bound, so it is one
above-some : (lower bound n : List ℕ) → Lt lower bound → is_above bound n ≡ true → Lt bound n
above-some lower bound n less above = by lower bound less (sym (above-is bound n) ∙ above)
  where
    by : (lower bound : List ℕ) → Lt lower bound → over bound n ≡ true → Lt bound n
    by [] [] less above = cc
    by (l ∷ ls) [] less above = cc
    by lower (b ∷ bs) less above = above

up-to-less : (lower bound m n : List ℕ) → Lt lower bound → is_up_to bound m ≡ true → Lt bound n → Lt m n
up-to-less lower bound m n less last above = by lower bound less (sym (up-to-is bound m) ∙ last) above
  where
    by : (lower bound : List ℕ) → Lt lower bound → up_to bound m ≡ true → Lt bound n → Lt m n
    by [] [] less last above = cc
    by (l ∷ ls) [] less last above = cc
    by lower (b ∷ bs) less last above = at (lt-total m (b ∷ bs))
      where
        at : Lt m (b ∷ bs) ⊎ (m ≡ b ∷ bs) ⊎ Lt (b ∷ bs) m → Lt m n
        at (inl under) = lt-trans m (b ∷ bs) n under above
        at (inr (inl same)) = subst (λ (x : List ℕ). Lt x n) (sym same) above
        at (inr (inr behind)) = absurd (not-both (is_before (b ∷ bs) m) last behind)

is-above : (bound n : List ℕ) → Lt bound n → is_above bound n ≡ true
is-above bound n less = above-is bound n ∙ by bound less
  where
    by : (bound : List ℕ) → Lt bound n → over bound n ≡ true
    by [] less = refl
    by (b ∷ bs) less = less

-- ---- parts from a bound on

abbrev AllAbove : List ℕ → List Part → Type 0
AllAbove bound [] = ⊤
AllAbove bound (q ∷ qs) = ((n : List ℕ) → HasName q n → is_above bound n ≡ true) × AllAbove bound qs

raised : (lower bound : List ℕ) (qs : List Part) → Lt lower bound → AllAbove bound qs → AllAbove lower qs
raised lower bound [] less all = tt
raised lower bound (q ∷ qs) less all =
    ((λ n has. is-above lower n (lt-trans lower bound n less (above-some lower bound n less (all.0 n has)))), raised lower bound qs less all.1)

in-front : (p : Part) (lower : List ℕ) (qs : List Part) → Lt lower p.upper → AllAbove p.upper qs → InOrder false qs → InOrder false (p ∷ qs)
in-front p lower [] less all order = (tt, order)
in-front p lower (q ∷ qs) less all order =
    let rest = in-front p lower qs less all.1 order.1 in (
      (
        (λ m n has will. up-to-less lower p.upper m n less (and_parts (is_above p.lower m) (is_up_to p.upper m) has).1
            (above-some lower p.upper n less (all.0 n will))),
        rest.0,
      ),
      order,
    )

abbrev IsFrom : List ℕ → List Part → Type 0
IsFrom bound ps = AllAbove bound ps × InOrder false ps

low : (p : Part) (bound : List ℕ) → p.lower ≡ bound → (n : List ℕ) → HasName p n → is_above bound n ≡ true
low p bound begins n has = subst (λ (x : List ℕ). is_above x n ≡ true) begins (and_parts (is_above p.lower n) (is_up_to p.upper n) has).0

alone : (p : Part) (bound : List ℕ) → p.lower ≡ bound → IsFrom bound (p ∷ [])
alone p bound begins = ((low p bound begins, tt), (tt, tt))

before : (p : Part) (bound : List ℕ) (ps : List Part) → p.lower ≡ bound → Lt bound p.upper → IsFrom p.upper ps → IsFrom bound (p ∷ ps)
before p bound ps begins less is = ((low p bound begins, raised bound p.upper ps less is.0), in-front p bound ps less is.0 is.1)

past : (c : ℕ) → nat_lt (suc c) 1 ≡ false
past c = grind (arith, nat_tests)

take-none : (c : ℕ) → take {A = Range} c [] ≡ []
take-none zero = refl
take-none (suc c) = refl

module _ (pick : Place → ℕ) (device : ℕ) (place : Place) where
  abbrev own_from : List ℕ → List Range → Bool → List Part
  own_from bound served own = if own then record { device = device; place = place; lower = end_of bound served; upper = [] } ∷ [] else []

  abbrev parts_from : List ℕ → List Range → Bool → List Part
  parts_from bound served own = map (picked_part pick) served ++ own_from bound served own

  own-only : (bound : List ℕ) (own : Bool) → IsFrom bound (parts_from bound [] own)
  own-only bound true = alone (record { device = device; place = place; lower = bound; upper = [] }) bound refl
  own-only bound false = (tt, tt)

  tiled-from : (bound : List ℕ) (index : ℕ) (ranges : List Range) (cursor : ℕ) (own : Bool) → own ≡ nat_lt cursor (length ranges)
      → fault_from bound index ranges ≡ None → IsFrom bound (parts_from bound (take cursor ranges) own)
  tiled-from bound index [] cursor own is none = cc
  tiled-from bound index (r ∷ rs) zero own is none = own-only bound own
  tiled-from bound index (r ∷ []) (suc c) own is none =
      subst (λ (rs : List Range). IsFrom bound (parts_from bound (r ∷ rs) own)) (sym (take-none c))
      (subst (λ (o : Bool). IsFrom bound (parts_from bound (r ∷ []) o)) (sym (is ∙ past c))
      (alone (picked_part pick r) bound (last bound index r none).begins))
  tiled-from bound index (r ∷ s ∷ rs) (suc c) own is none =
      let i = inside bound index r s rs none in
      before (picked_part pick r) bound (parts_from r.upper (take c (s ∷ rs)) own) i.begins i.ends
      (tiled-from r.upper (index + 1) (s ∷ rs) c own (is ∙ fewer c (length (s ∷ rs))) i.rest)

  picked-order : (ranges : Option (List Range)) (cursor : ℕ) → ((list : List Range) → ranges ≡ Some list → AreTiled list)
      → InOrder false (picked_parts pick device place false ranges cursor)
  picked-order None cursor tiled = (own-only [] true).1
  picked-order (Some ranges) cursor tiled = (tiled-from [] 0 ranges cursor (nat_lt cursor (length ranges)) refl (tiled ranges refl)).1

  -- what is shown of them is in turn, in both directions
  pub picked-in-turn : (m : Machine) (backwards : Bool) (ranges : Option (List Range)) (cursor : ℕ)
      → ((list : List Range) → ranges ≡ Some list → AreTiled list)
      → AreInTurn backwards (held_segments m (picked_parts pick device place backwards ranges cursor))
  picked-in-turn m backwards ranges cursor tiled =
      in-turn backwards (picked_parts pick device place backwards ranges cursor) (map (tables_at m) (picked_parts pick device place backwards ranges cursor))
      (turned-order backwards (picked_parts pick device place false ranges cursor) (picked-order ranges cursor tiled))

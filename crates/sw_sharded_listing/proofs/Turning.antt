-- Parts of ranges that are all names, each once, stand in the direction of the listing.
use Rattle.std.proofs.Common.{◌≡◌, ◌+◌, ℕ, zero, suc, Bool, true, false, ◌&&◌, not, arith, nat_lt, if◌then◌else◌, List, [], ◌∷◌, ◌++◌, length, map, reverse}
use Rattle.std.proofs.Common.{take, Option, None, Some, refl, sym, ◌∙◌, subst, ◌⊎◌, inl, inr}
use Rattle.std.proofs.lemmas.Slice.Eq.{bytes_eq-Decides}
use Rattle.std.specs.Bool.{⊤}
use Rattle.std.specs.Str.{bytes_eq}
use Rattle.sw_hashpath.specs.declared.place.Place.{Place}
use Rattle.sw_keeper.specs.declared.tables.Tables.{Tables}
use Rattle.sw_container_steps.specs.Serving.{unserved}
use Rattle.sw_listing.specs.Asking.{is_above, is_before}
use Rattle.sw_ring.specs.declared.ring.Ring.{Ring}
use Rattle.sw_rows.specs.declared.numbered.Numbered.{Numbered}
use Rattle.std.proofs.lemmas.Bool.Decides.{nat_tests}
use Rattle.sw_shard_listing.proofs.Bounds.{above-is, over}
use Rattle.sw_shard_listing.proofs.Members.{In, contains-in, in-append, reverse-cons}
use Rattle.sw_shard_listing.proofs.Order.{lt-total, lt-trans}
use Rattle.sw_shard_listing.proofs.Splitting.{filter-in}
use Rattle.sw_shard_listing.specs.Laws.{AreInTurn, is_ahead}
use Rattle.sw_shard_listing.specs.Ranges.{all_within, is_between, is_up_to, within}
use Rattle.sw_shard_range.specs.Ranges.{fault_from, fits_inside, fits_last}
use Rattle.sw_shard_range.specs.declared.range.Range.{Range}
use Rattle.sw_sharded_listing.specs.Laws.{segment_of, segments_of}
use Rattle.sw_sharded_listing.specs.Parts.{Part, end_of, shard_part, turned}

abbrev HasName : Part → List ℕ → Type 0
HasName p n = is_between p.lower p.upper n ≡ true

-- the names of a part come before those of another one
abbrev Ahead : Bool → Part → Part → Type 0
Ahead back p q = (m n : List ℕ) → HasName p m → HasName q n → is_ahead back m n ≡ true

abbrev AheadOfAll : Bool → Part → List Part → Type 0
AheadOfAll back p [] = ⊤
AheadOfAll back p (q ∷ qs) = Ahead back p q × AheadOfAll back p qs

abbrev pub InOrder : Bool → List Part → Type 0
InOrder back [] = ⊤
InOrder back (p ∷ ps) = AheadOfAll back p ps × InOrder back ps

-- ---- what is read of parts that are in order is in turn

in-within : (p : Part) (t : Tables) (n : Numbered) → In n (within (segment_of p t)) → HasName p n.row.name
in-within p t n i = (filter-in (λ (o : Numbered). is_between p.lower p.upper o.row.name) (unserved t) n i).1

ahead-in : (back : Bool) (p : Part) (ps : List Part) (read : List Tables) (m : List ℕ) (n : Numbered) → HasName p m → AheadOfAll back p ps
    → In n (all_within (segments_of ps read)) → is_ahead back m n.row.name ≡ true
ahead-in back p [] read m n has ahead i = absurd i
ahead-in back p (q ∷ qs) [] m n has ahead i = absurd i
ahead-in back p (q ∷ qs) (t ∷ ts) m n has ahead i =
    by (ahead-in back p qs ts m n has ahead.1) (in-append n (within (segment_of q t)) (all_within (segments_of qs ts)) i)
  where
    by : (In n (all_within (segments_of qs ts)) → is_ahead back m n.row.name ≡ true) → In n (within (segment_of q t)) ⊎ In n (all_within (segments_of qs ts))
        → is_ahead back m n.row.name ≡ true
    by more (inl a) = ahead.0 m n.row.name has (in-within q t n a)
    by more (inr b) = more b

pub in-turn : (back : Bool) (ps : List Part) (read : List Tables) → InOrder back ps → AreInTurn back (segments_of ps read)
in-turn back [] read order = tt
in-turn back (p ∷ ps) [] order = tt
in-turn back (p ∷ ps) (t ∷ ts) order = (
  (λ m n i j. ahead-in back p ps ts m.row.name n (in-within p t m (contains-in m (within (segment_of p t)) i)) order.0
      (contains-in n (all_within (segments_of ps ts)) j)),
  in-turn back ps ts order.1,
)

-- ---- turned round

abbrev EachAhead : Bool → List Part → Part → Type 0
EachAhead back [] p = ⊤
EachAhead back (x ∷ xs) p = Ahead back x p × EachAhead back xs p

ahead-append : (back : Bool) (x : Part) (xs : List Part) (p : Part) → AheadOfAll back x xs → Ahead back x p → AheadOfAll back x (xs ++ p ∷ [])
ahead-append back x [] p all last = (last, tt)
ahead-append back x (y ∷ ys) p all last = (all.0, ahead-append back x ys p all.1 last)

order-append : (back : Bool) (xs : List Part) (p : Part) → InOrder back xs → EachAhead back xs p → InOrder back (xs ++ p ∷ [])
order-append back [] p order each = (tt, tt)
order-append back (x ∷ xs) p order each = (ahead-append back x xs p order.0 each.0, order-append back xs p order.1 each.1)

each-append : (back : Bool) (xs : List Part) (q p : Part) → EachAhead back xs p → Ahead back q p → EachAhead back (xs ++ q ∷ []) p
each-append back [] q p each last = (last, tt)
each-append back (x ∷ xs) q p each last = (each.0, each-append back xs q p each.1 last)

each-turned : (p : Part) (ps : List Part) → AheadOfAll false p ps → EachAhead true (reverse ps) p
each-turned p [] all = tt
each-turned p (q ∷ qs) all =
    subst (λ (xs : List Part). EachAhead true xs p) (sym (reverse-cons q qs))
    (each-append true (reverse qs) q p (each-turned p qs all.1) (λ m n h k. all.0 n m k h))

order-turned : (ps : List Part) → InOrder false ps → InOrder true (reverse ps)
order-turned [] order = tt
order-turned (p ∷ ps) order =
    subst (λ (xs : List Part). InOrder true xs) (sym (reverse-cons p ps))
    (order-append true (reverse ps) p (order-turned ps order.1) (each-turned p ps order.0))

pub turned-order : (back : Bool) (ps : List Part) → InOrder false ps → InOrder back (turned back ps)
turned-order true ps order = order-turned ps order
turned-order false ps order = order

-- ---- tiled ranges

and-left : (a b : Bool) → (a && b) ≡ true → a ≡ true
and-left true b both = refl
and-left false b both = cc

and-right : (a b : Bool) → (a && b) ≡ true → b ≡ true
and-right true b both = both
and-right false b both = cc

abbrev Lt : List ℕ → List ℕ → Type 0
Lt x y = is_before x y ≡ true

abbrev up_to : List ℕ → List ℕ → Bool
up_to [] x = true
up_to (b ∷ bs) x = not (is_before (b ∷ bs) x)

up-to-is : (bound x : List ℕ) → is_up_to bound x ≡ up_to bound x
up-to-is [] x = refl
up-to-is (b ∷ bs) x = grind (arith, nat_tests)

-- there is a text below the bound, so it is one
above-some : (lower bound n : List ℕ) → Lt lower bound → is_above bound n ≡ true → Lt bound n
above-some lower bound n less above = by lower bound less (sym (above-is bound n) ∙ above)
  where
    by : (lower bound : List ℕ) → Lt lower bound → over bound n ≡ true → Lt bound n
    by [] [] less above = cc
    by (l ∷ ls) [] less above = cc
    by lower (b ∷ bs) less above = above

not-over : (b : Bool) → not b ≡ true → b ≡ true → ⊥
not-over true is same = cc
not-over false is same = cc

up-to : (lower bound m n : List ℕ) → Lt lower bound → is_up_to bound m ≡ true → Lt bound n → Lt m n
up-to lower bound m n less last above = by lower bound less (sym (up-to-is bound m) ∙ last) above
  where
    by : (lower bound : List ℕ) → Lt lower bound → up_to bound m ≡ true → Lt bound n → Lt m n
    by [] [] less last above = cc
    by (l ∷ ls) [] less last above = cc
    by lower (b ∷ bs) less last above = at (lt-total m (b ∷ bs))
      where
        at : Lt m (b ∷ bs) ⊎ (m ≡ b ∷ bs) ⊎ Lt (b ∷ bs) m → Lt m n
        at (inl under) = lt-trans m (b ∷ bs) n under above
        at (inr (inl same)) = subst (λ (x : List ℕ). Lt x n) (sym same) above
        at (inr (inr behind)) = absurd (not-over (is_before (b ∷ bs) m) last behind)

is-above : (bound n : List ℕ) → Lt bound n → is_above bound n ≡ true
is-above bound n less = above-is bound n ∙ by bound less
  where
    by : (bound : List ℕ) → Lt bound n → over bound n ≡ true
    by [] less = refl
    by (b ∷ bs) less = less

abbrev AllAbove : List ℕ → List Part → Type 0
AllAbove bound [] = ⊤
AllAbove bound (q ∷ qs) = ((n : List ℕ) → HasName q n → is_above bound n ≡ true) × AllAbove bound qs

raised : (lower bound : List ℕ) (qs : List Part) → Lt lower bound → AllAbove bound qs → AllAbove lower qs
raised lower bound [] less all = tt
raised lower bound (q ∷ qs) less all =
    ((λ n has. is-above lower n (lt-trans lower bound n less (above-some lower bound n less (all.0 n has)))), raised lower bound qs less all.1)

ahead-above : (p : Part) (lower : List ℕ) (qs : List Part) → Lt lower p.upper → AllAbove p.upper qs → AheadOfAll false p qs
ahead-above p lower [] less all = tt
ahead-above p lower (q ∷ qs) less all = (
  (λ m n has will. up-to lower p.upper m n less (and-right (is_above p.lower m) (is_up_to p.upper m) has)
      (above-some lower p.upper n less (all.0 n will))),
  ahead-above p lower qs less all.1,
)

same-text : (x y : List ℕ) → bytes_eq x y ≡ true → x ≡ y
same-text x y same = (bytes_eq-Decides x y).0 same

fit : (fits : Bool) (rest : Option ℕ) (index : ℕ) → (if fits then rest else Some index) ≡ None → (fits ≡ true) × (rest ≡ None)
fit true rest index none = (refl, none)
fit false rest index none = cc

past : (c : ℕ) → nat_lt (suc c) 1 ≡ false
past c = grind (arith, nat_tests)

fewer : (c n : ℕ) → nat_lt (suc c) (suc n) ≡ nat_lt c n
fewer c n = grind (arith, nat_tests)

take-none : (c : ℕ) → take {A = Range} c [] ≡ []
take-none zero = refl
take-none (suc c) = refl

module _ (ring : Ring) (device : ℕ) (place : Place) (replica : ℕ) where
  abbrev own_from : List ℕ → List Range → Bool → List Part
  own_from bound served own = if own then record { device = device; place = place; lower = end_of bound served; upper = [] } ∷ [] else []

  abbrev pub parts_from : List ℕ → List Range → Bool → List Part
  parts_from bound served own = map (shard_part ring replica) served ++ own_from bound served own

  abbrev IsFrom : List ℕ → List Part → Type 0
  IsFrom bound ps = AllAbove bound ps × InOrder false ps

  pub own-only : (bound : List ℕ) (own : Bool) → IsFrom bound (parts_from bound [] own)
  own-only bound true = (((λ n has. and-left (is_above bound n) (is_up_to [] n) has), tt), (tt, tt))
  own-only bound false = (tt, tt)

  next : (r : Range) (bound : List ℕ) (ps : List Part) → fits_inside bound r ≡ true → IsFrom r.upper ps → IsFrom bound (shard_part ring replica r ∷ ps)
  next r bound ps fits is =
      let begins : r.lower ≡ bound = same-text r.lower bound (and-left _ _ fits) in
      let less : Lt bound r.upper = subst (λ (x : List ℕ). Lt x r.upper) begins (and-right _ _ fits) in (
        (
          (λ n has. subst (λ (x : List ℕ). is_above x n ≡ true) begins (and-left (is_above r.lower n) (is_up_to r.upper n) has)),
          raised bound r.upper ps less is.0,
        ),
        (ahead-above (shard_part ring replica r) bound ps less is.0, is.1),
      )

  last : (r : Range) (bound : List ℕ) → fits_last bound r ≡ true → IsFrom bound (shard_part ring replica r ∷ [])
  last r bound fits =
      let begins : r.lower ≡ bound = same-text r.lower bound (and-left _ _ fits) in (
        ((λ n has. subst (λ (x : List ℕ). is_above x n ≡ true) begins (and-left (is_above r.lower n) (is_up_to r.upper n) has)), tt),
        (tt, tt),
      )

  pub tiled-from : (bound : List ℕ) (index : ℕ) (ranges : List Range) (cursor : ℕ) (own : Bool) → own ≡ nat_lt cursor (length ranges)
      → fault_from bound index ranges ≡ None → IsFrom bound (parts_from bound (take cursor ranges) own)
  tiled-from bound index [] cursor own is none = cc
  tiled-from bound index (r ∷ rs) zero own is none = own-only bound own
  tiled-from bound index (r ∷ []) (suc c) own is none =
      subst (λ (rs : List Range). IsFrom bound (parts_from bound (r ∷ rs) own)) (sym (take-none c))
      (subst (λ (o : Bool). IsFrom bound (parts_from bound (r ∷ []) o)) (sym (is ∙ past c)) (last r bound (fit (fits_last bound r) None index none).0))
  tiled-from bound index (r ∷ s ∷ rs) (suc c) own is none =
      let fits = fit (fits_inside bound r) (fault_from r.upper (index + 1) (s ∷ rs)) index none in
      next r bound (parts_from r.upper (take c (s ∷ rs)) own) fits.0
      (tiled-from r.upper (index + 1) (s ∷ rs) c own (is ∙ fewer c (length (s ∷ rs))) fits.1)

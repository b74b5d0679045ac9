-- Where the volumes and keepers of nodes rest once they were given back around the device that is out.
use Rattle.std.proofs.Common.{◌≡◌, ◌∙◌, ℕ, suc, ◌+◌, ◌-◌, ◌*◌, ◌/◌, ◌%◌, ◌^◌, ◌<◌, ◌≤◌, Bool, true, false, not, List, ◌++◌}
use Rattle.std.proofs.Common.{length, refl, sym, ap, subst, arith, Option, None, Some, ◌⊎◌, inl, inr}
use Rattle.std.specs.Prelude.{◌&&◌, nat_lt, nat_le}
use Rattle.std.specs.List.{slice_get}
use Rattle.std.proofs.lemmas.Bool.{and_from, and_parts, cases_lt, false_from_ne_true, leb-true, le-leb, lt-ltb, ltb-true, or_cases, or_left, or_right}
use Rattle.std.proofs.Math.Nat.{mul-le-mul_right, suc-mul}
use Rattle.std.proofs.lemmas.Nat.{div-add-mod', mod_below}
use Rattle.std.proofs.lemmas.Option.{slice_get_within}
use Rattle.sw_container_db.specs.ContDirs.{ContKept}
use Rattle.sw_container_locks.specs.declared.cont_slot.ContSlot.TheVariants as cont_slots
use Rattle.sw_core.specs.Stopping.{Gives, gap_first, gap_past}
use Rattle.sw_core.specs.Worlds.{AllNodes, IsSlot, IsWorld, first_of, is_out, past_of}
use Rattle.sw_core.specs.declared.slot.Slot.TheVariants as slots
use Rattle.sw_objdir.specs.Directories.{Kept}
use Rattle.sw_ring.specs.declared.ring.Ring.{Ring}
use Rattle.sw_stores.proofs.AtPlaces.{resting-at}
use Rattle.sw_stores.specs.Places.{ComeHome, IsSameBut, at_place, is_among, is_around}
use Rattle.sw_stores.specs.Starting.{AreResting}
use Rattle.sw_nodes.specs.Nodes.{out_but, places_at, places_of}

-- ---- places

pub among-parts : (stripes first count d s : ℕ) → is_among stripes first count d s ≡ true → (s < stripes) × (first ≤ d * stripes + s)
    × (d * stripes + s < first + count)
among-parts stripes first count d s is =
    let low = and_parts (nat_lt s stripes) (nat_le first (d * stripes + s) && nat_lt (d * stripes + s) (first + count)) is in
    let high = and_parts (nat_le first (d * stripes + s)) (nat_lt (d * stripes + s) (first + count)) low.1 in
    (ltb-true s stripes low.0, leb-true first (d * stripes + s) high.0, ltb-true (d * stripes + s) (first + count) high.1)

among-from : (stripes first count d s : ℕ) → s < stripes → first ≤ d * stripes + s → d * stripes + s < first + count → is_among stripes first count d s ≡ true
among-from stripes first count d s low from below =
    and_from (nat_lt s stripes) (nat_le first (d * stripes + s) && nat_lt (d * stripes + s) (first + count)) (lt-ltb s stripes low)
    (and_from (nat_le first (d * stripes + s)) (nat_lt (d * stripes + s) (first + count)) (le-leb first (d * stripes + s) from)
    (lt-ltb (d * stripes + s) (first + count) below))

-- the pair of a place is among those of a range that has the place
pub among-place : (stripes first count place : ℕ) → 0 < stripes → first ≤ place → place < first + count
    → is_among stripes first count (place / stripes) (place % stripes) ≡ true
among-place stripes first count place some from below =
    let whole : place / stripes * stripes + place % stripes ≡ place = div-add-mod' place stripes in
    among-from stripes first count (place / stripes) (place % stripes) (mod_below place stripes some) (omega (arith, whole)) (omega (arith, whole))

-- ---- what is out

not-out : (a b : Bool) → (b ≡ true → a ≡ true) → (not a && b) ≡ false
not-out true b within = refl
not-out false true within = let never : false ≡ true = within refl in cc
not-out false false within = refl

module _ (ring : Ring) where
  abbrev S : ℕ
  S = 2 ^ ring.lock_bits

  abbrev all : ℕ
  all = length ring.devices * 2 ^ ring.lock_bits

  -- what is out of the volumes of a ring is around the device that is lifted
  out-around : (lifted : Option ℕ) (d s : ℕ) → out_but ring lifted d s ≡ true
      → is_around (2 ^ ring.lock_bits) (gap_first ring.lock_bits lifted) (gap_past ring.lock_bits lifted) (length ring.devices * 2 ^ ring.lock_bits) d s ≡ true
  out-around None d s is =
      let parts = among-parts S 0 all d s is in
      or_right (is_among S 0 0 d s) (is_among S 0 (all - 0) d s) (among-from S 0 (all - 0) d s parts.0 parts.1 (omega (arith, parts.2)))
  out-around (Some device) d s is =
      let both = and_parts (places_of ring d s) (not (places_at ring device d s)) is in
      let parts = among-parts S 0 all d s both.0 in
      by parts.0 parts.2 both.1 (cases_lt (d * S + s) (first_of ring.lock_bits device)) (cases_lt (d * S + s) (past_of ring.lock_bits device))
    where
      by : s < S → d * S + s < 0 + all → not (places_at ring device d s) ≡ true
          → (d * S + s < first_of ring.lock_bits device) ⊎ (first_of ring.lock_bits device ≤ d * S + s)
          → (d * S + s < past_of ring.lock_bits device) ⊎ (past_of ring.lock_bits device ≤ d * S + s)
          → is_around S (first_of ring.lock_bits device) (past_of ring.lock_bits device) all d s ≡ true
      by low below apart (inl before) any =
          or_left (is_among S 0 (first_of ring.lock_bits device) d s) _
          (among-from S 0 (first_of ring.lock_bits device) d s low (omega arith) (omega (arith, before)))
      by low below apart (inr from) (inr behind) =
          or_right (is_among S 0 (first_of ring.lock_bits device) d s) _
          (among-from S (past_of ring.lock_bits device) (all - past_of ring.lock_bits device) d s low behind (omega (arith, behind, below)))
      by low below apart (inr from) (inl before) =
          let here : places_at ring device d s ≡ true = among-from S (first_of ring.lock_bits device) S d s low from before in
          let never : false ≡ true = sym (ap not here) ∙ apart in
          cc

  -- and what is around it is out, where it is one of the ring's
  pub around-out : (lifted : Option ℕ) → ((device : ℕ) → lifted ≡ Some device → device < length ring.devices) → (d s : ℕ)
      → is_around (2 ^ ring.lock_bits) (gap_first ring.lock_bits lifted) (gap_past ring.lock_bits lifted) (length ring.devices * 2 ^ ring.lock_bits) d s ≡ true
      → out_but ring lifted d s ≡ true
  around-out None known d s is = by (or_cases (is_among S 0 0 d s) (is_among S 0 (all - 0) d s) is)
    where
      by : (is_among S 0 0 d s ≡ true) ⊎ (is_among S 0 (all - 0) d s ≡ true) → places_of ring d s ≡ true
      by (inl none) = let parts = among-parts S 0 0 d s none in absurd (omega (arith, parts.2))
      by (inr some) = let parts = among-parts S 0 (all - 0) d s some in among-from S 0 all d s parts.0 parts.1 (omega (arith, parts.2))
  around-out (Some device) known d s is =
      by (or_cases (is_among S 0 (first_of ring.lock_bits device) d s) (is_among S (past_of ring.lock_bits device) (all - past_of ring.lock_bits device) d s)
      is)
    where
      within : past_of ring.lock_bits device ≤ all
      within = let below : device < length ring.devices = known device refl in
          let further : (suc device) * S ≤ all = mul-le-mul_right {m = suc device} {n = length ring.devices} S (omega (arith, below)) in
          let past : (suc device) * S ≡ device * S + S = suc-mul device S in
          omega (arith, further, past)

      away : (places_at ring device d s ≡ true → ⊥) → not (places_at ring device d s) ≡ true
      away apart = ap not (false_from_ne_true (places_at ring device d s) apart)

      by : (is_among S 0 (first_of ring.lock_bits device) d s ≡ true) ⊎
          (is_among S (past_of ring.lock_bits device) (all - past_of ring.lock_bits device) d s ≡ true)
          → (places_of ring d s && not (places_at ring device d s)) ≡ true
      by (inl before) =
          let parts = among-parts S 0 (first_of ring.lock_bits device) d s before in
          and_from (places_of ring d s) (not (places_at ring device d s))
          (among-from S 0 all d s parts.0 (omega arith) (omega (arith, parts.2, within)))
          (away (λ here. let own = among-parts S (first_of ring.lock_bits device) S d s here in absurd (omega (arith, own.1, parts.2))))
      by (inr behind) =
          let parts = among-parts S (past_of ring.lock_bits device) (all - past_of ring.lock_bits device) d s behind in
          and_from (places_of ring d s) (not (places_at ring device d s))
          (among-from S 0 all d s parts.0 (omega arith) (omega (arith, parts.2, within)))
          (away (λ here. let own = among-parts S (first_of ring.lock_bits device) S d s here in absurd (omega (arith, own.2, parts.1))))

  -- so nothing is out any longer once those came home
  pub all-home : (lifted : Option ℕ) (old new : ℕ → ℕ → Bool)
      → ComeHome (is_around (2 ^ ring.lock_bits) (gap_first ring.lock_bits lifted) (gap_past ring.lock_bits lifted)
      (length ring.devices * 2 ^ ring.lock_bits)) old new
      → ((d s : ℕ) → old d s ≡ out_but ring lifted d s) → (d s : ℕ) → new d s ≡ false
  all-home lifted old new home out d s = home d s ∙ not-out _ (old d s) (λ is. out-around lifted d s (sym (out d s) ∙ is))

  -- and the places of the device that is lifted are not around it
  pub gap-same : {T : Type 0} (device : ℕ) (old new : ℕ → ℕ → T)
      → IsSameBut (is_around (2 ^ ring.lock_bits) (first_of ring.lock_bits device) (past_of ring.lock_bits device) (length ring.devices * 2 ^ ring.lock_bits))
      old new
      → (d s : ℕ) → places_at ring device d s ≡ true → new d s ≡ old d s
  gap-same device old new same d s is =
      let parts = among-parts S (first_of ring.lock_bits device) S d s is in
      same d s (false_from_ne_true _ (λ around. apart parts.1 parts.2 (or_cases (is_among S 0 (first_of ring.lock_bits device) d s) _ around)))
    where
      apart : first_of ring.lock_bits device ≤ d * S + s → d * S + s < first_of ring.lock_bits device + S
          → (is_among S 0 (first_of ring.lock_bits device) d s ≡ true) ⊎
          (is_among S (past_of ring.lock_bits device) (all - past_of ring.lock_bits device) d s ≡ true) → ⊥
      apart from below (inl before) = let parts = among-parts S 0 (first_of ring.lock_bits device) d s before in absurd (omega (arith, from, parts.2))
      apart from below (inr behind) =
          let parts = among-parts S (past_of ring.lock_bits device) (all - past_of ring.lock_bits device) d s behind in absurd (omega (arith, below, parts.1))

-- ---- what rests

module _ {V K : Type 0} (w : AllNodes V K) (is : IsWorld w) (rests : ℕ → ℕ → Option (V × K)) (parts : List (V × K)) (gives : Gives w.lifted w parts)
    (given : (before behind : List (V × K)) → parts ≡ before ++ behind → length before ≡ gap_first w.lock_bits w.lifted
    → AreResting rests (2 ^ w.lock_bits) 0 before × AreResting rests (2 ^ w.lock_bits) (gap_past w.lock_bits w.lifted) behind) where
  abbrev resting : AreResting rests (2 ^ w.lock_bits) 0 gives.before × AreResting rests (2 ^ w.lock_bits) (gap_past w.lock_bits w.lifted) gives.behind
  resting = given gives.before gives.behind gives.all gives.low

  -- no directory is open in the gap
  none-in-gap : (lifted : Option ℕ) (l : ℕ) (k : Kept V) → slice_get w.slots l ≡ Some (slots.Open k)
      → IsSlot w.secrets w.power w.max_bytes (is_out w.lock_bits lifted l) (slice_get w.slots l) → gap_first w.lock_bits lifted ≤ l
      → l < gap_past w.lock_bits lifted → ⊥
  none-in-gap None l k at slot from below = absurd (omega (arith, below))
  none-in-gap (Some device) l k at slot from below =
      let out : is_out w.lock_bits (Some device) l ≡ true =
      and_from (nat_le (first_of w.lock_bits device) l) (nat_lt l (past_of w.lock_bits device)) (le-leb (first_of w.lock_bits device) l from)
      (lt-ltb l (past_of w.lock_bits device) below) in
      apart (sym at ∙ subst (λ (b : Bool). IsSlot w.secrets w.power w.max_bytes b (slice_get w.slots l)) out slot)
    where
      apart : Some (slots.Open k) ≡ Some (slots.Lifted w.secrets) → ⊥
      apart same = cc

  -- the volume of each open directory rests at its place, with the keeper of the lock beside it
  pub rests-each : (l : ℕ) (k : Kept V) (c : ContKept K) → slice_get w.slots l ≡ Some (slots.Open k) → slice_get w.containers l ≡ Some (cont_slots.Open c)
      → at_place rests (2 ^ w.lock_bits) l ≡ Some (k.volume, c.keeper)
  rests-each l k c at beside = by (cases_lt l (gap_first w.lock_bits w.lifted)) (cases_lt l (gap_past w.lock_bits w.lifted))
    where
      by : (l < gap_first w.lock_bits w.lifted) ⊎ (gap_first w.lock_bits w.lifted ≤ l) → (l < gap_past w.lock_bits w.lifted)
          ⊎ (gap_past w.lock_bits w.lifted ≤ l)
          → at_place rests (2 ^ w.lock_bits) l ≡ Some (k.volume, c.keeper)
      by (inl low) any =
          let there : 0 + l ≡ l = omega arith in
          subst (λ (p : ℕ). at_place rests (2 ^ w.lock_bits) p ≡ Some (k.volume, c.keeper)) there
          (resting-at rests (2 ^ w.lock_bits) 0 gives.before l (k.volume, c.keeper) resting.0 (gives.first l k c low at beside))
      by (inr from) (inl below) = absurd (none-in-gap w.lifted l k at (is.slots l (slice_get_within w.slots l (slots.Open k) at)) from below)
      by (inr from) (inr behind) =
          let there : gap_past w.lock_bits w.lifted + (l - gap_past w.lock_bits w.lifted) ≡ l = omega (arith, behind) in
          subst (λ (p : ℕ). at_place rests (2 ^ w.lock_bits) p ≡ Some (k.volume, c.keeper)) there
          (resting-at rests (2 ^ w.lock_bits) (gap_past w.lock_bits w.lifted) gives.behind (l - gap_past w.lock_bits w.lifted) (k.volume, c.keeper)
          resting.1
          (gives.then (l - gap_past w.lock_bits w.lifted) k c (ap (slice_get w.slots) there ∙ at) (ap (slice_get w.containers) there ∙ beside)))

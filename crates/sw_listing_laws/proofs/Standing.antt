-- What stands at a device under a hash, by what reached it: nothing, or what counts at least as much as all that did.
use Rattle.std.proofs.Common.{◌≡◌, ℕ, ◌<◌, ◌≤◌, Bool, true, false, not, ◌&&◌, ◌||◌, ◌==◌, nat_lt, List, ◌∷◌, Option, None, Some, ◌⊎◌, inl, inr, refl, sym}
use Rattle.std.proofs.Common.{ap, arith, if◌then◌else◌, subst}
use Rattle.std.specs.List.{Contains}
use Rattle.std.specs.Option.{option_map}
use Rattle.std.proofs.lemmas.Bool.{ltb-false, ltb-true}
use Rattle.std.proofs.lemmas.Bool.Decides.{nat_tests}
use Rattle.sw_object_steps.specs.Journals.{Hash}
use Rattle.sw_object_steps.specs.Outlines.{is_before, mark_of, mark_time}
use Rattle.sw_pending_laws.proofs.Among.{behind, front-or-behind, in-front}
use Rattle.sw_pending_laws.proofs.Rows.{counts-self, counts-trans}
use Rattle.sw_pending_laws.specs.Ledger.{Reach, counts, covers}
use Rattle.sw_state.specs.Bases.{base_time, higher, is_above, is_deletion}
use Rattle.sw_state.specs.declared.base.Base.{Base}
use Rattle.sw_state.specs.declared.base.Base.TheVariants as bases

abbrev pub reach : ℕ → Hash → Base → Reach
reach device hash base = record { device = device; hash = hash; base = base }

abbrev pub Stands : List Reach → ℕ → Hash → Option Base → Type 0
Stands reached device hash None = (b : Base) → Contains reached (reach device hash b) → ⊥
Stands reached device hash (Some base) =
    Contains reached (reach device hash base) × ((b : Base) → Contains reached (reach device hash b) → covers base b ≡ true)

-- everything that reached the device under the hash is earlier
abbrev pub AreEarlier : List Reach → ℕ → Hash → ℕ → Type 0
AreEarlier reached device hash time = (b : Base) → Contains reached (reach device hash b) → base_time b < time

-- ---- which counts more

pub covers-self : (b : Base) → covers b b ≡ true
covers-self b = counts-self (base_time b) (is_deletion b)

covers-trans : (a b c : Base) → covers a b ≡ true → covers b c ≡ true → covers a c ≡ true
covers-trans a b c = counts-trans (base_time a) (is_deletion a) (base_time b) (is_deletion b) (base_time c) (is_deletion c)

abbrev beats : ℕ → Bool → ℕ → Bool → Bool
beats t d u e = nat_lt u t || ((u == t) && (d && not e))

beaten : (t : ℕ) (d : Bool) (u : ℕ) (e : Bool) → beats u e t d ≡ true → counts u e t d ≡ true
beaten t true u true is = grind (arith, nat_tests)
beaten t true u false is = grind (arith, nat_tests)
beaten t false u true is = grind (arith, nat_tests)
beaten t false u false is = grind (arith, nat_tests)

unbeaten : (t : ℕ) (d : Bool) (u : ℕ) (e : Bool) → beats u e t d ≡ false → counts t d u e ≡ true
unbeaten t true u true is = grind (arith, nat_tests)
unbeaten t true u false is = grind (arith, nat_tests)
unbeaten t false u true is = grind (arith, nat_tests)
unbeaten t false u false is = grind (arith, nat_tests)

covers-below : (b s : Base) → is_above b s ≡ true → covers b s ≡ true
covers-below b s = beaten (base_time s) (is_deletion s) (base_time b) (is_deletion b)

pub covers-not-above : (b s : Base) → is_above b s ≡ false → covers s b ≡ true
covers-not-above b s = unbeaten (base_time s) (is_deletion s) (base_time b) (is_deletion b)

no-later : (t : ℕ) (d : Bool) (u : ℕ) (e : Bool) → counts t d u e ≡ true → u ≤ t
no-later t d u e is = grind (arith, nat_tests)

covers-time : (a b : Base) → covers a b ≡ true → base_time b ≤ base_time a
covers-time a b = no-later (base_time a) (is_deletion a) (base_time b) (is_deletion b)

-- ---- times

mark-time : (b : Base) → mark_time (mark_of b) ≡ base_time b
mark-time (bases.Put time content) = refl
mark-time (bases.Del time) = refl

-- the time of what stands
abbrev pub standing : Option Base → Option ℕ
standing o = option_map mark_time (option_map mark_of o)

-- what isn't later stands at that time, or later
pub stands-late : (s : Base) (time : ℕ) → is_before (standing (Some s)) time ≡ false → time ≤ base_time s
stands-late s time before = subst (λ (n : ℕ). time ≤ n) (mark-time s) (ltb-false (mark_time (mark_of s)) time before)

-- ---- what reaches

same-base : (device : ℕ) (hash : Hash) (b c : Base) → reach device hash b ≡ reach device hash c → b ≡ c
same-base device hash b c same = ap (λ (a : Reach). a.base) same

module _ (reached : List Reach) (device : ℕ) (hash : Hash) where
  abbrev more : Base → List Reach
  more b = reach device hash b ∷ reached

  -- what all that reached is covered by, where one more does
  over-more : (top b : Base) → covers top b ≡ true → ((x : Base) → Contains reached (reach device hash x) → covers top x ≡ true)
      → (x : Base) → Contains (more b) (reach device hash x) → covers top x ≡ true
  over-more top b covers_it covers_all x there = by (front-or-behind (reach device hash b) reached (reach device hash x) there)
    where
      by : (reach device hash x ≡ reach device hash b) ⊎ Contains reached (reach device hash x) → covers top x ≡ true
      by (inl same) = subst (λ (y : Base). covers top y ≡ true) (sym (same-base device hash x b same)) covers_it
      by (inr old) = covers_all x old

  pub stands-more : (o : Option Base) (b : Base) → Stands reached device hash o → Stands (more b) device hash (higher o (Some b))
  stands-more None b none =
      (in-front (reach device hash b) reached, over-more b b (covers-self b) (λ x old. absurd (none x old)))
  stands-more (Some s) b stands = by (is_above b s) refl
    where
      by : (over : Bool) → is_above b s ≡ over → Stands (more b) device hash (Some (if over then b else s))
      by true is = (
        in-front (reach device hash b) reached,
        over-more b b (covers-self b) (λ x old. covers-trans b s x (covers-below b s is) (stands.1 x old)),
      )
      by false is = (behind (reach device hash b) reached (reach device hash s) stands.0, over-more s b (covers-not-above b s is) stands.1)

  -- what reached under another hash, or another device, makes no difference
  pub stands-apart : (a : Reach) → ((device ≡ a.device) × (hash ≡ a.hash) → ⊥) → (o : Option Base) → Stands reached device hash o
      → Stands (a ∷ reached) device hash o
  stands-apart a away o = by o
    where
      old : (b : Base) → Contains (a ∷ reached) (reach device hash b) → Contains reached (reach device hash b)
      old b there = at (front-or-behind a reached (reach device hash b) there)
        where
          at : (reach device hash b ≡ a) ⊎ Contains reached (reach device hash b) → Contains reached (reach device hash b)
          at (inl same) = absurd (away (ap (λ (x : Reach). x.device) same, ap (λ (x : Reach). x.hash) same))
          at (inr is) = is

      by : (o : Option Base) → Stands reached device hash o → Stands (a ∷ reached) device hash o
      by None none = λ b there. none b (old b there)
      by (Some s) stands = (behind a reached (reach device hash s) stands.0, λ b there. stands.1 b (old b there))

  -- what is later than what stands is later than all that reached
  pub all-earlier : (o : Option Base) (time : ℕ) → is_before (standing o) time ≡ true → Stands reached device hash o → AreEarlier reached device hash time
  all-earlier None time before none b there = absurd (none b there)
  all-earlier (Some s) time before stands b there =
      let earlier : base_time s < time = subst (λ (n : ℕ). n < time) (mark-time s) (ltb-true (mark_time (mark_of s)) time before) in
      le-lt (base_time b) (base_time s) time (covers-time s b (stands.1 b there)) earlier
    where
      le-lt : (a b c : ℕ) → a ≤ b → b < c → a < c
      le-lt a b c first second = omega (arith, first, second)

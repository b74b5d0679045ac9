-- The rule holds as the lock is made, and tells what is left as it is closed.
use Rattle.std.proofs.Common.{◌≡◌, ◌≢◌, ℕ, zero, suc, ◌-◌, ◌^◌, ◌<◌, true, false, true≢false, List, [], ◌∷◌, length, Option, Some, None, sym, refl, ap}
use Rattle.std.proofs.Common.{◌∙◌, subst, arith, inr, ⊎_elim}
use Rattle.std.proofs.lemmas.List.{length-replicate}
use mathlib.Core.Option.{some, some-injective, some-ne-none}
use mathlib.Core.Logic.{dite}
use native.Mathlib.Decide.{ℕ_discrete}
use lib.ListN.{get_elem?}
use Rattle.atomic_table.specs.Table.{Final, Seen, opening}
use Rattle.sw_turn.specs.declared.booked.Book.{Book}
use Rattle.sw_turn.specs.declared.booked.Known.{Known}
use Rattle.sw_turn.specs.declared.booked.View.{View}
use Rattle.sw_turn.specs.Known.{below, Grows, Tells, taken_in, nothing}
use Rattle.sw_turn.specs.Rule.{opened, OwnsAll, Fits, SomeInTurn, Kept}
use Rattle.sw_turn.proofs.Totals.{times_replicate, length-below}
use Rattle.sw_turn.proofs.Views.{not_none, same_place}
use Rattle.sw_turn.proofs.Growing.{grows_self}
use Rattle.sw_turn.proofs.Stepping.{others_own_none, owns_all}

module _ {B E O : Type 0} (book : B → Book E O) (seats : ℕ) where
  pub starts : (n : ℕ) (b : B) → 0 < seats → seats < 2 ^ 32 → n ≡ length (book b).entries
      → Kept book seats (opening (n ∷ 0 ∷ 0 ∷ []) (Some b ∷ []) (opened seats b (book b)))
  starts n b some_seat few is =
      let log : Known B E O = taken_in nothing 0 b (book b) in
      let m : ℕ = length (book b).entries - 0 in
      let live : below seats ≢ [] = λ e. let z : length (below seats) ≡ 0 = ap length e in omega (arith, length-below seats) in
      let itself : Grows seats [] log log = record {
        entries = ([], sym (Rattle.std.proofs.Common.append-nil log.entries));
        makers = ([], sym (Rattle.std.proofs.Common.append-nil log.makers), λ x pos. refl);
        even = omega (arith, length-replicate {A = ℕ} m 0);
        small = λ x pos. omega (arith, times_replicate m 0 x pos);
        opening = refl;
        faults = omega arith;
        stamp = omega arith;
      } in
      let first : Fits (λ a. log) log seats 0 0 (opened seats b (book b)) = record {
        live = λ e. record { seats_are = refl; known = grows_self seats [] (below seats) log log itself; stage = refl };
        gone = λ e. absurd (live e);
        drawn = λ t e. not_none t None e refl;
        parts = tt;
        turn = λ e. absurd (true≢false (sym e));
      } in record {
        past = λ a. log;
        log = log;
        ticket = 0;
        serving = 0;
        words = ap (λ z. z ∷ 0 ∷ 0 ∷ []) is;
        newest = refl;
        order = λ a c le top. itself;
        few = few;
        fits = only (Fits (λ a. log) log seats 0 0) (opened seats b (book b)) first;
        heard = (0, opened seats b (book b), refl, live, refl);
        apart = λ i j v w t ei ej p q. only (λ u. u.ticket ≡ Some t → i ≡ j) (opened seats b (book b)) (λ e. not_none t None e refl) i v ei p;
        queue = refl;
        whole = λ f. omega arith;
        slot = inr (only (λ u. u.turn ≡ false) (opened seats b (book b)) refl, (b, refl, record { entries = refl; opening = refl; faults = refl }, refl));
      }
    where
      only : {A : Type 0} (P : A → Type 0) (x : A) → P x → (i : ℕ) (y : A) → get_elem? (x ∷ []) i ≡ some y → P y
      only P x p zero y e = subst P (some-injective x y e) p
      only P x p (suc i) y e = absurd (some-ne-none y (sym e))

  -- at the end the value is at home, and the pass that owns all numbers knows it, with its whole history
  pub ends : (i : ℕ) (v : View B E O) (xs : List (Option B)) (ws : List ℕ) → v.turn ≡ false → OwnsAll v → v.numbers ≢ []
      → Final (Seen (Kept book seats) i v) ws xs → (b : B) × (get_elem? xs 0 ≡ some (Some b)) × Tells (book b) v.known × (v.known.last ≡ Some b)
  ends i v xs ws no_turn all live last =
      let s = last.0 in
      let k = last.1.0 in
      let at = last.1.1 in
      let all' : length v.numbers ≡ seats = all ∙ ((k.fits i v at).live live).seats_are in
      let mine = owns_all book seats s k i v at all' in
      let in_turn : SomeInTurn s.views → ⊥ = λ h.
      dite (ℕ_discrete h.0 i) (λ e. true≢false (sym h.3 ∙ ap (λ (u : View B E O). u.turn) (same_place s.views i h.0 v h.1 at h.2 e) ∙ no_turn))
      (λ ne. true≢false (sym h.3 ∙ ((k.fits h.0 h.1 h.2).gone (others_own_none book seats s k i v at all' h.0 h.1 ne h.2)).1)) in
      ⊎_elim (λ h. absurd (in_turn h))
      (λ h.
      let b = h.1.0 in (
        b,
        last.4 0 (Some b) (ap (λ hs. get_elem? hs 0) h.1.1),
        subst (λ (z : Known B E O). Tells (book b) z) mine h.1.2,
        subst (λ (z : Known B E O). z.last ≡ Some b) mine h.1.3,
      ))
      k.slot

  -- the same of what was taken out of the slot
  pub ends_with : (i : ℕ) (v : View B E O) (xs : List (Option B)) (ws : List ℕ) (out : Option B) → v.turn ≡ false → OwnsAll v → v.numbers ≢ []
      → Final (Seen (Kept book seats) i v) ws xs → get_elem? xs 0 ≡ some out → (b : B) × (out ≡ Some b) × Tells (book b) v.known × (v.known.last ≡ Some b)
  ends_with i v xs ws out no_turn all live last at =
      let e = ends i v xs ws no_turn all live last in (e.0, some-injective out (Some e.0) (sym at ∙ e.1), e.2, e.3)

pub same_value : {B : Type 0} (b c : B) → Some b ≡ Some c → b ≡ c
same_value {B} b c e = ap pick e
  where
    pick : Option B → B
    pick None = b
    pick (Some x) = x

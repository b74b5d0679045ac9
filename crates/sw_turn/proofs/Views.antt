-- Lists of views in which one changes.
use Rattle.std.proofs.Common.{◌≡◌, ◌≢◌, ◌⊎◌, ℕ, zero, suc, Bool, true, false, true≢false, List, [], ◌∷◌, ◌++◌, length, set, Option, Some, None, sym, refl}
use Rattle.std.proofs.Common.{ap, ◌∙◌, subst, arith, inl, inr, ⊎_elim}
use mathlib.Core.Option.{some, some-injective, some-ne-none}
use mathlib.Core.Option as maybe
use mathlib.Core.Logic.{dite}
use native.Mathlib.Decide.{ℕ_discrete}
use lib.ListN.{get_elem?}
use Rattle.atomic_table.proofs.Lists.{at_set, at_snoc, set_else}
use Rattle.sw_turn.specs.declared.booked.Book.{Book}
use Rattle.sw_turn.specs.declared.booked.Known.{Known}
use Rattle.sw_turn.specs.declared.booked.View.{View}
use Rattle.sw_turn.specs.Rule.{Apart, NoneInTurn, SomeInTurn, Heard, AtHome}

abbrev un_some : Option ℕ → ℕ
un_some None = 0
un_some (Some t) = t

abbrev is_none : Option ℕ → Bool
is_none None = true
is_none (Some t) = false

pub some_is : (t u : ℕ) (o : Option ℕ) → o ≡ Some t → o ≡ Some u → t ≡ u
some_is t u o a b = ap un_some (sym a ∙ b)

pub not_none : {X : Type 0} (t : ℕ) (o : Option ℕ) → o ≡ Some t → o ≡ None → X
not_none t o a b = absurd (true≢false (ap is_none (sym b ∙ a)))

module _ {A : Type 0} where
  pub set_at : (l : List A) (i : ℕ) (v w : A) → get_elem? l i ≡ some v → get_elem? (set l i w) i ≡ some w
  set_at [] i v w e = absurd (some-ne-none v (sym e))
  set_at (x ∷ xs) zero v w e = refl
  set_at (x ∷ xs) (suc i) v w e = set_at xs i v w e

  pub same_at : (l : List A) (i : ℕ) (v w : A) → get_elem? l i ≡ some v → get_elem? l i ≡ some w → v ≡ w
  same_at l i v w a b = some-injective v w (sym a ∙ b)

  -- the elements at two places that are one
  pub same_place : (l : List A) (i j : ℕ) (v u : A) → get_elem? l i ≡ some v → get_elem? l j ≡ some u → j ≡ i → u ≡ v
  same_place l i j v u at e q = same_at l i u v (ap (get_elem? l) (sym q) ∙ e) at

  pub one_home : (l : List A) (x : A) → length l ≡ 1 → set l 0 x ≡ x ∷ []
  one_home [] x e = absurd (omega arith)
  one_home (y ∷ []) x e = refl
  one_home (y ∷ z ∷ zs) x e = absurd (omega arith)

  -- what holds of the new element, and of each other, holds of all
  pub set_all : (P : A → Type 0) (l : List A) (i : ℕ) (w : A) → P w → ((j : ℕ) (u : A) → j ≢ i → get_elem? l j ≡ some u → P u)
      → (j : ℕ) (u : A) → get_elem? (set l i w) j ≡ some u → P u
  set_all P l i w mine others j u e = ⊎_elim (λ h. subst P h.1 mine) (λ h. others j u h.0 h.1) (at_set l i j w u e)

module _ {B E O : Type 0} where
  pub set_apart : (views : List (View B E O)) (i : ℕ) (w : View B E O) → Apart views
      → ((j : ℕ) (u : View B E O) (t : ℕ) → j ≢ i → get_elem? views j ≡ some u → u.ticket ≡ Some t → w.ticket ≡ Some t → ⊥) → Apart (set views i w)
  set_apart views i w apart others a b x y t ea eb tx ty =
      let as_new : (z : View B E O) → w ≡ z → z.ticket ≡ Some t → w.ticket ≡ Some t = λ z p q. ap (λ (u : View B E O). u.ticket) p ∙ q in
      ⊎_elim
      (λ p. ⊎_elim (λ q. p.0 ∙ sym q.0) (λ q. absurd (others b y t q.0 q.1 ty (as_new x p.1 tx))) (at_set views i b w y eb))
      (λ p. ⊎_elim (λ q. absurd (others a x t p.0 p.1 tx (as_new y q.1 ty))) (λ q. apart a b x y t p.1 q.1 tx ty) (at_set views i b w y eb))
      (at_set views i a w x ea)

  -- a new pass that waits for nothing
  pub snoc_apart : (views : List (View B E O)) (w : View B E O) → Apart views → w.ticket ≡ None → Apart (views ++ w ∷ [])
  snoc_apart views w apart none a b x y t ea eb tx ty =
      let not_new : (z : View B E O) → w ≡ z → z.ticket ≡ Some t → ⊥ = λ z p q. not_none t w.ticket (ap (λ (u : View B E O). u.ticket) p ∙ q) none in
      ⊎_elim (λ p. ⊎_elim (λ q. apart a b x y t p q tx ty) (λ q. absurd (not_new y q ty)) (at_snoc views w y b eb)) (λ p. absurd (not_new x p tx))
      (at_snoc views w x a ea)

  -- one that is in turn is another than one that isn't
  pub other_turn : (views : List (View B E O)) (i j : ℕ) (v u : View B E O) → get_elem? views i ≡ some v → v.turn ≡ false
      → get_elem? views j ≡ some u → u.turn ≡ true → j ≢ i
  other_turn views i j v u at off e on q = true≢false (sym on ∙ ap (λ (z : View B E O). z.turn) (same_place views i j v u at e q) ∙ off)

  pub still_none : (views : List (View B E O)) (i : ℕ) (w : View B E O) → NoneInTurn views → w.turn ≡ false → NoneInTurn (set views i w)
  still_none views i w none mine = set_all (λ u. u.turn ≡ false) views i w mine (λ j u other at. none j u at)

  -- where one that isn't in turn changes into one that isn't
  pub slot_on : (book : B → Book E O) (log : Known B E O) (homes : List (maybe.Option (Option B))) (views : List (View B E O)) (i : ℕ) (v w : View B E O)
      → get_elem? views i ≡ some v → v.turn ≡ false → w.turn ≡ false → SomeInTurn views ⊎ AtHome book log homes views
      → SomeInTurn (set views i w) ⊎ AtHome book log homes (set views i w)
  slot_on book log homes views i v w at off off' =
      ⊎_elim (λ h. inl (h.0, h.1, set_else views i h.0 w (other_turn views i h.0 v h.1 at off h.2 h.3) ∙ h.2, h.3))
      (λ h. inr (still_none views i w h.0 off', h.1))

  pub heard_on : (log : Known B E O) (views : List (View B E O)) (i : ℕ) (v w : View B E O) → get_elem? views i ≡ some v
      → w.known ≡ v.known → w.numbers ≡ v.numbers → Heard log views → Heard log (set views i w)
  heard_on log views i v w at known numbers h =
      dite (ℕ_discrete h.0 i)
      (λ e.
      let is : h.1 ≡ v = same_place views i h.0 v h.1 at h.2 e in (
        i,
        w,
        set_at views i v w at,
        (λ z. h.3 (ap (λ (u : View B E O). u.numbers) is ∙ sym numbers ∙ z)),
        known ∙ ap (λ (u : View B E O). u.known) (sym is) ∙ h.4,
      ))
      (λ ne. (h.0, h.1, set_else views i h.0 w ne ∙ h.2, h.3, h.4))

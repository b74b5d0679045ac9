-- Items one after the other.
use Rattle.std.proofs.Common.{◌≡◌, ℕ, ◌+◌, ◌<◌, Bool, true, false, cond, List, [], ◌∷◌, ◌++◌, length, get_or, take, drop, refl, sym, ◌∙◌, ap, subst, inl, inr}
use Rattle.std.proofs.Common.{Result, Ok, Err, IsErr}
use Rattle.std.proofs.lemmas.List.{take-append-drop, take_more}
use Rattle.std.proofs.lemmas.List.Elements.{filter-append, filter_more}
use Rattle.std.specs.List.{filter}
use Rattle.std.specs.Result.{is_ok}
use Rattle.sw_pass.specs.declared.outcome.Outcome.{Outcome}
use Rattle.sw_pass.specs.Turns.{InTurn}

module _ {A S : Type 0} (one : A → S → Outcome → S → Outcome → Bool → Type 0) where
  pub turn-none : (s : S) (o : Outcome) → InTurn one [] s o s o true
  turn-none s o = (refl, refl, refl)

  pub turn-one : (x : A) (s : S) (o : Outcome) (t : S) (p : Outcome) (on : Bool) → one x s o t p on → InTurn one (x ∷ []) s o t p on
  turn-one x s o t p true step = inl (t, p, step, turn-none t p)
  turn-one x s o t p false step = inr (step, refl)

  -- what follows what went on
  pub turn-append : (xs ys : List A) (s : S) (o : Outcome) (m : S) (b : Outcome) (t : S) (p : Outcome) (on : Bool)
      → InTurn one xs s o m b true → InTurn one ys m b t p on → InTurn one (xs ++ ys) s o t p on
  turn-append [] ys s o m b t p on done next =
      subst (λ (x : S). InTurn one ys x o t p on) done.0 (subst (λ (x : Outcome). InTurn one ys m x t p on) done.1 next)
  turn-append (x ∷ xs) ys s o m b t p on (inl went) next = inl (went.0, went.1, went.2, turn-append xs ys went.0 went.1 m b t p on went.3 next)
  turn-append (x ∷ xs) ys s o m b t p on (inr stopped) next = absurd (apart stopped.1)
    where
      apart : true ≡ false → ⊥
      apart same = cc

  -- what stopped is followed by nothing
  turn-front : (xs ys : List A) (s : S) (o : Outcome) (t : S) (p : Outcome) → InTurn one xs s o t p false → InTurn one (xs ++ ys) s o t p false
  turn-front [] ys s o t p done = absurd (apart done.2)
    where
      apart : false ≡ true → ⊥
      apart same = cc
  turn-front (x ∷ xs) ys s o t p (inl went) = inl (went.0, went.1, went.2, turn-front xs ys went.0 went.1 t p went.3)
  turn-front (x ∷ xs) ys s o t p (inr stopped) = inr stopped

  pub turn-stop : {B E : Type 0} (r : Result B E) (xs ys : List A) (s : S) (o : Outcome) (t : S) (p : Outcome) → IsErr r → InTurn one xs s o t p false
      → InTurn one (xs ++ ys) s o t p (is_ok r)
  turn-stop (Ok y) xs ys s o t p err done = cc
  turn-stop (Err e) xs ys s o t p err done = turn-front xs ys s o t p done

  -- ---- along a list, as a loop goes

  turn-next : (xs : List A) (i : ℕ) (x : A) (s : S) (o : Outcome) (m : S) (b : Outcome) (t : S) (p : Outcome) (on : Bool) → i < length xs
      → x ≡ get_or xs i x
      → InTurn one (take i xs) s o m b true → one x m b t p on → InTurn one (take (i + 1) xs) s o t p on
  turn-next xs i x s o m b t p on within is done step =
      subst (λ (ys : List A). InTurn one ys s o t p on) (ap (λ (y : A). take i xs ++ y ∷ []) is ∙ sym (take_more xs i x within))
      (turn-append (take i xs) (x ∷ []) s o m b t p on done (turn-one x m b t p on step))

  pub turn-more : (xs : List A) (i : ℕ) (x : A) (s : S) (o : Outcome) (m : S) (b : Outcome) (t : S) (p : Outcome) → i < length xs
      → x ≡ get_or xs i x
      → InTurn one (take i xs) s o m b true → one x m b t p true → InTurn one (take (i + 1) xs) s o t p true
  turn-more xs i x s o m b t p within is done step = turn-next xs i x s o m b t p true within is done step

  pub turn-ended : {B E : Type 0} (r : Result B E) (xs : List A) (i : ℕ) (x : A) (s : S) (o : Outcome) (m : S) (b : Outcome) (t : S) (p : Outcome)
      → IsErr r → i < length xs → x ≡ get_or xs i x
      → InTurn one (take i xs) s o m b true → one x m b t p false → InTurn one xs s o t p (is_ok r)
  turn-ended r xs i x s o m b t p err within is done step =
      subst (λ (ys : List A). InTurn one ys s o t p (is_ok r)) (take-append-drop (i + 1) xs)
      (turn-stop r (take (i + 1) xs) (drop (i + 1) xs) s o t p err (turn-next xs i x s o m b t p false within is done step))

  -- the same of those items alone that pass a test
  module _ (f : A → Bool) where
    turn-passes : (xs : List A) (i : ℕ) (x : A) (s : S) (o : Outcome) (m : S) (b : Outcome) (t : S) (p : Outcome) (on : Bool) → i < length xs
        → x ≡ get_or xs i x → f x ≡ true
        → InTurn one (filter f (take i xs)) s o m b true → one x m b t p on → InTurn one (filter f (take (i + 1) xs)) s o t p on
    turn-passes xs i x s o m b t p on within is own done step =
        subst (λ (ys : List A). InTurn one ys s o t p on)
        (ap (λ (y : A). filter f (take i xs) ++ y ∷ []) is ∙ (ap (λ (c : Bool). filter f (take i xs) ++ cond c (get_or xs i x ∷ []) []) (sym own ∙ ap f is)
        ∙ sym (filter_more f xs i x within)))
        (turn-append (filter f (take i xs)) (x ∷ []) s o m b t p on done (turn-one x m b t p on step))

    pub turn-passed : (xs : List A) (i : ℕ) (x : A) (s : S) (o : Outcome) (m : S) (b : Outcome) (t : S) (p : Outcome) → i < length xs
        → x ≡ get_or xs i x → f x ≡ true
        → InTurn one (filter f (take i xs)) s o m b true → one x m b t p true → InTurn one (filter f (take (i + 1) xs)) s o t p true
    turn-passed xs i x s o m b t p within is own done step = turn-passes xs i x s o m b t p true within is own done step

    pub turn-broken : {B E : Type 0} (r : Result B E) (xs : List A) (i : ℕ) (x : A) (s : S) (o : Outcome) (m : S) (b : Outcome) (t : S)
        (p : Outcome) → IsErr r → i < length xs → x ≡ get_or xs i x → f x ≡ true
        → InTurn one (filter f (take i xs)) s o m b true → one x m b t p false → InTurn one (filter f xs) s o t p (is_ok r)
    turn-broken r xs i x s o m b t p err within is own done step =
        subst (λ (ys : List A). InTurn one ys s o t p (is_ok r)) (sym (filter-append f (take (i + 1) xs) (drop (i + 1) xs))
        ∙ ap (filter f) (take-append-drop (i + 1) xs))
        (turn-stop r (filter f (take (i + 1) xs)) (filter f (drop (i + 1) xs)) s o t p err (turn-passes xs i x s o m b t p false within is own done step))

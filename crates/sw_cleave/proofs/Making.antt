-- Things that are created one after the other.
use Rattle.std.proofs.Common.{◌≡◌, ℕ, ◌+◌, ◌<◌, Bool, true, false, List, [], ◌∷◌, ◌++◌, length, get_or, take, drop}
use Rattle.std.proofs.Common.{refl, sym, ◌∙◌, ap, subst, inl, inr, true≢false}
use Rattle.std.proofs.lemmas.List.{take-append-drop, take_more}
use Rattle.sw_cleave.specs.Creating.{UpToFirst}
use Rattle.sw_pass.specs.declared.outcome.Outcome.{Outcome}
use Rattle.sw_peer.specs.Sights.{Sight}

module _ {A : Type 0} (one : A → Sight → Outcome → Sight → Outcome → Bool → Bool → Type 0) where
  -- what follows what was made
  make-append : (xs ys : List A) (s : Sight) (o : Outcome) (m : Sight) (b : Outcome) (t : Sight) (p : Outcome) (made on : Bool)
      → UpToFirst one xs s o m b true true → UpToFirst one ys m b t p made on → UpToFirst one (xs ++ ys) s o t p made on
  make-append [] ys s o m b t p made on done next =
      subst (λ (x : Sight). UpToFirst one ys x o t p made on) done.0 (subst (λ (x : Outcome). UpToFirst one ys m x t p made on) done.1 next)
  make-append (x ∷ xs) ys s o m b t p made on (inl went) next =
      inl (went.0, went.1, went.2, make-append xs ys went.0 went.1 m b t p made on went.3 next)
  make-append (x ∷ xs) ys s o m b t p made on (inr stopped) next = absurd (true≢false stopped.1)

  -- what wasn't made is followed by nothing
  make-front : (xs ys : List A) (s : Sight) (o : Outcome) (t : Sight) (p : Outcome) (on : Bool) → UpToFirst one xs s o t p false on
      → UpToFirst one (xs ++ ys) s o t p false on
  make-front [] ys s o t p on done = absurd (true≢false (sym done.2))
  make-front (x ∷ xs) ys s o t p on (inl went) = inl (went.0, went.1, went.2, make-front xs ys went.0 went.1 t p on went.3)
  make-front (x ∷ xs) ys s o t p on (inr stopped) = inr stopped

  -- ---- along a list, as a loop goes

  make-next : (xs : List A) (i : ℕ) (x : A) (s : Sight) (o : Outcome) (m : Sight) (b : Outcome) (t : Sight) (p : Outcome) (made on : Bool) → i < length xs
      → x ≡ get_or xs i x → UpToFirst one (take i xs) s o m b true true → UpToFirst one (x ∷ []) m b t p made on
      → UpToFirst one (take (i + 1) xs) s o t p made on
  make-next xs i x s o m b t p made on within is done step =
      subst (λ (ys : List A). UpToFirst one ys s o t p made on) (ap (λ (y : A). take i xs ++ y ∷ []) is ∙ sym (take_more xs i x within))
      (make-append (take i xs) (x ∷ []) s o m b t p made on done step)

  pub make-more : (xs : List A) (i : ℕ) (x : A) (s : Sight) (o : Outcome) (m : Sight) (b : Outcome) (t : Sight) (p : Outcome) → i < length xs
      → x ≡ get_or xs i x → UpToFirst one (take i xs) s o m b true true → one x m b t p true true → UpToFirst one (take (i + 1) xs) s o t p true true
  make-more xs i x s o m b t p within is done step = make-next xs i x s o m b t p true true within is done (inl (t, p, step, (refl, refl, refl, refl)))

  pub make-ended : (xs : List A) (i : ℕ) (x : A) (s : Sight) (o : Outcome) (m : Sight) (b : Outcome) (t : Sight) (p : Outcome) (on : Bool) → i < length xs
      → x ≡ get_or xs i x → UpToFirst one (take i xs) s o m b true true → one x m b t p false on → UpToFirst one xs s o t p false on
  make-ended xs i x s o m b t p on within is done step =
      subst (λ (ys : List A). UpToFirst one ys s o t p false on) (take-append-drop (i + 1) xs)
      (make-front (take (i + 1) xs) (drop (i + 1) xs) s o t p on (make-next xs i x s o m b t p false on within is done (inr (step, refl))))

-- Members of a list one after another, and what is asked of segments said of these.
use Rattle.std.proofs.Common.{◌≡◌, ℕ, zero, suc, ◌<◌, Bool, true, List, [], ◌∷◌, ◌++◌, length, sym, subst, arith, ◌⊎◌, inl, inr}
use Rattle.std.specs.Bool.{⊤}
use Rattle.std.specs.Prelude.{Contains, reverse, slice_index_or}
use Rattle.std.proofs.lemmas.List.{reverse-append}
use Rattle.sw_rows.specs.declared.numbered.Numbered.{Numbered}
use Rattle.sw_shard_listing.specs.Laws.{AreInTurn, AreSegments, IsOnce, IsPlain, is_ahead}
use Rattle.sw_shard_listing.specs.Ranges.{Segment, all_within, within}

abbrev pub In : {A : Type 0} → A → List A → Type 0
In x [] = ⊥
In x (y ∷ ys) = (x ≡ y) ⊎ In x ys

module _ {A : Type 0} where
  pub in-append-left : (x : A) (xs ys : List A) → In x xs → In x (xs ++ ys)
  in-append-left x [] ys h = absurd h
  in-append-left x (y ∷ xs) ys (inl is) = inl is
  in-append-left x (y ∷ xs) ys (inr h) = inr (in-append-left x xs ys h)

  pub in-append-right : (x : A) (xs ys : List A) → In x ys → In x (xs ++ ys)
  in-append-right x [] ys h = h
  in-append-right x (y ∷ xs) ys h = inr (in-append-right x xs ys h)

  pub in-append : (x : A) (xs ys : List A) → In x (xs ++ ys) → In x xs ⊎ In x ys
  in-append x [] ys h = inr h
  in-append x (y ∷ xs) ys (inl is) = inl (inl is)
  in-append x (y ∷ xs) ys (inr h) = by (in-append x xs ys h)
    where
      by : In x xs ⊎ In x ys → In x (y ∷ xs) ⊎ In x ys
      by (inl a) = inl (inr a)
      by (inr b) = inr b

  pub reverse-cons : (x : A) (xs : List A) → reverse (x ∷ xs) ≡ reverse xs ++ x ∷ []
  reverse-cons x xs = reverse-append (x ∷ []) xs

  pub in-reverse : (x : A) (xs : List A) → In x xs → In x (reverse xs)
  in-reverse x [] h = h
  in-reverse x (y ∷ xs) (inl is) = subst (In x) (sym (reverse-cons y xs)) (in-append-right x (reverse xs) (y ∷ []) (inl is))
  in-reverse x (y ∷ xs) (inr h) = subst (In x) (sym (reverse-cons y xs)) (in-append-left x (reverse xs) (y ∷ []) (in-reverse x xs h))

  pub reverse-in : (x : A) (xs : List A) → In x (reverse xs) → In x xs
  reverse-in x [] h = h
  reverse-in x (y ∷ xs) h = by (reverse-in x xs) (in-append x (reverse xs) (y ∷ []) (subst (In x) (reverse-cons y xs) h))
    where
      by : (In x (reverse xs) → In x xs) → In x (reverse xs) ⊎ In x (y ∷ []) → In x (y ∷ xs)
      by rest (inl a) = inr (rest a)
      by rest (inr (inl is)) = inl is
      by rest (inr (inr b)) = absurd b

  pub in-contains : (x : A) (xs : List A) → In x xs → Contains xs x
  in-contains x [] h = absurd h
  in-contains x (y ∷ ys) (inl is) = (0, omega arith, sym is)
  in-contains x (y ∷ ys) (inr h) = let c = in-contains x ys h in let less = c.1 in (suc c.0, omega arith, c.2)

  pub contains-in : (x : A) (xs : List A) → Contains xs x → In x xs
  contains-in x xs c = from xs c.0 c.1 c.2
    where
      from : (xs : List A) (k : ℕ) → k < length xs → slice_index_or xs k x ≡ x → In x xs
      from [] k less is = absurd (omega (arith, less))
      from (y ∷ ys) zero less is = inl (sym is)
      from (y ∷ ys) (suc k) less is = inr (from ys k (omega (arith, less)) is)

-- ---- the same of rows and segments

abbrev pub Once : List Numbered → Type 0
Once rows = (m n : Numbered) → In m rows → In n rows → m.row.name ≡ n.row.name → m.row ≡ n.row

abbrev pub InTurn : Bool → List Segment → Type 0
InTurn backwards [] = ⊤
InTurn backwards (s ∷ ss) =
    ((m n : Numbered) → In m (within s) → In n (all_within ss) → is_ahead backwards m.row.name n.row.name ≡ true) × InTurn backwards ss

abbrev pub Segments : List Segment → Type 0
Segments [] = ⊤
Segments (s ∷ ss) = Once s.rows × ((n : Numbered) → In n s.rows → IsPlain n.row.name) × Segments ss

pub once-of : (rows : List Numbered) → IsOnce rows → Once rows
once-of rows once m n i j same = once m n (in-contains m rows i) (in-contains n rows j) same

pub turn-of : (back : Bool) (ss : List Segment) → AreInTurn back ss → InTurn back ss
turn-of back [] turn = tt
turn-of back (s ∷ ss) turn = ((λ m n i j. turn.0 m n (in-contains m (within s) i) (in-contains n (all_within ss) j)), turn-of back ss turn.1)

pub segments-of : (ss : List Segment) → AreSegments ss → Segments ss
segments-of [] are = tt
segments-of (s ∷ ss) are = (once-of s.rows are.0, (λ n i. are.1 n (in-contains n s.rows i)), segments-of ss are.2)

-- Entries in order of their texts: two lists of the same entries in one order are one.
use Rattle.std.proofs.Common.{◌≡◌, ℕ, Bool, true, false, List, [], ◌∷◌, ◌++◌, refl, sym, ◌∙◌, ap, subst, ◌⊎◌, inl, inr}
use Rattle.std.specs.Bool.{⊤}
use Rattle.std.specs.Cmp.Lexicographic.{slice_cmp}
use Rattle.std.specs.List.{fold}
use Rattle.std.specs.Prelude.{reverse}
use Rattle.std.specs.Map.{values_of}
use Rattle.std.specs.Ordering.{is_lt, match_ordering, nat_cmp}
use Rattle.std.specs.declared.cmp.Ordering.{Ordering}
use Rattle.std.specs.declared.cmp.Ordering.TheVariants.{Less, Equal, Greater}
use Rattle.std.proofs.lemmas.Map.Lookups.{exact_bytes}
use Rattle.sw_listing.specs.Entries.{entry_text}
use Rattle.sw_listing.specs.Listing.{by_text, in_direction, with_entry}
use Rattle.sw_listing.specs.declared.entry.Entry.{Entry}
use Rattle.sw_shard_listing.specs.Laws.{is_ahead}
use Rattle.sw_shard_listing.proofs.Members.{In, in-append, in-reverse, reverse-cons, reverse-in}
use Rattle.sw_shard_listing.proofs.Order.{Lt, greater-is, lt-irrefl, lt-trans}

-- ---- order

-- one entry comes before another in a direction
abbrev pub Ahead : Bool → Entry → Entry → Type 0
Ahead back e f = is_ahead back (entry_text e) (entry_text f) ≡ true

abbrev pub Rising : Bool → List Entry → Type 0
Rising back [] = ⊤
Rising back (e ∷ es) = ((f : Entry) → In f es → Ahead back e f) × Rising back es

pub ahead-irrefl : (back : Bool) (e : Entry) → Ahead back e e → ⊥
ahead-irrefl true e h = lt-irrefl (entry_text e) h
ahead-irrefl false e h = lt-irrefl (entry_text e) h

pub ahead-trans : (back : Bool) (e f g : Entry) → Ahead back e f → Ahead back f g → Ahead back e g
ahead-trans true e f g p q = lt-trans (entry_text g) (entry_text f) (entry_text e) q p
ahead-trans false e f g p q = lt-trans (entry_text e) (entry_text f) (entry_text g) p q

pub rising-append : (back : Bool) (xs ys : List Entry) → Rising back xs → Rising back ys → ((e f : Entry) → In e xs → In f ys → Ahead back e f)
    → Rising back (xs ++ ys)
rising-append back [] ys p q cross = q
rising-append back (x ∷ xs) ys p q cross =
    ((λ f h. by f (in-append f xs ys h)), rising-append back xs ys p.1 q (λ e f a b. cross e f (inr a) b))
  where
    by : (f : Entry) → In f xs ⊎ In f ys → Ahead back x f
    by f (inl a) = p.0 f a
    by f (inr b) = cross x f (inl refl) b

rising-reverse : (xs : List Entry) → Rising false xs → Rising true (reverse xs)
rising-reverse [] p = tt
rising-reverse (x ∷ xs) p =
    subst (Rising true) (sym (reverse-cons x xs))
    (rising-append true (reverse xs) (x ∷ []) (rising-reverse xs p.1) ((λ f h. absurd h), tt) (λ e f a b. by e f (reverse-in e xs a) b))
  where
    by : (e f : Entry) → In e xs → In f (x ∷ []) → Ahead true e f
    by e f a (inl is) = subst (λ (g : Entry). Ahead true e g) (sym is) (p.0 e a)
    by e f a (inr b) = absurd b

-- two lists in one order that have the same entries are one
pub one-rising : (back : Bool) (xs ys : List Entry) → Rising back xs → Rising back ys → ((e : Entry) → In e xs → In e ys) → ((e : Entry) → In e ys → In e xs)
    → xs ≡ ys
one-rising back [] [] p q f g = refl
one-rising back [] (y ∷ ys) p q f g = absurd (g y (inl refl))
one-rising back (x ∷ xs) [] p q f g = absurd (f x (inl refl))
one-rising back (x ∷ xs) (y ∷ ys) p q f g =
    let rest : xs ≡ ys = one-rising back xs ys p.1 q.1 (λ e h. tail-f e h (f e (inr h))) (λ e h. tail-g e h (g e (inr h))) in
    ap (λ (t : List Entry). x ∷ t) rest ∙ ap (λ (e : Entry). e ∷ ys) same
  where
    same : x ≡ y
    same = by (f x (inl refl)) (g y (inl refl))
      where
        by : In x (y ∷ ys) → In y (x ∷ xs) → x ≡ y
        by (inl is) b = is
        by (inr a) (inl is) = sym is
        by (inr a) (inr b) = absurd (ahead-irrefl back x (ahead-trans back x y x (p.0 y b) (q.0 x a)))

    tail-f : (e : Entry) → In e xs → In e (y ∷ ys) → In e ys
    tail-f e h (inl is) = absurd (ahead-irrefl back x (subst (λ (u : Entry). Ahead back x u) (is ∙ sym same) (p.0 e h)))
    tail-f e h (inr a) = a

    tail-g : (e : Entry) → In e ys → In e (x ∷ xs) → In e xs
    tail-g e h (inl is) = absurd (ahead-irrefl back y (subst (λ (u : Entry). Ahead back y u) (is ∙ same) (q.0 e h)))
    tail-g e h (inr a) = a

-- ---- entries by their texts

abbrev Keyed : Type 0
Keyed = List (List ℕ × Entry)

-- each key is the text of its entry
abbrev Fits : Keyed → Type 0
Fits [] = ⊤
Fits (k ∷ ks) = (k.0 ≡ entry_text k.1) × Fits ks

cmp : List ℕ → List ℕ → Ordering
cmp = slice_cmp nat_cmp

in-insert : (ks : Keyed) (v e : Entry) → In e (values_of (with_entry ks v)) → (e ≡ v) ⊎ In e (values_of ks)
in-insert [] v e (inl is) = inl is
in-insert [] v e (inr h) = absurd h
in-insert (k ∷ ks) v e h = by (slice_cmp nat_cmp (entry_text v) k.0) (in-insert ks v e) h
  where
    by : (o : Ordering) → (In e (values_of (with_entry ks v)) → (e ≡ v) ⊎ In e (values_of ks))
        → In e (values_of (match_ordering o ((entry_text v, v) ∷ k ∷ ks) ((k.0, v) ∷ ks) (k ∷ with_entry ks v))) → (e ≡ v) ⊎ In e (values_of (k ∷ ks))
    by Less rest (inl is) = inl is
    by Less rest (inr a) = inr a
    by Equal rest (inl is) = inl is
    by Equal rest (inr a) = inr (inr a)
    by Greater rest (inl is) = inr (inl is)
    by Greater rest (inr a) = at (rest a)
      where
        at : (e ≡ v) ⊎ In e (values_of ks) → (e ≡ v) ⊎ In e (values_of (k ∷ ks))
        at (inl is) = inl is
        at (inr b) = inr (inr b)

insert-in : (ks : Keyed) (v : Entry) → In v (values_of (with_entry ks v))
insert-in [] v = inl refl
insert-in (k ∷ ks) v = by (slice_cmp nat_cmp (entry_text v) k.0) (insert-in ks v)
  where
    by : (o : Ordering) → In v (values_of (with_entry ks v))
        → In v (values_of (match_ordering o ((entry_text v, v) ∷ k ∷ ks) ((k.0, v) ∷ ks) (k ∷ with_entry ks v)))
    by Less rest = inl refl
    by Equal rest = inl refl
    by Greater rest = inr rest

insert-keeps : (ks : Keyed) (v e : Entry) → Fits ks → In e (values_of ks) → (entry_text e ≡ entry_text v → e ≡ v) → In e (values_of (with_entry ks v))
insert-keeps [] v e fits h one = absurd h
insert-keeps (k ∷ ks) v e fits h one = by (slice_cmp nat_cmp (entry_text v) k.0) refl h (λ a. insert-keeps ks v e fits.1 a one)
  where
    by : (o : Ordering) → slice_cmp nat_cmp (entry_text v) k.0 ≡ o → In e (values_of (k ∷ ks)) → (In e (values_of ks) → In e (values_of (with_entry ks v)))
        → In e (values_of (match_ordering o ((entry_text v, v) ∷ k ∷ ks) ((k.0, v) ∷ ks) (k ∷ with_entry ks v)))
    by Less is a rest = inr a
    by Equal is (inl a) rest = inl (one (ap entry_text a ∙ sym fits.0 ∙ sym (exact_bytes (entry_text v) k.0 is)))
    by Equal is (inr a) rest = inr a
    by Greater is (inl a) rest = inl a
    by Greater is (inr a) rest = inr (rest a)

insert-fits : (ks : Keyed) (v : Entry) → Fits ks → Fits (with_entry ks v)
insert-fits [] v fits = (refl, tt)
insert-fits (k ∷ ks) v fits = by (slice_cmp nat_cmp (entry_text v) k.0) refl (insert-fits ks v fits.1)
  where
    by : (o : Ordering) → slice_cmp nat_cmp (entry_text v) k.0 ≡ o → Fits (with_entry ks v)
        → Fits (match_ordering o ((entry_text v, v) ∷ k ∷ ks) ((k.0, v) ∷ ks) (k ∷ with_entry ks v))
    by Less is rest = (refl, fits)
    by Equal is rest = (sym (exact_bytes (entry_text v) k.0 is), fits.1)
    by Greater is rest = (fits.0, rest)

insert-rising : (ks : Keyed) (v : Entry) → Fits ks → Rising false (values_of ks) → Rising false (values_of (with_entry ks v))
insert-rising [] v fits p = ((λ f h. absurd h), tt)
insert-rising (k ∷ ks) v fits p = by (slice_cmp nat_cmp (entry_text v) k.0) refl (insert-rising ks v fits.1 p.1)
  where
    first : Lt (entry_text v) k.0 → (f : Entry) → In f (values_of (k ∷ ks)) → Ahead false v f
    first less f (inl is) = subst (λ (t : List ℕ). Lt (entry_text v) t) (fits.0 ∙ ap entry_text (sym is)) less
    first less f (inr a) = lt-trans (entry_text v) (entry_text k.1) (entry_text f) (subst (λ (t : List ℕ). Lt (entry_text v) t) fits.0 less) (p.0 f a)

    by : (o : Ordering) → slice_cmp nat_cmp (entry_text v) k.0 ≡ o → Rising false (values_of (with_entry ks v))
        → Rising false (values_of (match_ordering o ((entry_text v, v) ∷ k ∷ ks) ((k.0, v) ∷ ks) (k ∷ with_entry ks v)))
    by Less is rest = (first (ap is_lt is), p)
    by Equal is rest =
        let same : entry_text k.1 ≡ entry_text v = sym fits.0 ∙ sym (exact_bytes (entry_text v) k.0 is) in
        ((λ f a. subst (λ (t : List ℕ). Lt t (entry_text f)) same (p.0 f a)), p.1)
    by Greater is rest = ((λ f a. after f (in-insert ks v f a)), rest)
      where
        after : (f : Entry) → (f ≡ v) ⊎ In f (values_of ks) → Ahead false k.1 f
        after f (inl same) = subst (λ (t : List ℕ). Lt t (entry_text f)) fits.0
            (subst (λ (u : Entry). Lt k.0 (entry_text u)) (sym same) (greater-is (entry_text v) k.0 is))
        after f (inr a) = p.0 f a

-- ---- all entries put in

module _ where
  puts-fit : (ks : Keyed) (es : List Entry) → Fits ks → Fits (fold with_entry ks es)
  puts-fit ks [] fits = fits
  puts-fit ks (e ∷ es) fits = puts-fit (with_entry ks e) es (insert-fits ks e fits)

  puts-rising : (ks : Keyed) (es : List Entry) → Fits ks → Rising false (values_of ks) → Rising false (values_of (fold with_entry ks es))
  puts-rising ks [] fits p = p
  puts-rising ks (e ∷ es) fits p = puts-rising (with_entry ks e) es (insert-fits ks e fits) (insert-rising ks e fits p)

  in-puts : (ks : Keyed) (es : List Entry) (e : Entry) → In e (values_of (fold with_entry ks es)) → In e (values_of ks) ⊎ In e es
  in-puts ks [] e h = inl h
  in-puts ks (v ∷ es) e h = by (in-puts (with_entry ks v) es e h)
    where
      at : (e ≡ v) ⊎ In e (values_of ks) → In e (values_of ks) ⊎ In e (v ∷ es)
      at (inl is) = inr (inl is)
      at (inr a) = inl a

      by : In e (values_of (with_entry ks v)) ⊎ In e es → In e (values_of ks) ⊎ In e (v ∷ es)
      by (inl a) = at (in-insert ks v e a)
      by (inr b) = inr (inr b)

  puts-keep : (ks : Keyed) (es : List Entry) (e : Entry) → Fits ks → ((v : Entry) → In v es → entry_text e ≡ entry_text v → e ≡ v) → In e (values_of ks)
      → In e (values_of (fold with_entry ks es))
  puts-keep ks [] e fits one h = h
  puts-keep ks (v ∷ es) e fits one h =
      puts-keep (with_entry ks v) es e (insert-fits ks v fits) (λ u a. one u (inr a)) (insert-keeps ks v e fits h (one v (inl refl)))

  puts-in : (ks : Keyed) (es : List Entry) (e : Entry) → Fits ks → ((v : Entry) → In v es → entry_text e ≡ entry_text v → e ≡ v) → In e es
      → In e (values_of (fold with_entry ks es))
  puts-in ks [] e fits one h = absurd h
  puts-in ks (v ∷ es) e fits one (inl is) =
      puts-keep (with_entry ks v) es e (insert-fits ks v fits) (λ u a. one u (inr a))
      (subst (λ (u : Entry). In u (values_of (with_entry ks v))) (sym is) (insert-in ks v))
  puts-in ks (v ∷ es) e fits one (inr a) = puts-in (with_entry ks v) es e (insert-fits ks v fits) (λ u b. one u (inr b)) a

-- ---- what a listing makes of entries, in its direction

abbrev pub in_order : Bool → List Entry → List Entry
in_order back es = in_direction back (values_of (by_text es))

pub order-rising : (back : Bool) (es : List Entry) → Rising back (in_order back es)
order-rising true es = rising-reverse (values_of (by_text es)) (puts-rising [] es tt tt)
order-rising false es = puts-rising [] es tt tt

no-left : (e : Entry) (es : List Entry) → In e [] ⊎ In e es → In e es
no-left e es (inl h) = absurd h
no-left e es (inr h) = h

pub in-order : (back : Bool) (es : List Entry) (e : Entry) → In e (in_order back es) → In e es
in-order true es e h = no-left e es (in-puts [] es e (reverse-in e (values_of (by_text es)) h))
in-order false es e h = no-left e es (in-puts [] es e h)

pub order-in : (back : Bool) (es : List Entry) (e : Entry) → ((v : Entry) → In v es → entry_text e ≡ entry_text v → e ≡ v) → In e es → In e (in_order back es)
order-in true es e one h = in-reverse e (values_of (by_text es)) (puts-in [] es e tt one h)
order-in false es e one h = puts-in [] es e tt one h

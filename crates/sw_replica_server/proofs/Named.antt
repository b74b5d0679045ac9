-- The suffixes that pieces name, one piece after the other.
use Rattle.std.proofs.Common.{◌≡◌, ℕ, ◌↔◌, ◌⊎◌, Bool, true, false, cond, inl, inr, refl, sym, ◌∙◌, subst, true≢false, List, [], ◌∷◌, ◌++◌, ◌+◌, ◌<◌, get_or}
use Rattle.std.proofs.Common.{length, map, take, arith}
use Rattle.std.proofs.lemmas.Bool.Decides.{nat_tests}
use Rattle.std.proofs.lemmas.Cmp.{nat_cmp_total}
use Rattle.std.proofs.lemmas.List.{get_or-map, length-map, map_more}
use Rattle.std.proofs.lemmas.List.Elements.{Contains-append_left, Contains-get_or, Contains-push, Contains-push_cases}
use Rattle.std.proofs.lemmas.Map.Lookups.{exact_unsigned}
use Rattle.std.proofs.lemmas.Map.Views.{btree_set_contains_iff}
use Rattle.std.specs.BTreeMap.{is_at}
use Rattle.std.specs.BTreeSet.{BTreeSet, contains}
use Rattle.std.specs.List.{All, Contains}
use Rattle.std.specs.Ordering.{nat_cmp}
use Rattle.sw_replica_server.specs.Suffixes.{AreSuffixes, HasSuffix, IsSuffix}
use Rattle.sw_replica_server.proofs.Digits.{one-suffix}

-- ---- a set with one suffix more

-- the set has one key more
abbrev pub Gains : BTreeSet ℕ → ℕ → BTreeSet ℕ → Type 0
Gains old k new = (q : ℕ) → contains nat_cmp new q ≡ cond (is_at (nat_cmp k) q) true (contains nat_cmp old q)

same-key : (k q : ℕ) → is_at (nat_cmp k) q ≡ true → q ≡ k
same-key k q e = grind (arith, nat_tests)

own-key : (k q : ℕ) → q ≡ k → is_at (nat_cmp k) q ≡ true
own-key k q e = grind (arith, nat_tests)

has : (s : BTreeSet ℕ) (q : ℕ) → (contains nat_cmp s q ≡ true) ↔ Contains s.keys q
has s q = btree_set_contains_iff nat_cmp_total exact_unsigned s q

gained : (old : BTreeSet ℕ) (k : ℕ) (new : BTreeSet ℕ) → Gains old k new → (q : ℕ) → Contains new.keys q ↔ (Contains old.keys q ⊎ (q ≡ k))
gained old k new gains q = by (is_at (nat_cmp k) q) refl (gains q)
  where
    by : (at : Bool) → is_at (nat_cmp k) q ≡ at → contains nat_cmp new q ≡ cond at true (contains nat_cmp old q)
        → Contains new.keys q ↔ (Contains old.keys q ⊎ (q ≡ k))
    by true e is = (λ there. inr (same-key k q e), λ either. (has new q).0 is)
    by false e is = (
      λ there. inl ((has old q).0 (sym is ∙ (has new q).1 there)),
      λ either. elim either [
        | inl there ↦ (has new q).0 (is ∙ (has old q).1 there)
        | inr same ↦ absurd (true≢false (sym (own-key k q same) ∙ e))
      ],
    )

-- ---- no piece

none_of : {X : Type 0} (x : X) → Contains [] x → ⊥
none_of x is = let lt = is.1 in omega arith

pub each-none : AreSuffixes []
each-none piece there = absurd (none_of piece there)

pub all-none : (s : BTreeSet ℕ) → s.keys ≡ [] → (q : ℕ) → Contains s.keys q ↔ HasSuffix [] q
all-none s empty q = (
  λ there. absurd (none_of q (subst (λ (ks : List ℕ). Contains ks q) empty there)),
  λ named. absurd (none_of named.0 named.1),
)

-- what a set has is below 4,096
pub all-below : (keys : List ℕ) (pieces : List (List ℕ)) → ((q : ℕ) → Contains keys q ↔ HasSuffix pieces q) → All (λ q. q < 4096) keys
all-below keys pieces are k d within =
    let named = (are (get_or keys k d)).0 (Contains-get_or keys k d within) in (named.2).below

-- ---- one piece more

module _ (front : List (List ℕ)) (piece : List ℕ) where
  pub each-more : (s : ℕ) → AreSuffixes front → IsSuffix piece s → AreSuffixes (front ++ piece ∷ [])
  each-more s each is p there = elim (Contains-push_cases front piece p there) [
    | inl before ↦ each p before
    | inr e ↦ (s, subst (λ (t : List ℕ). IsSuffix t s) e is)
  ]

  pub all-more : (old : BTreeSet ℕ) (k : ℕ) (new : BTreeSet ℕ) → ((q : ℕ) → Contains old.keys q ↔ HasSuffix front q) → IsSuffix piece k → Gains old k new
      → (q : ℕ) → Contains new.keys q ↔ HasSuffix (front ++ piece ∷ []) q
  all-more old k new are is gains q = (
    λ there. elim ((gained old k new gains q).0 there) [
      | inl before ↦ let named = (are q).0 before in (named.0, Contains-append_left front (piece ∷ []) named.0 named.1, named.2)
      | inr e ↦ (piece, Contains-push front piece, subst (λ (s : ℕ). IsSuffix piece s) (sym e) is)
    ],
    λ named. (gained old k new gains q).1 (elim (Contains-push_cases front piece named.0 named.1) [
      | inl before ↦ inl ((are q).1 (named.0, before, named.2))
      | inr e ↦ inr (one-suffix piece k q is (subst (λ (t : List ℕ). IsSuffix t q) (sym e) named.2))
    ]),
  )

-- ---- the pieces before an index, and the one at it

module _ {X : Type 0} (now : X → List ℕ) (items : List X) (i : ℕ) (d : X) (within : i < length items) where
  more : map now (take (i + 1) items) ≡ map now (take i items) ++ now (get_or items i d) ∷ []
  more = map_more now items i d within

  pub next-each : (s : ℕ) → AreSuffixes (map now (take i items)) → IsSuffix (now (get_or items i d)) s → AreSuffixes (map now (take (i + 1) items))
  next-each s each is = subst AreSuffixes (sym more) (each-more (map now (take i items)) (now (get_or items i d)) s each is)

  pub next-all : (old : BTreeSet ℕ) (k : ℕ) (new : BTreeSet ℕ) → ((q : ℕ) → Contains old.keys q ↔ HasSuffix (map now (take i items)) q)
      → IsSuffix (now (get_or items i d)) k → Gains old k new → (q : ℕ) → Contains new.keys q ↔ HasSuffix (map now (take (i + 1) items)) q
  next-all old k new are is gains =
      subst (λ (front : List (List ℕ)). (q : ℕ) → Contains new.keys q ↔ HasSuffix front q) (sym more)
      (all-more (map now (take i items)) (now (get_or items i d)) old k new are is gains)

  -- it is no suffix
  pub next-not : ((s : ℕ) → ¬ (IsSuffix (now (get_or items i d)) s)) → ¬ AreSuffixes (map now items)
  next-not none each =
      let there : Contains (map now items) (now (get_or items i d)) =
      subst (λ (piece : List ℕ). Contains (map now items) piece) (get_or-map now items i d (now d) within)
      (Contains-get_or (map now items) i (now d) (omega (arith, length-map items now))) in
      let named = each (now (get_or items i d)) there in
      none named.0 named.1

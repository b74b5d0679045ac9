-- Shelves in the order of places.
use Rattle.std.proofs.Common.{◌≡◌, ℕ, ◌+◌, suc, Bool, true, false, cond, List, [], ◌∷◌, get_or, set, Option, None, Some, refl, sym, ◌∙◌, ap, arith}
use Rattle.std.specs.Prelude.{insert}
use Rattle.std.specs.BTreeMap.{insert_entry}
use Rattle.std.specs.Cmp.{IsTotalOrder}
use Rattle.std.specs.Cmp.Lexicographic.{slice_cmp}
use Rattle.std.specs.List.{prefix_len, AllByRecursion}
use Rattle.std.specs.List.Sorted.{IsStrictlySortedBy}
use Rattle.std.specs.Map.{keys_of}
use Rattle.std.specs.Ordering.{is_eq, is_lt, match_ordering, nat_cmp, ordering_reverse, ordering_then}
use Rattle.std.specs.declared.cmp.Ordering.{Ordering}
use Rattle.std.specs.declared.cmp.Ordering.TheVariants.{Less, Equal, Greater}
use Rattle.std.proofs.lemmas.Cmp.{nat_list_cmp_total, on_total, then_total, tied_itself}
use Rattle.std.proofs.lemmas.Map.Keys.{sorted_head, sorted_tail}
use Rattle.std.proofs.lemmas.Map.Text.{is_eq-slice_cmp}
use Rattle.std.proofs.lemmas.Slice.Eq.{bytes_eq-Decides}
use Rattle.sw_hashpath.specs.declared.place.Place.{Place}
use Rattle.sw_keeper.specs.Places.{at, is_place_at, place_cmp}

pub place_total : IsTotalOrder place_cmp
place_total =
    then_total (then_total (on_total (λ (p : Place). p.account) nat_list_cmp_total) (on_total (λ (p : Place). p.container) nat_list_cmp_total))
    (on_total (λ (p : Place). p.hash) nat_list_cmp_total)

then-Equal : (a b : Ordering) → ordering_then a b ≡ Equal → (a ≡ Equal) × (b ≡ Equal)
then-Equal Less b is = cc
then-Equal Equal b is = (refl, is)
then-Equal Greater b is = cc

same_bytes : (a b : List ℕ) → slice_cmp nat_cmp a b ≡ Equal → a ≡ b
same_bytes a b is = (bytes_eq-Decides a b).0 (sym (is_eq-slice_cmp a b) ∙ ap is_eq is)

abbrev placed : List ℕ → List ℕ → List ℕ → Place
placed account container hash = record { account = account; container = container; hash = hash }

pub place_same : (a b : Place) → place_cmp a b ≡ Equal → a ≡ b
place_same a b is =
    let outer = then-Equal (ordering_then (slice_cmp nat_cmp a.account b.account) (slice_cmp nat_cmp a.container b.container)) (slice_cmp nat_cmp a.hash b.hash)
    is in
    let inner = then-Equal (slice_cmp nat_cmp a.account b.account) (slice_cmp nat_cmp a.container b.container) outer.0 in
    let account : a.account ≡ b.account = same_bytes a.account b.account inner.0 in
    let container : a.container ≡ b.container = same_bytes a.container b.container inner.1 in
    let hash : a.hash ≡ b.hash = same_bytes a.hash b.hash outer.1 in
    ap (λ (x : List ℕ). placed x a.container a.hash) account ∙ ap (λ (x : List ℕ). placed b.account x a.hash) container ∙ ap
    (λ (x : List ℕ). placed b.account b.container x) hash

next : (n : ℕ) → 1 + n ≡ suc n
next n = omega arith

single : (k : Place) → IsStrictlySortedBy place_cmp (k ∷ [])
unfolding IsStrictlySortedBy
single k = (tt, tt)

pub lt-cases : (o : Ordering) → is_eq o ≡ true → o ≡ Equal
lt-cases Less is = cc
lt-cases Equal is = refl
lt-cases Greater is = cc

back : (a b : Place) (o : Ordering) → place_cmp a b ≡ o → place_cmp b a ≡ ordering_reverse o
back a b o is = place_total.antisymm b a ∙ ap ordering_reverse is

module _ {X : Type 0} where
  abbrev pub index_of : List (Place × X) → Place → ℕ
  index_of es place = prefix_len (λ e. is_lt (place_cmp e.0 place)) es

  -- the shelf of a place that is found has its tables
  held_at : (e : Place × X) (es : List (Place × X)) (place : Place) (d : Place × X) (o : Ordering) → place_cmp e.0 place ≡ o
      → (is_place_at es (index_of es place) place ≡ true → (at es place ≡ Some (get_or es (index_of es place) d).1) ×
      ((get_or es (index_of es place) d).0 ≡ place))
      → is_place_at (e ∷ es) (cond (is_lt o) (1 + index_of es place) 0) place ≡ true
      → (at (e ∷ es) place ≡ Some (get_or (e ∷ es) (cond (is_lt o) (1 + index_of es place) 0) d).1) ×
      ((get_or (e ∷ es) (cond (is_lt o) (1 + index_of es place) 0) d).0 ≡ place)
  held_at e es place d Less is rest found =
      let after : place_cmp place e.0 ≡ Greater = back e.0 place Less is in
      rw (next (index_of es place), after) (rest (rw (next (index_of es place)) at found))
  held_at e es place d Equal is rest found =
      let same : place_cmp place e.0 ≡ Equal = back e.0 place Equal is in
      (rw same refl, place_same e.0 place is)
  held_at e es place d Greater is rest found =
      let no : is_place_at (e ∷ es) 0 place ≡ false = ap is_eq is in
      cc

  pub held : (es : List (Place × X)) (place : Place) (d : Place × X) → is_place_at es (index_of es place) place ≡ true
      → (at es place ≡ Some (get_or es (index_of es place) d).1) × ((get_or es (index_of es place) d).0 ≡ place)
  held [] place d found = cc
  held (e ∷ es) place d found = held_at e es place d (place_cmp e.0 place) refl (λ h. held es place d h) found

  none_above : (x place : Place) (es : List (Place × X)) → place_cmp place x ≡ Less → AllByRecursion (λ y. place_cmp x y ≡ Less) (keys_of es) →
      at es place ≡ None
  none_above x place [] before above = refl
  none_above x place (e ∷ es) before above =
      let less : place_cmp place e.0 ≡ Less = place_total.trans place x e.0 before above.0 in
      rw less (none_above x place es before above.1)

  absent_at : (e : Place × X) (es : List (Place × X)) (place : Place) (o : Ordering) → place_cmp e.0 place ≡ o
      → AllByRecursion (λ y. place_cmp e.0 y ≡ Less) (keys_of es)
      → (is_place_at es (index_of es place) place ≡ false → at es place ≡ None)
      → is_place_at (e ∷ es) (cond (is_lt o) (1 + index_of es place) 0) place ≡ false
      → at (e ∷ es) place ≡ None
  absent_at e es place Less is above rest found =
      let after : place_cmp place e.0 ≡ Greater = back e.0 place Less is in
      rw after (rest (rw (next (index_of es place)) at found))
  absent_at e es place Equal is above rest found =
      let yes : is_place_at (e ∷ es) 0 place ≡ true = ap is_eq is in
      cc
  absent_at e es place Greater is above rest found =
      let before : place_cmp place e.0 ≡ Less = back e.0 place Greater is in
      rw before (none_above e.0 place es before above)

  pub absent : (es : List (Place × X)) (place : Place) → IsStrictlySortedBy place_cmp (keys_of es) → is_place_at es (index_of es place) place ≡ false →
      at es place ≡ None
  absent [] place sorted found = refl
  absent (e ∷ es) place sorted found =
      absent_at e es place (place_cmp e.0 place) refl (sorted_head place_cmp e.0 (keys_of es) sorted)
      (λ h. absent es place (sorted_tail place_cmp e.0 (keys_of es) sorted) h) found

  set_at : (e : Place × X) (es : List (Place × X)) (w : Place × X) (place : Place) (o : Ordering) → place_cmp e.0 place ≡ o → w.0 ≡ place
      → (is_place_at es (index_of es place) place ≡ true → set es (index_of es place) w ≡ insert_entry place_cmp es place w.1)
      → is_place_at (e ∷ es) (cond (is_lt o) (1 + index_of es place) 0) place ≡ true
      → set (e ∷ es) (cond (is_lt o) (1 + index_of es place) 0) w ≡ insert_entry place_cmp (e ∷ es) place w.1
  set_at e es w place Less is named rest found =
      let after : place_cmp place e.0 ≡ Greater = back e.0 place Less is in
      rw (next (index_of es place), after) (ap (λ (t : List (Place × X)). e ∷ t) (rest (rw (next (index_of es place)) at found)))
  set_at e es w place Equal is named rest found =
      let same : place_cmp place e.0 ≡ Equal = back e.0 place Equal is in
      let first : w.0 ≡ e.0 = named ∙ sym (place_same e.0 place is) in
      rw same (ap (λ (p : Place). (p, w.1) ∷ es) first)
  set_at e es w place Greater is named rest found =
      let no : is_place_at (e ∷ es) 0 place ≡ false = ap is_eq is in
      cc

  -- new tables at a place that is found
  pub set-found : (es : List (Place × X)) (w : Place × X) (place : Place) → w.0 ≡ place → is_place_at es (index_of es place) place ≡ true
      → set es (index_of es place) w ≡ insert_entry place_cmp es place w.1
  set-found [] w place named found = cc
  set-found (e ∷ es) w place named found = set_at e es w place (place_cmp e.0 place) refl named (λ h. set-found es w place named h) found

  insert_at : (e : Place × X) (es : List (Place × X)) (v : X) (place : Place) (o : Ordering) → place_cmp e.0 place ≡ o
      → (is_place_at es (index_of es place) place ≡ false → insert es (index_of es place) (place, v) ≡ insert_entry place_cmp es place v)
      → is_place_at (e ∷ es) (cond (is_lt o) (1 + index_of es place) 0) place ≡ false
      → insert (e ∷ es) (cond (is_lt o) (1 + index_of es place) 0) (place, v) ≡ insert_entry place_cmp (e ∷ es) place v
  insert_at e es v place Less is rest found =
      let after : place_cmp place e.0 ≡ Greater = back e.0 place Less is in
      rw (next (index_of es place), after) (ap (λ (t : List (Place × X)). e ∷ t) (rest (rw (next (index_of es place)) at found)))
  insert_at e es v place Equal is rest found =
      let yes : is_place_at (e ∷ es) 0 place ≡ true = ap is_eq is in
      cc
  insert_at e es v place Greater is rest found =
      let before : place_cmp place e.0 ≡ Less = back e.0 place Greater is in
      rw before refl

  -- tables at a place that isn't found
  pub insert-new : (es : List (Place × X)) (v : X) (place : Place) → is_place_at es (index_of es place) place ≡ false
      → insert es (index_of es place) (place, v) ≡ insert_entry place_cmp es place v
  insert-new [] v place found = refl
  insert-new (e ∷ es) v place found = insert_at e es v place (place_cmp e.0 place) refl (λ h. insert-new es v place h) found

  all-insert : (x k : Place) (v : X) (es : List (Place × X)) → AllByRecursion (λ y. place_cmp x y ≡ Less) (keys_of es) → place_cmp x k ≡ Less
      → AllByRecursion (λ y. place_cmp x y ≡ Less) (keys_of (insert_entry place_cmp es k v))
  all-insert x k v [] all one = (one, tt)
  all-insert x k v (e ∷ es) all one = by (place_cmp k e.0) (all-insert x k v es all.1 one)
    where
      by : (o : Ordering) → AllByRecursion (λ y. place_cmp x y ≡ Less) (keys_of (insert_entry place_cmp es k v))
          → AllByRecursion (λ y. place_cmp x y ≡ Less) (keys_of (match_ordering o ((k, v) ∷ e ∷ es) ((e.0, v) ∷ es) (e ∷ insert_entry place_cmp es k v)))
      by Less rest = (one, all)
      by Equal rest = all
      by Greater rest = (all.0, rest)

  all-before : (x k : Place) (es : List (Place × X)) → place_cmp k x ≡ Less → AllByRecursion (λ y. place_cmp x y ≡ Less) (keys_of es) →
      AllByRecursion (λ y. place_cmp k y ≡ Less) (keys_of es)
  all-before x k [] before all = tt
  all-before x k (e ∷ es) before all = (place_total.trans k x e.0 before all.0, all-before x k es before all.1)

  sorted_at : (e : Place × X) (es : List (Place × X)) (k : Place) (v : X) (o : Ordering) → place_cmp k e.0 ≡ o
      → AllByRecursion (λ y. place_cmp e.0 y ≡ Less) (keys_of es) → IsStrictlySortedBy place_cmp (keys_of es) →
      IsStrictlySortedBy place_cmp (keys_of (insert_entry place_cmp es k v))
      → IsStrictlySortedBy place_cmp (keys_of (match_ordering o ((k, v) ∷ e ∷ es) ((e.0, v) ∷ es) (e ∷ insert_entry place_cmp es k v)))
  unfolding IsStrictlySortedBy
  sorted_at e es k v Less is above sorted rest = ((is, all-before e.0 k es is above), (above, sorted))
  sorted_at e es k v Equal is above sorted rest = (above, sorted)
  sorted_at e es k v Greater is above sorted rest = (all-insert e.0 k v es above (back k e.0 Greater is), rest)

  pub sorted-insert : (es : List (Place × X)) (k : Place) (v : X) → IsStrictlySortedBy place_cmp (keys_of es) →
      IsStrictlySortedBy place_cmp (keys_of (insert_entry place_cmp es k v))
  sorted-insert [] k v sorted = single k
  sorted-insert (e ∷ es) k v sorted =
      let rest = sorted_tail place_cmp e.0 (keys_of es) sorted in
      sorted_at e es k v (place_cmp k e.0) refl (sorted_head place_cmp e.0 (keys_of es) sorted) rest (sorted-insert es k v rest)

  -- what stands at each place, where tables were put at one
  pub at-insert : (es : List (Place × X)) (k : Place) (v : X) (q : Place) →
      at (insert_entry place_cmp es k v) q ≡ cond (is_eq (place_cmp q k)) (Some v) (at es q)
  at-insert [] k v q = refl
  at-insert (e ∷ es) k v q = by (place_cmp k e.0) refl (at-insert es k v q)
    where
      twice : (b : Bool) (x y : X) (o : Option X) → cond b (Some x) o ≡ cond b (Some x) (cond b (Some y) o)
      twice true x y o = refl
      twice false x y o = refl

      swapped : (b c : Bool) (x y : X) (o : Option X) → (b ≡ true → c ≡ true → ⊥) → cond b (Some x) (cond c (Some y) o) ≡ cond c (Some y) (cond b (Some x) o)
      swapped true true x y o apart = absurd (apart refl refl)
      swapped true false x y o apart = refl
      swapped false true x y o apart = refl
      swapped false false x y o apart = refl

      by : (o : Ordering) → place_cmp k e.0 ≡ o → at (insert_entry place_cmp es k v) q ≡ cond (is_eq (place_cmp q k)) (Some v) (at es q)
          → at (match_ordering o ((k, v) ∷ e ∷ es) ((e.0, v) ∷ es) (e ∷ insert_entry place_cmp es k v)) q ≡ cond (is_eq (place_cmp q k)) (Some v)
          (at (e ∷ es) q)
      by Less is rest = refl
      by Equal is rest =
          let same : k ≡ e.0 = place_same k e.0 is in
          rw same (twice (is_eq (place_cmp q e.0)) v e.1 (at es q))
      by Greater is rest =
          rw rest (swapped (is_eq (place_cmp q e.0)) (is_eq (place_cmp q k)) e.1 v (at es q)
          (λ one two.
          let first : q ≡ e.0 = place_same q e.0 (lt-cases (place_cmp q e.0) one) in
          let second : q ≡ k = place_same q k (lt-cases (place_cmp q k) two) in
          let tied : place_cmp k e.0 ≡ Equal = rw (← second, first) (tied_itself place_total e.0) in
          cc))

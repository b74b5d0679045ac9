-- What a binary search finds in a list whose keys ascend.
use Rattle.std.proofs.Common.{◌≡◌, ℕ, zero, suc, ◌+◌, ◌<◌, ◌≤◌, Bool, true, false, cond, List, [], ◌∷◌, length, get_or, map, refl, sym, ◌∙◌, ap, subst, arith}
use Rattle.std.proofs.Common.{◌⊎◌, Option, None, Some, Ok, Err, Ordering, Less, inl, inr}
use Rattle.std.proofs.lemmas.Bool.Decides.{nat_tests}
use Rattle.std.proofs.lemmas.Cmp.{alike_right, nat_cmp_total, nat_list_cmp_total}
use Rattle.std.proofs.lemmas.Bool.{cases_lt}
use Rattle.std.proofs.lemmas.List.{get_or-map, length-map}
use Rattle.std.proofs.lemmas.List.Sorted.{searchable_from_sorted}
use Rattle.std.proofs.lemmas.Map.Keys.{Less-from_sorted}
use Rattle.std.specs.Cmp.{IsTotalOrder}
use Rattle.std.specs.Cmp.Lexicographic.{lists_ties, slice_cmp}
use Rattle.std.specs.List.{find}
use Rattle.std.specs.List.Sorted.{IsBinarySearchResult, IsSearchInRange, IsSortedBy, IsStrictlySortedBy}
use Rattle.std.specs.Ordering.{is_eq, is_lt, nat_cmp, ordering_reverse}
use Rattle.std.specs.Prelude.{◌==◌}
use Rattle.std.specs.Option.{option_map, option_map_or}
use Rattle.std.specs.Str.{bytes_eq}
use Rattle.sw_object_steps.specs.Parts.{md5_in, nothing_picked, picked_in}
use Rattle.sw_suffix.specs.declared.dir_line.DirLine.{DirLine}
use Rattle.sw_suffix.specs.declared.told.SuffixHash.{SuffixHash}

module _ {X : Type 0} (same : X → Bool) where
  first-found : (xs : List X) (i : ℕ) (d : X) → i < length xs → same (get_or xs i d) ≡ true → ((j : ℕ) → j < i → same (get_or xs j d) ≡ false)
      → find same xs ≡ Some (get_or xs i d)
  first-found [] i d within own before = absurd (omega arith)
  first-found (x ∷ xs) zero d within own before = ap (λ (b : Bool). cond b (Some x) (find same xs)) own
  first-found (x ∷ xs) (suc i) d within own before =
      ap (λ (b : Bool). cond b (Some x) (find same xs)) (before 0 (omega arith))
      ∙ first-found xs i d (omega arith) own (λ j below. before (suc j) (omega arith))

  none-found : (xs : List X) → ((j : ℕ) (d : X) → j < length xs → same (get_or xs j d) ≡ false) → find same xs ≡ None
  none-found [] none = refl
  none-found (x ∷ xs) none =
      ap (λ (b : Bool). cond b (Some x) (find same xs)) (none 0 x (omega arith)) ∙ none-found xs (λ j d within. none (suc j) d (omega arith))

module _ {X K : Type 0} {R : K → K → Ordering} (o : IsTotalOrder R) (key : X → K) (k : K) (same : X → Bool) (ties : (x : X) → same x ≡ is_eq (R (key x) k))
    (xs : List X) (ascending : IsStrictlySortedBy R (map key xs)) where
  rises : (i j : ℕ) (d : X) → i < j → j < length xs → R (key (get_or xs i d)) (key (get_or xs j d)) ≡ Less
  rises i j d below within =
      let lengths : length (map key xs) ≡ length xs = length-map xs key in
      let less = Less-from_sorted R (map key xs) i j (key d) ascending below (omega arith) in
      subst (λ (y : K). R (key (get_or xs i d)) y ≡ Less) (get_or-map key xs j d (key d) within)
      (subst (λ (y : K). R y (get_or (map key xs) j (key d)) ≡ Less) (get_or-map key xs i d (key d) (omega arith)) less)

  is-sorted : IsSortedBy (λ a b. is_lt (R (key a) (key b))) xs
  is-sorted i d any within =
      ap is_lt (o.antisymm (key (get_or xs (i + 1) d)) (key (get_or xs i d)) ∙ ap ordering_reverse (rises i (i + 1) d (omega arith) within))

  pub search-found : (i : ℕ) (d : X) → IsSearchInRange (Ok i) (length xs) → IsBinarySearchResult (λ y. R (key y) k) xs (Ok i)
      → find same xs ≡ Some (get_or xs i d)
  search-found i d within found =
      first-found same xs i d within (ties (get_or xs i d) ∙ ap is_eq (found d))
      (λ j below. ties (get_or xs j d) ∙ ap is_eq (sym (alike_right o (key (get_or xs i d)) k (key (get_or xs j d)) (found d)) ∙ rises j i d below within))

  pub search-missed : (i : ℕ) → IsBinarySearchResult (λ y. R (key y) k) xs (Err i) → find same xs ≡ None
  search-missed i missed = none-found same xs (λ j d within. ties (get_or xs j d) ∙ other j d within (cases_lt j i))
    where
      other : (j : ℕ) (d : X) → j < length xs → (j < i) ⊎ (i ≤ j) → is_eq (R (key (get_or xs j d)) k) ≡ false
      other j d within (inl below) = ap is_eq ((missed (searchable_from_sorted o key xs k is-sorted)).0 j d (omega arith) below)
      other j d within (inr above) = ap is_eq ((missed (searchable_from_sorted o key xs k is-sorted)).1 j d above within)

-- ---- the MD5 of a suffix

number-ties : (a b : ℕ) → (a == b) ≡ is_eq (nat_cmp a b)
number-ties a b = grind (arith, nat_tests)

md5-is : (hashes : List SuffixHash) (suffix : ℕ) → md5_in hashes suffix ≡ option_map (λ one. one.md5) (find (λ one. one.suffix == suffix) hashes)
md5-is [] suffix = refl
md5-is (one ∷ more) suffix = by (one.suffix == suffix) (md5-is more suffix)
  where
    by : (b : Bool) → md5_in more suffix ≡ option_map (λ (x : SuffixHash). x.md5) (find (λ (x : SuffixHash). x.suffix == suffix) more)
        → cond b (Some one.md5) (md5_in more suffix) ≡ option_map (λ (x : SuffixHash). x.md5)
        (cond b (Some one) (find (λ (x : SuffixHash). x.suffix == suffix) more))
    by true rest = refl
    by false rest = rest

pub md5-found : (hashes : List SuffixHash) (suffix i : ℕ) (d : SuffixHash) → IsStrictlySortedBy nat_cmp (map (λ one. one.suffix) hashes)
    → IsSearchInRange (Ok i) (length hashes)
    → IsBinarySearchResult (λ one. nat_cmp one.suffix suffix) hashes (Ok i) → md5_in hashes suffix ≡ Some (get_or hashes i d).md5
md5-found hashes suffix i d ascending within found =
    md5-is hashes suffix ∙ ap (option_map (λ one. one.md5)) (search-found nat_cmp_total (λ one. one.suffix) suffix (λ one. one.suffix == suffix)
    (λ one. number-ties one.suffix suffix) hashes ascending i d within found)

pub md5-missed : (hashes : List SuffixHash) (suffix i : ℕ) → IsStrictlySortedBy nat_cmp (map (λ one. one.suffix) hashes)
    → IsBinarySearchResult (λ one. nat_cmp one.suffix suffix) hashes (Err i) → md5_in hashes suffix ≡ None
md5-missed hashes suffix i ascending missed =
    md5-is hashes suffix ∙ ap (option_map (λ one. one.md5)) (search-missed nat_cmp_total (λ one. one.suffix) suffix (λ one. one.suffix == suffix)
    (λ one. number-ties one.suffix suffix) hashes ascending i missed)

-- ---- the files of a hash

hash-ties : (a b : List ℕ) → bytes_eq a b ≡ is_eq (slice_cmp nat_cmp a b)
hash-ties a b = lists_ties nat_cmp number-ties a b

pub picked-found : (lines : List DirLine) (hash : List ℕ) (i : ℕ) (d : DirLine) → IsStrictlySortedBy (slice_cmp nat_cmp) (map (λ line. line.hash) lines)
    → IsSearchInRange (Ok i) (length lines)
    → IsBinarySearchResult (λ line. slice_cmp nat_cmp line.hash hash) lines (Ok i) → picked_in lines hash ≡ (get_or lines i d).picked
picked-found lines hash i d ascending within found =
    ap (λ (x : Option DirLine). option_map_or (λ line. line.picked) x nothing_picked)
    (search-found nat_list_cmp_total (λ line. line.hash) hash (λ line. bytes_eq line.hash hash)
    (λ line. hash-ties line.hash hash) lines ascending i d within found)

pub picked-missed : (lines : List DirLine) (hash : List ℕ) (i : ℕ) → IsStrictlySortedBy (slice_cmp nat_cmp) (map (λ line. line.hash) lines)
    → IsBinarySearchResult (λ line. slice_cmp nat_cmp line.hash hash) lines (Err i) → picked_in lines hash ≡ nothing_picked
picked-missed lines hash i ascending missed =
    ap (λ (x : Option DirLine). option_map_or (λ line. line.picked) x nothing_picked)
    (search-missed nat_list_cmp_total (λ line. line.hash) hash (λ line. bytes_eq line.hash hash) (λ line. hash-ties line.hash hash) lines ascending i missed)

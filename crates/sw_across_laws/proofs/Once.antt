-- Rows of which each name has one.
use Rattle.std.proofs.Common.{◌≡◌, ℕ, Bool, true, false, cond, List, [], ◌∷◌, ◌++◌, Option, None, Some, refl, sym, ◌∙◌, ap, inl, inr}
use Rattle.std.proofs.lemmas.List.Folds.{find-append}
use Rattle.std.specs.List.{filter, find}
use Rattle.std.specs.Option.{option_or}
use Rattle.sw_listing_laws.proofs.Listing.{in-contained, row-itself}
use Rattle.sw_rows.proofs.Named.{find-filter, same_name}
use Rattle.sw_rows.specs.Rows.{IsNamedOnce, find_named, is_named}
use Rattle.sw_rows.specs.declared.numbered.Numbered.{Numbered}
use Rattle.sw_shard_listing.proofs.Members.{In}
use Rattle.sw_shard_listing.specs.Laws.{IsOnce}

-- two of them that have one name are one
pub once-is : (ns : List Numbered) → IsNamedOnce ns → IsOnce ns
once-is ns once m n is_m is_n same =
    let a : find_named ns m.row.name ≡ Some m.row = row-itself ns m once (in-contained ns m is_m) in
    let b : find_named ns n.row.name ≡ Some n.row = row-itself ns n once (in-contained ns n is_n) in
    let c : find_named ns m.row.name ≡ Some n.row = ap (find_named ns) same ∙ b in
    cc

-- what passes a test is so, too
pub once-filter : (p : Numbered → Bool) (ns : List Numbered) → IsNamedOnce ns → IsNamedOnce (filter p ns)
once-filter p [] once = tt
once-filter p (n ∷ ns) once = by (p n) (once-filter p ns once.1)
  where
    by : (b : Bool) → IsNamedOnce (filter p ns) → IsNamedOnce (cond b (n ∷ filter p ns) (filter p ns))
    by true rest = (find-filter (is_named n.row.name) p ns once.0, rest)
    by false rest = rest

-- a name that none of them has isn't found
not-found : (name : List ℕ) (ns : List Numbered) → ((n : Numbered) → In n ns → name ≡ n.row.name → ⊥) → find (is_named name) ns ≡ None
not-found name [] apart = refl
not-found name (n ∷ ns) apart = by (is_named name n) refl (not-found name ns (λ k i. apart k (inr i)))
  where
    by : (b : Bool) → is_named name n ≡ b → find (is_named name) ns ≡ None → cond b (Some n) (find (is_named name) ns) ≡ None
    by true is rest = absurd (apart n (inl refl) (sym (same_name n.row.name name is)))
    by false is rest = rest

-- so are two lists of them with different names, one behind the other
pub once-append : (xs ys : List Numbered) → IsNamedOnce xs → IsNamedOnce ys
    → ((m n : Numbered) → In m xs → In n ys → m.row.name ≡ n.row.name → ⊥) → IsNamedOnce (xs ++ ys)
once-append [] ys one other apart = other
once-append (x ∷ xs) ys one other apart = (
  find-append (is_named x.row.name) xs ys
      ∙ ap (λ (o : Option Numbered). option_or o (find (is_named x.row.name) ys)) one.0
      ∙ not-found x.row.name ys (λ n i. apart x n (inl refl) i),
  once-append xs ys one.1 other (λ m n i j. apart m n (inr i) j),
)

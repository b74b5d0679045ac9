-- Entries by their texts: where no two have one text, lists of the same entries give the same, in whatever order they stand.
use Rattle.std.proofs.Common.{◌≡◌, ℕ, ◌≤◌, min, List, [], ◌∷◌, length, map, take, refl, sym, ◌∙◌, ap, subst, arith, ◌⊎◌, inl, inr}
use Rattle.std.proofs.lemmas.Cmp.{nat_list_cmp_total}
use Rattle.std.proofs.lemmas.List.{length-take, take_all}
use Rattle.std.proofs.lemmas.Map.Lookups.{exact_bytes}
use Rattle.std.specs.Cmp.Lexicographic.{slice_cmp}
use Rattle.std.specs.List.{AllByRecursion, fold}
use Rattle.std.specs.List.Sorted.{IsStrictlySortedBy}
use Rattle.std.specs.Map.{keys_of, values_of}
use Rattle.std.specs.Ordering.{nat_cmp}
use Rattle.sw_listing.proofs.Members.{In, front-of, insert-keeps, insert-keyed, insert-there, inserted, sorted-insert}
use Rattle.sw_listing.specs.Entries.{entry_text}
use Rattle.sw_listing.specs.Listing.{by_text, with_entry}
use Rattle.sw_listing.specs.declared.entry.Entry.{Entry}

abbrev Table : Type 0
Table = List (List ℕ × Entry)

-- in byte order of its keys, each of which is the text of its entry
record IsInOrder (table : Table) : Type 0 where
  sorted : IsStrictlySortedBy (slice_cmp nat_cmp) (keys_of table)
  keyed : AllByRecursion (λ e. e.0 ≡ entry_text e.1) table

with-one : (table : Table) (e : Entry) → IsInOrder table → IsInOrder (with_entry table e)
with-one table e is = record {
  sorted = sorted-insert nat_list_cmp_total table (entry_text e) e is.sorted;
  keyed = insert-keyed nat_list_cmp_total entry_text exact_bytes table e is.keyed;
}

with-all : (es : List Entry) (table : Table) → IsInOrder table → IsInOrder (fold with_entry table es)
with-all [] table is = is
with-all (e ∷ es) table is = with-all es (with_entry table e) (with-one table e is)

-- an entry of the table, or one of these
abbrev IsAmong : Table → List Entry → Entry → Type 0
IsAmong table es x = In x (values_of table) ⊎ In x es

among-less : (e : Entry) (es : List Entry) (table : Table) (x : Entry) → IsAmong (with_entry table e) es x → IsAmong table (e ∷ es) x
among-less e es table x (inl there) =
    elim (inserted nat_list_cmp_total table (entry_text e) e x there) [ inl new ↦ inr (inl new) | inr old ↦ inl old ]
among-less e es table x (inr later) = inr (inr later)

-- each entry that is there then was there, or is one of these
come-from : (es : List Entry) (table : Table) (x : Entry) → In x (values_of (fold with_entry table es)) → IsAmong table es x
come-from [] table x is = inl is
come-from (e ∷ es) table x is = among-less e es table x (come-from es (with_entry table e) x is)

-- no two of these have one text
abbrev pub AreApart : (Entry → Type 0) → Type 0
AreApart Is = (x y : Entry) → Is x → Is y → entry_text x ≡ entry_text y → x ≡ y

-- and then all that were there, and all of these, are there
are-there : (es : List Entry) (table : Table) → IsInOrder table → AreApart (IsAmong table es) → (x : Entry) → IsAmong table es x
    → In x (values_of (fold with_entry table es))
are-there [] table is apart x (inl there) = there
are-there [] table is apart x (inr never) = absurd never
are-there (e ∷ es) table is apart x among =
    are-there es (with_entry table e) (with-one table e is)
    (λ a b is_a is_b. apart a b (among-less e es table a is_a) (among-less e es table b is_b)) x (still among)
  where
    put : In e (values_of (with_entry table e))
    put = insert-there nat_list_cmp_total table (entry_text e) e

    still : IsAmong table (e ∷ es) x → IsAmong (with_entry table e) es x
    still (inl there) = elim (insert-keeps nat_list_cmp_total entry_text table (entry_text e) e x is.keyed there) [
      | inl kept ↦ inl kept
      | inr tied ↦ inl (subst (λ (y : Entry). In y (values_of (with_entry table e)))
          (apart e x (inr (inl refl)) (inl there) (exact_bytes (entry_text e) (entry_text x) tied)) put)
    ]
    still (inr (inl here)) = inl (subst (λ (y : Entry). In y (values_of (with_entry table e))) here put)
    still (inr (inr later)) = inr later

-- ---- all of them

no-entries : IsInOrder []
unfolding IsStrictlySortedBy
no-entries = record { sorted = tt; keyed = tt }

key-texts : (table : Table) → AllByRecursion (λ e. e.0 ≡ entry_text e.1) table → keys_of table ≡ map entry_text (values_of table)
key-texts [] keyed = refl
key-texts (e ∷ es) keyed =
    ap (λ (k : List ℕ). k ∷ keys_of es) keyed.0 ∙ ap (λ (t : List (List ℕ)). entry_text e.1 ∷ t) (key-texts es keyed.1)

rises : (es : List Entry) → IsStrictlySortedBy (slice_cmp nat_cmp) (map entry_text (values_of (by_text es)))
rises es =
    let o : IsInOrder (by_text es) = with-all es [] no-entries in
    subst (λ (t : List (List ℕ)). IsStrictlySortedBy (slice_cmp nat_cmp) t) (key-texts (by_text es) o.keyed) o.sorted

among-none : (es : List Entry) (x : Entry) → IsAmong [] es x → In x es
among-none es x (inl never) = absurd never
among-none es x (inr is) = is

is-one : (es : List Entry) (x : Entry) → In x (values_of (by_text es)) → In x es
is-one es x is = among-none es x (come-from es [] x is)

is-there : (es : List Entry) → AreApart (λ x. In x es) → (x : Entry) → In x es → In x (values_of (by_text es))
is-there es apart x is = are-there es [] no-entries (λ a b is_a is_b. apart a b (among-none es a is_a) (among-none es b is_b)) x (inr is)

-- rising lists of the same entries are one
rising-one : (xs ys : List Entry) → IsStrictlySortedBy (slice_cmp nat_cmp) (map entry_text xs) → IsStrictlySortedBy (slice_cmp nat_cmp) (map entry_text ys)
    → ((x : Entry) → In x xs → In x ys) → ((x : Entry) → In x ys → In x xs) → xs ≡ ys
rising-one xs ys up also forth back =
    sym front_of_ys ∙ take_all (length xs) ys fewer
  where
    front_of_ys : take (length xs) ys ≡ xs
    front_of_ys = front-of entry_text nat_list_cmp_total xs ys up also forth (λ x is. inl (back x is))

    front_of_xs : take (length ys) xs ≡ ys
    front_of_xs = front-of entry_text nat_list_cmp_total ys xs also up back (λ x is. inl (forth x is))

    fewer : length ys ≤ length xs
    fewer = let short : min (length ys) (length xs) ≡ length ys = sym (length-take (length ys) xs) ∙ ap length front_of_xs in omega arith

-- so lists of the same entries give the same
pub by-text-one : (es fs : List Entry) → AreApart (λ x. In x es) → AreApart (λ x. In x fs) → ((x : Entry) → In x es → In x fs)
    → ((x : Entry) → In x fs → In x es) → values_of (by_text es) ≡ values_of (by_text fs)
by-text-one es fs apart also forth back =
    rising-one (values_of (by_text es)) (values_of (by_text fs)) (rises es) (rises fs)
    (λ x is. is-there fs also x (forth x (is-one es x is))) (λ x is. is-there es apart x (back x (is-one fs x is)))

-- Lines that were put by their hashes stand in order of these.
use Rattle.std.proofs.Common.{◌≡◌, refl, sym, ◌∙◌, ap, subst, List, [], ◌∷◌, map}
use Rattle.std.proofs.lemmas.Cmp.{nat_list_cmp_total}
use Rattle.std.proofs.lemmas.Map.Lookups.{exact_bytes}
use Rattle.std.specs.Bool.{⊤}
use Rattle.std.specs.BTreeMap.{insert_entry}
use Rattle.std.specs.Cmp.Lexicographic.{slice_cmp}
use Rattle.std.specs.List.{AllByRecursion, fold}
use Rattle.std.specs.List.Sorted.{IsStrictlySortedBy}
use Rattle.std.specs.Map.{keys_of, values_of}
use Rattle.std.specs.Ordering.{match_ordering, nat_cmp, ordering_reverse}
use Rattle.std.specs.declared.cmp.Ordering.{Ordering}
use Rattle.std.specs.declared.cmp.Ordering.TheVariants.{Equal, Greater, Less}
use Rattle.sw_object_steps.specs.Journals.{Hash}
use Rattle.sw_suffix.specs.declared.dir_line.DirLine.{DirLine}
use Rattle.sw_replica_server.specs.Laws.{InByteOrder}
use Rattle.sw_replica_server.specs.ReplicaText.{with_line}

abbrev cmp : Hash → Hash → Ordering
cmp = slice_cmp nat_cmp

abbrev Entries : Type 0
Entries = List (Hash × DirLine)

-- what holds of all keys and of one more
all-put : (P : Hash → Type 0) (es : Entries) (k : Hash) (v : DirLine) → AllByRecursion P (keys_of es) → P k →
    AllByRecursion P (keys_of (insert_entry cmp es k v))
all-put P [] k v all one = (one, tt)
all-put P (e ∷ es) k v all one = by (cmp k e.0) (all-put P es k v all.1 one)
  where
    by : (o : Ordering) → AllByRecursion P (keys_of (insert_entry cmp es k v))
        → AllByRecursion P (keys_of (match_ordering o ((k, v) ∷ e ∷ es) ((e.0, v) ∷ es) (e ∷ insert_entry cmp es k v)))
    by Less later = (one, all)
    by Equal later = all
    by Greater later = (all.0, later)

-- what is above something that is above k
all-above : (k x : Hash) (ks : List Hash) → cmp k x ≡ Less → AllByRecursion (λ y. cmp x y ≡ Less) ks → AllByRecursion (λ y. cmp k y ≡ Less) ks
all-above k x [] less all = tt
all-above k x (y ∷ ks) less all = (nat_list_cmp_total.trans k x y less all.0, all-above k x ks less all.1)

sorted-put : (es : Entries) (k : Hash) (v : DirLine) → IsStrictlySortedBy cmp (keys_of es) → IsStrictlySortedBy cmp (keys_of (insert_entry cmp es k v))
unfolding IsStrictlySortedBy
sorted-put [] k v sorted = (tt, tt)
sorted-put (e ∷ es) k v sorted = by (cmp k e.0) refl (sorted-put es k v sorted.1)
  where
    by : (o : Ordering) → cmp k e.0 ≡ o → IsStrictlySortedBy cmp (keys_of (insert_entry cmp es k v))
        → IsStrictlySortedBy cmp (keys_of (match_ordering o ((k, v) ∷ e ∷ es) ((e.0, v) ∷ es) (e ∷ insert_entry cmp es k v)))
    by Less is later = ((is, all-above k e.0 (keys_of es) is sorted.0), sorted)
    by Equal is later = sorted
    by Greater is later =
        let less : cmp e.0 k ≡ Less = nat_list_cmp_total.antisymm e.0 k ∙ ap ordering_reverse is in
        (all-put (λ y. cmp e.0 y ≡ Less) es k v sorted.0 less, later)

-- each line stands at its own hash
abbrev AreOwn : Entries → Type 0
AreOwn [] = ⊤
AreOwn (e ∷ es) = (e.0 ≡ e.1.hash) × AreOwn es

own-put : (es : Entries) (line : DirLine) → AreOwn es → AreOwn (with_line es line)
own-put [] line own = (refl, tt)
own-put (e ∷ es) line own = by (cmp line.hash e.0) refl (own-put es line own.1)
  where
    by : (o : Ordering) → cmp line.hash e.0 ≡ o → AreOwn (with_line es line)
        → AreOwn (match_ordering o ((line.hash, line) ∷ e ∷ es) ((e.0, line) ∷ es) (e ∷ with_line es line))
    by Less is later = (refl, own)
    by Equal is later = (sym (exact_bytes line.hash e.0 is), own.1)
    by Greater is later = (own.0, later)

own-hashes : (es : Entries) → AreOwn es → keys_of es ≡ map (λ line. line.hash) (values_of es)
own-hashes [] own = refl
own-hashes (e ∷ es) own = λ i. own.0 i ∷ own-hashes es own.1 i

both : (es : Entries) (lines : List DirLine) → IsStrictlySortedBy cmp (keys_of es) → AreOwn es
    → IsStrictlySortedBy cmp (keys_of (fold with_line es lines)) × AreOwn (fold with_line es lines)
both es [] sorted own = (sorted, own)
both es (line ∷ lines) sorted own = both (with_line es line) lines (sorted-put es line.hash line sorted) (own-put es line own)

pub in_byte_order : InByteOrder
unfolding IsStrictlySortedBy
in_byte_order lines =
    let end = both [] lines tt tt in
    subst (λ (hashes : List Hash). IsStrictlySortedBy cmp hashes) (own-hashes (fold with_line [] lines) end.1) end.0

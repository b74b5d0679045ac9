-- Rows between two names.
use Rattle.std.proofs.Common.{◌≡◌, ℕ, Bool, true, false, cond, not, ◌&&◌, List, [], ◌∷◌, ◌++◌, map, Option, None, Some, All, refl, sym, ◌∙◌, ap, subst, Bor}
use Rattle.std.specs.Arc.{arc_value}
use Rattle.std.specs.BTreeMap.{BTreeMap, is_at}
use Rattle.std.specs.BTreeMap.Range.{entries_between, IsEntryInRange, range_contains}
use Rattle.std.specs.declared.ops.Bound.TheVariants.{Included, Excluded}
use Rattle.std.specs.Cmp.Lexicographic.{slice_cmp}
use Rattle.std.specs.List.{AllByRecursion, filter, find}
use Rattle.std.specs.List.Sorted.{IsStrictlySortedBy}
use Rattle.std.specs.Map.{keys_of, lookup}
use Rattle.std.specs.Option.{MatchOption, option_map}
use Rattle.std.specs.Ordering.{is_eq, is_gt, is_le, is_lt, nat_cmp, ordering_reverse}
use Rattle.std.specs.Str.{bytes_eq}
use Rattle.std.specs.declared.alloc.Global.{Global}
use Rattle.std.specs.declared.cmp.Ordering.{Ordering}
use Rattle.std.specs.declared.cmp.Ordering.TheVariants.{Less, Equal, Greater}
use Rattle.std.specs.declared.vec.Vec.{Vec}
use Rattle.std.proofs.lemmas.List.{map-append}
use Rattle.std.proofs.lemmas.List.Elements.{All-head, All-tail, All-weaker}
use Rattle.std.proofs.lemmas.Map.Entries.{lookup-filter-keys}
use Rattle.std.proofs.lemmas.Cmp.{nat_list_cmp_total}
use Rattle.std.proofs.lemmas.Map.Lookups.{exact_bytes}
use Rattle.sw_rows.specs.Index.{AreNames, held_at, name_cmp, numbered_of}
use Rattle.sw_rows.specs.Names.{AreNamed, is_between, ListsBetween, row_of, rows_named}
use Rattle.sw_rows.specs.Rows.{find_named, is_named}
use Rattle.sw_rows.specs.declared.held.Held.{Held}
use Rattle.sw_rows.specs.declared.numbered.Numbered.{Numbered}
use Rattle.sw_rows.specs.declared.row.Row.{Row}
use Rattle.sw_rows.proofs.Entries.{at_name, by_items, name-comm}
use Rattle.sw_rows.proofs.Named.{same_name}

-- ---- one step of an iterator

pub last-rows : (es : List (Vec ℕ Global × Held)) (e : Vec ℕ Global × Held) → rows_named (es ++ e ∷ []) ≡ rows_named es ++ arc_value e.1.row ∷ []
last-rows es e = map-append (λ (x : Vec ℕ Global × Held). arc_value x.1.row) es (e ∷ [])

last-named : (es : List (Vec ℕ Global × Held)) (e : Vec ℕ Global × Held) → AreNamed (es ++ e ∷ []) → AreNamed es
last-named [] e named = tt
last-named (d ∷ ds) e named = (named.0, last-named ds e named.1)

-- ---- the rows of a part of the names

-- the row of a name among rows to which names lead
row_of-named : (es : List (Vec ℕ Global × Held)) (name : List ℕ) → AreNamed es → row_of (rows_named es) name ≡ option_map (λ n. n.row) (held_at es name)
row_of-named [] name named = refl
row_of-named (e ∷ es) name named =
    let same : is_eq (slice_cmp nat_cmp name e.0.items) ≡ bytes_eq (arc_value e.1.row).name name =
    at_name name e.0.items ∙ name-comm name e.0.items ∙ ap (λ (x : List ℕ). bytes_eq x name) (sym named.0) in
    rw same (at (bytes_eq (arc_value e.1.row).name name) (row_of-named es name named.1))
  where
    at : (b : Bool) → row_of (rows_named es) name ≡ option_map (λ n. n.row) (held_at es name) →
        cond b (Some (arc_value e.1.row)) (row_of (rows_named es) name)
        ≡ option_map (λ n. n.row) (option_map numbered_of (cond b (Some e.1) (lookup (is_at (name_cmp name)) es)))
    at true rest = refl
    at false rest = rest

reverse_lt : (o : Ordering) → is_lt (ordering_reverse o) ≡ not (is_le o)
reverse_lt Less = refl
reverse_lt Equal = refl
reverse_lt Greater = refl

equal_at : (o : Ordering) → is_eq o ≡ true → o ≡ Equal
equal_at Less is = cc
equal_at Equal is = refl
equal_at Greater is = cc

-- the names of a part are those between its bounds
held_at-between : (lower upper : Vec ℕ Global) (names : List (Vec ℕ Global × Held)) (name : List ℕ)
    → held_at (entries_between by_items (Included lower) (Excluded upper) names) name
    ≡ cond (is_between lower.items upper.items name) (held_at names name) None
held_at-between lower upper names name =
    ap (λ (o : Option Held). option_map numbered_of o) (lookup-filter-keys (is_at (name_cmp name)) (range_contains by_items (Included lower) (Excluded upper))
    (is_between lower.items upper.items name) within names)
    ∙ at (is_between lower.items upper.items name)
  where
    at : (b : Bool) → option_map numbered_of (cond b (lookup (is_at (name_cmp name)) names) None) ≡ cond b (held_at names name) None
    at true = refl
    at false = refl

    within : (k : Vec ℕ Global) → is_at (name_cmp name) k ≡ true →
        range_contains by_items (Included lower) (Excluded upper) k ≡ is_between lower.items upper.items name
    within k found =
        let same : name ≡ k.items = exact_bytes name k.items (equal_at (slice_cmp nat_cmp name k.items) found) in
        let turned : not (is_le (slice_cmp nat_cmp upper.items k.items)) ≡ is_lt (slice_cmp nat_cmp k.items upper.items) =
        sym (ap is_lt (nat_list_cmp_total.antisymm k.items upper.items) ∙ reverse_lt (slice_cmp nat_cmp upper.items k.items)) in
        rw (turned, same) refl

found_named : (name : List ℕ) (ns : List Numbered) (n : Numbered) → find (is_named name) ns ≡ Some n → n.row.name ≡ name
found_named name [] n found = cc
found_named name (m ∷ ms) n found = at (is_named name m) refl found (λ h. found_named name ms n h)
  where
    at : (b : Bool) → is_named name m ≡ b → cond b (Some m) (find (is_named name) ms) ≡ Some n → (find (is_named name) ms ≡ Some n → n.row.name ≡ name) →
        n.row.name ≡ name
    at true is found rest =
        let same : m ≡ n = cc in
        ap (λ (x : Numbered). x.row.name) (sym same) ∙ same_name m.row.name name is
    at false is found rest = rest found

-- what a name leads to is a row of that name
pub are-named : (list : List Numbered) (names : List (Vec ℕ Global × Held)) → AreNames list names → (es : List (Vec ℕ Global × Held)) →
    All (λ e. lookup (is_at (name_cmp e.0.items)) names ≡ Some e.1) es → AreNamed es
are-named list names are [] all = tt
are-named list names are (e ∷ es) all =
    let P : Vec ℕ Global × Held → Type 0 = λ x. lookup (is_at (name_cmp x.0.items)) names ≡ Some x.1 in
    let found : find (is_named e.0.items) list ≡ Some (numbered_of e.1) =
    sym (are e.0.items) ∙ ap (λ (o : Option Held). option_map numbered_of o) (All-head P e es all) in
    (found_named e.0.items list (numbered_of e.1) found, are-named list names are es (All-tail P e es all))

-- what a range of the map by name gives
pub named-range : (list : List Numbered) (m : BTreeMap (Vec ℕ Global) Held) (lower upper : Vec ℕ Global) (es : List (Vec ℕ Global × Held)) →
    AreNames list m.entries → All (IsEntryInRange by_items (Included lower) (Excluded upper) m) es → AreNamed es
named-range list m lower upper es are all =
    are-named list m.entries are es
    (All-weaker (IsEntryInRange by_items (Included lower) (Excluded upper) m) (λ e. lookup (is_at (name_cmp e.0.items)) m.entries ≡ Some e.1)
    (λ e h. h.1) es all)

exact-between : (list : List Numbered) (names : List (Vec ℕ Global × Held)) (lower upper : Vec ℕ Global) → AreNames list names →
    AreNamed (entries_between by_items (Included lower) (Excluded upper) names) → (name : List ℕ) →
    row_of (rows_named (entries_between by_items (Included lower) (Excluded upper) names)) name
    ≡ cond (is_between lower.items upper.items name) (find_named list name) None
exact-between list names lower upper are named name =
    row_of-named (entries_between by_items (Included lower) (Excluded upper) names) name named
    ∙ rw (held_at-between lower upper names name, are name) (at (is_between lower.items upper.items name))
  where
    at : (b : Bool) → option_map (λ n. n.row) (cond b (find (is_named name) list) None) ≡ cond b (find_named list name) None
    at true = refl
    at false = refl

all-names : (x : List ℕ) (es : List (Vec ℕ Global × Held)) → AreNamed es → AllByRecursion (λ k. slice_cmp nat_cmp x k.items ≡ Less) (keys_of es) →
    AllByRecursion (λ y. slice_cmp nat_cmp x y ≡ Less) (map (λ r. r.name) (rows_named es))
all-names x [] named all = tt
all-names x (e ∷ es) named all = (rw named.0 all.0, all-names x es named.1 all.1)

names-rise : (es : List (Vec ℕ Global × Held)) → AreNamed es → IsStrictlySortedBy by_items (keys_of es) →
    IsStrictlySortedBy (slice_cmp nat_cmp) (map (λ r. r.name) (rows_named es))
unfolding IsStrictlySortedBy
names-rise [] named sorted = tt
names-rise (e ∷ es) named sorted = (rw named.0 (all-names e.0.items es named.1 sorted.0), names-rise es named.1 sorted.1)

all-kept : (P : Vec ℕ Global → Type 0) (p : Vec ℕ Global → Bool) (es : List (Vec ℕ Global × Held)) → AllByRecursion P (keys_of es) →
    AllByRecursion P (keys_of (filter (λ e. p e.0) es))
all-kept P p [] all = tt
all-kept P p (e ∷ es) all = at (p e.0) (all-kept P p es all.1)
  where
    at : (b : Bool) → AllByRecursion P (keys_of (filter (λ d. p d.0) es)) →
        AllByRecursion P (keys_of (cond b (e ∷ filter (λ d. p d.0) es) (filter (λ d. p d.0) es)))
    at true rest = (all.0, rest)
    at false rest = rest

kept-rise : (p : Vec ℕ Global → Bool) (es : List (Vec ℕ Global × Held)) → IsStrictlySortedBy by_items (keys_of es) →
    IsStrictlySortedBy by_items (keys_of (filter (λ e. p e.0) es))
unfolding IsStrictlySortedBy
kept-rise p [] sorted = tt
kept-rise p (e ∷ es) sorted = at (p e.0) (kept-rise p es sorted.1)
  where
    at : (b : Bool) → IsStrictlySortedBy by_items (keys_of (filter (λ d. p d.0) es)) →
        IsStrictlySortedBy by_items (keys_of (cond b (e ∷ filter (λ d. p d.0) es) (filter (λ d. p d.0) es)))
    at true rest = (all-kept (λ y. by_items e.0 y ≡ Less) p es sorted.0, rest)
    at false rest = rest

pub lists-between : (list : List Numbered) (names es : List (Vec ℕ Global × Held)) (lower upper : Vec ℕ Global) → AreNames list names →
    IsStrictlySortedBy by_items (keys_of names) → es ≡ entries_between by_items (Included lower) (Excluded upper) names → AreNamed es →
    ListsBetween lower.items upper.items list (rows_named es)
lists-between list names es lower upper are sorted is named =
    let part : List (Vec ℕ Global × Held) = entries_between by_items (Included lower) (Excluded upper) names in
    let P : List (Vec ℕ Global × Held) → Type 0 = λ x. ListsBetween lower.items upper.items list (rows_named x) in
    let H : List (Vec ℕ Global × Held) → Type 0 = λ x. AreNamed x in
    let named_part : AreNamed part = subst H is named in
    let made : ListsBetween lower.items upper.items list (rows_named part) = record {
      ascending = names-rise part named_part (kept-rise (range_contains by_items (Included lower) (Excluded upper)) names sorted);
      exact = λ name. exact-between list names lower upper are named_part name;
    } in
    subst P (sym is) made

-- bounds the wrong way round have nothing between them
none_between : (lower upper name : List ℕ) → slice_cmp nat_cmp upper lower ≡ Less → is_between lower upper name ≡ is_between lower lower name
none_between lower upper name apart = at (slice_cmp nat_cmp lower name) (slice_cmp nat_cmp name upper) refl refl
  where
    below : (v : Ordering) (o : Ordering) → slice_cmp nat_cmp name upper ≡ v → slice_cmp nat_cmp name lower ≡ o → (o ≡ Less → ⊥) → is_lt v ≡ false
    below Less o high back apart_at = absurd (apart_at (sym back ∙ nat_list_cmp_total.trans name upper lower high apart))
    below Equal o high back apart_at = refl
    below Greater o high back apart_at = refl

    at : (u v : Ordering) → slice_cmp nat_cmp lower name ≡ u → slice_cmp nat_cmp name upper ≡ v →
        (is_le u && is_lt v) ≡ (is_le u && is_lt (slice_cmp nat_cmp name lower))
    at Greater v low high = refl
    at Less v low high =
        let back : slice_cmp nat_cmp name lower ≡ Greater = nat_list_cmp_total.antisymm name lower ∙ ap ordering_reverse low in
        rw back (below v Greater high back (λ e. cc))
    at Equal v low high =
        let back : slice_cmp nat_cmp name lower ≡ Equal = nat_list_cmp_total.antisymm name lower ∙ ap ordering_reverse low in
        rw back (below v Equal high back (λ e. cc))

pub lists-none : (lower upper : List ℕ) (list : List Numbered) (rows : List Row) → slice_cmp nat_cmp upper lower ≡ Less → ListsBetween lower lower list rows →
    ListsBetween lower upper list rows
lists-none lower upper list rows apart lists =
    record { ascending = lists.ascending; exact = λ name. lists.exact name ∙ rw (none_between lower upper name apart) refl }

less_at : (o : Ordering) → is_lt o ≡ true → o ≡ Less
less_at Less is = refl
less_at Equal is = cc
less_at Greater is = cc

reverse_gt : (o : Ordering) → is_gt (ordering_reverse o) ≡ is_lt o
reverse_gt Less = refl
reverse_gt Equal = refl
reverse_gt Greater = refl

pub not-above : (lower upper : List ℕ) → is_lt (slice_cmp nat_cmp upper lower) ≡ false → is_gt (slice_cmp nat_cmp lower upper) ≡ false
not-above lower upper is = ap is_gt (nat_list_cmp_total.antisymm lower upper) ∙ reverse_gt (slice_cmp nat_cmp upper lower) ∙ is

pub lists-backwards : (lower upper : List ℕ) (list : List Numbered) (rows : List Row) → is_lt (slice_cmp nat_cmp upper lower) ≡ true →
    ListsBetween lower lower list rows →
    ListsBetween lower upper list rows
lists-backwards lower upper list rows is lists = lists-none lower upper list rows (less_at (slice_cmp nat_cmp upper lower) is) lists

-- ---- the last one taken

pub last-invariant : (old new : List (Vec ℕ Global × Held)) (r : Option (Bor (Vec ℕ Global) × Bor Held)) →
    MatchOption r ((old ≡ []) × (new ≡ [])) (λ x. old ≡ new ++ (x.0.now, x.1.now) ∷ []) → AreNamed old → AreNamed new
last-invariant old new None steps named = let H : List (Vec ℕ Global × Held) → Type 0 = λ x. AreNamed x in subst H (sym steps.1) tt
last-invariant old new (Some x) steps named =
    let H : List (Vec ℕ Global × Held) → Type 0 = λ x. AreNamed x in
    last-named new (x.0.now, x.1.now) (subst H steps named)

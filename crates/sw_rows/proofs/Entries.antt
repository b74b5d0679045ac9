-- The entries of the two maps of rows.
use Rattle.std.proofs.Common.{◌≡◌, ℕ, ◌<◌, ◌≤◌, Bool, true, false, cond, not, ◌==◌, ◌&&◌, ◌⊎◌, inl, inr, List, [], ◌∷◌, ◌++◌, Option, None, Some, All}
use Rattle.std.proofs.Common.{refl, sym, ◌∙◌, ap, subst, arith}
use Rattle.std.specs.Arc.{arc_value}
use Rattle.std.specs.BTreeMap.{insert_entry, is_at}
use Rattle.std.specs.Cmp.Lexicographic.{slice_cmp}
use Rattle.std.specs.List.{find, list_all}
use Rattle.std.specs.Map.{keys_of, lookup, remove_entry}
use Rattle.std.specs.Option.{option_map}
use Rattle.std.specs.Ordering.{is_eq, is_lt, match_ordering, nat_cmp}
use Rattle.std.specs.Str.{bytes_eq}
use Rattle.std.specs.declared.alloc.Global.{Global}
use Rattle.std.specs.declared.sync.Arc.{Arc}
use Rattle.std.specs.declared.cmp.Ordering.{Ordering}
use Rattle.std.specs.declared.cmp.Ordering.TheVariants.{Less, Equal, Greater}
use Rattle.std.specs.declared.vec.Vec.{Vec}
use Rattle.std.proofs.lemmas.Bool.{cases_lt, eq-eqb, eqb-true, le-ltb, lt-ltb}
use Rattle.std.specs.Prelude.{nat_lt}
use Rattle.std.proofs.lemmas.Cmp.{nat_cmp_total, nat_list_cmp_total, tied_itself}
use Rattle.std.proofs.lemmas.List.{map-append}
use Rattle.std.proofs.lemmas.List.Elements.{All-head, All-tail}
use Rattle.std.proofs.lemmas.Map.Keys.{ge_from_not_lt}
use Rattle.std.proofs.lemmas.Map.Lookups.{exact_bytes, exact_unsigned}
use Rattle.std.proofs.lemmas.Slice.Eq.{bytes_eq-Decides}
use Rattle.sw_rows.specs.Index.{AreNames, but, held_at, name_cmp, numbered_of, row_numbered, rows_of}
use Rattle.sw_rows.specs.Rows.{is_named, is_numbered, IsRising, without}
use Rattle.sw_rows.specs.declared.held.Held.{Held}
use Rattle.sw_rows.specs.declared.numbered.Numbered.{Numbered}
use Rattle.sw_rows.specs.declared.row.Row.{Row}
use Rattle.sw_rows.proofs.Latest.{but-above}
use Rattle.sw_rows.proofs.Named.{find-put, name-sym, same_name}

-- ---- numbers

pub at_itself : (k : ℕ) → is_at (nat_cmp k) k ≡ true
at_itself k = ap is_eq (tied_itself nat_cmp_total k)

-- a test that answers Equal of two things that differ
pub not_at : (o : Ordering) → (o ≡ Equal → ⊥) → is_eq o ≡ false
not_at Less apart = refl
not_at Equal apart = absurd (apart refl)
not_at Greater apart = refl

at_apart : (a b : ℕ) → b < a → is_at (nat_cmp a) b ≡ false
at_apart a b below = not_at (nat_cmp a b) (λ same. let e : a ≡ b = exact_unsigned a b same in omega arith)

equal_at : (o : Ordering) → is_eq o ≡ true → o ≡ Equal
equal_at Less is = cc
equal_at Equal is = refl
equal_at Greater is = cc

-- a key that is above another is put behind it
greater : (o : Ordering) → (o ≡ Equal → ⊥) → (o ≡ Less → ⊥) → o ≡ Greater
greater Less e l = absurd (l refl)
greater Equal e l = absurd (e refl)
greater Greater e l = refl

not_less : (a b : ℕ) → b < a → nat_cmp a b ≡ Less → ⊥
not_less a b below less = let not_lt : nat_lt a b ≡ false = le-ltb a b (omega arith) in at (a == b) (rw not_lt at less)
  where
    at : (v : Bool) → cond v Equal Greater ≡ Less → ⊥
    at true is = cc
    at false is = cc

-- a row under a number above all others is put behind them
pub insert-above : (es : List (ℕ × Arc Row Global)) (k : ℕ) (row : Arc Row Global) → All (λ n. n.rowid < k) (rows_of es) →
    insert_entry nat_cmp es k row ≡ es ++ (k, row) ∷ []
insert-above [] k row above = refl
insert-above (e ∷ es) k row above =
    let P : Numbered → Type 0 = λ n. n.rowid < k in
    let head : e.0 < k = All-head P (record { rowid = e.0; row = arc_value e.1 }) (rows_of es) above in
    let rest : insert_entry nat_cmp es k row ≡ es ++ (k, row) ∷ [] = insert-above es k row (All-tail P (record { rowid = e.0; row = arc_value e.1 })
    (rows_of es) above) in
    let behind : nat_cmp k e.0 ≡ Greater = greater (nat_cmp k e.0) (λ same. let s : k ≡ e.0 = exact_unsigned k e.0 same in omega arith)
    (λ less. not_less k e.0 head less) in
    rw behind (ap (λ (t : List (ℕ × Arc Row Global)). e ∷ t) rest)

-- ---- names

pub name-comm : (a b : List ℕ) → bytes_eq a b ≡ bytes_eq b a
name-comm a b = at (bytes_eq a b) refl
  where
    at : (v : Bool) → bytes_eq a b ≡ v → v ≡ bytes_eq b a
    at true same = sym ((bytes_eq-Decides b a).1 (sym (same_name a b same)))
    at false apart = sym (name-sym a b apart)

-- two names are equal as they compare
pub at_name : (a b : List ℕ) → is_eq (slice_cmp nat_cmp a b) ≡ bytes_eq a b
at_name a b = at (bytes_eq a b) refl
  where
    at : (v : Bool) → bytes_eq a b ≡ v → is_eq (slice_cmp nat_cmp a b) ≡ v
    at true same =
        let P : List ℕ → Type 0 = λ x. is_eq (slice_cmp nat_cmp a x) ≡ true in
        subst P (same_name a b same) (ap is_eq (tied_itself nat_list_cmp_total a))
    at false apart = not_at (slice_cmp nat_cmp a b) (λ tied. let both : bytes_eq a b ≡ true = (bytes_eq-Decides a b).1 (exact_bytes a b tied) in cc)

abbrev pub by_items : Vec ℕ Global → Vec ℕ Global → Ordering
by_items x y = slice_cmp nat_cmp x.items y.items

-- what a map by name has at each name, where something was put in
pub at-insert : (names : List (Vec ℕ Global × Held)) (key : Vec ℕ Global) (held : Held) (name : List ℕ)
    → held_at (insert_entry by_items names key held) name ≡ cond (bytes_eq key.items name) (Some (numbered_of held)) (held_at names name)
at-insert [] key held name = rw (at_name name key.items, name-comm name key.items) (at (bytes_eq key.items name))
  where
    at : (b : Bool) → option_map numbered_of (cond b (Some held) None) ≡ cond b (Some (numbered_of held)) None
    at true = refl
    at false = refl
at-insert (e ∷ es) key held name = at (by_items key e.0) refl (at-insert es key held name)
  where
    other : (b : Bool) → bytes_eq name e.0.items ≡ b → (bytes_eq key.items e.0.items ≡ false) →
        held_at (insert_entry by_items es key held) name ≡ cond (bytes_eq key.items name) (Some (numbered_of held)) (held_at es name) →
        option_map numbered_of (cond b (Some e.1) (lookup (is_at (name_cmp name)) (insert_entry by_items es key held)))
        ≡ cond (bytes_eq key.items name) (Some (numbered_of held)) (option_map numbered_of (cond b (Some e.1) (lookup (is_at (name_cmp name)) es)))
    other true is apart rest =
        let named : name ≡ e.0.items = same_name name e.0.items is in
        let not_key : bytes_eq key.items name ≡ false = ap (λ (x : List ℕ). bytes_eq key.items x) named ∙ apart in
        rw not_key refl
    other false is apart rest = rest

    first : (b : Bool) (o : Option Held) → option_map numbered_of (cond b (Some held) o) ≡ cond b (Some (numbered_of held)) (option_map numbered_of o)
    first true o = refl
    first false o = refl

    same : (b : Bool) → option_map numbered_of (cond b (Some held) (lookup (is_at (name_cmp name)) es))
        ≡ cond b (Some (numbered_of held)) (option_map numbered_of (cond b (Some e.1) (lookup (is_at (name_cmp name)) es)))
    same true = refl
    same false = refl

    at : (o : Ordering) → by_items key e.0 ≡ o →
        held_at (insert_entry by_items es key held) name ≡ cond (bytes_eq key.items name) (Some (numbered_of held)) (held_at es name) →
        held_at (match_ordering o ((key, held) ∷ e ∷ es) ((e.0, held) ∷ es) (e ∷ insert_entry by_items es key held)) name
        ≡ cond (bytes_eq key.items name) (Some (numbered_of held)) (held_at (e ∷ es) name)
    at Less is rest = rw (at_name name key.items, name-comm name key.items) (first (bytes_eq key.items name) (lookup (is_at (name_cmp name)) (e ∷ es)))
    at Equal is rest =
        let equal : key.items ≡ e.0.items = exact_bytes key.items e.0.items is in
        let both : bytes_eq key.items name ≡ bytes_eq name e.0.items = name-comm key.items name ∙ ap (λ (x : List ℕ). bytes_eq name x) equal in
        rw (at_name name e.0.items, both) (same (bytes_eq name e.0.items))
    at Greater is rest =
        let apart : bytes_eq key.items e.0.items ≡ false = sym (at_name key.items e.0.items) ∙ ap is_eq is in
        rw (at_name name e.0.items) (other (bytes_eq name e.0.items) refl apart rest)

-- ---- both maps

pub rows-push : (es : List (ℕ × Arc Row Global)) (rowid : ℕ) (row : Arc Row Global)
    → rows_of (es ++ (rowid, row) ∷ []) ≡ rows_of es ++ record { rowid = rowid; row = arc_value row } ∷ []
rows-push es rowid row = map-append (λ (x : ℕ × Arc Row Global). let n : Numbered = record { rowid = x.0; row = arc_value x.1 } in n) es ((rowid, row) ∷ [])

-- a row takes the place of the one of its name in both maps
pub names-put : (list : List Numbered) (names names' : List (Vec ℕ Global × Held)) (key : Vec ℕ Global) (held : Held) (n : Numbered) → AreNames list names →
    key.items ≡ n.row.name → numbered_of held ≡ n → names' ≡ insert_entry by_items names key held → AreNames (without n.row.name list ++ n ∷ []) names'
names-put list names names' key held n are named is put name =
    rw put (at-insert names key held name ∙ rw (named, is, are name) (sym (find-put list n name)))

-- what a name led to is the row of that name
pub led-to : (list : List Numbered) (names : List (Vec ℕ Global × Held)) (key : Vec ℕ Global) (name : List ℕ) (o : Option Held) → AreNames list names →
    key.items ≡ name → o ≡ lookup (is_at (by_items key)) names → option_map numbered_of o ≡ find (is_named name) list
led-to list names key name o are named is =
    ap (λ (x : Option Held). option_map numbered_of x) is ∙ ap (λ (x : List ℕ). held_at names x) named ∙ are name

-- ---- the greatest number

below-all : (es : List (ℕ × Arc Row Global)) (last k : ℕ) → last < k → All (λ q. is_lt (nat_cmp last q) ≡ false) (keys_of es) →
    list_all (λ n. nat_lt n.rowid k) (rows_of es) ≡ true
below-all [] last k below up_to = refl
below-all (e ∷ es) last k below up_to =
    let P : ℕ → Type 0 = λ q. is_lt (nat_cmp last q) ≡ false in
    let head : e.0 ≤ last = ge_from_not_lt last e.0 (All-head P e.0 (keys_of es) up_to) in
    let first : nat_lt e.0 k ≡ true = lt-ltb e.0 k (omega arith) in
    rw first (below-all es last k below (All-tail P e.0 (keys_of es) up_to))

not-below-all : (es : List (ℕ × Arc Row Global)) (last k : ℕ) (row : Arc Row Global) → k ≤ last → lookup (is_at (nat_cmp last)) es ≡ Some row →
    list_all (λ n. nat_lt n.rowid k) (rows_of es) ≡ false
not-below-all [] last k row above found = cc
not-below-all (e ∷ es) last k row above found = at (is_at (nat_cmp last) e.0) refl found (λ h. not-below-all es last k row above h)
  where
    false_and : (b : Bool) → (b && false) ≡ false
    false_and true = refl
    false_and false = refl

    at : (b : Bool) → is_at (nat_cmp last) e.0 ≡ b → cond b (Some e.1) (lookup (is_at (nat_cmp last)) es) ≡ Some row →
        (lookup (is_at (nat_cmp last)) es ≡ Some row → list_all (λ n. nat_lt n.rowid k) (rows_of es) ≡ false) →
        (nat_lt e.0 k && list_all (λ n. nat_lt n.rowid k) (rows_of es)) ≡ false
    at true is found rest =
        let same : last ≡ e.0 = exact_unsigned last e.0 (equal_at (nat_cmp last e.0) is) in
        let first : nat_lt e.0 k ≡ false = le-ltb e.0 k (omega arith) in
        rw first refl
    at false is found rest = rw (rest found) (false_and (nat_lt e.0 k))

pub above-last : (es : List (ℕ × Arc Row Global)) (last k : ℕ) (row : Arc Row Global) → lookup (is_at (nat_cmp last)) es ≡ Some row →
    All (λ q. is_lt (nat_cmp last q) ≡ false) (keys_of es) → nat_lt last k ≡ list_all (λ n. nat_lt n.rowid k) (rows_of es)
above-last es last k row found up_to = at (cases_lt last k)
  where
    at : (last < k) ⊎ (k ≤ last) → nat_lt last k ≡ list_all (λ n. nat_lt n.rowid k) (rows_of es)
    at (inl below) = rw (lt-ltb last k below) (sym (below-all es last k below up_to))
    at (inr above) = rw (le-ltb last k above) (sym (not-below-all es last k row above found))

-- ---- a row that is taken away by its number

at_number : (a b : ℕ) → is_at (nat_cmp a) b ≡ (b == a)
at_number a b = at (b == a) refl
  where
    at : (v : Bool) → (b == a) ≡ v → is_at (nat_cmp a) b ≡ v
    at true is = ap (λ (x : ℕ). is_at (nat_cmp a) x) (eqb-true b a is) ∙ at_itself a
    at false is = not_at (nat_cmp a b) (λ tied. let yes : (b == a) ≡ true = eq-eqb b a (sym (exact_unsigned a b tied)) in cc)

pub remove-numbered : (low : ℕ) (es : List (ℕ × Arc Row Global)) (rowid : ℕ) → IsRising low (rows_of es) →
    rows_of (remove_entry (is_at (nat_cmp rowid)) es) ≡ but (rows_of es) rowid
remove-numbered low [] rowid rising = refl
remove-numbered low (e ∷ es) rowid rising = at (is_numbered rowid (record { rowid = e.0; row = arc_value e.1 })) refl (remove-numbered e.0 es rowid rising.1)
  where
    at : (b : Bool) → (e.0 == rowid) ≡ b → rows_of (remove_entry (is_at (nat_cmp rowid)) es) ≡ but (rows_of es) rowid →
        rows_of (cond (is_at (nat_cmp rowid) e.0) es (e ∷ remove_entry (is_at (nat_cmp rowid)) es))
        ≡ cond (not b) (record { rowid = e.0; row = arc_value e.1 } ∷ but (rows_of es) rowid) (but (rows_of es) rowid)
    at true is rest =
        let same : e.0 ≡ rowid = eqb-true e.0 rowid is in
        rw (at_number rowid e.0, is) (sym (but-above rowid e.0 (rows_of es) (omega arith) rising.1))
    at false is rest = rw (at_number rowid e.0, is) (ap (λ (t : List Numbered). record { rowid = e.0; row = arc_value e.1 } ∷ t) rest)

pub get-numbered : (es : List (ℕ × Arc Row Global)) (rowid : ℕ) → option_map arc_value (lookup (is_at (nat_cmp rowid)) es) ≡ row_numbered (rows_of es) rowid
get-numbered [] rowid = refl
get-numbered (e ∷ es) rowid = rw (at_number rowid e.0) (at (e.0 == rowid) (get-numbered es rowid))
  where
    at : (b : Bool) → option_map arc_value (lookup (is_at (nat_cmp rowid)) es) ≡ row_numbered (rows_of es) rowid →
        option_map arc_value (cond b (Some e.1) (lookup (is_at (nat_cmp rowid)) es))
        ≡ option_map (λ m. m.row) (cond b (Some (record { rowid = e.0; row = arc_value e.1 })) (find (is_numbered rowid) (rows_of es)))
    at true rest = refl
    at false rest = rest

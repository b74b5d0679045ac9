-- A walk over rows in byte order of their names meets the names of the live rows, and no others.
use Rattle.std.proofs.Common.{◌≡◌, inl, inr, ℕ, ◌+◌, ◌/◌, ◌%◌, ◌<◌, Bool, true, false, cond, not, ◌&&◌, List, [], ◌∷◌, ◌++◌, map, Option, None, Some}
use Rattle.std.proofs.Common.{refl, sym, ◌∙◌, ap, subst, arith}
use Rattle.std.specs.Cmp.Lexicographic.{slice_cmp}
use Rattle.std.specs.List.{AllByRecursion, filter, find}
use Rattle.std.specs.List.Sorted.{IsStrictlySortedBy}
use Rattle.std.specs.Option.{option_map}
use Rattle.std.specs.Ordering.{is_le, nat_cmp}
use Rattle.std.specs.Prelude.{nat_lt}
use Rattle.std.specs.Str.{bytes_eq, IsUtf8}
use Rattle.std.specs.declared.cmp.Ordering.TheVariants.{Less}
use Rattle.std.proofs.lemmas.Bool.{lt-ltb, ltb-true}
use Rattle.std.proofs.lemmas.Cmp.{nat_list_cmp_total}
use Rattle.std.proofs.lemmas.Str.{IsUtf8-had}
use lib.Utf8.{encode, encodes, scalar, scalars, scalar_cases}
use Rattle.sw_rows.specs.Names.{is_between, ListsBetween, row_of}
use Rattle.sw_rows.specs.Rows.{find_named, is_named, IsNamedOnce}
use Rattle.sw_rows.specs.declared.numbered.Numbered.{Numbered}
use Rattle.sw_rows.specs.declared.row.Row.{Row}
use Rattle.sw_rows.proofs.Named.{name_itself, same_name}
use Rattle.sw_shard_range.specs.Bounds.{live_names, names_left}
use Rattle.sw_shard_range.proofs.Live.{AreSorted, by_bytes, live-from, live-into, live-sorted}
use Rattle.sw_shard_range.proofs.Members.{all-in, In, not-itself, same-sorted}

-- ---- each name is text, and so below the byte 255

first-low : (c : ℕ) (bs : List ℕ) → c < 1114112 → slice_cmp nat_cmp (encode c ++ bs) (255 ∷ []) ≡ Less
unfolding encode
first-low c bs below = at (nat_lt c 128) (nat_lt c 2048) (nat_lt c 65536) refl refl refl
  where
    begins : (b : ℕ) (ds : List ℕ) → b < 255 → slice_cmp nat_cmp (b ∷ ds) (255 ∷ []) ≡ Less
    begins b ds less = rw (lt-ltb b 255 less) refl

    at : (x y z : Bool) → nat_lt c 128 ≡ x → nat_lt c 2048 ≡ y → nat_lt c 65536 ≡ z → slice_cmp nat_cmp
        (cond x (c ∷ []) (cond y ((192 + c / 64) ∷ (128 + c % 64) ∷ [])
        (cond z ((224 + c / 4096) ∷ (128 + (c / 64) % 64) ∷ (128 + c % 64) ∷ [])
        ((240 + c / 262144) ∷ (128 + (c / 4096) % 64) ∷ (128 + (c / 64) % 64) ∷ (128 + c % 64) ∷ []))) ++ bs) (255 ∷ []) ≡ Less
    at true y z a b d = let less : c < 128 = ltb-true c 128 a in begins c bs (omega arith)
    at false true z a b d = let less : c < 2048 = ltb-true c 2048 b in begins (192 + c / 64) ((128 + c % 64) ∷ bs) (omega arith)
    at false false true a b d =
        let less : c < 65536 = ltb-true c 65536 d in
        begins (224 + c / 4096) ((128 + (c / 64) % 64) ∷ (128 + c % 64) ∷ bs) (omega arith)
    at false false false a b d =
        begins (240 + c / 262144) ((128 + (c / 4096) % 64) ∷ (128 + (c / 64) % 64) ∷ (128 + c % 64) ∷ bs) (omega arith)

encodes-low : (cs : List ℕ) → scalars cs ≡ true → slice_cmp nat_cmp (encodes cs) (255 ∷ []) ≡ Less
encodes-low [] are = refl
encodes-low (c ∷ cs) are = at (scalar c) refl are
  where
    small : scalar c ≡ true → c < 1114112
    small is = elim (scalar_cases c is) [ inl below ↦ omega arith | inr above ↦ above.1 ]

    at : (b : Bool) → scalar c ≡ b → (b && scalars cs) ≡ true → slice_cmp nat_cmp (encode c ++ encodes cs) (255 ∷ []) ≡ Less
    at true is all = first-low c (encodes cs) (small is)
    at false is all = cc

text-low : (bs : List ℕ) → IsUtf8 bs → slice_cmp nat_cmp bs (255 ∷ []) ≡ Less
text-low bs text = subst (λ (x : List ℕ). slice_cmp nat_cmp x (255 ∷ []) ≡ Less) text.1.1 (encodes-low text.0 text.1.0)

-- each row lies between the bounds of the walk
row-between : (row : Row) → is_between [] (255 ∷ []) row.name ≡ true
row-between row = rw (text-low row.name (IsUtf8-had row.name row.is_text)) (at row.name)
  where
    at : (name : List ℕ) → (is_le (slice_cmp nat_cmp [] name) && true) ≡ true
    at [] = refl
    at (b ∷ bs) = refl

-- ---- rows by their names

find-in : (p : Numbered → Bool) (ns : List Numbered) (n : Numbered) → find p ns ≡ Some n → In n ns
find-in p [] n found = cc
find-in p (m ∷ ms) n found = at (p m) found (λ h. find-in p ms n h)
  where
    at : (b : Bool) → cond b (Some m) (find p ms) ≡ Some n → (find p ms ≡ Some n → In n ms) → In n (m ∷ ms)
    at true found rest = inl cc
    at false found rest = inr (rest found)

named-in : (ns : List Numbered) (name : List ℕ) (row : Row) → find_named ns name ≡ Some row → (n : Numbered) × In n ns × (n.row ≡ row)
named-in ns name row found = at (find (is_named name) ns) refl found
  where
    at : (o : Option Numbered) → find (is_named name) ns ≡ o → option_map (λ n. n.row) o ≡ Some row → (n : Numbered) × In n ns × (n.row ≡ row)
    at None is found = cc
    at (Some n) is found = (n, find-in (is_named name) ns n is, cc)

-- each row is found by its name
find-itself : (ns : List Numbered) (n : Numbered) → IsNamedOnce ns → In n ns → find (is_named n.row.name) ns ≡ Some n
find-itself [] n once is = absurd is
find-itself (m ∷ ms) n once (inl here) = subst (λ (x : Numbered). find (is_named x.row.name) (m ∷ ms) ≡ Some x) here (rw (name_itself m.row.name) refl)
find-itself (m ∷ ms) n once (inr there) = at (is_named n.row.name m) refl (find-itself ms n once.1 there)
  where
    at : (b : Bool) → is_named n.row.name m ≡ b → find (is_named n.row.name) ms ≡ Some n → cond b (Some m) (find (is_named n.row.name) ms) ≡ Some n
    at true is rest =
        let named : m.row.name ≡ n.row.name = same_name m.row.name n.row.name is in
        let gone : find (is_named n.row.name) ms ≡ None = subst (λ (x : List ℕ). find (is_named x) ms ≡ None) named once.0 in
        cc
    at false is rest = rest

name-in : (rows : List Row) (row : Row) → In row rows → In row.name (map (λ r. r.name) rows)
name-in [] row is = absurd is
name-in (r ∷ rs) row (inl here) = inl (ap (λ (x : Row). x.name) here)
name-in (r ∷ rs) row (inr there) = inr (name-in rs row there)

-- a row among rows in the order of names is found by its name, and a row that is found is among them
row-itself : (rows : List Row) (row : Row) → AreSorted (map (λ r. r.name) rows) → In row rows → row_of rows row.name ≡ Some row
unfolding IsStrictlySortedBy
row-itself [] row sorted is = absurd is
row-itself (r ∷ rs) row sorted (inl here) = subst (λ (x : Row). row_of (r ∷ rs) x.name ≡ Some x) here (rw (name_itself r.name) refl)
row-itself (r ∷ rs) row sorted (inr there) = at (bytes_eq r.name row.name) refl (row-itself rs row sorted.1 there)
  where
    at : (b : Bool) → bytes_eq r.name row.name ≡ b → row_of rs row.name ≡ Some row → cond b (Some r) (row_of rs row.name) ≡ Some row
    at true is rest =
        let named : r.name ≡ row.name = same_name r.name row.name is in
        let up : by_bytes r.name row.name ≡ Less =
        all-in (λ y. by_bytes r.name y ≡ Less) (map (λ r. r.name) rs) row.name sorted.0 (name-in rs row there) in
        absurd (not-itself nat_list_cmp_total row.name (subst (λ (x : List ℕ). by_bytes x row.name ≡ Less) named up))
    at false is rest = rest

row-in : (rows : List Row) (name : List ℕ) (row : Row) → row_of rows name ≡ Some row → In row rows
row-in [] name row found = cc
row-in (r ∷ rs) name row found = at (bytes_eq r.name name) found (λ h. row-in rs name row h)
  where
    at : (b : Bool) → cond b (Some r) (row_of rs name) ≡ Some row → (row_of rs name ≡ Some row → In row rs) → In row (r ∷ rs)
    at true found rest = inl cc
    at false found rest = inr (rest found)

-- ---- the names that are left

left-all : (P : List ℕ → Type 0) (rows : List Row) → AllByRecursion P (map (λ r. r.name) rows) → AllByRecursion P (names_left rows)
left-all P [] all = tt
left-all P (r ∷ rs) all = at r.deleted (left-all P rs all.1)
  where
    at : (b : Bool) → AllByRecursion P (names_left rs) →
        AllByRecursion P (map (λ r. r.name) (cond (not b) (r ∷ filter (λ r. not r.deleted) rs) (filter (λ r. not r.deleted) rs)))
    at true rest = rest
    at false rest = (all.0, rest)

left-sorted : (rows : List Row) → AreSorted (map (λ r. r.name) rows) → AreSorted (names_left rows)
unfolding IsStrictlySortedBy
left-sorted [] sorted = tt
left-sorted (r ∷ rs) sorted = at r.deleted (left-sorted rs sorted.1)
  where
    at : (b : Bool) → AreSorted (names_left rs) →
        AreSorted (map (λ r. r.name) (cond (not b) (r ∷ filter (λ r. not r.deleted) rs) (filter (λ r. not r.deleted) rs)))
    at true rest = rest
    at false rest = (left-all (λ y. by_bytes r.name y ≡ Less) rs sorted.0, rest)

left-from : (rows : List Row) (name : List ℕ) → In name (names_left rows) → (row : Row) × In row rows × (row.deleted ≡ false) × (row.name ≡ name)
left-from [] name is = absurd is
left-from (r ∷ rs) name is = at r.deleted refl is (λ h. left-from rs name h)
  where
    at : (b : Bool) → r.deleted ≡ b → In name (map (λ r. r.name) (cond (not b) (r ∷ filter (λ r. not r.deleted) rs) (filter (λ r. not r.deleted) rs))) →
        (In name (names_left rs) → (row : Row) × In row rs × (row.deleted ≡ false) × (row.name ≡ name)) →
        (row : Row) × In row (r ∷ rs) × (row.deleted ≡ false) × (row.name ≡ name)
    at true gone is rest = let h = rest is in (h.0, inr h.1, h.2, h.3)
    at false live (inl here) rest = (r, inl refl, live, here)
    at false live (inr there) rest = let h = rest there in (h.0, inr h.1, h.2, h.3)

left-into : (rows : List Row) (row : Row) → In row rows → row.deleted ≡ false → In row.name (names_left rows)
left-into [] row is live = absurd is
left-into (r ∷ rs) row is live = at r.deleted refl is (λ h. left-into rs row h live)
  where
    at : (b : Bool) → r.deleted ≡ b → In row (r ∷ rs) → (In row rs → In row.name (names_left rs)) →
        In row.name (map (λ r. r.name) (cond (not b) (r ∷ filter (λ r. not r.deleted) rs) (filter (λ r. not r.deleted) rs)))
    at true gone (inl here) rest =
        let dead : row.deleted ≡ true = subst (λ (k : Row). k.deleted ≡ true) here gone in
        cc
    at true gone (inr there) rest = rest there
    at false alive (inl here) rest = inl (ap (λ (x : Row). x.name) here)
    at false alive (inr there) rest = inr (rest there)

same-deleted : (a b : Row) → a ≡ b → b.deleted ≡ false → a.deleted ≡ false
same-deleted a b same live = ap (λ (r : Row). r.deleted) same ∙ live

same-named : (a b : Row) (name : List ℕ) → a ≡ b → b.name ≡ name → a.name ≡ name
same-named a b name same named = ap (λ (r : Row). r.name) same ∙ named

left-named : (rows : List Row) (row : Row) (name : List ℕ) → In row rows → row.deleted ≡ false → row.name ≡ name → In name (names_left rows)
left-named rows row name is live named = subst (λ (x : List ℕ). In x (names_left rows)) named (left-into rows row is live)

live-named : (list : List Numbered) (n : Numbered) (name : List ℕ) → In n list → n.row.deleted ≡ false → n.row.name ≡ name → In name (live_names list)
live-named list n name is live named = subst (λ (x : List ℕ). In x (live_names list)) named (live-into list n is live)

-- the walk over all rows meets the names of all live ones
pub walk-names : (list : List Numbered) (rows : List Row) → IsNamedOnce list → ListsBetween [] (255 ∷ []) list rows → names_left rows ≡ live_names list
walk-names list rows once lists =
    same-sorted nat_list_cmp_total (names_left rows) (live_names list) (left-sorted rows lists.ascending) (live-sorted list) into from
  where
    stored : (row : Row) → In row rows → (n : Numbered) × In n list × (n.row ≡ row)
    stored row is = at (is_between [] (255 ∷ []) row.name) (sym (lists.exact row.name) ∙ row-itself rows row lists.ascending is)
      where
        at : (b : Bool) → cond b (find_named list row.name) None ≡ Some row → (n : Numbered) × In n list × (n.row ≡ row)
        at true found = named-in list row.name row found
        at false found = cc

    listed : (n : Numbered) → In n list → In n.row rows
    listed n is =
        row-in rows n.row.name n.row
        (lists.exact n.row.name ∙ rw (row-between n.row) (ap (λ (o : Option Numbered). option_map (λ m. m.row) o) (find-itself list n once is)))

    into : (name : List ℕ) → In name (names_left rows) → In name (live_names list)
    into name is =
        let l = left-from rows name is in
        let s = stored l.0 l.1 in
        live-named list s.0 name s.1 (same-deleted s.0.row l.0 s.2 l.2) (same-named s.0.row l.0 name s.2 l.3)

    from : (name : List ℕ) → In name (live_names list) → In name (names_left rows)
    from name is =
        let l = live-from list name is in
        left-named rows l.0.row name (listed l.0 l.1) l.2 l.3

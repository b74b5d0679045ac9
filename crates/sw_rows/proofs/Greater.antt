-- Which of two rows of a name counts more, and what merges keep of it.
use Rattle.std.proofs.Common.{◌≡◌, ℕ, ◌<◌, ◌≤◌, Bool, true, false, cond, List, [], ◌∷◌, Option, None, Some, All, ◌⊎◌, inl, inr, refl, sym, ◌∙◌, ap}
use Rattle.std.proofs.Common.{subst, arith}
use Rattle.std.specs.List.{find, fold}
use Rattle.std.specs.Option.{option_map}
use Rattle.std.specs.Str.{bytes_eq}
use Rattle.std.proofs.lemmas.Bool.Decides.{nat_tests}
use Rattle.std.proofs.lemmas.List.Elements.{All-cons, All-head, All-nil, All-tail, All-weaker}
use Rattle.sw_rows.specs.Laws.{greater}
use Rattle.sw_rows.specs.Rows.{IsListed, IsNamedOnce, IsRising, Listed, find_named, fits, is_at_least, is_named, merged, with_row}
use Rattle.sw_rows.specs.declared.numbered.Numbered.{Numbered}
use Rattle.sw_rows.specs.declared.row.Row.{Row}
use Rattle.sw_rows.proofs.Merging.{keeps-the-greatest, listed-with_row}
use Rattle.sw_rows.proofs.Named.{name-sym, name_itself, same_name}

-- ---- which counts more

pub at-least-self : (a : Row) → is_at_least a a ≡ true
at-least-self a = by a.deleted
  where
    by : (b : Bool) → is_at_least (record a { deleted = b }) (record a { deleted = b }) ≡ true
    by true = grind (arith, nat_tests)
    by false = grind (arith, nat_tests)

pub at-least-trans : (a b c : Row) → is_at_least a b ≡ true → is_at_least b c ≡ true → is_at_least a c ≡ true
at-least-trans a b c first second = grind (arith, nat_tests)

pub at-least-other : (a b : Row) → is_at_least a b ≡ false → is_at_least b a ≡ true
at-least-other a b not_so = grind (arith, nat_tests)

-- a row stands that counts at least as much
abbrev pub StandsFor : Option Row → Row → Type 0
StandsFor o row = (there : Row) × (o ≡ Some there) × (is_at_least there row ≡ true)

-- ---- one merge

pub listed-merged : (l : Listed) (row : Row) → IsListed l → IsListed (merged l row)
listed-merged l row is = by (fits (find_named l.list row.name) row)
  where
    by : (b : Bool) → IsListed (cond b (with_row l row) l)
    by true = listed-with_row l row is
    by false = is

pub top-merged : (l : Listed) (row : Row) → l.top ≤ (merged l row).top
top-merged l row = by (fits (find_named l.list row.name) row)
  where
    by : (b : Bool) → l.top ≤ (cond b (with_row l row) l).top
    by true = omega arith
    by false = omega arith

-- what has the name where a row was merged
abbrev now : List ℕ → Option Row → Row → Option Row
now name o row = cond (bytes_eq row.name name) (Some (greater o row)) o

named-now : (l : Listed) (row : Row) (name : List ℕ) → find_named (merged l row).list name ≡ now name (find_named l.list name) row
named-now l row name = keeps-the-greatest l row name ∙ by (bytes_eq row.name name) refl
  where
    by : (b : Bool) → bytes_eq row.name name ≡ b
        → cond b (Some (greater (find_named l.list row.name) row)) (find_named l.list name)
        ≡ cond b (Some (greater (find_named l.list name) row)) (find_named l.list name)
    by true is = ap (λ (x : List ℕ). Some (greater (find_named l.list x) row)) (same_name row.name name is)
    by false is = refl

greater-more : (o : Option Row) (row : Row) → is_at_least (greater o row) row ≡ true
greater-more None row = at-least-self row
greater-more (Some present) row = at (is_at_least present row) refl
  where
    at : (b : Bool) → is_at_least present row ≡ b → is_at_least (cond b present row) row ≡ true
    at true more = more
    at false less = at-least-self row

-- what counts at least as much as a row that stood stands still
still-now : (name : List ℕ) (o : Option Row) (row other : Row) → StandsFor o other → StandsFor (now name o row) other
still-now name o row other stood = by (bytes_eq row.name name)
  where
    here : Row
    here = stood.0

    at : (b : Bool) → is_at_least here row ≡ b → is_at_least (cond b here row) other ≡ true
    at true more = stood.2
    at false less = at-least-trans row here other (at-least-other here row less) stood.2

    by : (b : Bool) → StandsFor (cond b (Some (greater o row)) o) other
    by true = (
      cond (is_at_least here row) here row,
      ap (λ (x : Option Row). Some (greater x row)) stood.1,
      at (is_at_least here row) refl,
    )
    by false = stood

-- and the row that was merged, or one that counts at least as much, stands
pub stands-merged : (l : Listed) (row : Row) → StandsFor (find_named (merged l row).list row.name) row
stands-merged l row = (
  greater (find_named l.list row.name) row,
  keeps-the-greatest l row row.name
      ∙ ap (λ (b : Bool). cond b (Some (greater (find_named l.list row.name) row)) (find_named l.list row.name)) (name_itself row.name),
  greater-more (find_named l.list row.name) row,
)

-- ---- merges one after the other

pub listed-fold : (l : Listed) (rows : List Row) → IsListed l → IsListed (fold merged l rows)
listed-fold l [] is = is
listed-fold l (row ∷ rows) is = listed-fold (merged l row) rows (listed-merged l row is)

pub top-fold : (l : Listed) (rows : List Row) → l.top ≤ (fold merged l rows).top
top-fold l [] = omega arith
top-fold l (row ∷ rows) = omega (arith, top-merged l row, top-fold (merged l row) rows)

pub still-fold : (l : Listed) (rows : List Row) (name : List ℕ) (other : Row) → StandsFor (find_named l.list name) other
    → StandsFor (find_named (fold merged l rows).list name) other
still-fold l [] name other stood = stood
still-fold l (row ∷ rows) name other stood =
    still-fold (merged l row) rows name other
    (subst (λ (o : Option Row). StandsFor o other) (sym (named-now l row name)) (still-now name (find_named l.list name) row other stood))

-- ---- merges of rows of which one alone has the name

-- where this is the only row of the name that may come, what stood of the name stands, or the greater of the two
abbrev pub IsEither : Option Row → Option Row → Option Row → Type 0
IsEither stood comes after = (after ≡ stood) ⊎ ((row : Row) × (comes ≡ Some row) × (after ≡ Some (greater stood row)))

either-now : (name : List ℕ) (stood comes o : Option Row) (row : Row) → (row.name ≡ name → comes ≡ Some row) → IsEither stood comes o
    → IsEither stood comes (now name o row)
either-now name stood comes o row only is = by (bytes_eq row.name name) refl
  where
    twice : (b : Bool) → is_at_least (greater stood row) row ≡ b → cond b (greater stood row) row ≡ greater stood row
    twice true more = refl
    twice false less = let more : is_at_least (greater stood row) row ≡ true = greater-more stood row in cc

    at : comes ≡ Some row → IsEither stood comes o → IsEither stood comes (Some (greater o row))
    at this (inl same) = inr (row, this, ap (λ (x : Option Row). Some (greater x row)) same)
    at this (inr came) =
        let one : came.0 ≡ row = cc in
        let was : o ≡ Some (greater stood row) = came.2 ∙ ap (λ (x : Row). Some (greater stood x)) one in
        inr (
          row,
          this,
          ap (λ (x : Option Row). Some (greater x row)) was ∙ ap (λ (x : Row). Some x) (twice (is_at_least (greater stood row) row) refl),
        )

    by : (b : Bool) → bytes_eq row.name name ≡ b → IsEither stood comes (cond b (Some (greater o row)) o)
    by true named = at (only (same_name row.name name named)) is
    by false other = is

either-from : (name : List ℕ) (stood comes : Option Row) (l : Listed) (rows : List Row) → All (λ (row : Row). row.name ≡ name → comes ≡ Some row) rows
    → IsEither stood comes (find_named l.list name) → IsEither stood comes (find_named (fold merged l rows).list name)
either-from name stood comes l [] only is = is
either-from name stood comes l (row ∷ rows) only is =
    let P : Row → Type 0 = λ x. x.name ≡ name → comes ≡ Some x in
    either-from name stood comes (merged l row) rows (All-tail P row rows only)
    (subst (IsEither stood comes) (sym (named-now l row name))
    (either-now name stood comes (find_named l.list name) row (All-head P row rows only) is))

pub either-fold : (name : List ℕ) (comes : Option Row) (l : Listed) (rows : List Row) → All (λ (row : Row). row.name ≡ name → comes ≡ Some row) rows
    → IsEither (find_named l.list name) comes (find_named (fold merged l rows).list name)
either-fold name comes l rows only = either-from name (find_named l.list name) comes l rows only (inl refl)

-- ---- rows in order

-- each row is found by its name
pub once-found : (ns : List Numbered) → IsNamedOnce ns → All (λ (n : Numbered). find_named ns n.row.name ≡ Some n.row) ns
once-found [] once = All-nil (λ (n : Numbered). find_named [] n.row.name ≡ Some n.row)
once-found (n ∷ ns) once =
    All-cons Found n ns (rw (name_itself n.row.name) refl) (both ns once.0 (once-found ns once.1))
  where
    Found : Numbered → Type 0
    Found m = find_named (n ∷ ns) m.row.name ≡ Some m.row

    apart : (m : Numbered) → bytes_eq m.row.name n.row.name ≡ false → find_named ns m.row.name ≡ Some m.row → Found m
    apart m away found = let other : bytes_eq n.row.name m.row.name ≡ false = name-sym m.row.name n.row.name away in rw other found

    both : (ms : List Numbered) → find (is_named n.row.name) ms ≡ None → All (λ (m : Numbered). find_named ns m.row.name ≡ Some m.row) ms → All Found ms
    both [] none found = All-nil Found
    both (m ∷ ms) none found =
        let P : Numbered → Type 0 = λ x. find_named ns x.row.name ≡ Some x.row in
        at (bytes_eq m.row.name n.row.name) refl none (All-head P m ms found) (λ rest. both ms rest (All-tail P m ms found))
      where
        at : (b : Bool) → bytes_eq m.row.name n.row.name ≡ b → cond b (Some m) (find (is_named n.row.name) ms) ≡ None
            → find_named ns m.row.name ≡ Some m.row → (find (is_named n.row.name) ms ≡ None → All Found ms) → All Found (m ∷ ms)
        at true named never here rest = cc
        at false away none here rest = All-cons Found m ms (apart m away here) (rest none)

-- no row has the number 0, or one below the first
pub rising-above : (low : ℕ) (ns : List Numbered) → IsRising low ns → All (λ (n : Numbered). low < n.rowid) ns
rising-above low [] rising = All-nil (λ (n : Numbered). low < n.rowid)
rising-above low (n ∷ ns) rising =
    let P : Numbered → Type 0 = λ m. n.rowid < m.rowid in
    let Q : Numbered → Type 0 = λ m. low < m.rowid in
    All-cons Q n ns (omega (arith, rising.0)) (All-weaker P Q (λ m above. omega (arith, rising.0, above)) ns (rising-above n.rowid ns rising.1))

-- what holds of each row holds of one that is found, and that one has the name
pub found-of : (P : Row → Type 0) (ns : List Numbered) (name : List ℕ) (row : Row) → find_named ns name ≡ Some row → All (λ (n : Numbered). P n.row) ns
    → (row.name ≡ name) × P row
found-of P [] name row found all = cc
found-of P (n ∷ ns) name row found all = by (is_named name n) refl found (λ later. found-of P ns name row later (All-tail Q n ns all))
  where
    Q : Numbered → Type 0
    Q m = P m.row

    by : (b : Bool) → is_named name n ≡ b → option_map (λ m. m.row) (cond b (Some n) (find (is_named name) ns)) ≡ Some row
        → (find_named ns name ≡ Some row → (row.name ≡ name) × P row) → (row.name ≡ name) × P row
    by true named is rest =
        let same : n.row ≡ row = cc in
        (subst (λ (r : Row). r.name ≡ name) same (same_name n.row.name name named), subst P same (All-head Q n ns all))
    by false other is rest = rest is

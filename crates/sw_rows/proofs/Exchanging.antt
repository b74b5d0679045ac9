-- Rows that are put in and taken away together.
use Rattle.std.proofs.Common.{◌≡◌, ℕ, ◌+◌, ◌<◌, ◌≤◌, Bool, true, false, cond, not, List, [], ◌∷◌, ◌++◌, Option, None, Some, All, refl, sym, ◌∙◌, ap, subst}
use Rattle.std.proofs.Common.{arith, get_or, length, take}
use Rattle.std.specs.List.{find}
use Rattle.std.specs.Option.{option_map, option_or}
use Rattle.std.proofs.lemmas.Bool.{eq-eqb, ne_eqb}
use Rattle.std.proofs.lemmas.List.Elements.{All-head, All-tail, All-weaker}
use Rattle.std.proofs.lemmas.List.Folds.{find-append}
use Rattle.std.proofs.lemmas.List.Sums.{fold_more}
use Rattle.sw_rows.specs.Exchanging.{but_all, IsLog}
use Rattle.sw_rows.specs.Index.{but, row_numbered}
use Rattle.sw_rows.specs.Rows.{find_named, is_named, is_numbered, IsNamedOnce, IsRising, without}
use Rattle.sw_rows.specs.declared.numbered.Numbered.{Numbered}
use Rattle.sw_rows.specs.declared.row.Row.{Row}
use Rattle.sw_rows.proofs.Copying.{rising-above, rising-behind}
use Rattle.sw_rows.proofs.Latest.{but-above, but-below, but-none}
use Rattle.sw_rows.proofs.Named.{same_name, without-none}

pub but-append : (xs ys : List Numbered) (rowid : ℕ) → but (xs ++ ys) rowid ≡ but xs rowid ++ but ys rowid
but-append [] ys rowid = refl
but-append (x ∷ xs) ys rowid = at (is_numbered rowid x) (but-append xs ys rowid)
  where
    at : (b : Bool) → but (xs ++ ys) rowid ≡ but xs rowid ++ but ys rowid →
        cond (not b) (x ∷ but (xs ++ ys) rowid) (but (xs ++ ys) rowid) ≡ cond (not b) (x ∷ but xs rowid) (but xs rowid) ++ but ys rowid
    at true rest = rest
    at false rest = ap (λ (t : List Numbered). x ∷ t) rest

-- rows that come behind stay
pub but-behind : (xs ys : List Numbered) (rowid : ℕ) → find (is_numbered rowid) ys ≡ None → but (xs ++ ys) rowid ≡ but xs rowid ++ ys
but-behind xs ys rowid none = but-append xs ys rowid ∙ ap (λ (t : List Numbered). but xs rowid ++ t) (but-none rowid ys none)

-- a number below those of all rows
pub find-below : (rowid low : ℕ) (ns : List Numbered) → rowid ≤ low → IsRising low ns → find (is_numbered rowid) ns ≡ None
find-below rowid low [] le rising = refl
find-below rowid low (n ∷ ns) le rising =
    let apart : is_numbered rowid n ≡ false = ne_eqb n.rowid rowid (λ same. absurd (omega (arith, rising.0))) in
    rw apart (find-below rowid n.rowid ns (omega (arith, rising.0)) rising.1)

-- ---- a row that takes the place of the one of its name

all-found : (P : Numbered → Type 0) (p : Numbered → Bool) (ns : List Numbered) (n : Numbered) → All P ns → find p ns ≡ Some n → P n
all-found P p [] n all found = cc
all-found P p (m ∷ ms) n all found = at (p m) found (λ h. all-found P p ms n (All-tail P m ms all) h)
  where
    at : (b : Bool) → cond b (Some m) (find p ms) ≡ Some n → (find p ms ≡ Some n → P n) → P n
    at true found rest =
        let same : m ≡ n = cc in
        subst P same (All-head P m ms all)
    at false found rest = rest found

-- what is found by its name, by its number; and the rows without it are those of other names
record Both (name : List ℕ) (ns : List Numbered) (n : Numbered) : Type 0 where
  there : find (is_numbered n.rowid) ns ≡ Some n
  rest : but ns n.rowid ≡ without name ns
  above : (low : ℕ) → IsRising low ns → low < n.rowid

both : (name : List ℕ) (low : ℕ) (ns : List Numbered) (n : Numbered) → IsRising low ns → IsNamedOnce ns → find (is_named name) ns ≡ Some n → Both name ns n
both name low [] n rising once found = cc
both name low (m ∷ ms) n rising once found = at (is_named name m) refl found (λ h. both name m.rowid ms n rising.1 once.1 h)
  where
    at : (b : Bool) → is_named name m ≡ b → cond b (Some m) (find (is_named name) ms) ≡ Some n → (find (is_named name) ms ≡ Some n → Both name ms n) →
        Both name (m ∷ ms) n
    at true is found further =
        let same : m ≡ n = cc in
        let here : is_numbered n.rowid m ≡ true = eq-eqb m.rowid n.rowid (ap (λ (x : Numbered). x.rowid) same) in
        let P : List ℕ → Type 0 = λ x. find (is_named x) ms ≡ None in
        let none : without name ms ≡ ms = without-none name ms (subst P (same_name m.row.name name is) once.0) in
        let Q : Numbered → Type 0 = λ x. (low : ℕ) → IsRising low (m ∷ ms) → low < x.rowid in
        record {
          there = rw here (ap (λ (x : Numbered). Some x) same);
          rest = rw (here, is) (but-above n.rowid m.rowid ms (let e : m.rowid ≡ n.rowid = ap (λ (x : Numbered). x.rowid) same in omega arith) rising.1
              ∙ sym none);
          above = subst Q same (λ l r. r.0);
        }
    at false is found further =
        let p = further found in
        let up : m.rowid < n.rowid = p.above m.rowid rising.1 in
        let apart : is_numbered n.rowid m ≡ false = ne_eqb m.rowid n.rowid (λ same. absurd (omega arith)) in
        record {
          there = rw apart p.there;
          rest = rw (apart, is) (ap (λ (t : List Numbered). m ∷ t) p.rest);
          above = λ l r. omega (arith, r.0, up);
        }

-- a row was pushed over the one of its name, which has this number
pub record Over (ns : List Numbered) (n : Numbered) (old : ℕ) : Type 0 where
  pub gone : row_numbered (ns ++ n ∷ []) old ≡ find_named ns n.row.name
  pub rest : but (ns ++ n ∷ []) old ≡ without n.row.name ns ++ n ∷ []

pub pushed-over : (ns : List Numbered) (n : Numbered) (old : ℕ) (m : Numbered) → IsRising 0 ns → IsNamedOnce ns → All (λ x. x.rowid < n.rowid) ns →
    find (is_named n.row.name) ns ≡ Some m → m.rowid ≡ old → Over ns n old
pushed-over ns n old m rising once above found number =
    let b : Both n.row.name ns m = both n.row.name 0 ns m rising once found in
    let there : find (is_numbered old) ns ≡ Some m = ap (λ (k : ℕ). find (is_numbered k) ns) (sym number) ∙ b.there in
    let below : m.rowid < n.rowid = all-found (λ x. x.rowid < n.rowid) (is_named n.row.name) ns m above found in
    let apart : is_numbered old n ≡ false = ne_eqb n.rowid old (λ same. absurd (omega (arith, number))) in
    let none : find (is_numbered old) (n ∷ []) ≡ None = rw apart refl in
    let row : Option Numbered → Option Row = λ o. option_map (λ x. x.row) o in
    record {
      gone = ap row (find-append (is_numbered old) ns (n ∷ [])) ∙ ap (λ (o : Option Numbered). row (option_or o (find (is_numbered old) (n ∷ [])))) there
          ∙ ap row (sym found);
      rest = but-behind ns (n ∷ []) old none ∙ ap (λ (t : List Numbered). t ++ n ∷ []) (ap (λ (k : ℕ). but ns k) (sym number) ∙ b.rest);
    }

-- a row was pushed whose name no row had
pub pushed-new : (ns : List Numbered) (n : Numbered) → find (is_named n.row.name) ns ≡ None →
    (None ≡ find_named ns n.row.name) × (ns ++ n ∷ [] ≡ without n.row.name ns ++ n ∷ [])
pushed-new ns n none = (rw none refl, ap (λ (t : List Numbered). t ++ n ∷ []) (sym (without-none n.row.name ns none)))

nil : (xs : List Numbered) → xs ++ [] ≡ xs
nil [] = refl
nil (x ∷ xs) = ap (λ (t : List Numbered). x ∷ t) (nil xs)

-- a row that was pushed is taken away again
pub but-pushed : (ns : List Numbered) (n : Numbered) → All (λ m. m.rowid < n.rowid) ns → but (ns ++ n ∷ []) n.rowid ≡ ns
but-pushed ns n above =
    let itself : is_numbered n.rowid n ≡ true = eq-eqb n.rowid n.rowid refl in
    let gone : but (n ∷ []) n.rowid ≡ [] = rw itself refl in
    but-append ns (n ∷ []) n.rowid ∙ rw (but-below n.rowid ns above, gone) (nil ns)

-- ---- the log

-- the last push of a log
record LastPush (base list : List Numbered) (ps : List ℕ) (p : ℕ) : Type 0 where
  rest : List Numbered
  row : Row
  whole : list ≡ rest ++ record { rowid = p; row = row } ∷ []
  above : All (λ n. n.rowid < p) rest
  log : IsLog base ps rest

pub log-push : (base list : List Numbered) (ps : List ℕ) (p : ℕ) (row : Row) → IsLog base ps list → All (λ n. n.rowid < p) list →
    IsLog base (ps ++ p ∷ []) (list ++ record { rowid = p; row = row } ∷ [])
log-push base list [] p row log above =
    let P : List Numbered → Type 0 = λ l. All (λ n. n.rowid < p) l in (
      row,
      subst P log above,
      ap (λ (l : List Numbered). l ++ record { rowid = p; row = row } ∷ []) log,
    )
log-push base list (q ∷ qs) p row log above =
    (log.0, log.1, log-push (base ++ record { rowid = q; row = log.0 } ∷ []) list qs p row log.2 above)

log-last : (base list : List Numbered) (ps : List ℕ) (p : ℕ) → IsLog base (ps ++ p ∷ []) list → LastPush base list ps p
log-last base list [] p log = record { rest = base; row = log.0; whole = log.2; above = log.1; log = refl }
log-last base list (q ∷ qs) p log =
    let l = log-last (base ++ record { rowid = q; row = log.0 } ∷ []) list qs p log.2 in
    record { rest = l.rest; row = l.row; whole = l.whole; above = l.above; log = (log.0, log.1, l.log) }

-- the last push is taken back
pub undone : (base list : List Numbered) (ps : List ℕ) (p : ℕ) → IsLog base (ps ++ p ∷ []) list → IsLog base ps (but list p)
undone base list ps p log =
    let l = log-last base list ps p log in
    let n : Numbered = record { rowid = p; row = l.row } in
    let rest : but list p ≡ l.rest = ap (λ (x : List Numbered). but x p) l.whole ∙ but-pushed l.rest n l.above in
    let P : List Numbered → Type 0 = λ x. IsLog base ps x in
    subst P (sym rest) l.log

-- ---- rows that go, one number after the other

pub but_all-more : (list : List Numbered) (numbers : List ℕ) (i : ℕ) (d : ℕ) → i < length numbers →
    but_all list (take (i + 1) numbers) ≡ but (but_all list (take i numbers)) (get_or numbers i d)
but_all-more list numbers i d inside = fold_more but list numbers i d inside

-- numbers that are none above the greatest given out, and rows under numbers above it
pub apart-all : (top : ℕ) (numbers : List ℕ) (rows : List Numbered) → All (λ rowid. rowid ≤ top) numbers → IsRising top rows →
    All (λ rowid. find (is_numbered rowid) rows ≡ None) numbers
apart-all top numbers rows given rising =
    All-weaker (λ rowid. rowid ≤ top) (λ rowid. find (is_numbered rowid) rows ≡ None) (λ rowid le. find-below rowid top rows le rising) numbers given

pub rising-join : (low top : ℕ) (xs ys : List Numbered) → low ≤ top → IsRising low xs → All (λ n. n.rowid ≤ top) xs → IsRising top ys → IsRising low (xs ++ ys)
rising-join low top [] [] le rising within more = tt
rising-join low top [] (y ∷ ys) le rising within more = (omega (arith, more.0), more.1)
rising-join low top (x ∷ xs) ys le rising within more =
    let P : Numbered → Type 0 = λ n. n.rowid ≤ top in
    let head : x.rowid ≤ top = All-head P x xs within in
    (rising.0, rising-join x.rowid top xs ys head rising.1 (All-tail P x xs within) more)

pub place-behind : (low : ℕ) (done left : List Numbered) (n : Numbered) (all : List Numbered) → done ++ n ∷ left ≡ all → IsRising low all →
    (low < n.rowid) × All (λ m. m.rowid < n.rowid) done
place-behind low done left n all whole rising =
    let P : List Numbered → Type 0 = λ x. IsRising low x in
    let r : IsRising low (done ++ n ∷ left) = subst P (sym whole) rising in
    (rising-behind low done left n r, rising-above low done left n r)

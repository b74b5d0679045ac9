-- Merges keep what holds of rows.
use Rattle.std.proofs.Common.{◌≡◌, ℕ, ◌+◌, ◌<◌, ◌≤◌, Bool, true, false, cond, not, List, [], ◌∷◌, ◌++◌, Option, None, Some, All, refl, sym, ◌∙◌, ap, arith, inl}
use Rattle.std.proofs.Common.{inr}
use Rattle.std.specs.List.{filter, fold}
use Rattle.std.specs.Str.{bytes_eq}
use Rattle.std.proofs.lemmas.List.Elements.{All-contains_itself, All-filter, All-head, All-push, All-tail, All-weaker}
use Rattle.sw_rows.specs.Laws.{greater, IsOldOrNew, KeepsTheGreatest, NumbersRise}
use Rattle.sw_rows.specs.Rows.{find_named, fits, is_at_least, is_named, IsListed, IsRising, Listed, merged, with_row, without}
use Rattle.sw_rows.specs.declared.numbered.Numbered.{Numbered}
use Rattle.sw_rows.specs.declared.row.Row.{Row}
use Rattle.sw_rows.proofs.Named.{find-without, find_named-put, once-push, once-without, same_name}

rising-lower : (low lower : ℕ) (ns : List Numbered) → lower ≤ low → IsRising low ns → IsRising lower ns
rising-lower low lower [] le rising = tt
rising-lower low lower (n ∷ ns) le rising = (omega (arith, rising.0), rising.1)

pub rising-filter : (p : Numbered → Bool) (low : ℕ) (ns : List Numbered) → IsRising low ns → IsRising low (filter p ns)
rising-filter p low [] rising = tt
rising-filter p low (n ∷ ns) rising =
    at (p n) (rising-filter p n.rowid ns rising.1) (rising-filter p low ns (rising-lower n.rowid low ns (omega (arith, rising.0)) rising.1))
  where
    at : (b : Bool) → IsRising n.rowid (filter p ns) → IsRising low (filter p ns) → IsRising low (cond b (n ∷ filter p ns) (filter p ns))
    at true above rest = (rising.0, above)
    at false above rest = rest

pub rising-push : (low top : ℕ) (ns : List Numbered) (n : Numbered) → low ≤ top → top < n.rowid → IsRising low ns → All (λ m. m.rowid ≤ top) ns →
    IsRising low (ns ++ n ∷ [])
rising-push low top [] n le above rising within = (omega arith, tt)
rising-push low top (m ∷ ms) n le above rising within =
    let P : Numbered → Type 0 = λ x. x.rowid ≤ top in
    let head : m.rowid ≤ top = All-head P m ms within in
    (rising.0, rising-push m.rowid top ms n head above rising.1 (All-tail P m ms within))

pub rising-below : (low : ℕ) (ns : List Numbered) (n : Numbered) → low < n.rowid → IsRising low ns → All (λ m. m.rowid < n.rowid) ns →
    IsRising low (ns ++ n ∷ [])
rising-below low [] n le rising below = (le, tt)
rising-below low (m ∷ ms) n le rising below =
    let P : Numbered → Type 0 = λ x. x.rowid < n.rowid in
    (rising.0, rising-below m.rowid ms n (All-head P m ms below) rising.1 (All-tail P m ms below))

pub listed-with_row : (l : Listed) (row : Row) → IsListed l → IsListed (with_row l row)
listed-with_row l row is =
    let kept : Numbered → Bool = λ n. not (is_named row.name n) in
    let n : Numbered = record { rowid = l.top + 1; row = row } in
    let P : Numbered → Type 0 = λ x. x.rowid ≤ l.top in
    let Q : Numbered → Type 0 = λ x. x.rowid ≤ l.top + 1 in
    let within : All P (without row.name l.list) = All-filter kept P l.list is.within in
    record {
      rising = rising-push 0 l.top (without row.name l.list) n (omega arith) (omega arith) (rising-filter kept 0 l.list is.rising) within;
      within = All-push Q (without row.name l.list) n (All-weaker P Q (λ x le. omega arith) (without row.name l.list) within) (omega arith);
      once = once-push (without row.name l.list) n (once-without row.name l.list is.once) (find-without row.name l.list);
    }

-- the row of a name after a merge
keeps_at : (l : Listed) (row : Row) (name : List ℕ) (o : Option Row) → find_named l.list row.name ≡ o
    → find_named (cond (fits o row) (with_row l row) l).list name ≡ cond (bytes_eq row.name name) (Some (greater o row)) (find_named l.list name)
keeps_at l row name None is = find_named-put l.list (record { rowid = l.top + 1; row = row }) name
keeps_at l row name (Some present) is = at (is_at_least present row) refl
  where
    same : (b : Bool) → bytes_eq row.name name ≡ b → find_named l.list name ≡ cond b (Some present) (find_named l.list name)
    same true e = ap (λ x. find_named l.list x) (sym (same_name row.name name e)) ∙ is
    same false e = refl

    at : (b : Bool) → is_at_least present row ≡ b
        → find_named (cond (not b) (with_row l row) l).list name ≡ cond (bytes_eq row.name name) (Some (cond b present row)) (find_named l.list name)
    at true e = same (bytes_eq row.name name) refl
    at false e = find_named-put l.list (record { rowid = l.top + 1; row = row }) name

pub keeps-the-greatest : KeepsTheGreatest
keeps-the-greatest l row name = keeps_at l row name (find_named l.list row.name) refl

-- one more merge
record Since (before now : Listed) : Type 0 where
  rows : All (IsOldOrNew before now) now.list
  top : before.top ≤ now.top

since-merged : (before now : Listed) (row : Row) → Since before now → Since before (merged now row)
since-merged before now row since = at (fits (find_named now.list row.name) row)
  where
    P : Numbered → Type 0
    P = IsOldOrNew before now

    Q : Numbered → Type 0
    Q = IsOldOrNew before (with_row now row)

    further : (n : Numbered) → IsOldOrNew before now n → IsOldOrNew before (with_row now row) n
    further n (inl old) = inl old
    further n (inr new) = inr (new.0, omega (arith, new.1))

    at : (b : Bool) → Since before (cond b (with_row now row) now)
    at false = since
    at true =
        let top : before.top ≤ now.top = since.top in
        record {
          rows = All-push (IsOldOrNew before (with_row now row)) (without row.name now.list) (record { rowid = now.top + 1; row = row })
              (All-weaker (IsOldOrNew before now) (IsOldOrNew before (with_row now row)) further (without row.name now.list)
              (All-filter (λ n. not (is_named row.name n)) (IsOldOrNew before now) now.list since.rows))
              (inr (omega arith, omega arith));
          top = omega arith;
        }

since-fold : (before now : Listed) (rows : List Row) → Since before now → Since before (fold merged now rows)
since-fold before now [] since = since
since-fold before now (row ∷ rows) since = since-fold before (merged now row) rows (since-merged before now row since)

pub numbers-rise : NumbersRise
numbers-rise l rows is =
    (since-fold l l rows (record { rows = λ k d within. inl (All-contains_itself l.list k d within, is.within k d within); top = omega arith })).rows

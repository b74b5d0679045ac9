-- Rows under their numbers, and what a merge leaves of them.
use Rattle.std.proofs.Common.{◌≡◌, ℕ, ◌+◌, ◌<◌, ◌≤◌, Bool, true, false, cond, List, [], ◌∷◌, Option, None}
use Rattle.std.proofs.Common.{Some, ◌⊎◌, inl, inr, refl, sym, ◌∙◌, ap, subst}
use Rattle.std.proofs.Common.{arith}
use Rattle.std.specs.List.{find}
use Rattle.std.specs.Option.{option_map}
use Rattle.std.specs.Str.{bytes_eq}
use Rattle.sw_rows.proofs.Greater.{at-least-self, at-least-trans, stands-merged, still-fold, top-merged}
use Rattle.sw_rows.proofs.Named.{find-put, same_name}
use Rattle.sw_rows.specs.Rows.{IsListed, IsRising, Listed, find_named, fits, is_at_least, is_named, merged, with_row}
use Rattle.sw_rows.specs.declared.numbered.Numbered.{Numbered}
use Rattle.sw_rows.specs.declared.row.Row.{Row}
use Rattle.sw_shard_laws.specs.Ledger.{Has}

-- what is found passes
found-is : (p : Numbered → Bool) (ns : List Numbered) (n : Numbered) → find p ns ≡ Some n → p n ≡ true
found-is p [] n is = cc
found-is p (m ∷ ms) n is = by (p m) refl is (λ rest. found-is p ms n rest)
  where
    by : (b : Bool) → p m ≡ b → cond b (Some m) (find p ms) ≡ Some n → (find p ms ≡ Some n → p n ≡ true) → p n ≡ true
    by true at is again = let same : m ≡ n = cc in subst (λ (x : Numbered). p x ≡ true) same at
    by false at is again = again is

-- a row that stands under its number
abbrev pub StandsAs : Listed → Numbered → Type 0
StandsAs l n = find (is_named n.row.name) l.list ≡ Some n

-- a row of a name stands under its number
pub named-stands : (l : Listed) (name : List ℕ) (row : Row) → find_named l.list name ≡ Some row
    → (n : Numbered) × StandsAs l n × (n.row ≡ row) × (row.name ≡ name)
named-stands l name row is = by (find (is_named name) l.list) refl is
  where
    by : (o : Option Numbered) → find (is_named name) l.list ≡ o → option_map (λ (n : Numbered). n.row) o ≡ Some row
        → (n : Numbered) × StandsAs l n × (n.row ≡ row) × (row.name ≡ name)
    by None found is = cc
    by (Some n) found is =
        let same : n.row ≡ row = cc in
        let named : n.row.name ≡ name = same_name n.row.name name (found-is (is_named name) l.list n found) in (
          n,
          subst (λ (x : List ℕ). find (is_named x) l.list ≡ Some n) (sym named) found,
          same,
          subst (λ (x : Row). x.name ≡ name) same named,
        )

-- what stands is had
pub stands-has : (l : Listed) (n : Numbered) → StandsAs l n → Has l n.row
stands-has l n is = (n.row, ap (λ (o : Option Numbered). option_map (λ (m : Numbered). m.row) o) is, at-least-self n.row)

-- and what has a row has what counts less
pub has-over : (l : Listed) (u v : Row) → u.name ≡ v.name → is_at_least u v ≡ true → Has l u → Has l v
has-over l u v same over h = (h.0, subst (λ (x : List ℕ). find_named l.list x ≡ Some h.0) same h.1, at-least-trans h.0 u v h.2 over)

-- a row that is had stands, or one of its name that counts at least as much
pub has-stands : (l : Listed) (u : Row) → Has l u → (n : Numbered) × StandsAs l n × (n.row.name ≡ u.name) × (is_at_least n.row u ≡ true)
has-stands l u h =
    let n = named-stands l u.name h.0 h.1 in
    (n.0, n.1, ap (λ (x : Row). x.name) n.2 ∙ n.3, subst (λ (x : Row). is_at_least x u ≡ true) (sym n.2) h.2)

-- ---- merges

pub has-merged : (l : Listed) (row u : Row) → Has l u → Has (merged l row) u
has-merged l row u h = still-fold l (row ∷ []) u.name u h

pub merged-has : (l : Listed) (row : Row) → Has (merged l row) row
merged-has l row = stands-merged l row

-- what stands after a merge stood before, or is the row under the next number
pub merged-stands : (l : Listed) (row : Row) (n : Numbered) → StandsAs (merged l row) n
    → StandsAs l n ⊎ ((n.rowid ≡ l.top + 1) × (n.row ≡ row))
merged-stands l row n is = by (fits (find_named l.list row.name) row) is
  where
    next : Numbered
    next = record { rowid = l.top + 1; row = row }

    at : (b : Bool) → cond b (Some next) (find (is_named n.row.name) l.list) ≡ Some n → StandsAs l n ⊎ ((n.rowid ≡ l.top + 1) × (n.row ≡ row))
    at true is = let same : next ≡ n = cc in inr (ap (λ (m : Numbered). m.rowid) (sym same), ap (λ (m : Numbered). m.row) (sym same))
    at false is = inl is

    by : (b : Bool) → find (is_named n.row.name) (cond b (with_row l row) l).list ≡ Some n → StandsAs l n ⊎ ((n.rowid ≡ l.top + 1) × (n.row ≡ row))
    by true is = at (bytes_eq row.name n.row.name) (sym (find-put l.list next n.row.name) ∙ is)
    by false is = inl is

pub merged-rises : (l : Listed) (row : Row) → l.top ≤ (merged l row).top
merged-rises l row = top-merged l row

-- numbers begin at 1
rising-found : (low : ℕ) (p : Numbered → Bool) (ns : List Numbered) (n : Numbered) → IsRising low ns → find p ns ≡ Some n → low < n.rowid
rising-found low p [] n rising is = cc
rising-found low p (m ∷ ms) n rising is = by (p m) is (λ rest. rising-found m.rowid p ms n rising.1 rest)
  where
    by : (b : Bool) → cond b (Some m) (find p ms) ≡ Some n → (find p ms ≡ Some n → m.rowid < n.rowid) → low < n.rowid
    by true is again = let same : m ≡ n = cc in subst (λ (x : Numbered). low < x.rowid) same rising.0
    by false is again = let first = rising.0 in let then = again is in omega (arith, first, then)

pub above-none : (l : Listed) (n : Numbered) → IsListed l → StandsAs l n → 0 < n.rowid
above-none l n is stands = rising-found 0 (is_named n.row.name) l.list n is.rising stands

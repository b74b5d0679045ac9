-- Rows that were put in, beside those that stood.
use Rattle.std.proofs.Common.{◌≡◌, ℕ, ◌+◌, ◌<◌, ◌≤◌, suc, Bool, true, false, cond, not, List, [], ◌∷◌, ◌++◌, length, drop, get_or, Option, None, Some, refl}
use Rattle.std.proofs.Common.{◌≢◌, length-append, sym, ◌∙◌, ap, subst, add-one, append_assoc, arith}
use Rattle.std.specs.Option.{option_or}
use Rattle.std.specs.Str.{bytes_eq}
use Rattle.std.proofs.Math.Seq.{drop-cons}
use Rattle.sw_hashpath.specs.declared.place.Place.{Place}
use Rattle.sw_rows.specs.Laws.{greater}
use Rattle.sw_rows.specs.Rows.{Listed, find_named, fits, is_at_least, merged, with_row}
use Rattle.sw_rows.specs.declared.row.Row.{Row}
use Rattle.sw_rows.proofs.Merging.{keeps-the-greatest}
use Rattle.sw_container_steps.specs.Steps.{merging_entries}
use Rattle.sw_container_steps.specs.declared.cont_entry.ContEntry.{ContEntry}
use Rattle.sw_container_steps.specs.declared.cont_entry.ContEntry.TheVariants.{Merged}

-- the rows l are those of base, and in their places those that came later
abbrev pub IsOver : Listed → Listed → Listed → Type 0
IsOver l later base = (name : List ℕ) → find_named l.list name ≡ option_or (find_named later.list name) (find_named base.list name)

greater-new : (o : Option Row) (row : Row) → fits o row ≡ true → greater o row ≡ row
greater-new None row is = refl
greater-new (Some present) row is = by (is_at_least present row) is
  where
    by : (b : Bool) → not b ≡ true → cond b present row ≡ row
    by true is = cc
    by false is = refl

merged-name : (l : Listed) (row : Row) (name : List ℕ) → fits (find_named l.list row.name) row ≡ true
    → find_named (merged l row).list name ≡ cond (bytes_eq row.name name) (Some row) (find_named l.list name)
merged-name l row name is =
    keeps-the-greatest l row name
    ∙ ap (λ (x : Row). cond (bytes_eq row.name name) (Some x) (find_named l.list name)) (greater-new (find_named l.list row.name) row is)

pub fits-later : (later base : Option Row) (row : Row) → fits (option_or later base) row ≡ true → fits later row ≡ true
fits-later None base row is = refl
fits-later (Some present) base row is = is

pub over-merged : (l later base : Listed) (row : Row) → IsOver l later base → fits (find_named l.list row.name) row ≡ true →
    IsOver (merged l row) (merged later row) base
over-merged l later base row over is name =
    let P : Option Row → Type 0 = λ o. fits o row ≡ true in
    let later_is : fits (find_named later.list row.name) row ≡ true = fits-later (find_named later.list row.name) (find_named base.list row.name) row
    (subst P (over row.name) is) in
    merged-name l row name is ∙ by (bytes_eq row.name name) (over name)
    ∙ sym (ap (λ (o : Option Row). option_or o (find_named base.list name)) (merged-name later row name later_is))
  where
    by : (b : Bool) → find_named l.list name ≡ option_or (find_named later.list name) (find_named base.list name)
        → cond b (Some row) (find_named l.list name) ≡ option_or (cond b (Some row) (find_named later.list name)) (find_named base.list name)
    by true h = refl
    by false h = h

pub merged-not : (l : Listed) (row : Row) → fits (find_named l.list row.name) row ≡ false → merged l row ≡ l
merged-not l row is = ap (λ (b : Bool). cond b (with_row l row) l) is

pub merged-top : (l : Listed) (row : Row) → (merged l row).top ≤ l.top + 1
merged-top l row = by (fits (find_named l.list row.name) row)
  where
    by : (b : Bool) → (cond b (with_row l row) l).top ≤ l.top + 1
    by true = omega arith
    by false = omega arith

pub step-at : {A : Type 0} (xs : List A) (i : ℕ) (x : A) → i < length xs → x ≡ get_or xs i x → drop i xs ≡ x ∷ drop (i + 1) xs
step-at {A} xs i x within is = rw add-one (drop-cons xs i x within ∙ ap (λ (y : A). y ∷ drop (suc i) xs) (sym is))

-- ---- what is left of the rows, as their entries are made

-- over the rows that stood, those that came later, and the entries so far: with those of the rows from i on they are all entries
pub record Kept (base later : Listed) (place : Place) (all : List Row) (i : ℕ) (entries total : List ContEntry) : Type 0 where
  pub now : Listed  -- the rows after those before i
  pub over : IsOver now later base
  pub few : later.top ≤ i
  pub made : entries ++ merging_entries now place (drop i all) ≡ total

pub kept-none : (base later : Listed) (place : Place) (all : List Row) (entries : List ContEntry) → later ≡ record { list = []; top = 0 }
    → Kept base later place all 0 entries (entries ++ merging_entries base place all)
kept-none base later place all entries is =
    subst (λ (l : Listed). Kept base l place all 0 entries (entries ++ merging_entries base place all)) (sym is)
    (record { now = base; over = λ name. refl; few = omega arith; made = refl })

pub kept-taken : (base later : Listed) (place : Place) (all : List Row) (i : ℕ) (entries total : List ContEntry) (row : Row) (later_now : Listed)
    (entries_now : List ContEntry)
    → Kept base later place all i entries total → i < length all → row ≡ get_or all i row
    → fits (option_or (find_named later.list row.name) (find_named base.list row.name)) row ≡ true
    → later_now ≡ merged later row → entries_now ≡ entries ++ Merged place row ∷ []
    → Kept base later_now place all (i + 1) entries_now total
kept-taken base later place all i entries total row later_now entries_now kept within is taken later_is entries_is =
    let fits_now : fits (find_named kept.now.list row.name) row ≡ true = subst (λ (o : Option Row). fits o row ≡ true) (sym (kept.over row.name)) taken in
    let steps : drop i all ≡ row ∷ drop (i + 1) all = step-at all i row within is in
    let left : merging_entries kept.now place (row ∷ drop (i + 1) all) ≡ Merged place row ∷ merging_entries (merged kept.now row) place (drop (i + 1) all) =
    ap (λ (b : Bool). cond b (Merged place row ∷ merging_entries (merged kept.now row) place (drop (i + 1) all))
    (merging_entries (merged kept.now row) place (drop (i + 1) all))) fits_now in
    let made : entries ++ Merged place row ∷ merging_entries (merged kept.now row) place (drop (i + 1) all) ≡ total =
    subst (λ (es : List ContEntry). entries ++ es ≡ total) (ap (λ (rs : List Row). merging_entries kept.now place rs) steps ∙ left) kept.made in
    let top : (merged later row).top ≤ later.top + 1 = merged-top later row in
    let few : later.top ≤ i = kept.few in
    let there : Kept base (merged later row) place all (i + 1) (entries ++ Merged place row ∷ []) total =
    record {
      now = merged kept.now row;
      over = over-merged kept.now later base row kept.over fits_now;
      few = omega (arith, top, few);
      made = append_assoc entries (Merged place row ∷ []) (merging_entries (merged kept.now row) place (drop (i + 1) all)) ∙ made;
    } in
    subst (λ (l : Listed). Kept base l place all (i + 1) entries_now total) (sym later_is)
    (subst (λ (es : List ContEntry). Kept base (merged later row) place all (i + 1) es total) (sym entries_is) there)

pub kept-passed : (base later : Listed) (place : Place) (all : List Row) (i : ℕ) (entries total : List ContEntry) (row : Row)
    → Kept base later place all i entries total → i < length all → row ≡ get_or all i row
    → fits (option_or (find_named later.list row.name) (find_named base.list row.name)) row ≡ false
    → Kept base later place all (i + 1) entries total
kept-passed base later place all i entries total row kept within is passed =
    let fits_now : fits (find_named kept.now.list row.name) row ≡ false = subst (λ (o : Option Row). fits o row ≡ false) (sym (kept.over row.name)) passed in
    let steps : drop i all ≡ row ∷ drop (i + 1) all = step-at all i row within is in
    let left : merging_entries kept.now place (row ∷ drop (i + 1) all) ≡ merging_entries (merged kept.now row) place (drop (i + 1) all) =
    ap (λ (b : Bool). cond b (Merged place row ∷ merging_entries (merged kept.now row) place (drop (i + 1) all))
    (merging_entries (merged kept.now row) place (drop (i + 1) all))) fits_now in
    let same : merging_entries (merged kept.now row) place (drop (i + 1) all) ≡ merging_entries kept.now place (drop (i + 1) all) =
    ap (λ (l : Listed). merging_entries l place (drop (i + 1) all)) (merged-not kept.now row fits_now) in
    let few : later.top ≤ i = kept.few in
    record {
      now = kept.now;
      over = kept.over;
      few = omega (arith, few);
      made = subst (λ (es : List ContEntry). entries ++ es ≡ total) (ap (λ (rs : List Row). merging_entries kept.now place rs) steps ∙ left ∙ same) kept.made;
    }

-- a list with one more behind it is no shorter
pub one-longer : {A : Type 0} (least xs ys : List A) (x : A) → length least ≤ length xs → ys ≡ xs ++ x ∷ [] → length least ≤ length ys
one-longer least xs ys x within is =
    let longer : length (xs ++ x ∷ []) ≡ length xs + 1 = length-append xs (x ∷ []) in
    omega (arith, within, longer, ap length is)

-- where a row is put in, there are entries
pub takes-some : (base later : Listed) (place : Place) (all : List Row) (i : ℕ) (entries before : List ContEntry) (row : Row)
    → Kept base later place all i entries (before ++ merging_entries base place all) → length before ≤ length entries
    → i < length all → row ≡ get_or all i row
    → fits (option_or (find_named later.list row.name) (find_named base.list row.name)) row ≡ true
    → merging_entries base place all ≢ []
takes-some base later place all i entries before row kept grown within is taken none =
    let fits_now : fits (find_named kept.now.list row.name) row ≡ true = subst (λ (o : Option Row). fits o row ≡ true) (sym (kept.over row.name)) taken in
    let steps : drop i all ≡ row ∷ drop (i + 1) all = step-at all i row within is in
    let rest : List ContEntry = merging_entries (merged kept.now row) place (drop (i + 1) all) in
    let left : merging_entries kept.now place (row ∷ drop (i + 1) all) ≡ Merged place row ∷ rest =
    ap (λ (b : Bool). cond b (Merged place row ∷ rest) rest) fits_now in
    let made : entries ++ Merged place row ∷ rest ≡ before ++ merging_entries base place all =
    subst (λ (es : List ContEntry). entries ++ es ≡ before ++ merging_entries base place all)
    (ap (λ (rs : List Row). merging_entries kept.now place rs) steps ∙ left) kept.made in
    let one : length (entries ++ Merged place row ∷ rest) ≡ length entries + suc (length rest) = length-append entries (Merged place row ∷ rest) in
    let other : length (before ++ merging_entries base place all) ≡ length before + length (merging_entries base place all) =
    length-append before (merging_entries base place all) in
    let no_more : length (merging_entries base place all) ≡ 0 = ap length none in
    omega (arith, grown, one, other, no_more, ap length made)

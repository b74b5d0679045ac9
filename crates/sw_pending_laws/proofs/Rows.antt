-- Rows of a name that are merged: what is held stays held.
use Rattle.std.proofs.Common.{◌≡◌, ℕ, Bool, true, false, cond, ◌==◌, List, Option, None, Some, ◌⊎◌}
use Rattle.std.proofs.Common.{inl, inr, refl, sym, ◌∙◌, ap, subst, arith, if◌then◌else◌}
use Rattle.std.specs.Str.{bytes_eq}
use Rattle.std.proofs.lemmas.Bool.{or_from}
use Rattle.std.proofs.lemmas.Bool.Decides.{nat_tests}
use Rattle.sw_hashpath.specs.declared.place.Place.{Place}
use Rattle.sw_object_steps.specs.BaseRows.{IsRowOf}
use Rattle.sw_pending.proofs.DeviceOrder.{done-with_device}
use Rattle.sw_pending.specs.Rules.{is_done, with_device}
use Rattle.sw_rows.proofs.Merging.{keeps-the-greatest}
use Rattle.sw_rows.proofs.Named.{same_name}
use Rattle.sw_rows.specs.Laws.{greater}
use Rattle.sw_rows.specs.Rows.{Listed, find_named, is_at_least, merged}
use Rattle.sw_rows.specs.declared.row.Row.{Row}
use Rattle.sw_state.specs.Bases.{base_time, is_deletion}
use Rattle.sw_state.specs.declared.base.Base.{Base}
use Rattle.sw_state.specs.declared.base.Base.TheVariants as bases
use Rattle.sw_pending_laws.specs.Laws.{RowsRise}
use Rattle.sw_pending_laws.specs.Ledger.{IsHeld, Ledger, counts}
use Rattle.sw_pending_laws.specs.Ledger.Change.{Asks, Takes, Files, Marks, Drops, Sends, Merges, Hears}

-- ---- which counts more

pub counts-self : (t : ℕ) (gone : Bool) → counts t gone t gone ≡ true
counts-self t true = grind (arith, nat_tests)
counts-self t false = grind (arith, nat_tests)

pub counts-trans : (t : ℕ) (a : Bool) (u : ℕ) (b : Bool) (v : ℕ) (c : Bool) → counts t a u b ≡ true → counts u b v c ≡ true → counts t a v c ≡ true
counts-trans t a u b v c first second = grind (arith, nat_tests)

pub counts-other : (t : ℕ) (a : Bool) (u : ℕ) (b : Bool) → counts t a u b ≡ false → counts u b t a ≡ true
counts-other t a u b not_so = grind (arith, nat_tests)

-- each counts as much as the other: they have one time
pub counts-both-time : (t : ℕ) (a : Bool) (u : ℕ) (b : Bool) → counts t a u b ≡ true → counts u b t a ≡ true → t ≡ u
counts-both-time t a u b first second = grind (arith, nat_tests)

-- and one flag: what counts as much as a row that isn't deleted isn't
pub counts-both-flag : (t u : ℕ) (b : Bool) → counts t false u b ≡ true → counts u b t false ≡ true → b ≡ false
counts-both-flag t u true first second = grind (arith, nat_tests)
counts-both-flag t u false first second = refl

-- ---- one merge

pub merged-holds : (l : Listed) (row : Row) (name : List ℕ) (time : ℕ) (gone : Bool) → IsHeld l name time gone → IsHeld (merged l row) name time gone
merged-holds l row name time gone held = by (bytes_eq row.name name) refl
  where
    old : Row
    old = held.0

    at : (b : Bool) → is_at_least old row ≡ b → counts (cond b old row).created_at (cond b old row).deleted time gone ≡ true
    at true more = held.2
    at false less = counts-trans row.created_at row.deleted old.created_at old.deleted time gone
        (counts-other old.created_at old.deleted row.created_at row.deleted less) held.2

    by : (b : Bool) → bytes_eq row.name name ≡ b → IsHeld (merged l row) name time gone
    by true is =
        let named : row.name ≡ name = same_name row.name name is in
        let found : find_named l.list row.name ≡ Some old = ap (λ (x : List ℕ). find_named l.list x) named ∙ held.1 in (
          cond (is_at_least old row) old row,
          keeps-the-greatest l row name
              ∙ (ap (λ (b : Bool). if b then Some (greater (find_named l.list row.name) row) else find_named l.list name) is
              ∙ ap (λ (o : Option Row). Some (greater o row)) found),
          at (is_at_least old row) refl,
        )
    by false is = (
      old,
      keeps-the-greatest l row name
          ∙ (ap (λ (b : Bool). if b then Some (greater (find_named l.list row.name) row) else find_named l.list name) is ∙ held.1),
      held.2,
    )

-- what has the name after a merge had it before, or is the row that was merged
pub merged-one : (l : Listed) (row : Row) (name : List ℕ)
    → (find_named (merged l row).list name ≡ find_named l.list name) ⊎ ((row.name ≡ name) × (find_named (merged l row).list name ≡ Some row))
merged-one l row name = by (bytes_eq row.name name) refl
  where
    whole : (b : Bool) → bytes_eq row.name name ≡ b
        → find_named (merged l row).list name ≡ (if b then Some (greater (find_named l.list row.name) row) else find_named l.list name)
    whole b is = keeps-the-greatest l row name
        ∙ ap (λ (c : Bool). if c then Some (greater (find_named l.list row.name) row) else find_named l.list name) is

    at : (present : Row) (b : Bool) → (Some (cond b present row) ≡ Some present) ⊎ (Some (cond b present row) ≡ Some row)
    at present true = inl refl
    at present false = inr refl

    over : (o : Option Row) → (Some (greater o row) ≡ o) ⊎ (Some (greater o row) ≡ Some row)
    over None = inr refl
    over (Some present) = at present (is_at_least present row)

    named_by : row.name ≡ name → bytes_eq row.name name ≡ true
        → (Some (greater (find_named l.list row.name) row) ≡ find_named l.list row.name) ⊎ (Some (greater (find_named l.list row.name) row) ≡ Some row)
        → (find_named (merged l row).list name ≡ find_named l.list name) ⊎ ((row.name ≡ name) × (find_named (merged l row).list name ≡ Some row))
    named_by named is (inl same) = inl (whole true is ∙ (same ∙ ap (λ (x : List ℕ). find_named l.list x) named))
    named_by named is (inr new) = inr (named, whole true is ∙ new)

    by : (b : Bool) → bytes_eq row.name name ≡ b
        → (find_named (merged l row).list name ≡ find_named l.list name) ⊎ ((row.name ≡ name) × (find_named (merged l row).list name ≡ Some row))
    by true is = named_by (same_name row.name name is) is (over (find_named l.list row.name))
    by false is = inl (whole false is)

-- ---- what is held stays held

pub table-rises : (l t : Listed) (row : Row) → (t ≡ l) ⊎ (t ≡ merged l row) → (name : List ℕ) (time : ℕ) (gone : Bool) → IsHeld l name time gone
    → IsHeld t name time gone
table-rises l t row (inl same) name time gone held = subst (λ (x : Listed). IsHeld x name time gone) (sym same) held
table-rises l t row (inr more) name time gone held =
    subst (λ (x : Listed). IsHeld x name time gone) (sym more) (merged-holds l row name time gone held)

same-rises : (m after : Ledger) → after.tables ≡ m.tables → (d : ℕ) (p : Place) (name : List ℕ) (time : ℕ) (gone : Bool)
    → IsHeld (m.tables d p) name time gone → IsHeld (after.tables d p) name time gone
same-rises m after same d p name time gone held = subst (λ (x : ℕ → Place → Listed). IsHeld (x d p) name time gone) (sym same) held

pub rows-rise : RowsRise
rows-rise g m (Asks a) after is = same-rises m after (ap (λ (x : Ledger). x.tables) is.1)
rows-rise g m (Takes a) after is = same-rises m after (ap (λ (x : Ledger). x.tables) is)
rows-rise g m (Files d filed records) after is = same-rises m after (ap (λ (x : Ledger). x.tables) is.2)
rows-rise g m (Marks d filed to records) after is = same-rises m after (ap (λ (x : Ledger). x.tables) is.3)
rows-rise g m (Drops d filed records) after is = same-rises m after (ap (λ (x : Ledger). x.tables) is.3)
rows-rise g m (Sends t) after is = same-rises m after (ap (λ (x : Ledger). x.tables) is.1)
rows-rise g m (Hears h) after is = same-rises m after (ap (λ (x : Ledger). x.tables) is.2)
rows-rise g m (Merges row tables) after is = λ d p name time gone held.
    subst (λ (x : Ledger). IsHeld (x.tables d p) name time gone) (sym is.1)
    (table-rises (m.tables d p) (tables d p) row (is.0 d p) name time gone held)

-- ---- rows of bases

pub row-name : (object : List ℕ) (b : Base) (row : Row) → IsRowOf object b row → row.name ≡ object
row-name object (bases.Put time content) row is = is.name_is
row-name object (bases.Del time) row is = is.name_is

pub row-time : (object : List ℕ) (b : Base) (row : Row) → IsRowOf object b row → row.created_at ≡ base_time b
row-time object (bases.Put time content) row is = is.time_is
row-time object (bases.Del time) row is = is.time_is

pub row-flag : (object : List ℕ) (b : Base) (row : Row) → IsRowOf object b row → row.deleted ≡ is_deletion b
row-flag object (bases.Put time content) row is = is.live
row-flag object (bases.Del time) row is = is.deleted

-- ---- devices that are marked

-- a mark marks its own device alone
pub marked-itself : (d : ℕ) (ds : List ℕ) (r : ℕ) → (d == r) ≡ false → is_done r ds ≡ false → is_done r (with_device d ds) ≡ false
marked-itself d ds r apart none = done-with_device r d ds ∙ or_from (r == d) (is_done r ds) away none
  where
    away : (r == d) ≡ false
    away = grind (arith, nat_tests)

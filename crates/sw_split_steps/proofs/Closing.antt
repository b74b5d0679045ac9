-- A range that is closed without a refusal passes the test of a ledger.
use Rattle.std.proofs.Common.{◌≡◌, ℕ, zero, suc, ◌≤◌, ◌==◌, ◌&&◌, nat_lt, not, Bool, true, false, cond, List, [], ◌∷◌, length, Option, None, Some, Contains}
use Rattle.std.proofs.Common.{refl, sym, ◌∙◌, ap, subst, arith}
use Rattle.std.proofs.lemmas.Bool.{eq-eqb, ltb-false, ltb-true}
use Rattle.std.specs.List.{find}
use Rattle.std.specs.Option.{option_map, option_map_or}
use Rattle.sw_container_steps.specs.Serving.{is_of_range}
use Rattle.sw_container_steps.specs.Steps.{has_point}
use Rattle.sw_hashpath.specs.declared.place.Place.{Place}
use Rattle.sw_keeper.specs.declared.tables.Tables.{Tables}
use Rattle.sw_rows.specs.Rows.{is_named}
use Rattle.sw_rows.specs.declared.numbered.Numbered.{Numbered}
use Rattle.sw_shard_laws.specs.Changes.{CanClose}
use Rattle.sw_shard_laws.specs.Ledger.{IsUnder, StandsIn, Way, index_in}
use Rattle.sw_shard_range.specs.Ranges.{index_in as index_among}
use Rattle.sw_shard_range.specs.declared.range.Range.{Range}
use Rattle.sw_sync.specs.Points.{greatest_point, point_at}
use Rattle.sw_split_steps.proofs.Refusing.{IsClosing}
use Rattle.sw_split_steps.proofs.Ways.{index-ways, length-ways}
use Rattle.sw_split_steps.specs.Tables.{table_of, ways_of}

-- ---- where none is found

none-here : {A : Type 0} (p : A → Bool) (x : A) (xs : List A) → find p (x ∷ xs) ≡ None → (p x ≡ false) × (find p xs ≡ None)
none-here {A} p x xs none = by (p x) refl none
  where
    by : (b : Bool) → p x ≡ b → cond b (Some x) (find p xs) ≡ None → (p x ≡ false) × (find p xs ≡ None)
    by true is none = cc
    by false is none = (is, none)

none-among : {A : Type 0} (p : A → Bool) (xs : List A) (x : A) → find p xs ≡ None → Contains xs x → p x ≡ false
none-among {A} p [] x none (k, low, is) = absurd (omega (arith, low))
none-among {A} p (y ∷ ys) x none (zero, low, is) = subst (λ (z : A). p z ≡ false) is (none-here p y ys none).0
none-among {A} p (y ∷ ys) x none (suc k, low, is) = none-among p ys x (none-here p y ys none).1 (k, omega (arith, low), is)

-- what another test finds doesn't pass this one
none-found : (p q : Numbered → Bool) (ns : List Numbered) (n : Numbered) → find p ns ≡ None → find q ns ≡ Some n → p n ≡ false
none-found p q [] n none found = cc
none-found p q (m ∷ ms) n none found = by (q m) found (λ rest. none-found p q ms n (none-here p m ms none).1 rest)
  where
    by : (b : Bool) → cond b (Some m) (find q ms) ≡ Some n → (find q ms ≡ Some n → p n ≡ false) → p n ≡ false
    by true found again = let same : m ≡ n = cc in subst (λ (x : Numbered). p x ≡ false) same (none-here p m ms none).0
    by false found again = again found

-- ---- points and rows

-- a device that has a point of the range has one that isn't below the number
point-kept : (o : Option ℕ) (rowid : ℕ) → not (option_map_or (λ kept. not (nat_lt kept rowid)) o false) ≡ false → IsUnder o rowid
point-kept None rowid has = cc
point-kept (Some kept) rowid has = (kept, refl, by (nat_lt kept rowid) refl has)
  where
    by : (b : Bool) → nat_lt kept rowid ≡ b → not (not b) ≡ false → rowid ≤ kept
    by true is has = cc
    by false is has = ltb-false kept rowid is

-- a row of the range that isn't a later one has no greater number
no-later : (a b : Bool) → (a && b) ≡ false → b ≡ true → a ≡ false
no-later true true none is = cc
no-later true false none is = cc
no-later false b none is = refl

pub can-close : (t : Tables) (rs : List Range) (devices : List ℕ) → t.ranges ≡ Some rs → IsClosing t rs devices → CanClose (table_of t) devices
can-close t rs devices split closing = record {
  ways = ways_of rs;
  split = ap (λ (o : Option (List Range)). option_map ways_of o) split;
  is_open =
      let low = ltb-true t.cursor (length rs) closing.is_open in
      let many = length-ways rs in omega (arith, low, many);
  acked = λ device inside shard n stands. at device inside shard n stands;
}
  where
    under : (device : ℕ) → Contains devices device → IsUnder (point_at t.points t.cursor device) (greatest_point t.points t.cursor)
    under device inside =
        point-kept (point_at t.points t.cursor device) (greatest_point t.points t.cursor)
        (none-among (λ device. not (has_point t.points t.cursor (greatest_point t.points t.cursor) device)) devices device closing.acked inside)

    none-later : find (is_of_range rs t.cursor (greatest_point t.points t.cursor)) t.rows.list ≡ None
    none-later = by (find (is_of_range rs t.cursor (greatest_point t.points t.cursor)) t.rows.list) closing.later
      where
        by : (o : Option Numbered) → option_map (λ n. n.rowid) o ≡ None → o ≡ None
        by None is = refl
        by (Some n) is = cc

    index : (shard : Place) (n : Numbered) → StandsIn (table_of t) t.cursor shard n → index_among rs n.row.name ≡ t.cursor
    index shard n stands =
        let whole : option_map ways_of (Some rs) ≡ Some stands.ways = sym (ap (λ (o : Option (List Range)). option_map ways_of o) split) ∙ stands.split in
        let same : ways_of rs ≡ stands.ways = cc in
        sym (index-ways rs n.row.name) ∙ ap (λ (ws : List Way). index_in ws n.row.name) same ∙ stands.index

    low : (shard : Place) (n : Numbered) → StandsIn (table_of t) t.cursor shard n → n.rowid ≤ greatest_point t.points t.cursor
    low shard n stands =
        let none = none-found (is_of_range rs t.cursor (greatest_point t.points t.cursor)) (is_named n.row.name) t.rows.list n none-later stands.stands in
        let here = eq-eqb (index_among rs n.row.name) t.cursor (index shard n stands) in
        ltb-false (greatest_point t.points t.cursor) n.rowid
        (no-later (nat_lt (greatest_point t.points t.cursor) n.rowid) (index_among rs n.row.name == t.cursor) none here)

    at : (device : ℕ) → Contains devices device → (shard : Place) (n : Numbered) → StandsIn (table_of t) t.cursor shard n
        → IsUnder (point_at t.points t.cursor device) n.rowid
    at device inside shard n stands =
        let kept = under device inside in
        let above = kept.2 in
        let below = low shard n stands in (kept.0, kept.1, omega (arith, above, below))

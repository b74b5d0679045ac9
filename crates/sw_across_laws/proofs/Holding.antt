-- What a replica holds is among the rows that are shown of the container and its shards.
use Rattle.std.proofs.Common.{◌≡◌, ℕ, Bool, true, List, [], unwrap_or, Option, None, Some, refl, sym, ◌∙◌, ap, subst, inl, inr}
use Rattle.std.proofs.lemmas.List.Elements.{All-contains}
use Rattle.std.specs.List.{Contains}
use Rattle.std.specs.Prelude.{is_none}
use Rattle.sw_container_steps.proofs.Unsplit.{unsplit-shows}
use Rattle.sw_container_steps.specs.Serving.{IsUnsplit, served, unserved}
use Rattle.sw_hashpath.specs.declared.place.Place.{Place}
use Rattle.sw_keeper.specs.Changes.{begun}
use Rattle.sw_keeper.specs.declared.tables.Tables.{Tables}
use Rattle.sw_listing_laws.proofs.Listing.{contained-in, row-found}
use Rattle.sw_listing_laws.specs.Plain.{Cluster}
use Rattle.sw_machine.specs.Machine.{Machine}
use Rattle.sw_point_laws.specs.Laws.{ground_of, ledger_of}
use Rattle.sw_rows.specs.Rows.{Listed, is_at_least}
use Rattle.sw_rows.specs.declared.numbered.Numbered.{Numbered}
use Rattle.sw_rows.specs.declared.row.Row.{Row}
use Rattle.sw_shard_laws.specs.Ledger.{Has, Holds, HoldsBy, Table, fresh, served as served_at, table_at}
use Rattle.sw_shard_laws.proofs.Rows.{named-stands}
use Rattle.sw_shard_listing.proofs.Members.{In, contains-in, in-contains}
use Rattle.sw_shard_listing.proofs.Splitting.{in-filter}
use Rattle.sw_shard_listing.specs.Ranges.{all_within, is_between}
use Rattle.sw_shard_range.specs.declared.range.Range.{Range}
use Rattle.sw_sharded_listing.specs.Parts.{Part, own_part, served_in}
use Rattle.sw_split_steps.proofs.Ways.{served-agrees}
use Rattle.sw_split_steps.specs.Tables.{table_of, tables_of}
use Rattle.sw_across_laws.proofs.Parts.{into, of-served, own-in, shard-in}
use Rattle.sw_across_laws.proofs.Tiled.{IsLeft, IsOwn, IsSomewhere, where-is}
use Rattle.sw_across_laws.specs.Picked.{ArePicked, held_segments, picked_part, picked_parts, tables_at}
use Rattle.sw_across_laws.specs.Showable.{IsShowable}

-- one of these rows is of the name of this one, and counts at least as much
abbrev pub IsAmong : List Numbered → Row → Type 0
IsAmong ns row = (n : Numbered) × In n ns × (n.row.name ≡ row.name) × (is_at_least n.row row ≡ true)

has-among : (l : Listed) (row : Row) → Has l row → IsAmong l.list row
has-among l row has =
    let f = row-found l.list row.name has.0 has.1 in
    let s = named-stands l row.name has.0 has.1 in (
      f.0,
      contains-in f.0 l.list (contained-in l.list f.0 f.1),
      ap (λ (r : Row). r.name) f.2 ∙ s.3,
      subst (λ (r : Row). is_at_least r row ≡ true) (sym f.2) has.2,
    )

-- the table of the ledger is that of the tables of a part
table-is : (m : Machine) (p : Part) → table_at (ledger_of m) p.device p.place ≡ table_of (tables_at m p)
table-is m p = by (m.containers.half.holds p.device p.place)
  where
    by : (o : Option Tables) → unwrap_or (tables_of o) fresh ≡ table_of (unwrap_or o (begun 0 None))
    by None = refl
    by (Some t) = refl

unsplit-there : (m : Machine) (p : Part) → IsUnsplit (m.containers.half.holds p.device p.place) → IsUnsplit (Some (tables_at m p))
unsplit-there m p is = by (m.containers.half.holds p.device p.place) is
  where
    by : (o : Option Tables) → IsUnsplit o → IsUnsplit (Some (unwrap_or o (begun 0 None)))
    by None is = refl
    by (Some t) is = is

module _ (c : Cluster) (root : Place → Place) (m : Machine) (place : Place) (can : IsShowable c root m place) (device : ℕ) (t : Tables)
    (there : m.containers.half.holds device place ≡ Some t) (pick : Place → ℕ) (picked : ArePicked c pick t) (back : Bool) where
  abbrev parts : List Part
  parts = picked_parts pick device place back t.ranges t.cursor

  abbrev all : List Numbered
  all = all_within (held_segments m parts)

  abbrev own : Part
  own = own_part device place (served_in t.ranges t.cursor)

  own-tables : tables_at m own ≡ t
  own-tables = ap (λ (o : Option Tables). unwrap_or o (begun 0 None)) there

  -- a row of a part that has its name is among all
  shown : (p : Part) → In p parts → (row : Row) → is_between p.lower p.upper row.name ≡ true → IsAmong (unserved (tables_at m p)) row → IsAmong all row
  shown p i row has f = (
    f.0,
    into m parts p f.0 i
        (in-filter (λ n. is_between p.lower p.upper n.row.name) (unserved (tables_at m p)) f.0 f.1
        (ap (is_between p.lower p.upper) f.2 ∙ has)),
    f.2,
    f.3,
  )

  -- what it has itself
  own-shown : (row : Row) → IsOwn [] t.ranges (served_in t.ranges t.cursor) t.cursor row.name
      → HoldsBy (ground_of c.replicas) (ledger_of m) (table_of t) row None → IsAmong all row
  own-shown row is has =
      shown own (own-in pick device place back t.ranges t.cursor is.has) row (rw is.behind refl)
      (subst (λ (x : Tables). IsAmong (unserved x) row) (sym own-tables)
      (f.0, in-filter (λ n. is_none (served t n.row.name)) t.rows.list f.0 f.1 (ap is_none (ap (served t) f.2 ∙ is.none)), f.2, f.3))
    where
      f : IsAmong t.rows.list row
      f = has-among t.rows row has

  -- what it left to a shard
  left-shown : (row : Row) → (is : IsLeft t.ranges (served_in t.ranges t.cursor) t.cursor row.name)
      → HoldsBy (ground_of c.replicas) (ledger_of m) (table_of t) row (Some is.range.shard) → IsAmong all row
  left-shown row is has =
      shown p (shard-in pick device place back t.ranges t.cursor is.range is.among) row is.has
      (subst (λ (ns : List Numbered). IsAmong ns row) (sym (unsplit-shows (tables_at m p) unsplit))
      (has-among (tables_at m p).rows row (subst (λ (x : Table). Has x.rows row) (table-is m p) (has p.device keeps))))
    where
      p : Part
      p = picked_part pick is.range

      keeps : Contains (c.replicas is.range.shard) (pick is.range.shard)
      keeps =
          All-contains (λ (r : Range). Contains (c.replicas r.shard) (pick r.shard)) (served_in t.ranges t.cursor) is.range picked
          (in-contains is.range (served_in t.ranges t.cursor) is.among)

      unsplit : IsUnsplit (Some (tables_at m p))
      unsplit = unsplit-there m p
          (of-served (λ r. (other : ℕ) → IsUnsplit (m.containers.half.holds other r.shard)) t.ranges t.cursor
          (λ ranges are. can.unsplit device t ranges there are) is.range is.among p.device)

  -- what the replica holds
  pub held-shown : (row : Row) → Holds (ground_of c.replicas) (ledger_of m) device place row → IsAmong all row
  held-shown row holds = by (where-is t.ranges t.cursor row.name (λ ranges are. (can.shards device t ranges there are).1))
    where
      by-table : HoldsBy (ground_of c.replicas) (ledger_of m) (table_of t) row (served_at (table_of t) row.name)
      by-table =
          subst (λ (x : Table). HoldsBy (ground_of c.replicas) (ledger_of m) x row (served_at x row.name))
          (ap (λ (o : Option Tables). unwrap_or (tables_of o) fresh) there) holds

      by-tables : HoldsBy (ground_of c.replicas) (ledger_of m) (table_of t) row (served t row.name)
      by-tables =
          subst (λ (o : Option Place). HoldsBy (ground_of c.replicas) (ledger_of m) (table_of t) row o) (sym (served-agrees t row.name)) by-table

      by : IsSomewhere [] t.ranges (served_in t.ranges t.cursor) t.cursor row.name → IsAmong all row
      by (inl is) =
          own-shown row is (subst (λ (o : Option Place). HoldsBy (ground_of c.replicas) (ledger_of m) (table_of t) row o) is.none by-tables)
      by (inr is) =
          left-shown row is (subst (λ (o : Option Place). HoldsBy (ground_of c.replicas) (ledger_of m) (table_of t) row o) is.shard by-tables)

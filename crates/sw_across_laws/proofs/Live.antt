-- The rows that a container and its shards show, without those that are deleted, are those of its live objects.
use Rattle.std.proofs.Common.{◌≡◌, ℕ, Bool, true, false, not, filter, List, Some, refl, sym, ◌∙◌, ap, subst, inl, inr, ◌⊎◌}
use Rattle.std.specs.List.{Contains}
use Rattle.sw_hashpath.specs.Places.{IsPlaceOf}
use Rattle.sw_hashpath.specs.declared.name.Name.{Name}
use Rattle.sw_hashpath.specs.declared.place.Place.{Place}
use Rattle.sw_keeper.specs.declared.tables.Tables.{Tables}
use Rattle.sw_listing_laws.specs.Laws.{AreLiveRows, IsLive}
use Rattle.sw_listing_laws.specs.Plain.{Cluster, IsOfWrite}
use Rattle.sw_machine.specs.Machine.{KnownWrite, Machine}
use Rattle.sw_object_steps.specs.BaseRows.{IsRowOf}
use Rattle.sw_pending_laws.proofs.Rows.{counts-both-flag, row-flag, row-name}
use Rattle.sw_pending_laws.specs.Ledger.{counts, covers}
use Rattle.sw_rows.specs.Rows.{IsNamedOnce, is_at_least}
use Rattle.sw_rows.specs.declared.numbered.Numbered.{Numbered}
use Rattle.sw_rows.specs.declared.row.Row.{Row}
use Rattle.sw_shard_listing.proofs.Members.{In, contains-in, in-contains}
use Rattle.sw_shard_listing.proofs.Splitting.{filter-in, in-filter}
use Rattle.sw_shard_listing.specs.Laws.{AreInTurn}
use Rattle.sw_shard_listing.specs.Ranges.{all_within}
use Rattle.sw_shard_range.specs.declared.range.Range.{Range}
use Rattle.sw_sharded_listing.specs.Parts.{Part, own_part, served_in}
use Rattle.sw_state.specs.Bases.{base_at, base_time, is_deletion}
use Rattle.sw_state.specs.declared.base.Base.{Base}
use Rattle.sw_across_laws.proofs.Bases.{a-row, row-covers}
use Rattle.sw_across_laws.proofs.Holding.{IsAmong, held-shown}
use Rattle.sw_across_laws.proofs.Names.{one-name}
use Rattle.sw_across_laws.proofs.Once.{once-filter, once-is}
use Rattle.sw_across_laws.proofs.Order.{picked-in-turn}
use Rattle.sw_across_laws.proofs.Parts.{IsOfShard, of-served, one-of}
use Rattle.sw_across_laws.proofs.Rows.{IsOfRoot, all-of-writes, all-once, are-segments}
use Rattle.sw_across_laws.specs.Laws.{AreLiveAcross, LiveRowsAcross}
use Rattle.sw_across_laws.specs.Picked.{ArePicked, held_segments, picked_parts}
use Rattle.sw_across_laws.specs.Showable.{AreNamed, IsShowable}

abbrev pub live : Numbered → Bool
live n = not n.row.deleted

stands : (gone : Bool) → not gone ≡ true → gone ≡ false
stands true is = cc
stands false is = refl

module _ (c : Cluster) (root : Place → Place) (m : Machine) (place : Place) (can : IsShowable c root m place) (named : AreNamed c m) (device : ℕ)
    (ring : Contains (c.replicas place) device) (t : Tables) (there : m.containers.half.holds device place ≡ Some t) (pick : Place → ℕ)
    (picked : ArePicked c pick t) (back : Bool) where
  abbrev pub parts : List Part
  parts = picked_parts pick device place back t.ranges t.cursor

  abbrev pub all : List Numbered
  all = all_within (held_segments m parts)

  abbrev served : List Range
  served = served_in t.ranges t.cursor

  -- each part is of the container, or of a shard of it
  of-root : (p : Part) → In p parts → IsOfRoot c root m place can named p
  of-root p i = by (one-of pick device place back t.ranges t.cursor p i)
    where
      by : IsOfShard pick served p ⊎ (p ≡ own_part device place served) → IsOfRoot c root m place can named p
      by (inl is) =
          ap (λ (q : Part). root q.place) is.2
          ∙ of-served (λ (r : Range). root r.shard ≡ place) t.ranges t.cursor (λ ranges are. (can.shards device t ranges there are).0) is.0 is.1
      by (inr is) = ap (λ (q : Part). root q.place) is ∙ can.own

  turn : AreInTurn back (held_segments m parts)
  turn = picked-in-turn pick device place m back t.ranges t.cursor (λ ranges are. (can.shards device t ranges there are).1)

  once : IsNamedOnce all
  once = all-once c root m place can named back parts of-root turn

  -- whatever reached a device is among all rows, or what counts more
  reached : (d : ℕ) (n : KnownWrite) (base : Base) → Contains m.objects.known (d, n) → IsPlaceOf c.nodes.secrets n.name place
      → base_at n.write.time n.write.kind ≡ Some base → (row : Row) → IsRowOf n.name.object base row → IsAmong all row
  reached d n base known at is row is_row =
      held-shown c root m place can device t there pick picked back row (can.held device ring d n base known at is row is_row)

  -- a row that is there counts at least as much as all that reached any device under its name
  over : (k : Numbered) → In k all → (name : List ℕ) (base : Base) → IsRowOf name base k.row
      → (d : ℕ) (n : KnownWrite) (b : Base) → Contains m.objects.known (d, n) → IsPlaceOf c.nodes.secrets n.name place → n.name.object ≡ name
      → base_at n.write.time n.write.kind ≡ Some b → covers base b ≡ true
  over k i name base is_row d n b known at named_so is =
      let r = a-row n.name.object b (named d n known).1 in
      let f = reached d n b known at is r.0 r.1 in
      let names : (f.0).row.name ≡ k.row.name =
      f.2 ∙ (row-name n.name.object b r.0 r.1 ∙ (named_so ∙ sym (row-name name base k.row is_row))) in
      let same : (f.0).row ≡ k.row = once-is all once f.0 k (in-contains f.0 all f.1) (in-contains k all i) names in
      row-covers name n.name.object base b k.row r.0 is_row r.1 (subst (λ (x : Row). is_at_least x r.0 ≡ true) same f.3)

  pub sound : (n : Numbered) → In n all → n.row.deleted ≡ false → (base : Base) × IsLive c m place n.row.name base × IsRowOf n.row.name base n.row
  sound n i shown = (w.base, is_live, subst (λ (x : List ℕ). IsRowOf x w.base n.row) (sym name_is) w.row_is)
    where
      w : IsOfWrite c m place n.row
      w = all-of-writes c root m place can named parts of-root n i

      name_is : n.row.name ≡ w.name.object
      name_is = row-name w.name.object w.base n.row w.row_is

      at : IsPlaceOf c.nodes.secrets (w.reached.by).name place
      at = subst (λ (x : Name). IsPlaceOf c.nodes.secrets x place) (sym w.reached.name_is) w.place_is

      is_live : IsLive c m place n.row.name w.base
      is_live = record {
        device = w.reached.device;
        by = w.reached.by;
        known = w.reached.known;
        place_is = at;
        object_is = ap (λ (x : Name). x.object) w.reached.name_is ∙ sym name_is;
        base_is = w.reached.base_is;
        is_put = sym (row-flag w.name.object w.base n.row w.row_is) ∙ shown;
        greatest = λ d k b known same is.
            over n i w.name.object w.base w.row_is d k b known (subst (λ (x : Name). IsPlaceOf c.nodes.secrets x place) (sym same) at)
            (ap (λ (x : Name). x.object) (same ∙ w.reached.name_is)) is;
      }

  -- a live object has a row that isn't deleted
  pub whole : (object : List ℕ) (base : Base) → IsLive c m place object base
      → (n : Numbered) × In n all × (n.row.deleted ≡ false) × (n.row.name ≡ object)
  whole object base is = (f.0, f.1, shown, f.2 ∙ (row-name is.by.name.object base r.0 r.1 ∙ is.object_is))
    where
      r : (row : Row) × IsRowOf is.by.name.object base row
      r = a-row is.by.name.object base (named is.device is.by is.known).1

      f : IsAmong all r.0
      f = reached is.device is.by base is.known is.place_is is.base_is r.0 r.1

      w : IsOfWrite c m place (f.0).row
      w = all-of-writes c root m place can named parts of-root f.0 f.1

      -- it is of the same name
      names : (w.reached.by).name ≡ (is.by).name
      names =
          one-name c place (w.reached.by).name (is.by).name (named w.reached.device w.reached.by w.reached.known).0 (named is.device is.by is.known).0
          (subst (λ (x : Name). IsPlaceOf c.nodes.secrets x place) (sym w.reached.name_is) w.place_is) is.place_is
          (ap (λ (x : Name). x.object) w.reached.name_is
          ∙ (sym (row-name w.name.object w.base (f.0).row w.row_is) ∙ (f.2 ∙ row-name is.by.name.object base r.0 r.1)))

      -- so each counts as much as the other
      more : counts (base_time base) false (base_time w.base) (is_deletion w.base) ≡ true
      more =
          subst (λ (x : Bool). counts (base_time base) x (base_time w.base) (is_deletion w.base) ≡ true) is.is_put
          (is.greatest w.reached.device w.reached.by w.base w.reached.known names w.reached.base_is)

      less : counts (base_time w.base) (is_deletion w.base) (base_time base) false ≡ true
      less =
          subst (λ (x : Bool). counts (base_time w.base) (is_deletion w.base) (base_time base) x ≡ true) is.is_put
          (row-covers w.name.object is.by.name.object w.base base (f.0).row r.0 w.row_is r.1 f.3)

      shown : (f.0).row.deleted ≡ false
      shown = row-flag w.name.object w.base (f.0).row w.row_is ∙ counts-both-flag (base_time base) (base_time w.base) (is_deletion w.base) more less

  pub live-rows : AreLiveRows c m place (filter live all)
  live-rows = record {
    once = once-filter live all once;
    sound = λ n i.
        let among = filter-in live all n (contains-in n (filter live all) i) in
        sound n among.0 (stands n.row.deleted among.1);
    whole = λ object base is.
        let w = whole object base is in
        (w.0, in-contains w.0 (filter live all) (in-filter live all w.0 w.1 (ap not w.2)), w.3);
  }

  pub are-live : AreLiveAcross c m place back (held_segments m parts)
  are-live = record { whole = are-segments c root m place can named parts of-root; in_turn = turn; live = live-rows }

  pub all-named-once : IsNamedOnce all
  all-named-once = once

pub live-rows-across : LiveRowsAcross
live-rows-across c root m place can named device ring t there pick picked back = are-live c root m place can named device ring t there pick picked back

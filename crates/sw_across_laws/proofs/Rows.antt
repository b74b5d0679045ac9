-- What is among the rows of a part: rows of writes, each name once.
use Rattle.std.proofs.Common.{◌≡◌, ℕ, Bool, true, false, List, [], ◌∷◌, unwrap_or, Option, None, Some, refl, sym, ◌∙◌, ap, subst, inl, inr}
use Rattle.std.specs.List.{Contains}
use Rattle.std.specs.Prelude.{is_none}
use Rattle.sw_container_steps.specs.Entries.{rows_of}
use Rattle.sw_container_steps.specs.Serving.{served, unserved}
use Rattle.sw_hashpath.specs.declared.place.Place.{Place}
use Rattle.sw_keeper.specs.Changes.{begun}
use Rattle.sw_keeper.specs.declared.tables.Tables.{Tables}
use Rattle.sw_listing_laws.specs.Plain.{Cluster, IsOfWrite}
use Rattle.sw_machine.specs.Machine.{Machine}
use Rattle.sw_pending_laws.proofs.Rows.{row-name}
use Rattle.sw_rows.specs.Rows.{IsNamedOnce, Listed}
use Rattle.sw_rows.specs.declared.numbered.Numbered.{Numbered}
use Rattle.sw_shard_listing.proofs.Members.{In, contains-in, in-contains}
use Rattle.sw_shard_listing.proofs.Order.{Lt, lt-irrefl}
use Rattle.sw_shard_listing.proofs.Splitting.{filter-in}
use Rattle.sw_shard_listing.specs.Laws.{AreInTurn, AreSegments, IsPlain, is_ahead}
use Rattle.sw_shard_listing.specs.Ranges.{all_within, is_between, within}
use Rattle.sw_sharded_listing.specs.Parts.{Part}
use Rattle.sw_across_laws.proofs.Names.{text-plain}
use Rattle.sw_across_laws.proofs.Once.{once-append, once-filter, once-is}
use Rattle.sw_across_laws.proofs.Parts.{out-of, shown_of}
use Rattle.sw_across_laws.specs.Picked.{held_segments, tables_at}
use Rattle.sw_across_laws.specs.Showable.{AreNamed, IsShowable}

-- the rows that the device of a part has of its container
pub rows-are : (m : Machine) (p : Part) → (tables_at m p).rows ≡ rows_of (m.containers.half.holds p.device p.place)
rows-are m p = by (m.containers.half.holds p.device p.place)
  where
    by : (o : Option Tables) → (unwrap_or o (begun 0 None)).rows ≡ rows_of o
    by None = refl
    by (Some t) = refl

apart-names : (back : Bool) (x y : List ℕ) → is_ahead back x y ≡ true → x ≡ y → ⊥
apart-names true x y less same = lt-irrefl y (subst (λ (t : List ℕ). Lt y t) same less)
apart-names false x y less same = lt-irrefl y (subst (λ (t : List ℕ). Lt t y) same less)

module _ (c : Cluster) (root : Place → Place) (m : Machine) (place : Place) (can : IsShowable c root m place) (named : AreNamed c m) where
  -- the container of the part is the one that is listed, or a shard of it
  abbrev pub IsOfRoot : Part → Type 0
  IsOfRoot p = root p.place ≡ place

  once-there : (p : Part) → IsOfRoot p → IsNamedOnce (tables_at m p).rows.list
  once-there p is = subst (λ (l : Listed). IsNamedOnce l.list) (sym (rows-are m p)) (can.listed p.device p.place is).once

  once-unserved : (p : Part) → IsOfRoot p → IsNamedOnce (unserved (tables_at m p))
  once-unserved p is = once-filter (λ n. is_none (served (tables_at m p) n.row.name)) (tables_at m p).rows.list (once-there p is)

  of-unserved : (p : Part) → IsOfRoot p → (n : Numbered) → In n (unserved (tables_at m p)) → IsOfWrite c m place n.row
  of-unserved p is n i =
      let there = filter-in (λ k. is_none (served (tables_at m p) k.row.name)) (tables_at m p).rows.list n i in
      can.rows p.device p.place is n
      (subst (λ (l : Listed). Contains l.list n) (rows-are m p) (in-contains n (tables_at m p).rows.list there.0))

  -- a row that a part shows is that of a write of the container
  pub of-write : (p : Part) → IsOfRoot p → (n : Numbered) → In n (within (shown_of m p)) → IsOfWrite c m place n.row
  of-write p is n i =
      of-unserved p is n (filter-in (λ k. is_between p.lower p.upper k.row.name) (unserved (tables_at m p)) n i).0

  -- so its name is plain
  plain : (n : Numbered) → IsOfWrite c m place n.row → IsPlain n.row.name
  plain n w =
      let name_is : n.row.name ≡ w.name.object = row-name w.name.object w.base n.row w.row_is in
      let by = w.reached in
      subst IsPlain (ap (λ x. x.object) by.name_is ∙ sym name_is) (text-plain (by.by).name.object (named by.device by.by by.known).1)

  module _ (ps : List Part) (are : (p : Part) → In p ps → IsOfRoot p) where
    -- each row of these parts is that of a write of the container
    pub all-of-writes : (n : Numbered) → In n (all_within (held_segments m ps)) → IsOfWrite c m place n.row
    all-of-writes n i = let p = out-of m ps n i in of-write p.0 (are p.0 p.1) n p.2

  -- ---- of all parts

  pub are-segments : (ps : List Part) → ((p : Part) → In p ps → IsOfRoot p) → AreSegments (held_segments m ps)
  are-segments [] are = tt
  are-segments (p ∷ ps) are = (
    once-is (unserved (tables_at m p)) (once-unserved p (are p (inl refl))),
    (λ n i. plain n (of-unserved p (are p (inl refl)) n (contains-in n (unserved (tables_at m p)) i))),
    are-segments ps (λ q i. are q (inr i)),
  )

  -- each name is there once, where the parts are in turn
  pub all-once : (back : Bool) (ps : List Part) → ((p : Part) → In p ps → IsOfRoot p) → AreInTurn back (held_segments m ps)
      → IsNamedOnce (all_within (held_segments m ps))
  all-once back [] are turn = tt
  all-once back (p ∷ ps) are turn =
      once-append (within (shown_of m p)) (all_within (held_segments m ps))
      (once-filter (λ n. is_between p.lower p.upper n.row.name) (unserved (tables_at m p)) (once-unserved p (are p (inl refl))))
      (all-once back ps (λ q i. are q (inr i)) turn.1)
      (λ k n i j same. apart-names back k.row.name n.row.name
      (turn.0 k n (in-contains k (within (shown_of m p)) i) (in-contains n (all_within (held_segments m ps)) j)) same)

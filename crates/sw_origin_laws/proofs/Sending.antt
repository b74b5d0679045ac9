-- What a device sends is of the root of the place that it goes to.
use Rattle.std.proofs.Common.{◌≡◌, ℕ, true, List, map, Option, None, Some, ◌⊎◌, inl, inr, sym, ap, subst}
use Rattle.std.proofs.lemmas.List.Elements.{All-contains, All-map, All-weaker}
use Rattle.sw_container_steps.specs.Entries.{rows_of}
use Rattle.sw_container_steps.specs.declared.sharding.Sharding.{Sharding}
use Rattle.sw_hashpath.specs.declared.name.Name.{Name}
use Rattle.sw_hashpath.specs.declared.place.Place.{Place}
use Rattle.sw_keeper.specs.declared.tables.Tables.{Tables}
use Rattle.sw_listing_laws.proofs.Accounts.{ObjAccounts}
use Rattle.sw_listing_laws.proofs.Grounds.{one-name}
use Rattle.sw_listing_laws.proofs.Standing.{Stands, reach}
use Rattle.sw_listing_laws.specs.Plain.{Cluster, HadReached, IsNamed, IsNamedMessage, IsOfWrite}
use Rattle.sw_machine.specs.Honest.{IsHonestMessage, ToldRange, WasLeft}
use Rattle.sw_machine.specs.Machine.{Came, Carries, HasList, HasRow, Machine, RunLine}
use Rattle.sw_machine.specs.Messages.{Creation_of, Message, Ranges_of, Row_of, Rows_of, Update_of, Write_of}
use Rattle.sw_machine.specs.Sides.{TellsAt}
use Rattle.sw_object_steps.specs.BaseRows.{IsBaseFor}
use Rattle.sw_object_steps.specs.Values.{Records}
use Rattle.sw_peer.specs.Sights.{cont_lock}
use Rattle.sw_pending.specs.declared.filed.Filed.{Filed}
use Rattle.sw_pending_laws.specs.Ledger.{Reach}
use Rattle.sw_point_laws.proofs.Ranges.{shard-of}
use Rattle.sw_rows.specs.declared.numbered.Numbered.{Numbered}
use Rattle.sw_rows.specs.declared.row.Row.{Row}
use Rattle.sw_shard_range.specs.Names.{is_hidden}
use Rattle.sw_shard_range.specs.declared.range.Range.{Range}
use Rattle.sw_state.specs.declared.base.Base.{Base}
use Rattle.sw_origin_laws.proofs.Lists.{AreListed, AreShards, list_of}
use Rattle.sw_origin_laws.proofs.Origins.{AllSay, AreOfRoots, BringsOfRoot, IsOfOne}
use Rattle.sw_origin_laws.proofs.Saying.{shard-named}
use Rattle.sw_origin_laws.specs.Roots.{IsRootedMessage, IsRootedRow}

-- ---- where it goes

module _ (root : Place → Place) (done : List RunLine) (say : AllSay root done) (place at : Place) where
  left-one : (row : Row) → (d : ℕ) × WasLeft done d place row at → IsOfOne root place at
  left-one row left = (say (Came (left.1).came) (left.1).among).left place row at (left.1).entries (left.1).event_is

  -- to the container itself, or to a shard that some replica left the row to
  row-one : (row : Row) → (at ≡ place) ⊎ ((d : ℕ) × WasLeft done d place row at) → IsOfOne root place at
  row-one row (inl same) = ap root same
  row-one row (inr left) = left-one row left

  -- to the container itself, or to the shard of a range of its list
  rows-one : (from : ℕ)
      → (at ≡ place) ⊎ ((sharding : Sharding) × (index : ℕ) × (range : Range) × ToldRange done from place sharding index range × (range.shard ≡ at))
      → IsOfOne root place at
  rows-one from (inl same) = ap root same
  rows-one from (inr is) =
      let t = is.3 in
      subst (λ (p : Place). IsOfOne root place p) is.4
      (shard-named (IsOfOne root place) t.ranges is.1 (is.2).shard
      ((say (Came t.came) t.among).listed place is.0 t.entries t.ranges t.event_is t.split) (shard-of t.ranges is.1 is.2 t.is_there))

module _ (c : Cluster) (root : Place → Place) (m : Machine) (have : AreOfRoots c root m m.containers) where
  -- what is so of a place is so of another one of its container
  moved : (place at : Place) (row : Row) → IsOfOne root place at → IsRootedRow c root m place row → IsRootedRow c root m at row
  moved place at row one is = subst (λ (p : Place). (is_hidden p ≡ true) ⊎ IsOfWrite c m p row) (sym one) is

  -- ---- rows that a device has

  row-rooted : (from : ℕ) (place : Place) (row : Row) → HasRow m from place row → IsRootedRow c root m place row
  row-rooted from place row has =
      All-contains (IsRootedRow c root m place) (map (λ (n : Numbered). n.row) (rows_of (m.containers.half.holds from place)).list) row
      (All-map (IsRootedRow c root m place) (λ (n : Numbered). n.row) (rows_of (m.containers.half.holds from place)).list (have.rows from place)) has

  -- ---- the row of what stands

  module _ (records : ℕ → Records) (reached : List Reach) (objects : ObjAccounts c m.objects records reached) where
    -- what stands under a name reached the device
    stood-reached : (from : ℕ) (name : Name) (base : Base) → IsNamed c name → (m.objects.half.holds from name.hash).state.base ≡ Some base
        → HadReached m name base
    stood-reached from name base named is =
        let stands : Stands reached from name.hash (Some base) =
        subst (λ (o : Option Base). Stands reached from name.hash o) is (objects.fits from name.hash).stands in
        let k = objects.known.comes (reach from name.hash base) stands.0 in
        record {
          device = from;
          by = k.0;
          known = k.1;
          name_is = one-name c (k.0).name name (objects.known.named from k.0 k.1) named k.2;
          base_is = k.3;
        }

    update-rooted : (from : ℕ) (filed : Filed) (to : ℕ) (place at : Place) (row : Row) → IsNamed c filed.name
        → Carries c.nodes m from (Update_of to filed place at row) → (is_hidden (root place) ≡ true) ⊎ (root place ≡ place)
        → IsRootedRow c root m place row
    update-rooted from filed to place at row named carries (inl hidden) = inl hidden
    update-rooted from filed to place at row named carries (inr own) =
        inr (subst (λ (p : Place). IsOfWrite c m p row) (sym own) of)
      where
        base : IsBaseFor filed (m.objects.half.holds from filed.name.hash).state (Some row)
        base = carries.1 (objects.tell from filed.name.hash)

        of : IsOfWrite c m place row
        of = record {
          name = filed.name;
          base = base.0;
          reached = stood-reached from filed.name base.0 named base.1;
          place_is = carries.0;
          row_is = base.3;
        }

    -- ---- each kind of message

    listed-ranges : (place : Place) (t : Option Tables) (ranges : List Range) → HasList t ranges → AreListed (IsOfOne root place) (list_of t)
        → AreShards (IsOfOne root place) ranges
    listed-ranges place None ranges has are = absurd has
    listed-ranges place (Some t) ranges has are = subst (λ (o : Option (List Range)). AreListed (IsOfOne root place) o) has are

    pub sends : (tell : (d : ℕ) (p : Place) → TellsAt (cont_lock c.nodes) m.containers d p) (done : List RunLine) → AllSay root done → (from : ℕ)
        (message : Message) → Carries c.nodes m from message → IsHonestMessage c.nodes.secrets c.replicas done from message
        → IsRootedMessage c root message → IsNamedMessage c message → BringsOfRoot c root m message
    sends tell done say from (Write_of to name write) carries honest rooted named = tt
    sends tell done say from (Row_of to place at row) carries honest rooted named =
        moved place at row (row-one root done say place at row honest) (row-rooted from place row (carries (tell from place)))
    sends tell done say from (Rows_of to place at rows) carries honest rooted named =
        All-weaker (HasRow m from place) (IsRootedRow c root m at)
        (λ row has. moved place at row (rows-one root done say place at from honest) (row-rooted from place row has)) rows (carries (tell from place))
    sends tell done say from (Update_of to filed place at row) carries honest rooted named =
        moved place at row (row-one root done say place at row honest) (update-rooted from filed to place at row named carries rooted)
    sends tell done say from (Creation_of to place time) carries honest rooted named = tt
    sends tell done say from (Ranges_of to place ranges) carries honest rooted named =
        listed-ranges place (m.containers.half.holds from place) ranges (carries (tell from place)) (have.lists from place)

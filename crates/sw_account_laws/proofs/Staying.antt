-- Another machine whose nodes hold the same is sound with the same account.
use Rattle.std.proofs.Common.{◌≡◌, ℕ, List, Option, Some, ◌⊎◌, inl, inr, sym, ◌∙◌, ap, subst}
use Rattle.std.specs.List.{Contains}
use Rattle.sw_container_steps.specs.Entries.{rows_of}
use Rattle.sw_hashpath.specs.declared.name.Name.{Name}
use Rattle.sw_hashpath.specs.declared.place.Place.{Place}
use Rattle.sw_held_laws.specs.Laws.{WaitsAt}
use Rattle.sw_keeper.specs.declared.tables.Tables.{Tables}
use Rattle.sw_listing_laws.specs.Plain.{Cluster, IsOfWrite}
use Rattle.sw_machine.specs.Machine.{KnownWrite, Machine}
use Rattle.sw_object_steps.specs.Journals.{Hash}
use Rattle.sw_object_steps.specs.Values.{ObjValue}
use Rattle.sw_pending.specs.declared.filed.Filed.{Filed}
use Rattle.sw_pending.specs.declared.key.RecordKey.{RecordKey}
use Rattle.sw_point_laws.specs.Laws.{ground_of, ledger_of}
use Rattle.sw_rows.specs.Rows.{IsListed}
use Rattle.sw_rows.specs.declared.row.Row.{Row}
use Rattle.sw_shard_laws.specs.Ledger.{Holds, Ledger}
use Rattle.sw_shard_laws.specs.Sound.{PointsHold}
use Rattle.sw_split_steps.specs.Tables.{IsInOrder, tables_of}
use Rattle.sw_state.specs.Bases.{base_time}
use Rattle.sw_state.specs.declared.base.Base.{Base}
use Rattle.sw_account_laws.specs.Accounts.{Account}
use Rattle.sw_account_laws.specs.Laws.{AccountsStay, HoldsTheSame}
use Rattle.sw_account_laws.specs.Sound.{IsSound}

module _ (c : Cluster) (root : Place → Place) (m : Machine) (account : Account) (other : Machine) (sound : IsSound c root m account)
    (same : HoldsTheSame c m other) where
  ledgers : ledger_of m ≡ ledger_of other
  ledgers = λ i device place. tables_of (sym (same.containers device place) i)

  filed-there : (device : ℕ) (hash : Hash) (key : RecordKey) (filed : Filed) → (m.objects.half.holds device hash).records key ≡ Some filed
      → (other.objects.half.holds device hash).records key ≡ Some filed
  filed-there device hash key filed is = ap (λ (v : ObjValue). v.records key) (same.objects device hash) ∙ is

  of-write : (place : Place) (row : Row) → IsOfWrite c m place row → IsOfWrite c other place row
  of-write place row is = record {
    name = is.name;
    base = is.base;
    reached = record {
      device = is.reached.device;
      by = is.reached.by;
      known =
          subst (λ (xs : List (ℕ × KnownWrite)). Contains xs (is.reached.device, is.reached.by)) (sym same.known) is.reached.known;
      name_is = is.reached.name_is;
      base_is = is.reached.base_is;
    };
    place_is = is.place_is;
    row_is = is.row_is;
  }

  pub stays : IsSound c root other account
  stays = record {
    known = same.known ∙ sound.known;
    quiet = same.quiet;
    objects_tell = same.objects_tell;
    containers_tell = same.containers_tell;
    stand = λ d h. ap (λ (v : ObjValue). v.state) (same.objects d h) ∙ sound.stand d h;
    named = sound.named;
    filed = λ d key filed is.
        sound.filed d key filed (ap (λ (v : ObjValue). v.records key) (sym (same.objects d key.hash)) ∙ is);
    origin = sound.origin;
    recorded = λ w base there asked is place home device ring row row_is.
        by w.device w.name base device place row (sound.recorded w base there asked is place home device ring row row_is);
    rows = λ d p plain n there.
        of-write (root p) n.row
        (sound.rows d p plain n (subst (λ (t : Option Tables). Contains (rows_of t).list n) (same.containers d p) there));
    ranges = λ d p t ranges there split. sound.ranges d p t ranges (sym (same.containers d p) ∙ there) split;
    points = subst (λ (l : Ledger). PointsHold (ground_of c.replicas) l) ledgers sound.points;
    ordered = λ d p. subst IsInOrder (sym (same.containers d p)) (sound.ordered d p);
    listed = λ d p. subst (λ (t : Option Tables). IsListed (rows_of t)) (sym (same.containers d p)) (sound.listed d p);
  }
    where
      by : (at : ℕ) (name : Name) (base : Base) (device : ℕ) (place : Place) (row : Row)
          → WaitsAt m at name base device ⊎ Holds (ground_of c.replicas) (ledger_of m) device place row
          → WaitsAt other at name base device ⊎ Holds (ground_of c.replicas) (ledger_of other) device place row
      by at name base device place row (inl waits) =
          inl (record {
            filed = waits.filed;
            stands = filed-there at name.hash (record { hash = name.hash; time = base_time base }) waits.filed waits.stands;
            name_is = waits.name_is;
            unmarked = waits.unmarked;
          })
      by at name base device place row (inr holds) =
          inr (subst (λ (l : Ledger). Holds (ground_of c.replicas) l device place row) ledgers holds)

pub accounts-stay : AccountsStay
accounts-stay c root m account other sound same = stays c root m account other sound same

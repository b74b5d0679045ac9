-- A sync point may be raised where honesty asks for it: the other replica holds each row that was read.
use Rattle.std.proofs.Common.{◌≡◌, ℕ, ◌<◌, nat_lt, true, List, Option, None, Some, Ok, ◌⊎◌, inl, inr, refl, sym, ◌∙◌, ap, subst, arith}
use Rattle.std.proofs.lemmas.Bool.{lt-ltb}
use Rattle.std.proofs.lemmas.List.Elements.{All-contains}
use Rattle.std.specs.List.{Contains, find}
use Rattle.std.specs.Option.{option_map_or}
use Rattle.sw_container_steps.specs.Reads.{parcel_of}
use Rattle.sw_hashpath.specs.declared.place.Place.{Place}
use Rattle.sw_hashpath.specs.declared.secrets.Secrets.{Secrets}
use Rattle.sw_keeper.specs.declared.tables.Tables.{Tables}
use Rattle.sw_machine.specs.Honest.{IsAcknowledged, WasPushed}
use Rattle.sw_machine.specs.Machine.{Came, RunLine}
use Rattle.sw_peer.specs.declared.cont_event.ContEvent.TheVariants as cont_events
use Rattle.sw_rows.specs.Rows.{is_named}
use Rattle.sw_rows.specs.declared.numbered.Numbered.{Numbered}
use Rattle.sw_rows.specs.declared.row.Row.{Row}
use Rattle.sw_shard_laws.proofs.Going.{parcel-syncs}
use Rattle.sw_shard_laws.specs.Changes.{CanSync}
use Rattle.sw_shard_laws.specs.Ledger.{Ground, Holds, IsUnder, Ledger, Stands, Table, table_at}
use Rattle.sw_shard_laws.specs.Sound.{PointsHold}
use Rattle.sw_split_steps.specs.Tables.{standing}
use Rattle.sw_sync.specs.Points.{point_at}
use Rattle.sw_point_laws.proofs.Among.{among-after, among-here, found-among}
use Rattle.sw_point_laws.proofs.Parcels.{IsParcel, parcel-is}
use Rattle.sw_point_laws.proofs.Saying.{AllSay, IsOfEarlier}
use Rattle.sw_point_laws.proofs.Told.{acknowledged-held, acknowledged-within, at-says}
use Rattle.sw_point_laws.specs.Laws.{ground_of}

module _ (secrets : Secrets) (replicas : Place → List ℕ) (l : Ledger) (done : List RunLine) (say : AllSay (ground_of replicas) l done)
    (hold : PointsHold (ground_of replicas) l) (device : ℕ) (place : Place) (to rowid : ℕ) (was : WasPushed secrets replicas done device place to rowid) where
  abbrev g : Ground
  g = ground_of replicas

  earlier : IsOfEarlier l device place (parcel_of to) was.parcel
  earlier =
      at-says g l done say was.came was.entries device (cont_events.Parceled place to (Ok was.parcel))
      (among-here done was.before (Came was.came) was.behind was.lines_are) was.device_is was.event_is was.parcel refl

  abbrev stood : Table
  stood = standing earlier.tables

  abbrev is : IsParcel to earlier.tables was.parcel
  is = parcel-is to earlier.tables earlier.front was.parcel earlier.told

  stood-is : stood ≡ standing (Some is.0)
  stood-is = ap (λ (o : Option Tables). standing o) is.1

  -- the number above which rows were read
  abbrev above : ℕ
  above = option_map_or (λ rowid. rowid) (point_at (is.0).syncs 0 to) 0

  from : (above ≡ 0) ⊎ IsUnder (point_at (table_at l device place).syncs 0 to) above
  from = by (point_at (is.0).syncs 0 to) refl
    where
      by : (o : Option ℕ) → point_at (is.0).syncs 0 to ≡ o
          → (option_map_or (λ rowid. rowid) o 0 ≡ 0) ⊎ IsUnder (point_at (table_at l device place).syncs 0 to) (option_map_or (λ rowid. rowid) o 0)
      by None kept = inl refl
      by (Some point) kept =
          let at : point_at stood.syncs 0 to ≡ Some point = ap (λ (x : Table). point_at x.syncs 0 to) stood-is ∙ kept in
          inr ((earlier.later).syncs to point (point, at, omega arith))

  holds : (n : Numbered) → Stands stood n → above < n.rowid → Holds g l to place n.row
  holds n stands high =
      let passes : nat_lt above n.rowid ≡ true = lt-ltb above n.rowid high in
      let inside : Contains (was.parcel).rows n.row =
      subst (λ (rows : List Row). Contains rows n.row) (sym is.2)
      (found-among (λ m. nat_lt above m.rowid) (is_named n.row.name) (is.0).rows.list n
      (subst (λ (x : Table). find (is_named n.row.name) x.rows.list ≡ Some n) stood-is stands) passes) in
      acknowledged-held secrets replicas l done say hold to place n.row
      (acknowledged-within was.behind done (among-after done was.before (Came was.came) was.behind was.lines_are) secrets replicas to place n.row
      (All-contains (IsAcknowledged secrets replicas was.behind to place) (was.parcel).rows n.row was.acknowledged inside))

  pub can-sync : CanSync g l place (table_at l device place) to rowid
  can-sync =
      subst (λ (top : ℕ). CanSync g l place (table_at l device place) to top) (ap (λ (x : Table). x.rows.top) stood-is ∙ sym (was.rowid_is ∙ is.3))
      (parcel-syncs g l place stood (table_at l device place) to above earlier.listed earlier.later from holds)

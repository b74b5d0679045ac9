-- A point of a range may be raised where honesty asks for it: the device of the shard has each row that was read.
use Rattle.std.proofs.Common.{◌≡◌, ℕ, ◌<◌, ◌≤◌, ◌==◌, nat_lt, true, List, unwrap_or, Option, None, Some, Ok}
use Rattle.std.proofs.Common.{◌⊎◌, inl, inr, refl, sym, ◌∙◌, ap, subst, arith}
use Rattle.std.proofs.lemmas.Bool.{eq-eqb, lt-ltb}
use Rattle.std.proofs.lemmas.List.Elements.{All-contains}
use Rattle.std.specs.List.{All, Contains, find}
use Rattle.std.specs.Option.{IsSome, option_map}
use Rattle.sw_container_steps.specs.Reads.{range_parcel_of, sharding_of}
use Rattle.sw_container_steps.specs.Serving.{is_of_range}
use Rattle.sw_container_steps.specs.declared.cont_change.ContChange.TheVariants.{MergeRows}
use Rattle.sw_container_steps.specs.declared.sharding.Sharding.{Sharding}
use Rattle.sw_hashpath.specs.declared.place.Place.{Place}
use Rattle.sw_hashpath.specs.declared.secrets.Secrets.{Secrets}
use Rattle.sw_keeper.specs.declared.tables.Tables.{Tables}
use Rattle.sw_machine.specs.Honest.{ToldRange, WasOffered}
use Rattle.sw_machine.specs.Machine.{Came, RunLine}
use Rattle.sw_peer.specs.declared.cont_event.ContEvent.TheVariants as cont_events
use Rattle.sw_rows.specs.Rows.{is_named}
use Rattle.sw_rows.specs.declared.numbered.Numbered.{Numbered}
use Rattle.sw_rows.specs.declared.row.Row.{Row}
use Rattle.sw_shard_laws.proofs.Going.{parcel-raises}
use Rattle.sw_shard_laws.specs.Changes.{CanAck}
use Rattle.sw_shard_laws.specs.Ledger.{Ground, Has, Holds, IsUnder, Ledger, StandsIn, Table, Way, index_in, shard_in, table_at}
use Rattle.sw_shard_laws.specs.Sound.{PointsHold}
use Rattle.sw_shard_range.specs.Ranges.{index_in as index_among}
use Rattle.sw_shard_range.specs.declared.range.Range.{Range}
use Rattle.sw_split_steps.proofs.Ways.{index-ways}
use Rattle.sw_split_steps.specs.Tables.{standing, ways_of}
use Rattle.sw_sync.specs.Points.{PointList, point_at}
use Rattle.sw_point_laws.proofs.Among.{among-after, among-before, among-here, found-among}
use Rattle.sw_point_laws.proofs.Holding.{hidden-has}
use Rattle.sw_point_laws.proofs.Parcels.{IsRangeParcel, range-parcel-is, sharding-is}
use Rattle.sw_point_laws.proofs.Ranges.{shard-of}
use Rattle.sw_point_laws.proofs.Saying.{AllSay, IsOfEarlier}
use Rattle.sw_point_laws.proofs.Told.{at-says, range-within, sharding-told, taken-made, taken-within}

module _ (g : Ground) (l : Ledger) (done : List RunLine) (say : AllSay g l done) (device : ℕ) (place : Place) where
  abbrev now : Table
  now = table_at l device place

  -- the ranges that were told are those that the container has now
  pub ways-told : (sharding : Sharding) (index : ℕ) (range : Range) (told : ToldRange done device place sharding index range)
      → (now.ways ≡ Some (ways_of told.ranges)) × (shard_in (ways_of told.ranges) index ≡ Some range.shard)
  ways-told sharding index range told =
      let earlier = sharding-told g l done say device place sharding index range told in
      let is = sharding-is earlier.tables earlier.front sharding earlier.told in
      let split : (standing earlier.tables).ways ≡ Some (ways_of told.ranges) =
      ap (λ (o : Option Tables). (standing o).ways) is.1 ∙ ap (λ (o : Option (List Range)). option_map ways_of o) (sym is.2 ∙ told.split) in
      (((earlier.later).split (ways_of told.ranges) split).0, shard-of told.ranges index range told.is_there)

  -- a number that isn't above the point that was told is 0 or under the point as it is now
  from-told : (sharding : Sharding) (index : ℕ) (range : Range) → ToldRange done device place sharding index range → (to above : ℕ)
      → above ≤ unwrap_or (point_at sharding.points index to) 0 → (above ≡ 0) ⊎ IsUnder (point_at now.points index to) above
  from-told sharding index range told to above low = by (point_at sharding.points index to) refl low
    where
      earlier : IsOfEarlier l device place sharding_of sharding
      earlier = sharding-told g l done say device place sharding index range told

      by : (o : Option ℕ) → point_at sharding.points index to ≡ o → above ≤ unwrap_or o 0 → (above ≡ 0) ⊎ IsUnder (point_at now.points index to) above
      by None is low = inl (omega (arith, low))
      by (Some point) is low =
          let told = sharding-is earlier.tables earlier.front sharding earlier.told in
          let kept : point_at (standing earlier.tables).points index to ≡ Some point =
          ap (λ (o : Option Tables). point_at (standing o).points index to) told.1
          ∙ (ap (λ (ps : PointList). point_at ps index to) (sym told.3) ∙ is) in
          inr ((earlier.later).points index to above (point, kept, low))

module _ (secrets : Secrets) (replicas : Place → List ℕ) (g : Ground) (l : Ledger) (done : List RunLine) (say : AllSay g l done) (hold : PointsHold g l)
    (device : ℕ) (place : Place) (index to rowid : ℕ) (was : WasOffered secrets replicas done device place index to rowid) where
  abbrev shard : Place
  shard = (was.range).shard

  told : ToldRange done device place was.sharding index was.range
  told =
      range-within was.before done (among-before done was.before (Came was.came) was.behind was.lines_are) device place was.sharding index was.range was.told

  earlier : IsOfEarlier l device place (range_parcel_of index was.above) was.parcel
  earlier =
      at-says g l done say was.came was.entries device (cont_events.Cleft place index was.above (Ok was.parcel))
      (among-here done was.before (Came was.came) was.behind was.lines_are) was.device_is was.event_is was.parcel refl

  taken : All (Holds g l to shard) (was.parcel).rows
  taken =
      taken-made g l done say to shard (MergeRows (was.parcel).rows)
      (taken-within was.behind done (among-after done was.before (Came was.came) was.behind was.lines_are) to shard (MergeRows (was.parcel).rows) was.taken)

  abbrev stood : Table
  stood = standing earlier.tables

  is : IsRangeParcel index was.above earlier.tables was.parcel
  is = range-parcel-is index was.above earlier.tables earlier.front was.parcel earlier.told

  stood-is : stood ≡ standing (Some is.0)
  stood-is = ap (λ (o : Option Tables). standing o) is.2

  split : stood.ways ≡ Some (ways_of is.1)
  split = ap (λ (x : Table). x.ways) stood-is ∙ ap (λ (o : Option (List Range)). option_map ways_of o) is.3

  -- the shard that a row of the range is in is the one whose device took the rows
  shard-is : (s : Place) (n : Numbered) → StandsIn stood index s n → s ≡ shard
  shard-is s n stands =
      let one = ways-told g l done say device place was.sharding index was.range told in
      let two = ((earlier.later).split stands.ways stands.split).0 in
      let same : Some (ways_of told.ranges) ≡ Some stands.ways = sym one.0 ∙ two in
      let ways_are : ways_of told.ranges ≡ stands.ways = cc in
      let both : Some s ≡ Some shard = sym stands.shard_is ∙ (ap (λ (ws : List Way). shard_in ws index) (sym ways_are) ∙ one.1) in
      cc

  -- a row of the range above the number is one of those that were read
  read : (s : Place) (n : Numbered) → StandsIn stood index s n → was.above < n.rowid → Contains (was.parcel).rows n.row
  read s n stands above =
      let same : Some (ways_of is.1) ≡ Some stands.ways = sym split ∙ stands.split in
      let ways_are : ways_of is.1 ≡ stands.ways = cc in
      let high : nat_lt was.above n.rowid ≡ true = lt-ltb was.above n.rowid above in
      let inside : (index_among is.1 n.row.name == index) ≡ true =
      eq-eqb (index_among is.1 n.row.name) index
      (sym (index-ways is.1 n.row.name) ∙ (ap (λ (ws : List Way). index_in ws n.row.name) ways_are ∙ stands.index)) in
      let passes : is_of_range is.1 index was.above n ≡ true = rw (high, inside) refl in
      subst (λ (rows : List Row). Contains rows n.row) (sym is.4)
      (found-among (is_of_range is.1 index was.above) (is_named n.row.name) (is.0).rows.list n
      (subst (λ (x : Table). find (is_named n.row.name) x.rows.list ≡ Some n) stood-is stands.stands) passes)

  pub can-ack : CanAck l (table_at l device place) index to rowid
  can-ack =
      subst (λ (top : ℕ). CanAck l (table_at l device place) index to top)
      (ap (λ (x : Table). x.rows.top) stood-is ∙ sym (was.rowid_is ∙ is.5))
      (parcel-raises l stood (table_at l device place) index to was.above earlier.listed (subst (λ (o : Option (List Way)). IsSome o) (sym split) refl)
      earlier.later
      (from-told g l done say device place was.sharding index was.range told to was.above was.above_is)
      has)
    where
      has : (s : Place) (n : Numbered) → StandsIn stood index s n → was.above < n.rowid → Has (table_at l to s).rows n.row
      has s n stands above =
          subst (λ (p : Place). Has (table_at l to p).rows n.row) (sym (shard-is s n stands))
          (hidden-has g l hold to shard n.row (was.range).hidden
          (All-contains (Holds g l to shard) (was.parcel).rows n.row taken (read s n stands above)))

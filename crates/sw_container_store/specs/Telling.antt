-- What a database tells of itself, over any database. (This project's own.)
use Rattle.std.specs.Prelude.{◌≡◌, ◌+◌, ◌-◌, ◌<◌, ◌≤◌, ◌⊎◌, ◌≢◌, ℕ, ℤ, Bool, true, pos, length, map, List, [], ◌∷◌, ◌++◌}
use Rattle.std.specs.Prelude.{Option, None, Some, IfSome, MatchOption, slice_get, unwrap_or}
use Rattle.std.specs.List.{flat_map}
use Rattle.std.specs.Option.{option_map}
use Rattle.std.specs.Str.{bytes_eq}
use Rattle.sqlite_value.specs.Order.{Row as SqlRow, column}
use Rattle.sqlite_value.specs.declared.value.Value.TheVariants.{Int}
use Rattle.sw_hashpath.specs.declared.place.Place.{Place}
use Rattle.sw_keeper.specs.declared.tables.Tables.{Tables}
use Rattle.sw_rows.specs.Rows.{Listed}
use Rattle.sw_rows.specs.declared.numbered.Numbered.{Numbered}
use Rattle.sw_shard_range.specs.declared.range.Range.{Range}
use Rattle.sw_sync.specs.Points.{PointList}
use Rattle.sw_container_store.specs.declared.reading.Info.{Info}
use Rattle.sw_container_store.specs.declared.reading_ranges.Sharding.{Sharding}
use Rattle.sw_container_store.specs.declared.reading_ranges.Split.{Split}
use Rattle.sw_container_store.specs.declared.statements.Query.{Query}
use Rattle.sw_container_store.specs.declared.statements.Query.TheVariants.{Format, Info as InfoQuery, Top, Rows, Syncs}
use Rattle.sw_container_store.specs.declared.statements.Query.TheVariants.{Sharding as ShardingQuery, Ranges, Points}
use Rattle.sw_container_store.specs.OpenList.{is_same}
use Rattle.sw_container_store.specs.Values.{info_rows, numbered_values, point_values, range_rows, sharding_values}

-- the greatest number that was given out, as rows have it
abbrev pub IsTop : List SqlRow → ℕ → Type 0
IsTop [] top = top ≡ 0
IsTop (row ∷ rows) top = (rows ≡ []) × (column row 0 ≡ Int (pos top))

-- the number of the last row of a page
pub record EndsAt (page : List SqlRow) (end : ℤ) : Type 0 where
  pub row : SqlRow
  pub last : slice_get page (length page - 1) ≡ Some row
  pub number : column row 0 ≡ Int end

-- sync points for all names of a container, of devices that rise from the one number on and are below the other. (All names are the range of number 0.)
abbrev pub AreSyncs : ℕ → ℕ → PointList → Type 0
AreSyncs low high [] = low ≤ high
AreSyncs low high (point ∷ points) = (point.0.0 ≡ 0) × (low ≤ point.0.1) × AreSyncs (point.0.1 + 1) high points

-- no more ranges are closed than there are, and all of them where the rows were taken away
abbrev pub AreWhole : List Range → ℕ → Bool → Type 0
AreWhole ranges cursor emptied = (cursor ≤ length ranges) × (emptied ≡ true → cursor ≡ length ranges)

module _ {D : Type 0} where
  -- asked once, it told that its format is that of this project, which has the number 3
  pub record TellsFormat (Shows : Query → SqlRow → D → D → List SqlRow → Type 0) (old new : D) : Type 0 where
    pub row : SqlRow
    pub shown : Shows Format [] old new (row ∷ [])
    pub number : column row 0 ≡ Int (pos 3)

  -- asked once, it told this of itself
  abbrev pub TellsInfo : (Query → SqlRow → D → D → List SqlRow → Type 0) → D → D → Option Info → Type 0
  TellsInfo Shows old new info = Shows InfoQuery [] old new (info_rows info)

  -- it was asked its format, and then whose it is: it has the one format, and is the database of no other place
  pub record IsChecked (Shows : Query → SqlRow → D → D → List SqlRow → Type 0) (place : Place) (old new : D) : Type 0 where
    pub mid : D
    pub format : TellsFormat Shows old mid
    pub info : Option Info
    pub told : TellsInfo Shows mid new info
    pub same : IfSome info (λ i. is_same i.place place ≡ true)

  -- asked once, it told that this is the greatest number that was given out: where it told of none, 0
  pub record TellsTop (Shows : Query → SqlRow → D → D → List SqlRow → Type 0) (old new : D) (top : ℕ) : Type 0 where
    pub rows : List SqlRow
    pub shown : Shows Top [] old new rows
    pub number : IsTop rows top

  -- it was asked of itself, once, and told that it is the database of this place, which has this hash, or that nothing was kept in it
  pub record TellsPlace (Shows : Query → SqlRow → D → D → List SqlRow → Type 0) (hash : List ℕ) (old new : D) (place : Option Place) : Type 0 where
    pub info : Option Info
    pub told : TellsInfo Shows old new info
    pub its : place ≡ option_map (λ i. i.place) info
    pub own : IfSome place (λ p. bytes_eq p.hash hash ≡ true)

  -- full pages of rows, each of which was asked once, behind the last number of the page before it: the first behind this number, and the last ends at that one
  unfoldable pub ShowsPages : (Query → SqlRow → D → D → List SqlRow → Type 0) → List (List SqlRow) → ℤ → ℤ → D → D → Type 0
  ShowsPages Shows [] start end old new = (end ≡ start) × (new ≡ old)
  ShowsPages Shows (page ∷ pages) start end old new =
      (next : ℤ) × (mid : D) × Shows Rows (Int start ∷ []) old mid page × (1000 ≤ length page) × EndsAt page next × ShowsPages Shows pages next end mid new

  -- these are the rows that it told, each under its number: pages of them from the first number on, one after the other, to the first that isn't full
  pub record TellsList (Shows : Query → SqlRow → D → D → List SqlRow → Type 0) (old new : D) (list : List Numbered) : Type 0 where
    pub pages : List (List SqlRow)
    pub end : ℤ
    pub mid : D
    pub full : ShowsPages Shows pages (pos 0) end old mid
    pub last : List SqlRow
    pub shown : Shows Rows (Int end ∷ []) mid new last
    pub short : length last < 1000
    pub all : map numbered_values list ≡ flat_map (λ page. page) pages ++ last

  -- it was asked the greatest number, and then all rows
  pub record TellsRows (Shows : Query → SqlRow → D → D → List SqlRow → Type 0) (old new : D) (rows : Listed) : Type 0 where
    pub mid : D
    pub top : TellsTop Shows old mid rows.top
    pub list : TellsList Shows mid new rows.list

  -- asked once, it told exactly these sync points, each device once; a device has a number below 256
  pub record TellsSyncs (Shows : Query → SqlRow → D → D → List SqlRow → Type 0) (old new : D) (points : PointList) : Type 0 where
    pub shown : Shows Syncs [] old new (map point_values points)
    pub each : AreSyncs 0 256 points

  -- asked once, it told how many ranges are closed, whether the rows were taken away, and how many ranges and points of them there are
  abbrev pub TellsSharding : (Query → SqlRow → D → D → List SqlRow → Type 0) → D → D → Sharding → Type 0
  TellsSharding Shows old new sharding = Shows ShardingQuery [] old new (sharding_values sharding ∷ [])

  -- where it has ranges it told exactly these, asked once; else there are none, and it wasn't asked
  abbrev pub TellsRanges : (Query → SqlRow → D → D → List SqlRow → Type 0) → ℕ → D → D → Option (List Range) → Type 0
  TellsRanges Shows count old new ranges =
      MatchOption ranges ((count ≡ 0) × (new ≡ old)) (λ list. (count ≢ 0) × Shows Ranges [] old new (range_rows 0 list))

  -- where it has points of ranges it told exactly these, asked once; else there are none, and it wasn't asked
  abbrev pub TellsPoints : (Query → SqlRow → D → D → List SqlRow → Type 0) → ℕ → D → D → PointList → Type 0
  TellsPoints Shows count old new points =
      ((count ≡ 0) × (points ≡ []) × (new ≡ old)) ⊎ ((count ≢ 0) × Shows Points [] old new (map point_values points))

  -- it was asked how far it is split, then its ranges and the points of them, where it has any: this is how far, and no range is closed that isn't there
  pub record TellsSplit (Shows : Query → SqlRow → D → D → List SqlRow → Type 0) (old new : D) (split : Split) : Type 0 where
    pub sharding : Sharding
    pub mid : D
    pub read : D
    pub told : TellsSharding Shows old mid sharding
    pub ranges : TellsRanges Shows sharding.ranges mid read split.ranges
    pub points : TellsPoints Shows sharding.points read new split.points
    pub cursor : split.cursor ≡ sharding.cursor
    pub emptied : split.emptied ≡ sharding.emptied
    pub whole : AreWhole (unwrap_or split.ranges []) split.cursor split.emptied

  -- it was asked of itself, then its rows, then its sync points, and then how far it is split: it is the database of the place, and these are its times,
  -- rows and points, and its ranges with all that is kept of them
  pub record TellsHeld (Shows : Query → SqlRow → D → D → List SqlRow → Type 0) (place : Place) (old new : D) (tables : Tables) : Type 0 where
    pub mid : D
    pub read : D
    pub its : Place
    pub same : is_same its place ≡ true
    pub info : TellsInfo Shows old mid (Some record { place = its; put_time = tables.put_time; delete_time = tables.delete_time })
    pub rows : TellsRows Shows mid read tables.rows
    pub synced : D
    pub syncs : TellsSyncs Shows read synced tables.syncs
    pub split : TellsSplit Shows synced new (record { ranges = tables.ranges; cursor = tables.cursor; points = tables.points; emptied = tables.emptied })

  -- these tables are in it: where none are it was asked of itself, and nothing else
  abbrev pub TellsTables : (Query → SqlRow → D → D → List SqlRow → Type 0) → Place → D → D → Option Tables → Type 0
  TellsTables Shows place old new None = TellsInfo Shows old new None
  TellsTables Shows place old new (Some tables) = TellsHeld Shows place old new tables

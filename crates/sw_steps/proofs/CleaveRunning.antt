-- Moving a range to its shard is an honest run of the machine: the rows that are sent are ones that the sender has, and go to the shard that it told; a point
-- is kept behind the acknowledgement of the rows that were read above it; and the range is closed by all devices of the shard.
use Rattle.std.proofs.Common.{◌≡◌, ◌≢◌, ℕ, ◌≤◌, Bool, true, false, cond, map, filter, List, [], ◌∷◌, ◌++◌, refl, sym, ◌∙◌, ap, subst, true≢false, arith}
use Rattle.std.proofs.Common.{inl, inr, Option, None, Some, Result, Ok, Err}
use Rattle.std.proofs.lemmas.List.Elements.{All-cons, All-head, All-nil, All-tail, Contains-push}
use Rattle.std.specs.List.{All, fold, slice_get}
use Rattle.std.specs.Prelude.{◌-◌, ◌^◌, Contains, length, min, unwrap_or}
use Rattle.sw_cleave.specs.Cleaving.{IsCleave, IsClosed, IsHeard, IsMoved, IsOffered, IsParcelMoved, IsRangeMoved, IsRangeNext, IsReadNext}
use Rattle.sw_cleave.specs.Cleaving.{IsRun, IsShardingNext, IsSplitNext}
use Rattle.sw_cleave.specs.Shards.{least_point}
use Rattle.sw_container_steps.specs.Entries.{rows_of}
use Rattle.sw_container_steps.specs.Presence.{deletion_after, is_no_time}
use Rattle.sw_container_steps.specs.Reads.{range_parcel, range_parcel_of, sharding_of}
use Rattle.sw_container_steps.specs.Serving.{is_of_range}
use Rattle.sw_container_steps.specs.declared.cont_answer.ContAnswer.{ContAnswer}
use Rattle.sw_container_steps.specs.declared.cont_answer.ContAnswer.TheVariants as answers
use Rattle.sw_container_steps.specs.declared.cont_change.ContChange.TheVariants.{Ack, CloseRange, EmptyOut, MergeRows}
use Rattle.sw_container_steps.specs.declared.cont_entry.ContEntry.{ContEntry}
use Rattle.sw_container_steps.specs.declared.sharding.Sharding.{Sharding}
use Rattle.sw_container_steps.specs.declared.syncing.Parcel.{Parcel}
use Rattle.sw_hashpath.specs.declared.place.Place.{Place}
use Rattle.sw_hashpath.specs.declared.secrets.Secrets.{Secrets}
use Rattle.sw_keeper.specs.declared.tables.Tables.{Tables}
use Rattle.sw_lossy.specs.Losses.{around, begun}
use Rattle.sw_lossy.specs.declared.acts.Acts.{Acts}
use Rattle.sw_machine.proofs.Doors.{range-rows, shardings}
use Rattle.sw_machine.specs.Doors.{cont_line}
use Rattle.sw_machine.specs.Honest.{ToldRange, WasOffered, WasTaken}
use Rattle.sw_machine.specs.Machine.{Came, RunLine}
use Rattle.sw_machine.specs.Messages.{Rows_of}
use Rattle.sw_outside.specs.declared.errors.NoMemory.{NoMemory}
use Rattle.sw_pass.specs.Outcomes.{is_acknowledged, nothing_yet, sending}
use Rattle.sw_pass.specs.Rings.{replicas_in}
use Rattle.sw_pass.specs.Turns.{InTurn}
use Rattle.sw_pass.specs.declared.outcome.Outcome.{Outcome}
use Rattle.sw_peer.specs.ContSights.{IsContMade}
use Rattle.sw_peer.specs.Sights.{Calls, Sight}
use Rattle.sw_peer.specs.declared.cont_event.ContEvent.TheVariants.{Cleft, Sharded}
use Rattle.sw_peer.specs.declared.line.Event.TheVariants.{AtContainer}
use Rattle.sw_peer.specs.declared.line.Line.{Line}
use Rattle.sw_peer.specs.declared.link.Link.TheVariants.{Local, Sent}
use Rattle.sw_peer.specs.declared.link.Lost.{Lost}
use Rattle.sw_ring.specs.declared.ring.Ring.{Ring}
use Rattle.sw_rows.specs.declared.row.Row.{Row}
use Rattle.sw_shard_range.specs.Names.{is_hidden}
use Rattle.sw_shard_range.specs.declared.range.Range.{Range}
use Rattle.sw_sync.specs.Points.{PointList, point_at}
use Rattle.sw_steps.proofs.Behind.{Any, Fact, GoesFrom, RunsFrom, TookAs, from-any, from-honestly, from-join, from-same, from-weaker, looked-from, made-from}
use Rattle.sw_steps.proofs.Behind.{runs-join, sent-from}
use Rattle.sw_steps.proofs.Evidence.{Lasts, split-on, taken-remains, told-lasts}
use Rattle.sw_steps.proofs.Holding.{AreAmong, Looks, Tells, change-moves, kept-among, looked-tells, tells-machine}
use Rattle.sw_steps.proofs.Staying.{StaysBy, elsewhere-stays, made-rows-stay, stays-same, stays-tells, stays-then}
use Rattle.sw_steps.proofs.Within.{honest-within}
use Rattle.sw_steps.specs.Laws.{CleavesRun}
use Rattle.sw_steps.specs.Passing.{IsCleftOver}

-- the rows of a parcel are rows of the tables that it was read of
parcel-among : (range above : ℕ) (parcel : Parcel) (t : Option Tables) (front : ℕ) → Ok parcel ≡ range_parcel_of range above t front
    → AreAmong parcel.rows (rows_of t)
parcel-among range above parcel None front is = cc
parcel-among range above parcel (Some t) front is = by (is_no_time (deletion_after t.put_time t.delete_time)) is
  where
    with : (o : Option (List Range)) → Ok parcel ≡ range_parcel o range above t → AreAmong parcel.rows t.rows
    with None same = cc
    with (Some ranges) same =
        let rows : parcel.rows ≡ map (λ n. n.row) (filter (is_of_range ranges range above) t.rows.list) = cc in
        subst (λ (rows : List Row). AreAmong rows t.rows) (sym rows) (kept-among (is_of_range ranges range above) t.rows.list)

    by : (b : Bool) → Ok parcel ≡ cond b (range_parcel t.ranges range above t) (Err answers.Absent) → AreAmong parcel.rows t.rows
    by true same = with t.ranges same
    by false same = cc

-- ---- the least point of the devices of a shard

-- the least of these is no greater than where it starts, nor than any of them
least-start : (f : ℕ → ℕ) (start : ℕ) (devices : List ℕ) → fold (λ least device. min least (f device)) start devices ≤ start
least-start f start [] = omega arith
least-start f start (to ∷ devices) =
    let rest : fold (λ least device. min least (f device)) (min start (f to)) devices ≤ min start (f to) = least-start f (min start (f to)) devices in
    omega arith

least-each : (f : ℕ → ℕ) (start : ℕ) (devices : List ℕ)
    → All (λ to. fold (λ least device. min least (f device)) start devices ≤ f to) devices
least-each f start [] = All-nil (λ to. start ≤ f to)
least-each f start (to ∷ devices) =
    let first : fold (λ least device. min least (f device)) (min start (f to)) devices ≤ min start (f to) = least-start f (min start (f to)) devices in
    All-cons (λ (d : ℕ). fold (λ least device. min least (f device)) start (to ∷ devices) ≤ f d) to devices (omega arith)
    (least-each f (min start (f to)) devices)

-- the number is at most the point that is kept for each of the devices
abbrev AreBelowPoints : ℕ → PointList → ℕ → List ℕ → Type 0
AreBelowPoints above points range devices = All (λ to. above ≤ unwrap_or (point_at points range to) 0) devices

below-points : (points : PointList) (range : ℕ) (devices : List ℕ) → AreBelowPoints (least_point points range devices) points range devices
below-points points range devices = least-each (λ device. unwrap_or (point_at points range device) 0) (2 ^ 64 - 1) devices

-- ---- what lines tell of a range whose rows were read

-- the container told that this is the range, and behind that its rows above a number were read
record WasCleft (device : ℕ) (place : Place) (sharding : Sharding) (index : ℕ) (range : Range) (above : ℕ) (parcel : Parcel) (lines : List RunLine)
    : Type 0 where
  before : List RunLine
  came : Line
  entries : List ContEntry
  behind : List RunLine
  lines_are : lines ≡ before ++ Came came ∷ behind
  told : ToldRange before device place sharding index range
  device_is : came.device ≡ device
  event_is : came.event ≡ AtContainer (Cleft place index above (Ok parcel)) entries

module _ (secrets : Secrets) (replicas : Place → List ℕ) (device : ℕ) (place : Place) (sharding : Sharding) (index : ℕ) (range : Range) where
  abbrev Told : Fact
  Told done = ToldRange done device place sharding index range

  told-range-lasts : Lasts Told
  told-range-lasts = told-lasts device place sharding index range

  module _ (above : ℕ) (parcel : Parcel) where
    abbrev Cleft_there : Fact
    Cleft_there = WasCleft device place sharding index range above parcel

    cleft-lasts : Lasts Cleft_there
    cleft-lasts xs ys is = record {
      before = is.before;
      came = is.came;
      entries = is.entries;
      behind = is.behind ++ ys;
      lines_are = split-on xs ys is.before (Came is.came) is.behind is.lines_are;
      told = is.told;
      device_is = is.device_is;
      event_is = is.event_is;
    }

    cleft-told : (done : List RunLine) → Cleft_there done → Told done
    cleft-told done is = subst Told (sym is.lines_are) (told-range-lasts is.before (Came is.came ∷ is.behind) is.told)

    -- what a device of the shard took behind that was offered to it
    cleft-offered : (to : ℕ) → above ≤ unwrap_or (point_at sharding.points index to) 0 → (done lines : List RunLine) → Cleft_there done
        → WasTaken lines to range.shard (MergeRows parcel.rows) → WasOffered secrets replicas (done ++ lines) device place index to parcel.top
    cleft-offered to least done lines is taken = record {
      sharding = sharding;
      range = range;
      parcel = parcel;
      above = above;
      before = is.before;
      came = is.came;
      entries = is.entries;
      behind = is.behind ++ lines;
      lines_are = split-on done lines is.before (Came is.came) is.behind is.lines_are;
      told = is.told;
      above_is = least;
      device_is = is.device_is;
      event_is = is.event_is;
      rowid_is = refl;
      taken = taken-remains to range.shard (MergeRows parcel.rows) is.behind lines taken;
    }

module _ (secrets : Secrets) (replicas : Place → List ℕ) (device : ℕ) (place : Place) where
  abbrev Runs_from : Fact → Fact → Sight → Sight → Type 0
  Runs_from = RunsFrom secrets replicas

  abbrev Goes_from : Fact → Fact → Sight → Sight → Type 0
  Goes_from = GoesFrom secrets replicas

  -- ---- the rows of a range go to a device of the shard, and the container keeps what it acknowledged

  module _ (sharding : Sharding) (index : ℕ) (range : Range) (apart : place ≢ range.shard) (above : ℕ) (parcel : Parcel) where
    abbrev Offered : ℕ → Sight → Outcome → Sight → Outcome → Bool → Type 0
    Offered = IsOffered device place index parcel.top range.shard (MergeRows parcel.rows)

    -- the sender has these rows, as far as its lock tells it
    abbrev Has : Sight → Type 0
    Has = Tells device place (λ t. AreAmong parcel.rows (rows_of t))

    abbrev Stays : Fact → Fact → Sight → Sight → Type 0
    Stays so next = StaysBy device place rows_of (Runs_from so next)

    -- the rows were read behind what was told of the range
    abbrev IsRead : Fact
    IsRead = WasCleft device place sharding index range above parcel

    read-lasts : Lasts IsRead
    read-lasts = cleft-lasts secrets replicas device place sharding index range above parcel

    -- and where this answer acknowledges them they were offered to this device
    abbrev Heard : ℕ → Result ContAnswer Lost → Fact
    Heard to (Ok answer) done = IsRead done × (is_acknowledged answer ≡ true → WasOffered secrets replicas done device place index to parcel.top)
    Heard to (Err lost) done = IsRead done

    heard-read : (to : ℕ) (r : Result ContAnswer Lost) (done : List RunLine) → Heard to r done → IsRead done
    heard-read to (Ok answer) done is = is.0
    heard-read to (Err lost) done is = is

    heard-behind : (to : ℕ) → above ≤ unwrap_or (point_at sharding.points index to) 0 → (r : Result ContAnswer Lost) (done lines : List RunLine)
        → IsRead done → TookAs to range.shard (MergeRows parcel.rows) r lines → Heard to r (done ++ lines)
    heard-behind to least (Ok answer) done lines is took = (
      read-lasts done lines is,
      λ acknowledged. cleft-offered secrets replicas device place sharding index range above parcel to least done lines is (took acknowledged),
    )
    heard-behind to least (Err lost) done lines is took = read-lasts done lines is

    message-stays : (to : ℕ) → above ≤ unwrap_or (point_at sharding.points index to) 0 → (a : Sight) (r : Result ContAnswer Lost) (b : Sight)
        → Calls (IsContMade Sent to range.shard (MergeRows parcel.rows)) a Sent r b → Has a → Stays IsRead (Heard to r) a b
    message-stays to least a r b call own =
        let moves = change-moves Sent to range.shard (MergeRows parcel.rows) a r b call in
        elsewhere-stays device place rows_of (Runs_from IsRead (Heard to r)) to range.shard (λ at. apart at.1) a b moves
        (sent-from secrets replicas device to range.shard (MergeRows parcel.rows) (Rows_of to place range.shard parcel.rows)
        (λ answer entries. (refl, refl, refl)) IsRead (Heard to r)
        (λ done is. inr (sharding, index, range, cleft-told secrets replicas device place sharding index range above parcel done is, refl)) r
        (heard-behind to least r) a b call
        (λ alone m stands. tells-machine device place (λ t. AreAmong parcel.rows (rows_of t)) a m stands (moves.alone alone) own))

    still-stays : (to : ℕ) (r : Result ContAnswer Lost) (a b : Sight) → b ≡ a → Stays (Heard to r) IsRead a b
    still-stays to r a b same =
        stays-same device place rows_of (Runs_from (Heard to r) IsRead) a b same
        (from-same secrets replicas (Heard to r) IsRead (heard-read to r) a b same)

    heard-stays : (to : ℕ) (r : Result ContAnswer Lost) (a : Sight) (o : Outcome) (b : Sight) (p : Outcome) (on : Bool)
        → IsHeard device place index parcel.top to r a o b p on → Stays (Heard to r) IsRead a b
    heard-stays to (Ok answer) a o b p on (inl acked) =
        let ack = acked.1 in
        made-rows-stay device place (Ack index to parcel.top) refl refl (Runs_from (Heard to (Ok answer)) IsRead) a ack.0 b ack.1
        (made-from secrets replicas device place (Ack index to parcel.top) (Heard to (Ok answer)) IsRead (λ done is. is.1 acked.0)
        (λ done lines is. read-lasts done lines is.0) a ack.0 b ack.1)
    heard-stays to (Ok answer) a o b p on (inr hindered) = still-stays to (Ok answer) a b hindered.1
    heard-stays to (Err lost) a o b p on is = still-stays to (Err lost) a b is.0

    offered-stays : (to : ℕ) → above ≤ unwrap_or (point_at sharding.points index to) 0 → (a : Sight) (o : Outcome) (b : Sight) (p : Outcome) (on : Bool)
        → Has a → Offered to a o b p on → Stays IsRead IsRead a b
    offered-stays to least a o b p on own is =
        stays-then device place rows_of (Runs_from IsRead (Heard to is.0)) (Runs_from (Heard to is.0) IsRead) (Runs_from IsRead IsRead)
        (runs-join secrets replicas IsRead (Heard to is.0) IsRead) a is.1 b (message-stays to least a is.0 is.1 is.2 own)
        (heard-stays to is.0 is.1 (sending o) b p on is.3)

    all-offered-go : (devices : List ℕ) → AreBelowPoints above sharding.points index devices → (a : Sight) (o : Outcome) (b : Sight) (p : Outcome) (on : Bool)
        → Has a → InTurn Offered devices a o b p on → Goes_from IsRead IsRead a b
    all-offered-go [] below a o b p on own is = from-same secrets replicas IsRead IsRead (λ done read. read) a b is.0
    all-offered-go (to ∷ devices) below a o b p on own (inl went) =
        let one : Stays IsRead IsRead a went.0 =
        offered-stays to (All-head (λ d. above ≤ unwrap_or (point_at sharding.points index d) 0) to devices below) a o went.0 went.1 true own went.2 in
        from-join secrets replicas IsRead IsRead IsRead a went.0 b one.goes
        (all-offered-go devices (All-tail (λ d. above ≤ unwrap_or (point_at sharding.points index d) 0) to devices below) went.0 went.1 b p on
        (stays-tells device place rows_of (Runs_from IsRead IsRead) (AreAmong parcel.rows) a went.0 one own) went.3)
    all-offered-go (to ∷ devices) below a o b p on own (inr stopped) =
        (offered-stays to (All-head (λ d. above ≤ unwrap_or (point_at sharding.points index d) 0) to devices below) a o b p false own stopped.0).goes

    -- ---- a range

    closed-goes : (open_ranges : ℕ) (a : Sight) (o : Outcome) (b : Sight) (p : Outcome) (came : _) (on : Bool)
        → IsClosed device place index (replicas range.shard) open_ranges a o b p came on → Goes_from IsRead Any a b
    closed-goes open_ranges a o b p came on is =
        made-from secrets replicas device place (CloseRange index (replicas range.shard)) IsRead Any
        (λ done read. record {
          sharding = sharding;
          range = range;
          told = cleft-told secrets replicas device place sharding index range above parcel done read;
          all = λ r among. among;
        })
        (λ done lines read. tt) a is.0 b is.1

    parcel-goes : (open_ranges : ℕ) → AreBelowPoints above sharding.points index (replicas range.shard) → (a : Sight) (o : Outcome) (b : Sight) (p : Outcome)
        (came : _) (on : Bool) → Has a → IsParcelMoved device place range.shard index (replicas range.shard) open_ranges parcel a o b p came on
        → Goes_from IsRead Any a b
    parcel-goes open_ranges below a o b p came on own (inl went) =
        from-join secrets replicas IsRead IsRead Any a went.0 b (all-offered-go (replicas range.shard) below a o went.0 went.1 true own went.2)
        (closed-goes open_ranges went.0 went.1 b p came on went.3)
    parcel-goes open_ranges below a o b p came on own (inr stopped) =
        from-any secrets replicas IsRead IsRead a b (all-offered-go (replicas range.shard) below a o b p false own stopped.0)

  module _ (sharding : Sharding) (index : ℕ) (range : Range) (apart : place ≢ range.shard) (above open_ranges : ℕ) where
    abbrev Reads : Sight → Result Parcel ContAnswer → Sight → Type 0
    Reads = Looks device place (range_parcel_of index above) (λ read. Cleft place index above read)

    abbrev IsKnown : Fact
    IsKnown done = ToldRange done device place sharding index range

    -- what is so behind the read
    abbrev Came_of : Result Parcel ContAnswer → Fact
    Came_of (Ok parcel) = WasCleft device place sharding index range above parcel
    Came_of (Err answer) = Any

    read-goes : (a : Sight) (got : Result Parcel ContAnswer) (b : Sight) → Calls Reads a Local (Ok got) b → Goes_from IsKnown (Came_of got) a b
    read-goes a (Ok parcel) b call =
        looked-from secrets replicas device place (range_parcel_of index above) (λ read. Cleft place index above read) (range-rows device place index above)
        IsKnown (Came_of (Ok parcel)) (Ok parcel)
        (λ done entries told. (
          tt,
          record {
            before = done;
            came = cont_line device Local (Cleft place index above (Ok parcel)) entries;
            entries = entries;
            behind = [];
            lines_are = refl;
            told = told;
            device_is = refl;
            event_is = refl;
          },
        ))
        (λ done wants told. absurd (true≢false (sym wants))) a b call
    read-goes a (Err answer) b call =
        looked-from secrets replicas device place (range_parcel_of index above) (λ read. Cleft place index above read) (range-rows device place index above)
        IsKnown (Came_of (Err answer)) (Err answer) (λ done entries told. (tt, tt)) (λ done wants told. tt) a b call

    rows-next-go : AreBelowPoints above sharding.points index (replicas range.shard) → (s : Sight) (got : Result Parcel ContAnswer) (a : Sight) (o : Outcome)
        (b : Sight) (p : Outcome) (came : _) (on : Bool) → Calls Reads s Local (Ok got) a
        → IsReadNext device place range.shard index (replicas range.shard) open_ranges got a o b p came on → Goes_from (Came_of got) Any a b
    rows-next-go below s (Ok parcel) a o b p came on call is =
        parcel-goes sharding index range apart above parcel open_ranges below a o b p came on
        (looked-tells device place (range_parcel_of index above) (λ read. Cleft place index above read) (λ t. AreAmong parcel.rows (rows_of t)) parcel
        (parcel-among index above parcel) s a call)
        is
    rows-next-go below s (Err answer) a o b p came on call is = from-same secrets replicas Any Any (λ done any. tt) a b is.0

    moved-goes : AreBelowPoints above sharding.points index (replicas range.shard) → (a : Sight) (o : Outcome) (b : Sight) (p : Outcome) (came : _) (on : Bool)
        → IsMoved device place range.shard index (replicas range.shard) open_ranges above a o b p came on → Goes_from IsKnown Any a b
    moved-goes below a o b p came on is =
        from-join secrets replicas IsKnown (Came_of is.0) Any a is.1 b (read-goes a is.0 is.1 is.2)
        (rows-next-go below a is.0 is.1 o b p came on is.2 is.3)

-- ---- the whole

module _ (ring : Ring) (device : ℕ) (place : Place) (seen : is_hidden place ≡ false) where
  abbrev Goes : Fact → Fact → Sight → Sight → Type 0
  Goes = GoesFrom ring.secrets (replicas_in ring)

  -- the container told how far it is split
  record ToldSharding (sharding : Sharding) (done : List RunLine) : Type 0 where
    came : Line
    entries : List ContEntry
    among : Contains done (Came came)
    device_is : came.device ≡ device
    event_is : came.event ≡ AtContainer (Sharded place (Ok sharding)) entries

  -- a shard is hidden, so it is another place
  shard-apart : (range : Range) → place ≢ range.shard
  shard-apart range same = true≢false (sym range.hidden ∙ (ap is_hidden (sym same) ∙ seen))

  module _ (sharding : Sharding) where
    -- behind nothing that matters it is as it was
    as-it-was : (so : Fact) (a b : Sight) → b ≡ a → Goes so Any a b
    as-it-was so = from-same ring.secrets (replicas_in ring) so Any (λ done is. tt)

    told-range : (ranges : List Range) (range : Range) → sharding.ranges ≡ Some ranges → slice_get ranges sharding.cursor ≡ Some range
        → (done : List RunLine) → ToldSharding sharding done → ToldRange done device place sharding sharding.cursor range
    told-range ranges range split is_there done told = record {
      came = told.came;
      entries = told.entries;
      among = told.among;
      device_is = told.device_is;
      event_is = told.event_is;
      ranges = ranges;
      split = split;
      is_there = is_there;
    }

    range-goes : (range : Range) (open_ranges : ℕ) (a : Sight) (o : Outcome) (b : Sight) (p : Outcome) (came : _) (on : Bool)
        → IsRangeMoved ring device place range sharding.cursor sharding.points open_ranges a o b p came on
        → Goes (λ done. ToldRange done device place sharding sharding.cursor range) Any a b
    range-goes range open_ranges a o b p came on (inl (is, inl moved)) =
        moved-goes ring.secrets (replicas_in ring) device place sharding sharding.cursor range (shard-apart range) _ open_ranges
        (below-points sharding.points sharding.cursor (replicas_in ring range.shard)) a o b p came on moved
    range-goes range open_ranges a o b p came on (inl (is, inr wants)) =
        as-it-was (λ done. ToldRange done device place sharding sharding.cursor range) a b wants.0
    range-goes range open_ranges a o b p came on (inr faulty) =
        as-it-was (λ done. ToldRange done device place sharding sharding.cursor range) a b faulty.1

    range-next-goes : (ranges : List Range) → sharding.ranges ≡ Some ranges → (found : Option Range) → slice_get ranges sharding.cursor ≡ found
        → (open_ranges : ℕ) (a : Sight) (o : Outcome) (b : Sight) (p : Outcome) (came : _) (on : Bool)
        → IsRangeNext ring device place found sharding.cursor sharding.points open_ranges a o b p came on → Goes (ToldSharding sharding) Any a b
    range-next-goes ranges split (Some range) is_there open_ranges a o b p came on is =
        from-weaker ring.secrets (replicas_in ring) (ToldSharding sharding) (λ done. ToldRange done device place sharding sharding.cursor range) Any Any
        (told-range ranges range split is_there) (λ done any. tt) a b (range-goes range open_ranges a o b p came on is)
    range-next-goes ranges split None is_there open_ranges a o b p came on is =
        made-from ring.secrets (replicas_in ring) device place EmptyOut (ToldSharding sharding) Any (λ done told. tt) (λ done lines told. tt) a is.0 b is.1

    split-goes : (ranges : Option (List Range)) → sharding.ranges ≡ ranges → (a : Sight) (o : Outcome) (b : Sight) (p : Outcome) (came : _) (on : Bool)
        → IsSplitNext ring device place ranges sharding.cursor sharding.points a o b p came on → Goes (ToldSharding sharding) Any a b
    split-goes None split a o b p came on is = as-it-was (ToldSharding sharding) a b is.0
    split-goes (Some ranges) split a o b p came on is =
        range-next-goes ranges split (slice_get ranges sharding.cursor) refl (length ranges - sharding.cursor) a o b p came on is

  -- what is so behind the read
  abbrev Told_of : Result Sharding ContAnswer → Fact
  Told_of (Ok sharding) = ToldSharding sharding
  Told_of (Err answer) = Any

  sharding-read-goes : (a : Sight) (got : Result Sharding ContAnswer) (b : Sight)
      → Calls (Looks device place sharding_of (λ read. Sharded place read)) a Local (Ok got) b → Goes Any (Told_of got) a b
  sharding-read-goes a (Ok sharding) b call =
      looked-from ring.secrets (replicas_in ring) device place sharding_of (λ read. Sharded place read) (shardings device place) Any (Told_of (Ok sharding))
      (Ok sharding)
      (λ done entries any. (
        tt,
        record {
          came = cont_line device Local (Sharded place (Ok sharding)) entries;
          entries = entries;
          among = Contains-push done (Came (cont_line device Local (Sharded place (Ok sharding)) entries));
          device_is = refl;
          event_is = refl;
        },
      ))
      (λ done wants any. absurd (true≢false (sym wants))) a b call
  sharding-read-goes a (Err answer) b call =
      looked-from ring.secrets (replicas_in ring) device place sharding_of (λ read. Sharded place read) (shardings device place) Any (Told_of (Err answer))
      (Err answer) (λ done entries any. (tt, tt)) (λ done wants any. tt) a b call

  sharding-next-goes : (got : Result Sharding ContAnswer) (a : Sight) (o : Outcome) (b : Sight) (p : Outcome) (came : _) (on : Bool)
      → IsShardingNext ring device place got a o b p came on → Goes (Told_of got) Any a b
  sharding-next-goes (Ok sharding) a o b p came on is = split-goes sharding sharding.ranges refl a o b p came on is
  sharding-next-goes (Err answer) a o b p came on is = from-same ring.secrets (replicas_in ring) Any Any (λ done any. tt) a b is.0

  run-goes : (a b : Sight) (p : Outcome) (came : _) (on : Bool) → IsRun ring device place a b p came on → Goes Any Any a b
  run-goes a b p came on is =
      from-join ring.secrets (replicas_in ring) Any (Told_of is.0) Any a is.1 b (sharding-read-goes a is.0 is.1 is.2)
      (sharding-next-goes is.0 is.1 nothing_yet b p came on is.3)

  pub cleave-goes-on : (s : Sight) (result : Result Outcome NoMemory) (t : Sight) → IsCleave ring device place s result t → Goes Any Any s t
  cleave-goes-on s (Ok outcome) t is = run-goes s t is.0 is.1 true is.2
  cleave-goes-on s (Err wanting) t is = run-goes s t is.0 is.1 false is.2

-- the nodes and the door around them after such a pass
abbrev pub cleave_sight_after : {ring : Ring} {device : ℕ} {place : Place} {acts : Acts} {s : Sight} {result : Result Outcome NoMemory} {t : Sight} →
    IsCleftOver ring device place acts s result t → Sight
cleave_sight_after {t = t} over = around t over.acts_behind over.messages over.faults over.asks

pub cleaves_run : CleavesRun
cleaves_run ring device place acts s result t over seen alone =
    honest-within s t acts over.acts_behind 0 0 0 over.messages over.faults over.asks ring.secrets (replicas_in ring)
    (from-honestly ring.secrets (replicas_in ring) Any (begun acts s) (cleave_sight_after over) (λ done. tt)
    ((cleave-goes-on ring device place seen (begun acts s) result (cleave_sight_after over) over.cleaves).runs alone))

pub cleave-over-nodes : (ring : Ring) (device : ℕ) (place : Place) (acts : Acts) (s : Sight) (result : Result Outcome NoMemory) (t : Sight)
    → is_hidden place ≡ false → IsCleftOver ring device place acts s result t → t.nodes ≡ s.nodes
cleave-over-nodes ring device place acts s result t seen over =
    (cleave-goes-on ring device place seen (begun acts s) result (cleave_sight_after over) over.cleaves).nodes

-- The push of a container's rows from one replica to another, over any door: the calls that it makes, one after the other, and what it counts.
-- (OpenStack Swift's container replicator sends the rows above a sync point; that each row is a message of its own is this project's own.)
use Rattle.std.specs.Prelude.{◌≡◌, ◌≢◌, ℕ, Bool, true, false, Contains, None, Some, ◌⊎◌, Result, Ok, Err}
use Rattle.sw_container_steps.specs.Reads.{parcel_of}
use Rattle.sw_container_steps.specs.declared.cont_answer.ContAnswer.{ContAnswer}
use Rattle.sw_container_steps.specs.declared.cont_change.ContChange.TheVariants.{MergeRow, SetSync}
use Rattle.sw_container_steps.specs.declared.syncing.Parcel.{Parcel}
use Rattle.sw_hashpath.specs.declared.place.Place.{Place}
use Rattle.sw_outside.specs.declared.errors.NoMemory.{NoMemory}
use Rattle.sw_pass.specs.Outcomes.{Hinders, cont_hindrance, finished_where, is_acknowledged, keeping, leaving, losing, nothing_yet, sending}
use Rattle.sw_pass.specs.Rings.{replicas_in}
use Rattle.sw_pass.specs.Turns.{InTurn}
use Rattle.sw_pass.specs.declared.hindrance.Hindrance.{Hindrance}
use Rattle.sw_pass.specs.declared.outcome.Outcome.{Outcome}
use Rattle.sw_peer.specs.ContSights.{IsContMade, IsLooked}
use Rattle.sw_peer.specs.Sights.{Calls, Sight}
use Rattle.sw_peer.specs.declared.cont_event.ContEvent.TheVariants.{Parceled}
use Rattle.sw_peer.specs.declared.link.Link.TheVariants.{Local, Sent}
use Rattle.sw_peer.specs.declared.link.Lost.{Lost}
use Rattle.sw_redirect.specs.Hearing.{heard_of}
use Rattle.sw_redirect.specs.Sending.{Course, IsSentOn}
use Rattle.sw_redirect.specs.declared.heard.Heard.{Heard}
use Rattle.sw_redirect.specs.declared.heard.Heard.TheVariants.{Acknowledged, Redirected, Refused}
use Rattle.sw_ring.specs.declared.ring.Ring.{Ring}
use Rattle.sw_rows.specs.declared.row.Row.{Row}

-- the container at these two devices
abbrev pub IsOfPair : ℕ → ℕ → Place → ℕ → Place → Type 0
IsOfPair from to place d other = (other ≡ place) × ((d ≡ from) ⊎ (d ≡ to))

-- or any at one of its own devices: it may be a shard, to which the receiver has left a row
abbrev pub IsReached : Ring → ℕ → ℕ → Place → ℕ → Place → Type 0
IsReached ring from to place d other = IsOfPair from to place d other ⊎ Contains (replicas_in ring other) d

-- ---- counts

-- what the sender's answer to the point counts for, and whether the point is kept
abbrev pub PointCounts : ContAnswer → Outcome → Outcome → Bool → Bool → Type 0
PointCounts answer o p kept on =
    ((is_acknowledged answer ≡ true) × (p ≡ o) × (kept ≡ true) × (on ≡ true))
    ⊎ ((is_acknowledged answer ≡ false) × (kept ≡ false)
    × (((hindrance : Hindrance) × (cont_hindrance answer ≡ Some hindrance) × (p ≡ keeping o hindrance) × (on ≡ true))
    ⊎ ((cont_hindrance answer ≡ None) × (p ≡ o) × (on ≡ false))))

-- whether a part of the push told that the point is kept
abbrev pub point_told : Result Bool NoMemory → Bool
point_told (Ok kept) = kept
point_told (Err wanting) = false

-- ---- the calls of a push, in their order

-- the receiver left the name of a row to a shard: the row is sent on to each replica of that, and is left where one of them wasn't heard to have it
abbrev pub IsRowLeft : Ring → Row → Place → Sight → Outcome → Sight → Outcome → Bool → Type 0
IsRowLeft ring row shard s o t p on =
    ((e : Course) × (between : Outcome) × IsSentOn ring shard row s o e between true × (t ≡ e.sight) × (p ≡ leaving e.missed between) × (on ≡ true))
    ⊎ ((e : Course) × IsSentOn ring shard row s o e p false × (t ≡ e.sight) × (on ≡ false))

-- what the receiver answered
abbrev pub IsRowHeardAs : Ring → Row → Heard → Sight → Outcome → Sight → Outcome → Bool → Type 0
IsRowHeardAs ring row Acknowledged s o t p on = (t ≡ s) × (p ≡ o) × (on ≡ true)
IsRowHeardAs ring row (Redirected shard) s o t p on = IsRowLeft ring row shard s o t p on
IsRowHeardAs ring row (Refused hindrance) s o t p on = (t ≡ s) × Hinders hindrance o p on

abbrev pub IsRowHeard : Ring → Place → Row → Result ContAnswer Lost → Sight → Outcome → Sight → Outcome → Bool → Type 0
IsRowHeard ring place row (Ok answer) s o t p on = IsRowHeardAs ring row (heard_of place answer) s o t p on
IsRowHeard ring place row (Err lost) s o t p on = (t ≡ s) × (p ≡ losing o) × (on ≡ true)

-- a row is sent in a message
abbrev pub IsRowSent : Ring → ℕ → Place → Row → Sight → Outcome → Sight → Outcome → Bool → Type 0
IsRowSent ring to place row s o t p on =
    (answer : Result ContAnswer Lost) × (mid : Sight) × Calls (IsContMade Sent to place (MergeRow row)) s Sent answer mid
    × IsRowHeard ring place row answer mid (sending o) t p on

module _ (from to : ℕ) (place : Place) where
  -- the sender itself raises the point
  abbrev pub IsPointSet : ℕ → Sight → Outcome → Sight → Outcome → Bool → Bool → Type 0
  IsPointSet top s o t p kept on =
      (answer : ContAnswer) × Calls (IsContMade Local from place (SetSync to top)) s Local (Ok answer) t × PointCounts answer o p kept on

  -- where a row is left the point stays
  abbrev pub IsPointKept : ℕ → Sight → Outcome → Sight → Outcome → Bool → Bool → Type 0
  IsPointKept top s o t p kept on =
      ((o.left ≢ 0) × (t ≡ s) × (p ≡ o) × (kept ≡ false) × (on ≡ true))
      ⊎ ((o.left ≡ 0) × IsPointSet top s o t p kept on)

  module _ (ring : Ring) where
    -- the rows in their order, and then the point
    abbrev pub IsParcelSent : Parcel → Sight → Outcome → Sight → Outcome → Bool → Bool → Type 0
    IsParcelSent parcel s o t p kept on =
        ((mid : Sight) × (between : Outcome) × InTurn (IsRowSent ring to place) parcel.rows s o mid between true
        × IsPointKept parcel.top mid between t p kept on)
        ⊎ (InTurn (IsRowSent ring to place) parcel.rows s o t p false × (kept ≡ false) × (on ≡ false))

    -- where the sender's rows weren't read nothing is sent
    abbrev pub IsReadNext : Result Parcel ContAnswer → Sight → Sight → Outcome → Bool → Bool → Type 0
    IsReadNext (Ok parcel) s t p kept on = IsParcelSent parcel s nothing_yet t p kept on
    IsReadNext (Err answer) s t p kept on = (t ≡ s) × (kept ≡ false) × Hinders (cont_hindrance answer) nothing_yet p on

    -- the whole: first the rows above the point are read at the sender itself
    abbrev pub IsRun : Sight → Sight → Outcome → Bool → Bool → Type 0
    IsRun s t p kept on =
        (got : Result Parcel ContAnswer) × (mid : Sight)
        × Calls (IsLooked Local from place (parcel_of to) (λ read. Parceled place to read)) s Local (Ok got) mid × IsReadNext got mid t p kept on

    -- and what it is answered
    abbrev pub IsPush : Sight → Result Outcome NoMemory → Sight → Type 0
    IsPush s (Ok outcome) t = (p : Outcome) × (kept : Bool) × IsRun s t p kept true × (outcome ≡ finished_where kept p)
    IsPush s (Err wanting) t = (p : Outcome) × IsRun s t p false false

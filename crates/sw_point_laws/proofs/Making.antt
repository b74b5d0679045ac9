-- A step at a container that isn't refused, and whose caller saw to what it has to, is a run of the ledger.
use Rattle.std.proofs.Common.{◌≡◌, ℕ, ◌&&◌, ◌==◌, nat_lt, Bool, true, false, cond, List, [], ◌∷◌, length, map, Option, None, Some, refl}
use Rattle.std.proofs.lemmas.Bool.{eqb-true}
use Rattle.std.specs.Bool.{⊤}
use Rattle.sw_container_steps.specs.Laws.{left}
use Rattle.sw_container_steps.specs.Steps.{closing_refusal, cont_refusal, entries_for, not_acked, refusal_with, unacked_refusal}
use Rattle.sw_container_steps.specs.declared.cont_answer.ContAnswer.TheVariants as answers
use Rattle.sw_container_steps.specs.declared.cont_change.ContChange.{ContChange}
use Rattle.sw_container_steps.specs.declared.cont_change.ContChange.TheVariants.{Create, Remove, MergeRow, MergeRows, SetRanges}
use Rattle.sw_container_steps.specs.declared.cont_change.ContChange.TheVariants.{Ack, CloseRange, EmptyOut, SetSync}
use Rattle.sw_container_steps.specs.declared.cont_entry.ContEntry.TheVariants.{Acked, Closed, Emptied, Synced}
use Rattle.sw_hashpath.specs.declared.place.Place.{Place}
use Rattle.sw_keeper.specs.declared.tables.Tables.{Tables}
use Rattle.sw_shard_laws.specs.Changes.{AreAll, CanAck, CanSplit, CanSync, Runs}
use Rattle.sw_shard_laws.specs.Ledger.{Ground, Ledger}
use Rattle.sw_shard_range.specs.declared.range.Range.{Range}
use Rattle.sw_split_steps.proofs.Passing.{steps-are-changes}
use Rattle.sw_split_steps.proofs.Refusing.{over-none, with-none}
use Rattle.sw_split_steps.specs.Tables.{IsInOrder, standing, tables_of, ways_of}
use Rattle.sw_sync.specs.Points.{is_above, point_at}
use Rattle.sw_point_laws.proofs.Entering.{ArePlain, IsAllowed, line, plain-runs, single-runs}
use Rattle.sw_point_laws.proofs.Leaving.{creation-plain, rows-plain}
use Rattle.sw_point_laws.proofs.Others.{Others}

-- what the caller of a step sees to, of what all devices have
abbrev pub MayMake : Ground → Ledger → Place → Option Tables → ContChange → Type 0
MayMake g l place t (Create time) = ⊤
MayMake g l place t (Remove time) = ⊤
MayMake g l place t (MergeRow row) = ⊤
MayMake g l place t (MergeRows rows) = ⊤
MayMake g l place t (SetRanges ranges) = CanSplit g l place (ways_of ranges)
MayMake g l place t (Ack range device rowid) = CanAck l (standing t) range device rowid
MayMake g l place t (CloseRange range devices) = range ≡ (standing t).cursor → AreAll g (standing t) devices
MayMake g l place t EmptyOut = ⊤
MayMake g l place t (SetSync device rowid) = CanSync g l place (standing t) device rowid

-- a range that isn't closed yet is closed without a refusal only at the cursor
at-cursor : (t : Tables) (place : Place) (range : ℕ) (devices : List ℕ) → cont_refusal (Some t) place (CloseRange range devices) ≡ None
    → nat_lt range t.cursor ≡ false → range ≡ t.cursor
at-cursor t place range devices allowed above = eqb-true range t.cursor (by (nat_lt range t.cursor) (range == t.cursor) above closing)
  where
    split : (rs : List Range) × (t.ranges ≡ Some rs) × (closing_refusal t rs range devices ≡ None)
    split =
        with-none t.ranges (λ ranges. closing_refusal t ranges range devices)
        (over-none t (λ t. refusal_with t.ranges (λ ranges. closing_refusal t ranges range devices)) allowed).1

    closing : closing_refusal t split.0 range devices ≡ None
    closing = split.2

    by : (b c : Bool) → b ≡ false
        → cond b None (cond (c && nat_lt range (length split.0)) (unacked_refusal t split.0 range (not_acked t.points range devices))
        (Some (answers.StillOpen t.cursor))) ≡ None
        → c ≡ true
    by true c above closing = cc
    by false true above closing = refl
    by false false above closing = cc

module _ (g : Ground) (d : ℕ) (p : Place) (l : Ledger) where
  -- ---- entries that ask something of what others have

  acking-allowed : (t : Option Tables) (range device rowid : ℕ) → CanAck l (standing t) range device rowid
      → IsAllowed g d p (Ack range device rowid) l t (entries_for t p (Ack range device rowid))
  acking-allowed None range device rowid may = tt
  acking-allowed (Some t) range device rowid may = by (is_above rowid (point_at t.points range device))
    where
      by : (b : Bool) → IsAllowed g d p (Ack range device rowid) l (Some t) (cond b (Acked p range device rowid ∷ []) [])
      by true = may
      by false = tt

  closing-allowed : (t : Option Tables) (range : ℕ) (devices : List ℕ) → cont_refusal t p (CloseRange range devices) ≡ None
      → (range ≡ (standing t).cursor → AreAll g (standing t) devices)
      → IsAllowed g d p (CloseRange range devices) l t (entries_for t p (CloseRange range devices))
  closing-allowed None range devices allowed may = tt
  closing-allowed (Some t) range devices allowed may = by (nat_lt range t.cursor) refl
    where
      by : (b : Bool) → nat_lt range t.cursor ≡ b → IsAllowed g d p (CloseRange range devices) l (Some t) (cond b [] (Closed p range ∷ []))
      by true is = tt
      by false is = may (at-cursor t p range devices allowed is)

  emptying-allowed : (t : Option Tables) → IsAllowed g d p EmptyOut l t (entries_for t p EmptyOut)
  emptying-allowed None = tt
  emptying-allowed (Some t) = by t.emptied
    where
      by : (b : Bool) → IsAllowed g d p EmptyOut l (Some t) (cond b [] (Emptied p ∷ []))
      by true = tt
      by false = tt

  sync-allowed : (t : Option Tables) (device rowid : ℕ) → CanSync g l p (standing t) device rowid
      → IsAllowed g d p (SetSync device rowid) l t (entries_for t p (SetSync device rowid))
  sync-allowed None device rowid may = tt
  sync-allowed (Some t) device rowid may = by (is_above rowid (point_at t.syncs 0 device))
    where
      by : (b : Bool) → IsAllowed g d p (SetSync device rowid) l (Some t) (cond b (Synced p device rowid ∷ []) [])
      by true = may
      by false = tt

  -- ---- any step

  module _ (t : Option Tables) (order : IsInOrder t) (here : l d p ≡ tables_of t) (after : Ledger) where
    abbrev pub RunsBy : ContChange → Type 0
    RunsBy change = Runs g l (map (line g d p change) (entries_for t p change)) after

    module _ (change : ContChange) (allowed : cont_refusal t p change ≡ None) (set : after d p ≡ tables_of (left t p change))
        (others : Others d p l after) where
      plainly : ArePlain (entries_for t p change) → RunsBy change
      plainly plain = plain-runs g d p change (entries_for t p change) l t after plain here (steps-are-changes t p change order allowed) set others

      singly : IsAllowed g d p change l t (entries_for t p change) → RunsBy change
      singly may = single-runs g d p change (entries_for t p change) l t after may here (steps-are-changes t p change order allowed) set others

    pub makes-runs : (change : ContChange) → cont_refusal t p change ≡ None → after d p ≡ tables_of (left t p change) → Others d p l after
        → MayMake g l p t change → RunsBy change
    makes-runs (Create time) allowed set others may = plainly (Create time) allowed set others (creation-plain t p time)
    makes-runs (Remove time) allowed set others may = plainly (Remove time) allowed set others (tt, tt)
    makes-runs (MergeRow row) allowed set others may = plainly (MergeRow row) allowed set others (rows-plain t p (row ∷ []))
    makes-runs (MergeRows rows) allowed set others may = plainly (MergeRows rows) allowed set others (rows-plain t p rows)
    makes-runs (SetRanges ranges) allowed set others may = singly (SetRanges ranges) allowed set others may
    makes-runs (Ack range device rowid) allowed set others may =
        singly (Ack range device rowid) allowed set others (acking-allowed t range device rowid may)
    makes-runs (CloseRange range devices) allowed set others may =
        singly (CloseRange range devices) allowed set others (closing-allowed t range devices allowed may)
    makes-runs EmptyOut allowed set others may = singly EmptyOut allowed set others (emptying-allowed t)
    makes-runs (SetSync device rowid) allowed set others may = singly (SetSync device rowid) allowed set others (sync-allowed t device rowid may)

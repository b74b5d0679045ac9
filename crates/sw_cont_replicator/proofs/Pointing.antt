-- Sync points that tell truly do so after a push, whatever came of it, and after each other step.
use Rattle.std.proofs.Common.{◌≡◌, ◌≢◌, ℕ, Bool, true, false, List, All, Option, Some, ◌⊎◌, inl, inr, refl, sym, ◌∙◌, ap, subst, Result, Ok, Err}
use Rattle.std.proofs.lemmas.Bool.{cases_eq}
use Rattle.std.proofs.lemmas.List.Elements.{All-nil}
use Rattle.sw_container_steps.proofs.Placing.{place-cases}
use Rattle.sw_container_steps.specs.Entries.{rows_of}
use Rattle.sw_container_steps.specs.declared.cont_answer.ContAnswer.{ContAnswer}
use Rattle.sw_container_steps.specs.declared.cont_change.ContChange.{ContChange}
use Rattle.sw_container_steps.specs.declared.cont_change.ContChange.TheVariants.{Create, Remove, MergeRow, MergeRows, SetRanges, Ack, CloseRange}
use Rattle.sw_container_steps.specs.declared.cont_change.ContChange.TheVariants.{EmptyOut, SetSync}
use Rattle.sw_container_steps.specs.declared.syncing.Parcel.{Parcel}
use Rattle.sw_cont_replicator.proofs.Entering.{BringsOnly, Merges, merges-same}
use Rattle.sw_cont_replicator.proofs.Keeping.{run-keeps}
use Rattle.sw_cont_replicator.proofs.Making.{Brings, IsBrought, IsParcelRead, IsSet, Sure, call-reads, call-sets, elsewhere, here-merges, sure-before}
use Rattle.sw_cont_replicator.proofs.Making.{told-after}
use Rattle.sw_cont_replicator.proofs.Meeting.{all-there, parcel-is, tells-later, tells-set}
use Rattle.sw_cont_replicator.proofs.Passing.{Any, all-any, rows-bring, rows-reach}
use Rattle.sw_cont_replicator.proofs.Sending.{Anywhere, PushMoves, made-moves}
use Rattle.sw_cont_replicator.specs.Laws.{PointsBegin, PushesKeepPoints, RestartsKeepPoints, StepsKeepPoints}
use Rattle.sw_cont_replicator.specs.Meeting.{HasRow, LeavesNoName, PointsTell, TellsTruly, owed_above, point_in, replica}
use Rattle.sw_cont_replicator.specs.Pushing.{IsParcelSent, IsPointKept, IsPush, IsReached, IsReadNext, IsRowSent, IsRun}
use Rattle.sw_hashpath.specs.declared.place.Place.{Place}
use Rattle.sw_keeper.specs.declared.tables.Tables.{Tables}
use Rattle.sw_outside.specs.declared.errors.NoMemory.{NoMemory}
use Rattle.sw_pass.specs.Outcomes.{nothing_yet}
use Rattle.sw_pass.specs.Turns.{InTurn}
use Rattle.sw_pass.specs.declared.outcome.Outcome.{Outcome}
use Rattle.sw_peer.specs.ContSights.{ContMoves, IsIn}
use Rattle.sw_peer.specs.Sights.{Sight}
use Rattle.sw_peer.specs.declared.link.Link.TheVariants.{Local}
use Rattle.sw_ring.specs.declared.ring.Ring.{Ring}
use Rattle.sw_rows.specs.Rows.{rows_above}
use Rattle.sw_rows.specs.declared.numbered.Numbered.{Numbered}
use Rattle.sw_rows.specs.declared.row.Row.{Row}

-- ---- between two sights

-- no replica changed
points-same : (place : Place) (a b : Sight) → ((d : ℕ) → replica b d place ≡ replica a d place) → PointsTell place a → PointsTell place b
points-same place a b same is d e =
    subst (λ (x : Option Tables). TellsTruly e x (replica b e place)) (sym (same d))
    (subst (λ (x : Option Tables). TellsTruly e (replica a d place) x) (sym (same e)) (is d e))

-- rows came to some
points-merged : (place : Place) (a b : Sight) → ((d : ℕ) → Merges Any (replica a d place) (replica b d place)) → PointsTell place a → PointsTell place b
points-merged place a b merges is d e =
    tells-later Any e (replica a d place) (replica b d place) (replica a e place) (replica b e place) (merges d) (merges e) (is d e)

-- rows came to one
points-brought : (to : ℕ) (place : Place) (a b : Sight) → IsBrought to place Any a b → PointsTell place a → PointsTell place b
points-brought to place a b brought = points-merged place a b (λ d. at d (cases_eq d to))
  where
    at : (d : ℕ) → (d ≡ to) ⊎ (d ≡ to → ⊥) → Merges Any (replica a d place) (replica b d place)
    at d (inl own) = subst (λ (k : ℕ). Merges Any (replica a k place) (replica b k place)) (sym own) brought.merges
    at d (inr away) = merges-same Any (replica a d place) (replica b d place) (brought.others d away)

-- the sender's point for the receiver was set to the greatest number given out, as the receiver had all of its rows
points-set : (from to : ℕ) (place : Place) (top : ℕ) (a b : Sight) → IsSet from to place top a b → top ≡ (rows_of (replica a from place)).top
    → All (λ (n : Numbered). HasRow (replica a to place) n.row) (rows_of (replica a from place)).list → PointsTell place a → PointsTell place b
points-set from to place top a b set top_is all is d e =
    tells-set e (replica a d place) (replica b d place) (replica a e place) (replica b e place) (rows d (cases_eq d from)) (rows e (cases_eq e from))
    (point (cases_eq d from)) (is d e)
  where
    rows : (k : ℕ) → (k ≡ from) ⊎ (k ≡ from → ⊥) → rows_of (replica b k place) ≡ rows_of (replica a k place)
    rows k (inl own) = subst (λ (x : ℕ). rows_of (replica b x place) ≡ rows_of (replica a x place)) (sym own) set.sets.rows
    rows k (inr away) = ap rows_of (set.others k away)

    Point : ℕ → ℕ → Type 0
    Point k other =
        (point_in (replica b k place) other ≡ point_in (replica a k place) other)
        ⊎ ((point_in (replica b k place) other ≡ Some (rows_of (replica a k place)).top)
        × All (λ (n : Numbered). HasRow (replica a other place) n.row) (rows_of (replica a k place)).list)

    for_to : (point_in (replica b from place) to ≡ point_in (replica a from place) to) ⊎ (point_in (replica b from place) to ≡ Some top) → Point from to
    for_to (inl stays) = inl stays
    for_to (inr now) = inr (now ∙ ap (λ (n : ℕ). Some n) top_is, all)

    own : (to ≡ e) ⊎ (to ≡ e → ⊥) → Point from e
    own (inl that) = subst (λ (k : ℕ). Point from k) that (for_to set.sets.own)
    own (inr other) = inl (set.sets.others e other)

    point : (d ≡ from) ⊎ (d ≡ from → ⊥) → Point d e
    point (inl here) = subst (λ (k : ℕ). Point k e) (sym here) (own (cases_eq to e))
    point (inr away) = inl (ap (λ (x : Option Tables). point_in x e) (set.others d away))

-- ---- a push

module _ (ring : Ring) (from to : ℕ) (place : Place) (s : Sight) (apart : from ≢ to) (keeps : LeavesNoName (replica s to place))
    (points : PointsTell place s) where
  abbrev Both : Sight → Type 0
  Both x = Sure from place x × Sure to place x

  both-before : (at : ℕ → Place → Type 0) (a b : Sight) → ContMoves at a b → Both b → Both a
  both-before at a b moves sure = (sure-before at from place a b moves sure.0, sure-before at to place a b moves sure.1)

  module _ (parcel : Parcel) (read : Sight) (reads : IsParcelRead from to place s (Ok parcel) read) where
    abbrev Rows : Sight → Outcome → Bool → Type 0
    Rows mid p on = InTurn (IsRowSent ring to place) parcel.rows read nothing_yet mid p on

    brings : (mid : Sight) (p : Outcome) (on : Bool) → Rows mid p on → Brings to place Any read mid
    brings mid p on turn = rows-bring ring to place Any parcel.rows (all-any parcel.rows) read nothing_yet mid p on turn

    both-read : (mid : Sight) (p : Outcome) (on : Bool) → Rows mid p on → Both mid → Both read
    both-read mid p on turn sure = both-before Anywhere read mid (brings mid p on turn).moves sure

    keeps-read : (mid : Sight) (p : Outcome) (on : Bool) → Rows mid p on → Both mid → LeavesNoName (replica read to place)
    keeps-read mid p on turn sure = subst LeavesNoName (sym (reads.holds (both-read mid p on turn sure).0.0 to)) keeps

    -- behind the rows, or some of them
    at-mid : (mid : Sight) (p : Outcome) (on : Bool) → Rows mid p on → Both mid → PointsTell place mid
    at-mid mid p on turn sure =
        points-brought to place read mid ((brings mid p on turn).brought sure.1 (keeps-read mid p on turn sure))
        (points-same place s read (reads.holds (both-read mid p on turn sure).0.0) points)

    module _ (mid : Sight) (between : Outcome) (turn : Rows mid between true) (none : between.left ≡ 0) (sure : Both mid) where
      was : Both read
      was = both-read mid between true turn sure

      from-same : replica mid from place ≡ replica s from place
      from-same = ((brings mid between true turn).brought sure.1 (keeps-read mid between true turn sure)).others from apart ∙ reads.holds was.0.0 from

      told : (parcel.rows ≡ rows_above (owed_above (replica mid from place) to) (rows_of (replica mid from place)).list)
          × (parcel.top ≡ (rows_of (replica mid from place)).top)
      told =
          let got = reads.parcel parcel refl was.0 in
          subst (λ (x : Option Tables). (parcel.rows ≡ rows_above (owed_above x to) (rows_of x).list) × (parcel.top ≡ (rows_of x).top)) (sym from-same)
          (parcel-is (replica s from place) to got.0 parcel got.1)

      -- where none is left the receiver has all rows of the sender
      all : All (λ (n : Numbered). HasRow (replica mid to place) n.row) (rows_of (replica mid from place)).list
      all =
          all-there to (replica mid from place) (replica mid to place) (at-mid mid between true turn sure from to)
          (subst (λ (rows : List Row). All (HasRow (replica mid to place)) rows) told.0
          (rows-reach ring to place parcel.rows read nothing_yet mid between turn sure.1 (keeps-read mid between true turn sure) none).1)

    at-end : (mid : Sight) (between : Outcome) (t : Sight) (p : Outcome) (kept on : Bool) → Rows mid between true
        → IsPointKept from to place parcel.top mid between t p kept on → Both t → PointsTell place t
    at-end mid between t p kept on turn (inl left) sure =
        subst (PointsTell place) (sym left.1) (at-mid mid between true turn (subst Both left.1 sure))
    at-end mid between t p kept on turn (inr set) sure =
        let was_sure : Both mid =
        both-before (IsIn from place) mid t (made-moves Local from place (SetSync to parcel.top) mid (Ok set.1.0) t set.1.1) sure in
        points-set from to place parcel.top mid t (call-sets from to place parcel.top mid set.1.0 t set.1.1 sure.0)
        (told mid between turn set.0 was_sure).1 (all mid between turn set.0 was_sure) (at-mid mid between true turn was_sure)

    sent-points : (t : Sight) (p : Outcome) (kept on : Bool) → IsParcelSent from to place ring parcel read nothing_yet t p kept on → Both t → PointsTell place t
    sent-points t p kept on (inl sent) sure = at-end sent.0 sent.1 t p kept on sent.2 sent.3 sure
    sent-points t p kept on (inr stopped) sure = at-mid t p false stopped.0 sure

  next-points : (got : Result Parcel ContAnswer) (read t : Sight) (p : Outcome) (kept on : Bool) → IsParcelRead from to place s got read
      → IsReadNext from to place ring got read t p kept on → Both t → PointsTell place t
  next-points (Ok parcel) read t p kept on reads next sure = sent-points parcel read reads t p kept on next sure
  next-points (Err answer) read t p kept on reads next sure =
      subst (PointsTell place) (sym next.0) (points-same place s read (reads.holds (subst Both next.0 sure).0.0) points)

  run-points : (t : Sight) (p : Outcome) (kept on : Bool) → IsRun from to place ring s t p kept on → Both t → PointsTell place t
  run-points t p kept on run sure = next-points run.0 run.1 t p kept on (call-reads from to place s run.0 run.1 run.2) run.3 sure

pub pushes-keep-points : PushesKeepPoints
pushes-keep-points from to place ring s result t goes push points = by result push
  where
    run : (p : Outcome) (kept on : Bool) → IsRun from to place ring s t p kept on → PointsTell place t
    run p kept on is =
        let moves : PushMoves ring from to place s t = (run-keeps ring from to place s t p kept on is).moves in
        run-points ring from to place s goes.apart goes.keeps_all points t p kept on is (
          (goes.alone, told-after (IsReached ring from to place) from place s t moves goes.from_tells),
          (goes.alone, told-after (IsReached ring from to place) to place s t moves goes.to_tells),
        )

    by : (r : Result Outcome NoMemory) → IsPush from to place ring s r t → PointsTell place t
    by (Ok outcome) is = run is.0 is.1 true is.2
    by (Err wanting) is = run is.0 false false is.1

-- ---- what else keeps them

pub points-begin : PointsBegin
points-begin place s none d e = subst (λ (x : Option Tables). TellsTruly e x (replica s e place)) (sym (none d)) (record {
  listed = record { rising = tt; within = All-nil _; once = tt };
  given = λ point is. cc;
  has = λ point is. cc;
})

brings-any : (change : ContChange) → ((to point : ℕ) → change ≢ SetSync to point) → change ≢ EmptyOut → BringsOnly Any change
brings-any (Create time) unset keeps = tt
brings-any (Remove time) unset keeps = tt
brings-any (MergeRow row) unset keeps = tt
brings-any (MergeRows rows) unset keeps = all-any rows
brings-any (SetRanges ranges) unset keeps = tt
brings-any (Ack range device rowid) unset keeps = tt
brings-any (CloseRange range devices) unset keeps = tt
brings-any EmptyOut unset keeps = absurd (keeps refl)
brings-any (SetSync device rowid) unset keeps = absurd (unset device rowid refl)

pub steps-keep-points : StepsKeepPoints
steps-keep-points link device at change s answer t place made unset keeps told alone points =
    points-merged place s t (λ d. by d (cases_eq d device) (place-cases place at)) points
  where
    sure : Sure device at t
    sure = (alone, told-after (IsIn device at) device at s t made.moves told)

    by : (d : ℕ) → (d ≡ device) ⊎ (d ≡ device → ⊥) → (place ≡ at) ⊎ (place ≢ at) → Merges Any (replica s d place) (replica t d place)
    by d (inl own) (inl here) =
        subst (λ (k : ℕ). Merges Any (replica s k place) (replica t k place)) (sym own)
        (subst (λ (p : Place). Merges Any (replica s device p) (replica t device p)) (sym here)
        (here-merges link device at change s answer t made sure Any (brings-any change unset keeps)))
    by d (inr away) same =
        merges-same Any (replica s d place) (replica t d place) (elsewhere link device at change s answer t made alone d place (λ is. away is.0))
    by d own (inr other) =
        merges-same Any (replica s d place) (replica t d place) (elsewhere link device at change s answer t made alone d place (λ is. other is.1))

pub restarts-keep-points : RestartsKeepPoints
restarts-keep-points device s t place restarts told alone = points-same place s t (λ d. by d (cases_eq d device))
  where
    by : (d : ℕ) → (d ≡ device) ⊎ (d ≡ device → ⊥) → replica t d place ≡ replica s d place
    by d (inl own) =
        subst (λ (k : ℕ). replica t k place ≡ replica s k place) (sym own) (restarts.containers.holds alone place told)
    by d (inr away) = restarts.containers.elsewhere alone d place away

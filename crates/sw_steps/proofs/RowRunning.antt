-- A push of rows is an honest run of the machine: each row that is sent is one that its sender has, it goes to a shard only where the receiver left it to that,
-- and the point is kept behind the acknowledgement of each row.
use Rattle.std.proofs.Common.{◌≡◌, ◌≢◌, ℕ, Bool, true, false, cond, nat_lt, map, List, [], ◌∷◌, ◌++◌, refl, sym, ◌∙◌, ap, subst, arith, true≢false}
use Rattle.std.proofs.Common.{inl, inr, ◌⊎◌, Option, None, Some, Result, Ok, Err}
use Rattle.std.proofs.lemmas.List.Elements.{All-cons, All-head, All-nil, All-tail}
use Rattle.std.specs.List.{All}
use Rattle.std.specs.Option.{option_map_or}
use Rattle.std.specs.Prelude.{Contains}
use Rattle.sw_container_steps.specs.Entries.{rows_of}
use Rattle.sw_container_steps.specs.Presence.{deletion_after, is_no_time}
use Rattle.sw_container_steps.specs.Reads.{parcel_of, rows_for}
use Rattle.sw_container_steps.specs.declared.cont_answer.ContAnswer.{ContAnswer}
use Rattle.sw_container_steps.specs.declared.cont_answer.ContAnswer.TheVariants as answers
use Rattle.sw_container_steps.specs.declared.cont_change.ContChange.TheVariants.{MergeRow, SetSync}
use Rattle.sw_container_steps.specs.declared.cont_entry.ContEntry.{ContEntry}
use Rattle.sw_container_steps.specs.declared.syncing.Parcel.{Parcel}
use Rattle.sw_cont_replicator.specs.Pushing.{IsParcelSent, IsPointKept, IsPush, IsReadNext, IsRowHeard, IsRowHeardAs, IsRowLeft, IsRowSent}
use Rattle.sw_hashpath.specs.declared.place.Place.{Place}
use Rattle.sw_keeper.specs.declared.tables.Tables.{Tables}
use Rattle.sw_lossy.specs.Losses.{around, begun}
use Rattle.sw_lossy.specs.declared.acts.Acts.{Acts}
use Rattle.sw_machine.proofs.Doors.{parcels}
use Rattle.sw_machine.specs.Doors.{cont_line}
use Rattle.sw_machine.specs.Honest.{AreHonest, IsAcknowledged, WasPushed}
use Rattle.sw_machine.specs.Machine.{Came, RunLine, Went}
use Rattle.sw_machine.specs.Messages.{Row_of}
use Rattle.sw_outside.specs.Counts.{raised}
use Rattle.sw_outside.specs.declared.errors.NoMemory.{NoMemory}
use Rattle.sw_pass.specs.Outcomes.{Hinders, leaving, nothing_yet, sending}
use Rattle.sw_pass.specs.Rings.{replicas_in}
use Rattle.sw_pass.specs.Turns.{InTurn}
use Rattle.sw_pass.specs.declared.hindrance.Hindrance.{Hindrance}
use Rattle.sw_pass.specs.declared.outcome.Outcome.{Outcome}
use Rattle.sw_peer.proofs.Calls.{calls-moves}
use Rattle.sw_peer.proofs.ContCalls.{look-step}
use Rattle.sw_peer.specs.ContSights.{ContMoves, IsContMade, IsIn, is_wanting_look}
use Rattle.sw_peer.specs.Sights.{Calls, Sight}
use Rattle.sw_peer.specs.declared.cont_event.ContEvent.TheVariants.{Parceled}
use Rattle.sw_peer.specs.declared.link.Link.TheVariants.{Local, Sent}
use Rattle.sw_peer.specs.declared.link.Lost.{Lost}
use Rattle.sw_redirect.specs.Hearing.{heard_of}
use Rattle.sw_redirect.specs.Sending.{Course, IsSentOn}
use Rattle.sw_redirect.specs.declared.heard.Heard.{Heard}
use Rattle.sw_redirect.specs.declared.heard.Heard.TheVariants.{Acknowledged, Redirected, Refused}
use Rattle.sw_ring.specs.declared.ring.Ring.{Ring}
use Rattle.sw_rows.specs.declared.row.Row.{Row}
use Rattle.sw_shard_range.specs.Names.{is_hidden}
use Rattle.sw_sync.specs.Points.{point_at}
use Rattle.sw_steps.proofs.Acknowledging.{acknowledged-more, all-acknowledged-more, in-behind, in-front, pushed-behind}
use Rattle.sw_steps.proofs.GoingBy.{GoesOnBy}
use Rattle.sw_steps.proofs.Holding.{AreAmong, Looks, Tells, kept-among, looked-tells, tells-machine, told-before}
use Rattle.sw_steps.proofs.Honestly.{Any, GoesHonestly, GoesTelling, cont-change-goes, honestly-leaving, telling-as, telling-honest}
use Rattle.sw_steps.proofs.Honestly.{telling-same, telling-then}
use Rattle.sw_steps.proofs.Leaving.{reads-leave}
use Rattle.sw_steps.proofs.Redirecting.{left-hidden}
use Rattle.sw_steps.proofs.Sending.{IsFollowed, IsHeardSo, IsTaken, Sends, followed-goes, heard-so, taken-goes, sent-on-left, sent-owns, unfollowed-goes}
use Rattle.sw_steps.proofs.Within.{honest-within}
use Rattle.sw_steps.specs.Laws.{RowPushesRun}
use Rattle.sw_steps.specs.Passing.{AreRowsPushedOver}

-- the rows of a parcel are rows of the tables that it was read of
parcel-among : (to : ℕ) (parcel : Parcel) (t : Option Tables) (front : ℕ) → Ok parcel ≡ parcel_of to t front → AreAmong parcel.rows (rows_of t)
parcel-among to parcel None front is = cc
parcel-among to parcel (Some t) front is = by (is_no_time (deletion_after t.put_time t.delete_time)) is
  where
    by : (b : Bool) → Ok parcel ≡ cond b (Ok (record { rows = rows_for to t; top = t.rows.top })) (Err answers.Absent) → AreAmong parcel.rows t.rows
    by true same =
        let rows : parcel.rows ≡ rows_for to t = cc in
        subst (λ (rows : List Row). AreAmong rows t.rows) (sym rows)
        (kept-among (λ n. nat_lt (option_map_or (λ rowid. rowid) (point_at t.syncs 0 to) 0) n.rowid) t.rows.list)
    by false same = cc

-- ---- what is left

raised-some : (n : ℕ) → raised n ≡ 0 → ⊥
raised-some n is = omega (arith, is)

-- where nothing is left, nothing hindered
hinders-none : (hindrance : Option Hindrance) (o p : Outcome) (on : Bool) → Hinders hindrance o p on → on ≡ true → p.left ≡ 0 → ⊥
hinders-none (Some hindrance) o p on is goes none = raised-some o.left (sym (ap (λ (x : Outcome). x.left) is.0) ∙ none)
hinders-none None o p on is goes none = true≢false (sym goes ∙ is.1)

-- and nothing was missed
leaving-none : (missed : Bool) (o : Outcome) → (leaving missed o).left ≡ 0 → (missed ≡ false) × (o.left ≡ 0)
leaving-none true o none = absurd (raised-some o.left none)
leaving-none false o none = (refl, none)

module _ (ring : Ring) (from to : ℕ) (place : Place) (apart : from ≢ to) where
  -- the sender has these rows, as far as its lock tells it
  abbrev Has : List Row → Sight → Type 0
  Has rows = Tells from place (λ t. AreAmong rows (rows_of t))

  abbrev Goes : (List RunLine → Type 0) → (List RunLine → Type 0) → Sight → Sight → Type 0
  Goes = GoesTelling ring.secrets (replicas_in ring)

  abbrev Nothing : List RunLine → Type 0
  Nothing = Any ring.secrets (replicas_in ring)

  abbrev Acks : List RunLine → Row → Type 0
  Acks lines = IsAcknowledged ring.secrets (replicas_in ring) lines to place

  -- another device, or another container
  abbrev IsElsewhere : ℕ → Place → Type 0
  IsElsewhere d at = IsIn d at from place → ⊥

  -- a hidden container is another one than a plain one
  hidden-elsewhere : (shard : Place) → is_hidden place ≡ false → is_hidden shard ≡ true → (d : ℕ) → IsElsewhere d shard
  hidden-elsewhere shard plain hidden d at = true≢false (sym hidden ∙ (ap is_hidden (sym at.1) ∙ plain))

  -- ---- a row that the sender has

  module _ (row : Row) (rows : List Row) where
    sends : Sends ring from place row (λ d at. Row_of d place at row) (Has (row ∷ rows)) IsElsewhere
    sends = record {
      arrives = λ d at answer entries. (refl, refl, refl);
      honest = λ d at done is. is;
      carried = λ d at a m alone stands own.
          tells-machine from place (λ t. Contains (map (λ n. n.row) (rows_of t).list) row) a m stands alone
          (λ unshared told. All-head (λ r. Contains (map (λ n. n.row) (rows_of (a.containers.holds from place)).list) r) row rows (own unshared told));
      still = λ d at a b elsewhere moves own alone told.
          subst (λ (t : Option Tables). AreAmong (row ∷ rows) (rows_of t)) (sym (moves.containers.others alone from place elsewhere))
          (own (moves.alone alone) (told-before from place (IsIn d at) a b moves told));
    }

    -- where nothing is left by then, nothing was before, and the receiver acknowledged it
    abbrev RowTells : Outcome → Outcome → Bool → List RunLine → Type 0
    RowTells o p on lines = on ≡ true → p.left ≡ 0 → (o.left ≡ 0) × Acks lines row

    abbrev RowGoes : Sight → Outcome → Sight → Outcome → Bool → Type 0
    RowGoes a o b p on = Goes Nothing (RowTells o p on) a b × Has (row ∷ rows) b

    -- a row that was taken counts as acknowledged
    taken-acks : (lines : List RunLine) → IsTaken sends to lines → Acks lines row
    taken-acks lines taken =
        subst (λ (ls : List RunLine). Acks ls row) (sym taken.1)
        (acknowledged-more ring.secrets (replicas_in ring) taken.0 (Went from (Row_of to place place row) ∷ taken.0)
        (in-behind (Went from (Row_of to place place row) ∷ []) taken.0) to place row taken.2)

    module _ (a : Sight) (r : Result ContAnswer Lost) (mid : Sight) (call : Calls (IsContMade Sent to place (MergeRow row)) a Sent r mid)
        (own : Has (row ∷ rows) a) where
      -- nothing follows
      ends : {tells : List RunLine → Type 0} (o : Outcome) (b : Sight) (p : Outcome) (on : Bool) → b ≡ mid → Goes Nothing tells a mid
          → ((lines : List RunLine) → tells lines → RowTells o p on lines) → RowGoes a o b p on
      ends o b p on same went tells =
          subst (λ (x : Sight). RowGoes a o x p on) (sym same) (
            telling-as ring.secrets (replicas_in ring) a mid went (λ done any. any) tells,
            sent-owns sends to place a r mid call (λ at. apart at.0) own,
          )

      -- it was left to a shard
      left-goes : (shard : Place) → r ≡ Ok (answers.Redirect shard) → is_hidden place ≡ false → (o : Outcome) (b : Sight) (p : Outcome) (on : Bool)
          → IsRowLeft ring row shard mid (sending o) b p on → RowGoes a o b p on
      left-goes shard is plain o b p on left = by left
        where
          hidden : is_hidden shard ≡ true
          hidden =
              left-hidden shard place row Sent to a mid
              (subst (λ (x : Result ContAnswer Lost). Calls (IsContMade Sent to place (MergeRow row)) a Sent x mid) is call)

          follows : (e : Course) (between : Outcome) (more : Bool) → IsSentOn ring shard row mid (sending o) e between more
              → Goes Nothing (IsFollowed sends to e more) a e.sight × Has (row ∷ rows) e.sight
          follows e between more is_sent =
              followed-goes sends to a r mid call own shard is (hidden-elsewhere shard plain hidden) (λ at. apart at.0) (sending o) e between more is_sent

          by : IsRowLeft ring row shard mid (sending o) b p on → RowGoes a o b p on
          by (inl went) =
              let e = went.0 in
              let more = follows e went.1 true went.2 in
              subst (λ (x : Sight). RowGoes a o x p on) (sym went.3) (
                telling-as ring.secrets (replicas_in ring) a e.sight more.0 (λ done any. any)
                    (λ lines followed goes none.
                    let missed = leaving-none e.missed went.1 (sym (ap (λ (x : Outcome). x.left) went.4) ∙ none) in (
                      sym (sent-on-left shard row ring mid (sending o) e went.1 true went.2) ∙ missed.1,
                      taken-acks lines (followed refl missed.0),
                    )),
                more.1,
              )
          by (inr stopped) =
              let e = stopped.0 in
              let more = follows e p false stopped.1 in
              subst (λ (x : Sight). RowGoes a o x p on) (sym stopped.2) (
                telling-as ring.secrets (replicas_in ring) a e.sight more.0 (λ done any. any)
                    (λ lines followed goes none. absurd (true≢false (sym goes ∙ stopped.3))),
                more.1,
              )

      heard-goes : (answer : ContAnswer) → r ≡ Ok answer → (heard : Heard) → IsHeardSo place answer heard → (o : Outcome) (b : Sight) (p : Outcome) (on : Bool)
          → IsRowHeardAs ring row heard mid (sending o) b p on → RowGoes a o b p on
      heard-goes answer is Acknowledged so o b p on heard =
          ends o b p on heard.0 (taken-goes sends to a r mid call own answer is so)
          (λ lines taken goes none. (sym (ap (λ (x : Outcome). x.left) heard.1) ∙ none, taken-acks lines taken))
      heard-goes answer is (Redirected shard) so o b p on heard = left-goes shard (is ∙ ap Ok so.0) so.1 o b p on heard
      heard-goes answer is (Refused hindrance) so o b p on heard =
          ends o b p on heard.0 (unfollowed-goes sends to a r mid call own)
          (λ lines any goes none. absurd (hinders-none hindrance (sending o) p on heard.1 goes none))

    answered-goes : (a : Sight) (r : Result ContAnswer Lost) (mid : Sight) → Calls (IsContMade Sent to place (MergeRow row)) a Sent r mid
        → Has (row ∷ rows) a → (o : Outcome) (b : Sight) (p : Outcome) (on : Bool) → IsRowHeard ring place row r mid (sending o) b p on
        → RowGoes a o b p on
    answered-goes a (Ok answer) mid call own o b p on heard =
        heard-goes a (Ok answer) mid call own answer refl (heard_of place answer) (heard-so place answer) o b p on heard
    answered-goes a (Err lost) mid call own o b p on heard =
        ends a (Err lost) mid call own o b p on heard.0 (unfollowed-goes sends to a (Err lost) mid call own)
        (λ lines any goes none. absurd (raised-some (sending o).left (sym (ap (λ (x : Outcome). x.left) heard.1) ∙ none)))

  -- ---- the rows in their order

  abbrev RowsTell : Outcome → Outcome → Bool → List Row → List RunLine → Type 0
  RowsTell o p on rows lines = on ≡ true → p.left ≡ 0 → (o.left ≡ 0) × All (Acks lines) rows

  rows-go : (rows : List Row) (a : Sight) (o : Outcome) (b : Sight) (p : Outcome) (on : Bool) → Has rows a
      → InTurn (IsRowSent ring to place) rows a o b p on → Goes Nothing (RowsTell o p on rows) a b
  rows-go [] a o b p on own go =
      telling-as ring.secrets (replicas_in ring) a b (telling-same ring.secrets (replicas_in ring) a b go.0) (λ done any. any)
      (λ lines any goes none. (sym (ap (λ (x : Outcome). x.left) go.1) ∙ none, All-nil (Acks lines)))
  rows-go (row ∷ rows) a o b p on own (inl went) =
      let is = went.2 in
      let one = answered-goes row rows a is.0 is.1 is.2 own o went.0 went.1 true is.3 in
      telling-then ring.secrets (replicas_in ring) a went.0 b one.0
      (rows-go rows went.0 went.1 b p on
      (λ alone told.
      All-tail (λ r. Contains (map (λ n. n.row) (rows_of ((went.0).containers.holds from place)).list) r) row rows (one.1 alone told)) went.3)
      (λ done lines any tells. tt)
      (λ xs ys first more goes none.
      let others = more goes none in
      let this = first refl others.0 in (
        this.0,
        All-cons (Acks (xs ++ ys)) row rows (acknowledged-more ring.secrets (replicas_in ring) xs (xs ++ ys) (in-front xs ys) to place row this.1)
            (all-acknowledged-more ring.secrets (replicas_in ring) ys (xs ++ ys) (in-behind xs ys) to place rows others.1),
      ))
  rows-go (row ∷ rows) a o b p on own (inr stopped) =
      let is = stopped.0 in
      telling-as ring.secrets (replicas_in ring) a b (answered-goes row rows a is.0 is.1 is.2 own o b p false is.3).0 (λ done any. any)
      (λ lines tells goes none. absurd (true≢false (sym goes ∙ stopped.1)))

  -- ---- the rows are read at the sender itself

  abbrev Read : Sight → Result Parcel ContAnswer → Sight → Type 0
  Read = Looks from place (parcel_of to) (λ read. Parceled place to read)

  -- the lines are that of the read
  abbrev IsParcelRead : Parcel → List RunLine → Type 0
  IsParcelRead parcel lines =
      (entries : List ContEntry) × (lines ≡ Came (cont_line from Local (Parceled place to (Ok parcel)) entries) ∷ [])

  look-moves : (a : Sight) (got : Result Parcel ContAnswer) (b : Sight) → Calls Read a Local (Ok got) b → ContMoves (IsIn from place) a b
  look-moves a got b call =
      calls-moves (ContMoves (IsIn from place)) Read (look-step Local from place (parcel_of to) (λ read. Parceled place to read)) a Local (Ok got) b call

  read-goes : (parcel : Parcel) (a b : Sight) → Calls Read a Local (Ok (Ok parcel)) b → Goes Nothing (IsParcelRead parcel) a b
  read-goes parcel a b call =
      let moves : ContMoves (IsIn from place) a b = look-moves a (Ok parcel) b call in
      record {
        goes = record {
          nodes = moves.nodes;
          alone = moves.alone;
          runs = λ alone m stands.
              let came = (parcels from place to).call a (Ok parcel) b alone call m stands in
              let is : IsParcelRead parcel came.0 = by came.0 came.1 in (
                came.0,
                λ done any. subst (AreHonest ring.secrets (replicas_in ring) done) (sym is.1) (tt, tt),
                is,
                came.2,
              );
        };
      }
    where
      by : (lines : List RunLine)
          → ((entries : List ContEntry) × (lines ≡ Came (cont_line from Local (Parceled place to (Ok parcel)) entries) ∷ []))
          ⊎ ((is_wanting_look {A = Parcel} (Ok parcel) ≡ true) × (lines ≡ []))
          → IsParcelRead parcel lines
      by lines (inl is) = is
      by lines (inr none) = cc

  read-leaves : (a : Sight) (got : Result Parcel ContAnswer) (b : Sight) → Calls Read a Local (Ok got) b → GoesOnBy a b
  read-leaves a got b call =
      let moves : ContMoves (IsIn from place) a b = look-moves a got b call in
      record { nodes = moves.nodes; alone = moves.alone; runs = reads-leave (parcels from place to) (λ way read added. refl) Local a (Ok got) b call }

  -- ---- the point

  abbrev IsPushed : ℕ → List RunLine → Type 0
  IsPushed top lines = WasPushed ring.secrets (replicas_in ring) lines from place to top

  abbrev Honestly : Sight → Sight → Type 0
  Honestly = GoesHonestly ring.secrets (replicas_in ring)

  -- it is kept where nothing is left by then, and so each row counts as acknowledged
  point-goes : (top : ℕ) (s a : Sight) (o : Outcome) (b : Sight) (p : Outcome) (kept on : Bool)
      → Goes Nothing (λ lines. o.left ≡ 0 → IsPushed top lines) s a → IsPointKept from to place top a o b p kept on → Honestly s b
  point-goes top s a o b p kept on went (inl left) =
      subst (λ (x : Sight). Honestly s x) (sym left.1) (telling-honest ring.secrets (replicas_in ring) s a went (λ done. tt))
  point-goes top s a o b p kept on went (inr none) =
      telling-honest ring.secrets (replicas_in ring) s b
      (telling-then ring.secrets (replicas_in ring) {both = Nothing} s a b went
      (cont-change-goes ring.secrets (replicas_in ring) from place (SetSync to top) a none.1.0 b none.1.1)
      (λ done lines any tells. pushed-behind ring.secrets (replicas_in ring) done lines from place to top (tells none.0)) (λ xs ys told any. tt))
      (λ done. tt)

  -- ---- the whole

  parcel-goes : (parcel : Parcel) (s a b : Sight) (p : Outcome) (kept on : Bool) → Calls Read s Local (Ok (Ok parcel)) a
      → IsParcelSent from to place ring parcel a nothing_yet b p kept on → Honestly s b
  parcel-goes parcel s a b p kept on call = by
    where
      own : Has parcel.rows a
      own =
          looked-tells from place (parcel_of to) (λ read. Parceled place to read) (λ t. AreAmong parcel.rows (rows_of t)) parcel (parcel-among to parcel) s a
          call

      pushed : (o : Outcome) (more : Bool) (xs ys : List RunLine) → IsParcelRead parcel xs → RowsTell nothing_yet o more parcel.rows ys → more ≡ true
          → o.left ≡ 0 → IsPushed parcel.top (xs ++ ys)
      pushed o more xs ys is tells goes none = record {
        parcel = parcel;
        before = [];
        came = cont_line from Local (Parceled place to (Ok parcel)) is.0;
        entries = is.0;
        behind = ys;
        lines_are = ap (λ (ls : List RunLine). ls ++ ys) is.1;
        device_is = refl;
        event_is = refl;
        rowid_is = refl;
        acknowledged = (tells goes none).1;
      }

      rows : (o : Outcome) (mid : Sight) (more : Bool) → InTurn (IsRowSent ring to place) parcel.rows a nothing_yet mid o more
          → Goes Nothing (λ lines. more ≡ true → o.left ≡ 0 → IsPushed parcel.top lines) s mid
      rows o mid more turn =
          telling-then ring.secrets (replicas_in ring) s a mid (read-goes parcel s a call) (rows-go parcel.rows a nothing_yet mid o more own turn)
          (λ done lines any is. tt) (pushed o more)

      by : IsParcelSent from to place ring parcel a nothing_yet b p kept on → Honestly s b
      by (inl went) =
          point-goes parcel.top s went.0 went.1 b p kept on
          (telling-as ring.secrets (replicas_in ring) s went.0 (rows went.1 went.0 true went.2) (λ done any. any) (λ lines tells. tells refl)) went.3
      by (inr stopped) = telling-honest ring.secrets (replicas_in ring) s b (rows p b false stopped.0) (λ done. tt)

  next-goes : (s : Sight) (got : Result Parcel ContAnswer) (a b : Sight) (p : Outcome) (kept on : Bool) → Calls Read s Local (Ok got) a
      → IsReadNext from to place ring got a b p kept on → Honestly s b
  next-goes s (Ok parcel) a b p kept on call is = parcel-goes parcel s a b p kept on call is
  next-goes s (Err answer) a b p kept on call is =
      subst (λ (x : Sight). Honestly s x) (sym is.0) (honestly-leaving ring.secrets (replicas_in ring) s a (read-leaves s (Err answer) a call))

  rows-go-on : (s : Sight) (result : Result Outcome NoMemory) (t : Sight) → IsPush from to place ring s result t → Honestly s t
  rows-go-on s (Ok outcome) t push = let run = push.2 in next-goes s run.0 run.1 t push.0 push.1 true run.2 run.3
  rows-go-on s (Err wanting) t push = let run = push.1 in next-goes s run.0 run.1 t push.0 false false run.2 run.3

-- the nodes and the door around them after a push of rows
abbrev pub rows_sight_after : {ring : Ring} {from to : ℕ} {place : Place} {acts : Acts} {s : Sight} {result : Result Outcome NoMemory} {t : Sight} →
    AreRowsPushedOver ring from to place acts s result t → Sight
rows_sight_after {t = t} over = around t over.acts_behind over.messages over.faults over.asks

pub row_pushes_run : RowPushesRun
row_pushes_run ring from to place acts s result t over apart alone =
    honest-within s t acts over.acts_behind 0 0 0 over.messages over.faults over.asks ring.secrets (replicas_in ring)
    ((rows-go-on ring from to place apart (begun acts s) result (rows_sight_after over) over.pushes).runs alone)

pub rows-over-nodes : (ring : Ring) (from to : ℕ) (place : Place) (acts : Acts) (s : Sight) (result : Result Outcome NoMemory) (t : Sight) → from ≢ to
    → AreRowsPushedOver ring from to place acts s result t → t.nodes ≡ s.nodes
rows-over-nodes ring from to place acts s result t apart over =
    (rows-go-on ring from to place apart (begun acts s) result (rows_sight_after over) over.pushes).nodes

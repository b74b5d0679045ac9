-- A row that a device sends to a container, and on to each replica of a shard where the container left it to that: what the lines of this tell.
use Rattle.std.proofs.Common.{◌≡◌, ℕ, Bool, true, false, cond, List, [], ◌∷◌, ◌++◌, refl, sym, ◌∙◌, ap, subst}
use Rattle.std.proofs.Common.{inl, inr, ◌⊎◌, Option, None, Some, Result, Ok, Err}
use Rattle.std.proofs.lemmas.List.Elements.{All-cons, All-contains, All-nil, All-weaker, Contains-push}
use Rattle.std.specs.List.{All}
use Rattle.std.specs.Prelude.{⊤, Contains}
use Rattle.sw_container_steps.specs.Rules.{cont_ending}
use Rattle.sw_container_steps.specs.declared.cont_answer.ContAnswer.{ContAnswer}
use Rattle.sw_container_steps.specs.declared.cont_answer.ContAnswer.TheVariants as answers
use Rattle.sw_container_steps.specs.declared.cont_change.ContChange.TheVariants.{MergeRow}
use Rattle.sw_container_steps.specs.declared.cont_entry.ContEntry.{ContEntry}
use Rattle.sw_hashpath.specs.declared.place.Place.{Place}
use Rattle.sw_machine.proofs.Doors.{container-changes}
use Rattle.sw_machine.proofs.Going.{lines-leaving}
use Rattle.sw_machine.proofs.Honesty.{leaving-honest}
use Rattle.sw_machine.specs.Doors.{EndsAsHeard, StandsFor, cont_line}
use Rattle.sw_machine.specs.Honest.{AllTook, CameTo, IsAcknowledged, IsHonestMessage, WasLeft, WasTaken}
use Rattle.sw_machine.specs.Machine.{Came, Carries, Machine, RunLine, Went}
use Rattle.sw_machine.specs.Messages.{Arrives, Message}
use Rattle.sw_pass.specs.Outcomes.{Keeps, cont_hindrance, sending}
use Rattle.sw_pass.specs.Rings.{replicas_in}
use Rattle.sw_pass.specs.Turns.{InTurn}
use Rattle.sw_pass.specs.declared.hindrance.Hindrance.{Hindrance}
use Rattle.sw_pass.specs.declared.hindrance.Hindrance.TheVariants.{Conflict, Failed}
use Rattle.sw_pass.specs.declared.outcome.Outcome.{Outcome}
use Rattle.sw_peer.specs.ContSights.{ContMoves, IsContMade, IsIn, is_wanting_cont}
use Rattle.sw_peer.specs.Sights.{Calls, Sight}
use Rattle.sw_peer.specs.declared.cont_event.ContEvent.TheVariants as cont_events
use Rattle.sw_peer.specs.declared.line.Event.TheVariants.{AtContainer}
use Rattle.sw_peer.specs.declared.link.Link.TheVariants.{Sent}
use Rattle.sw_peer.specs.declared.link.Lost.{Lost}
use Rattle.sw_redirect.specs.Hearing.{heard_of}
use Rattle.sw_redirect.specs.Sending.{Course, IsAnswered, IsSentOn, IsSentTo, course}
use Rattle.sw_redirect.specs.declared.heard.Heard.{Heard}
use Rattle.sw_redirect.specs.declared.heard.Heard.TheVariants.{Acknowledged, Redirected, Refused}
use Rattle.sw_ring.specs.declared.ring.Ring.{Ring}
use Rattle.sw_rows.specs.declared.row.Row.{Row}
use Rattle.sw_shard_range.specs.Names.{is_hidden}
use Rattle.sw_step.specs.Rules.{Damages, Ending, Fails, Makes, Overflows, Refuses, Wants, has_made, has_wanted}
use Rattle.sw_steps.proofs.Acknowledging.{AreIn, all-took-more, came-more, in-behind, in-front, taken-more}
use Rattle.sw_steps.proofs.Holding.{change-moves}
use Rattle.sw_steps.proofs.Honestly.{Any, GoesTelling, telling-as, telling-same, telling-then}
use Rattle.sw_steps.proofs.Leaving.{sends-on}

-- ---- what an answer tells

-- what was made wanted no memory
made-wants : (ending : Ending) → has_made ending ≡ true → has_wanted ending ≡ false
made-wants Makes made = refl
made-wants Refuses made = cc
made-wants Overflows made = cc
made-wants Fails made = cc
made-wants Wants made = cc
made-wants Damages made = cc

-- the container acknowledged the row, or it isn't hidden and left it to a shard
abbrev pub IsHeardSo : Place → ContAnswer → Heard → Type 0
IsHeardSo place answer Acknowledged = has_made (cont_ending answer) ≡ true
IsHeardSo place answer (Redirected shard) = (answer ≡ answers.Redirect shard) × (is_hidden place ≡ false)
IsHeardSo place answer (Refused hindrance) = ⊤

pub heard-so : (place : Place) (answer : ContAnswer) → IsHeardSo place answer (heard_of place answer)
heard-so place (answers.New front) = refl
heard-so place (answers.There front) = refl
heard-so place (answers.Done front) = refl
heard-so place answers.Absent = tt
heard-so place (answers.Stale time) = tt
heard-so place (answers.NotEmpty count) = tt
heard-so place answers.HasRanges = tt
heard-so place answers.NoRanges = tt
heard-so place (answers.Redirect shard) = by (is_hidden place) refl
  where
    by : (b : Bool) → is_hidden place ≡ b → IsHeardSo place (answers.Redirect shard) (cond b (Refused (Some Conflict)) (Redirected shard))
    by true is = tt
    by false is = (refl, is)
heard-so place (answers.StillOpen cursor) = tt
heard-so place (answers.Later number) = tt
heard-so place (answers.NotAcked lagging) = tt
heard-so place answers.JournalFull = tt
heard-so place answers.Failed = tt
heard-so place answers.NoMemory = tt

-- ---- what is counted of a row that is sent on

keeps-left : (hindrance : Option Hindrance) (o p : Outcome) (on : Bool) → Keeps hindrance o p on → p.left ≡ o.left
keeps-left (Some hindrance) o p on is = ap (λ (x : Outcome). x.left) is.0
keeps-left None o p on is = ap (λ (x : Outcome). x.left) is.0

answered-left : (answer : Result ContAnswer Lost) (t : Sight) (missed : Bool) (o : Outcome) (d : Course) (p : Outcome) (on : Bool)
    → IsAnswered answer t missed o d p on → p.left ≡ o.left
answered-left (Ok answer) t missed o d p on (inl is) = ap (λ (x : Outcome). x.left) is.2
answered-left (Ok answer) t missed o d p on (inr is) = keeps-left (cont_hindrance answer) o p on is.2
answered-left (Err lost) t missed o d p on is = ap (λ (x : Outcome). x.left) is.1

answered-sight : (answer : Result ContAnswer Lost) (t : Sight) (missed : Bool) (o : Outcome) (d : Course) (p : Outcome) (on : Bool)
    → IsAnswered answer t missed o d p on → d.sight ≡ t
answered-sight (Ok answer) t missed o d p on (inl is) = ap (λ (x : Course). x.sight) is.1
answered-sight (Ok answer) t missed o d p on (inr is) = ap (λ (x : Course). x.sight) is.1
answered-sight (Err lost) t missed o d p on is = ap (λ (x : Course). x.sight) is.0

module _ (shard : Place) (row : Row) where
  all-sent-left : (devices : List ℕ) (c : Course) (o : Outcome) (d : Course) (p : Outcome) (on : Bool)
      → InTurn (IsSentTo shard row) devices c o d p on → p.left ≡ o.left
  all-sent-left [] c o d p on is = ap (λ (x : Outcome). x.left) is.1
  all-sent-left (to ∷ devices) c o d p on (inl went) =
      all-sent-left devices went.0 went.1 d p on went.3
      ∙ answered-left (went.2).0 (went.2).1 c.missed (sending o) went.0 went.1 true (went.2).3
  all-sent-left (to ∷ devices) c o d p on (inr stopped) =
      answered-left (stopped.0).0 (stopped.0).1 c.missed (sending o) d p false (stopped.0).3

  -- nothing is left by it
  pub sent-on-left : (ring : Ring) (s : Sight) (o : Outcome) (d : Course) (p : Outcome) (on : Bool) → IsSentOn ring shard row s o d p on → p.left ≡ o.left
  sent-on-left ring s o d p on (inl is) = all-sent-left (replicas_in ring shard) (course s false) o d p on is.1
  sent-on-left ring s o d p on (inr is) = keeps-left (Some Failed) o p on is.2

-- ---- a device that sends a row of a container by these messages: by the device that each goes to, and the container there

pub record Sends (ring : Ring) (device : ℕ) (place : Place) (row : Row) (message : ℕ → Place → Message) (own : Sight → Type 0)
    (may : ℕ → Place → Type 0) : Type 0 where
  pub arrives : (to : ℕ) (at : Place) (answer : ContAnswer) (entries : List ContEntry)
      → Arrives (message to at) to (AtContainer (cont_events.Changed at (MergeRow row) answer) entries)
  pub honest : (to : ℕ) (at : Place) (done : List RunLine) → (at ≡ place) ⊎ ((d : ℕ) × WasLeft done d place row at)
      → IsHonestMessage ring.secrets (replicas_in ring) done device (message to at)
  -- it may send them while this is known of its own
  pub carried : (to : ℕ) (at : Place) (a : Sight) (m : Machine) → a.alone ≡ true → StandsFor a m → own a → Carries a.nodes m device (message to at)
  -- which stays so, whatever comes of those to such devices and containers
  pub still : (to : ℕ) (at : Place) (a b : Sight) → may to at → ContMoves (IsIn to at) a b → own a → own b

module _ {ring : Ring} {device : ℕ} {place : Place} {row : Row} {message : ℕ → Place → Message} {own : Sight → Type 0} {may : ℕ → Place → Type 0}
    (sends : Sends ring device place row message own may) where
  abbrev Goes : (List RunLine → Type 0) → (List RunLine → Type 0) → Sight → Sight → Type 0
  Goes = GoesTelling ring.secrets (replicas_in ring)

  -- ---- one message

  -- it may go there
  abbrev IsFor : Place → List RunLine → Type 0
  IsFor at done = (at ≡ place) ⊎ ((d : ℕ) × WasLeft done d place row at)

  -- it went, and behind it came what was heard
  abbrev WasHeard : ℕ → Place → Result ContAnswer Lost → List RunLine → Type 0
  WasHeard to at r lines =
      (came : List RunLine) × (lines ≡ Went device (message to at) ∷ came)
      × EndsAsHeard {A = ContAnswer} {E = ContEntry} (λ given. cont_line to Sent (cont_events.Changed at (MergeRow row) given)) is_wanting_cont r came

  heard-came : (to : ℕ) (at : Place) (answer : ContAnswer) (came : List RunLine)
      → EndsAsHeard {A = ContAnswer} {E = ContEntry} (λ given. cont_line to Sent (cont_events.Changed at (MergeRow row) given)) is_wanting_cont (Ok answer) came
      → is_wanting_cont answer ≡ false → CameTo came to at (MergeRow row) answer
  heard-came to at answer came (inl is) heard = record {
    came = cont_line to Sent (cont_events.Changed at (MergeRow row) answer) is.1;
    entries = is.1;
    among = subst (λ (ls : List RunLine). Contains ls (Came (cont_line to Sent (cont_events.Changed at (MergeRow row) answer) is.1))) (sym is.2)
        (Contains-push is.0 (Came (cont_line to Sent (cont_events.Changed at (MergeRow row) answer) is.1)));
    device_is = refl;
    event_is = refl;
  }
  heard-came to at answer came (inr wants) heard = cc

  sent-goes : (to : ℕ) (at : Place) (a : Sight) (r : Result ContAnswer Lost) (b : Sight) → Calls (IsContMade Sent to at (MergeRow row)) a Sent r b → own a
      → Goes (IsFor at) (WasHeard to at r) a b
  sent-goes to at a r b call owns =
      let moves : ContMoves (IsIn to at) a b = change-moves Sent to at (MergeRow row) a r b call in
      record {
        goes = record {
          nodes = moves.nodes;
          alone = moves.alone;
          runs = λ alone m stands.
              let came = sends-on (container-changes to at (MergeRow row)) device (message to at) (sends.arrives to at) a r b call alone m stands
              (sends.carried to at a m (moves.alone alone) stands owns) in (
                Went device (message to at) ∷ came.0,
                λ done is. (
                  sends.honest to at done is,
                  leaving-honest ring.secrets (replicas_in ring) (done ++ Went device (message to at) ∷ []) came.0
                      (lines-leaving (λ given. cont_line to Sent (cont_events.Changed at (MergeRow row) given)) is_wanting_cont (λ given added. refl) came.0
                      came.1),
                ),
                (came.0, refl, came.2),
                came.3,
              );
        };
      }

  pub sent-owns : (to : ℕ) (at : Place) (a : Sight) (r : Result ContAnswer Lost) (b : Sight) → Calls (IsContMade Sent to at (MergeRow row)) a Sent r b
      → may to at → own a → own b
  sent-owns to at a r b call is owns = sends.still to at a b is (change-moves Sent to at (MergeRow row) a r b call) owns

  -- ---- a shard

  module _ (shard : Place) (mays : (to : ℕ) → may to shard) where
    abbrev IsLeftTo : List RunLine → Type 0
    IsLeftTo done = (d : ℕ) × WasLeft done d place row shard

    abbrev Took : List RunLine → ℕ → Type 0
    Took lines r = WasTaken lines r shard (MergeRow row)

    left-later : (done lines : List RunLine) → IsLeftTo done → IsLeftTo (done ++ lines)
    left-later done lines is = (is.0, came-more done (done ++ lines) (in-front done lines) is.0 place (MergeRow row) (answers.Redirect shard) is.1)

    -- where nothing was missed by then, nothing was before, and the replica took it
    took : (to : ℕ) (answer : Result ContAnswer Lost) (t : Sight) (missed : Bool) (o : Outcome) (d : Course) (p : Outcome) (on : Bool)
        → IsAnswered answer t missed o d p on → (lines : List RunLine) → WasHeard to shard answer lines → d.missed ≡ false → (missed ≡ false) × Took lines to
    took to (Ok answer) t missed o d p on (inl is) lines sent none =
        let came = heard-came to shard answer sent.0 sent.2 (made-wants (cont_ending answer) is.0) in (
          sym (ap (λ (x : Course). x.missed) is.1) ∙ none,
          (
            answer,
            subst (λ (ls : List RunLine). CameTo ls to shard (MergeRow row) answer) (sym sent.1)
                (came-more sent.0 _ (in-behind (Went device (message to shard) ∷ []) sent.0) to shard (MergeRow row) answer came),
            is.0,
          ),
        )
    took to (Ok answer) t missed o d p on (inr is) lines sent none = let never : true ≡ false = sym (ap (λ (x : Course). x.missed) is.1) ∙ none in cc
    took to (Err lost) t missed o d p on is lines sent none = let never : true ≡ false = sym (ap (λ (x : Course). x.missed) is.0) ∙ none in cc

    abbrev OneTook : Course → Course → ℕ → List RunLine → Type 0
    OneTook c d to lines = d.missed ≡ false → (c.missed ≡ false) × Took lines to

    sent-to-goes : (to : ℕ) (c : Course) (o : Outcome) (d : Course) (p : Outcome) (on : Bool) → own c.sight → IsSentTo shard row to c o d p on
        → Goes IsLeftTo (OneTook c d to) c.sight d.sight × own d.sight
    sent-to-goes to c o d p on owns is =
        subst (λ (x : Sight). Goes IsLeftTo (OneTook c d to) c.sight x × own x) (sym (answered-sight is.0 is.1 c.missed (sending o) d p on is.3)) (
          telling-as ring.secrets (replicas_in ring) c.sight is.1 (sent-goes to shard c.sight is.0 is.1 is.2 owns) (λ done left. inr left)
              (λ lines sent none. took to is.0 is.1 c.missed (sending o) d p on is.3 lines sent none),
          sent-owns to shard c.sight is.0 is.1 is.2 (mays to) owns,
        )

    abbrev EachTook : Course → Course → Bool → List ℕ → List RunLine → Type 0
    EachTook c d on devices lines = on ≡ true → d.missed ≡ false → (c.missed ≡ false) × All (Took lines) devices

    all-sent-go : (devices : List ℕ) (c : Course) (o : Outcome) (d : Course) (p : Outcome) (on : Bool) → own c.sight
        → InTurn (IsSentTo shard row) devices c o d p on → Goes IsLeftTo (EachTook c d on devices) c.sight d.sight × own d.sight
    all-sent-go [] c o d p on owns is =
        let same : d.sight ≡ c.sight = ap (λ (x : Course). x.sight) is.0 in (
          telling-as ring.secrets (replicas_in ring) c.sight d.sight (telling-same ring.secrets (replicas_in ring) c.sight d.sight same) (λ done left. left)
              (λ lines any goes none. (sym (ap (λ (x : Course). x.missed) is.0) ∙ none, All-nil (Took lines))),
          subst own (sym same) owns,
        )
    all-sent-go (to ∷ devices) c o d p on owns (inl went) =
        let one = sent-to-goes to c o went.0 went.1 true owns went.2 in
        let rest = all-sent-go devices went.0 went.1 d p on one.1 went.3 in (
          telling-then ring.secrets (replicas_in ring) c.sight (went.0).sight d.sight one.0 rest.0 (λ done lines left took. left-later done lines left)
              (λ xs ys first more goes none.
              let others = more goes none in
              let this = first others.0 in (
                this.0,
                All-cons (Took (xs ++ ys)) to devices (taken-more xs (xs ++ ys) (in-front xs ys) to shard (MergeRow row) this.1)
                    (All-weaker (Took ys) (Took (xs ++ ys)) (λ r is. taken-more ys (xs ++ ys) (in-behind xs ys) r shard (MergeRow row) is) devices others.1),
              )),
          rest.1,
        )
    all-sent-go (to ∷ devices) c o d p on owns (inr stopped) =
        let one = sent-to-goes to c o d p false owns stopped.0 in (
          telling-as ring.secrets (replicas_in ring) c.sight d.sight one.0 (λ done left. left)
              (λ lines is goes. let never : true ≡ false = sym goes ∙ stopped.1 in cc),
          one.1,
        )

    -- where nothing was missed, each replica of the shard took it
    abbrev ShardTook : Course → Bool → List RunLine → Type 0
    ShardTook d on lines = on ≡ true → d.missed ≡ false → AllTook ring.secrets (replicas_in ring) lines shard (MergeRow row)

    sent-on-goes : (s : Sight) (o : Outcome) (d : Course) (p : Outcome) (on : Bool) → own s → IsSentOn ring shard row s o d p on
        → Goes IsLeftTo (ShardTook d on) s d.sight × own d.sight
    sent-on-goes s o d p on owns (inl is) =
        let all = all-sent-go (replicas_in ring shard) (course s false) o d p on owns is.1 in (
          telling-as ring.secrets (replicas_in ring) s d.sight all.0 (λ done left. left)
              (λ lines each goes none r among. All-contains (Took lines) (replicas_in ring shard) r (each goes none).1 among),
          all.1,
        )
    sent-on-goes s o d p on owns (inr is) =
        let same : d.sight ≡ s = ap (λ (x : Course). x.sight) is.1 in (
          telling-as ring.secrets (replicas_in ring) s d.sight (telling-same ring.secrets (replicas_in ring) s d.sight same) (λ done left. left)
              (λ lines any goes none. let never : true ≡ false = sym (ap (λ (x : Course). x.missed) is.1) ∙ none in cc),
          subst own (sym same) owns,
        )

  -- ---- a message to the container itself, and what follows it

  -- it went, and behind that the row counts as acknowledged by the device
  abbrev pub IsTaken : ℕ → List RunLine → Type 0
  IsTaken to lines =
      (behind : List RunLine) × (lines ≡ Went device (message to place) ∷ behind) × IsAcknowledged ring.secrets (replicas_in ring) behind to place row

  -- where nothing was missed
  abbrev pub IsFollowed : ℕ → Course → Bool → List RunLine → Type 0
  IsFollowed to d on lines = on ≡ true → d.missed ≡ false → IsTaken to lines

  module _ (to : ℕ) (a : Sight) (r : Result ContAnswer Lost) (mid : Sight) (call : Calls (IsContMade Sent to place (MergeRow row)) a Sent r mid) (owns : own a)
    where
      -- whatever was heard of it
      pub unfollowed-goes : {so : List RunLine → Type 0} → Goes so (Any ring.secrets (replicas_in ring)) a mid
      unfollowed-goes = telling-as ring.secrets (replicas_in ring) a mid (sent-goes to place a r mid call owns) (λ done any. inl refl) (λ lines sent. tt)

      -- where it was made
      pub taken-goes : {so : List RunLine → Type 0} (answer : ContAnswer) → r ≡ Ok answer → has_made (cont_ending answer) ≡ true → Goes so (IsTaken to) a mid
      taken-goes answer is made =
          telling-as ring.secrets (replicas_in ring) a mid (sent-goes to place a r mid call owns) (λ done any. inl refl)
          (λ lines sent. by lines (subst (λ (x : Result ContAnswer Lost). WasHeard to place x lines) is sent))
        where
          by : (lines : List RunLine) → WasHeard to place (Ok answer) lines → IsTaken to lines
          by lines sent =
              (sent.0, sent.1, inl (answer, heard-came to place answer sent.0 sent.2 (made-wants (cont_ending answer) made), made))

      -- where it left the row to a shard, and it was sent on to that
      module _ (shard : Place) (is : r ≡ Ok (answers.Redirect shard)) (mays : (d : ℕ) → may d shard) where
        pub followed-goes : {so : List RunLine → Type 0} (still : may to place) (o : Outcome) (d : Course) (p : Outcome) (on : Bool)
            → IsSentOn ring shard row mid o d p on → Goes so (IsFollowed to d on) a d.sight × own d.sight
        followed-goes still o d p on more =
            let rest = sent-on-goes shard mays mid o d p on (sent-owns to place a r mid call still owns) more in (
              telling-then ring.secrets (replicas_in ring) a mid d.sight
                  (telling-as ring.secrets (replicas_in ring) a mid (sent-goes to place a r mid call owns) (λ done any. inl refl) left) rest.0
                  (λ done lines any heard. (to, came-more heard.0 (done ++ lines) (among done lines heard) to place (MergeRow row) _ heard.2)) join,
              rest.1,
            )
          where
            IsLeft : List RunLine → Type 0
            IsLeft lines = (behind : List RunLine) × (lines ≡ Went device (message to place) ∷ behind) × WasLeft behind to place row shard

            left : (lines : List RunLine) → WasHeard to place r lines → IsLeft lines
            left lines sent =
                let heard = subst (λ (x : Result ContAnswer Lost). WasHeard to place x lines) is sent in
                (heard.0, heard.1, heard-came to place (answers.Redirect shard) heard.0 heard.2 refl)

            among : (done lines : List RunLine) (heard : IsLeft lines) → AreIn heard.0 (done ++ lines)
            among done lines heard line is_in =
                in-behind done lines line
                (subst (λ (ls : List RunLine). Contains ls line) (sym heard.1) (in-behind (Went device (message to place) ∷ []) heard.0 line is_in))

            join : (xs ys : List RunLine) → IsLeft xs → ShardTook shard mays d on ys → IsFollowed to d on (xs ++ ys)
            join xs ys heard took goes none = (
              heard.0 ++ ys,
              ap (λ (ls : List RunLine). ls ++ ys) heard.1,
              inr (
                shard,
                came-more heard.0 (heard.0 ++ ys) (in-front heard.0 ys) to place (MergeRow row) (answers.Redirect shard) heard.2,
                all-took-more ring.secrets (replicas_in ring) ys (heard.0 ++ ys) (in-behind heard.0 ys) shard (MergeRow row) (took goes none),
              ),
            )

-- Runs that are honest behind lines of which something is so, and what is so of all lines behind them.
use Rattle.std.proofs.Common.{◌≡◌, ℕ, Bool, true, List, [], ◌∷◌, ◌++◌, refl, sym, subst, inl, inr, ◌⊎◌, Result, Ok, Err, append_assoc}
use Rattle.std.proofs.lemmas.List.{append-nil}
use Rattle.std.proofs.lemmas.List.Elements.{Contains-push}
use Rattle.std.specs.Prelude.{⊤, Contains, Option}
use Rattle.sw_container_steps.specs.Rules.{cont_ending}
use Rattle.sw_container_steps.specs.declared.cont_answer.ContAnswer.{ContAnswer}
use Rattle.sw_container_steps.specs.declared.cont_change.ContChange.{ContChange}
use Rattle.sw_container_steps.specs.declared.cont_entry.ContEntry.{ContEntry}
use Rattle.sw_hashpath.specs.declared.place.Place.{Place}
use Rattle.sw_hashpath.specs.declared.secrets.Secrets.{Secrets}
use Rattle.sw_keeper.specs.declared.tables.Tables.{Tables}
use Rattle.sw_machine.proofs.Doors.{container-changes}
use Rattle.sw_machine.proofs.Going.{going-joins, same-goes}
use Rattle.sw_machine.proofs.Honesty.{honest-append, leaving-honest}
use Rattle.sw_machine.specs.Doors.{AreLinesOf, EndsAsHeard, GoesOn, LooksGoOn, RunsOnLeaving, StandsFor, cont_line}
use Rattle.sw_machine.specs.Honest.{AreHonest, IsHonest, IsHonestChange, IsHonestMessage, RunsHonestly, WasTaken}
use Rattle.sw_machine.specs.Machine.{Came, Carries, Machine, RunLine, Went}
use Rattle.sw_machine.specs.Messages.{Arrives, Message}
use Rattle.sw_peer.proofs.Calls.{calls-moves, same-refl}
use Rattle.sw_peer.proofs.ContCalls.{look-step}
use Rattle.sw_peer.specs.ContSights.{ContMoves, IsContMade, IsIn, is_wanting_cont, is_wanting_look}
use Rattle.sw_peer.specs.Sights.{Calls, Sight}
use Rattle.sw_peer.specs.declared.cont_event.ContEvent.{ContEvent}
use Rattle.sw_peer.specs.declared.cont_event.ContEvent.TheVariants as cont_events
use Rattle.sw_peer.specs.declared.line.Event.TheVariants.{AtContainer}
use Rattle.sw_peer.specs.declared.line.Line.{Line}
use Rattle.sw_peer.specs.declared.link.Link.TheVariants.{Local, Sent}
use Rattle.sw_peer.specs.declared.link.Lost.{Lost}
use Rattle.sw_step.specs.Rules.{Damages, Ending, Fails, Makes, Overflows, Refuses, Wants, has_made, has_wanted}
use Rattle.sw_steps.proofs.Evidence.{Lasts, taken-remains}
use Rattle.sw_steps.proofs.GoingBy.{GoesBy, goes-as, goes-then, still-goes}
use Rattle.sw_steps.proofs.Holding.{Looks, change-moves}
use Rattle.sw_steps.proofs.Leaving.{sends-on}

-- what is so of lines that were done
abbrev pub Fact : Type 1
Fact = List RunLine → Type 0

-- nothing has to be so
abbrev pub Any : Fact
Any done = ⊤

abbrev pub Both : Fact → Fact → Fact
Both one other done = one done × other done

-- ---- what tells that a step was taken

-- what was made wanted no memory
pub made-wants : (ending : Ending) → has_made ending ≡ true → has_wanted ending ≡ true → ⊥
made-wants Makes made wants = cc
made-wants Refuses made wants = cc
made-wants Overflows made wants = cc
made-wants Fails made wants = cc
made-wants Wants made wants = cc
made-wants Damages made wants = cc

-- what was heard of a message: where its step was made, these lines tell that the container took it
abbrev pub TookAs : ℕ → Place → ContChange → Result ContAnswer Lost → Fact
TookAs to at change (Ok answer) lines = has_made (cont_ending answer) ≡ true → WasTaken lines to at change
TookAs to at change (Err lost) lines = ⊤

module _ (to : ℕ) (at : Place) (change : ContChange) where
  abbrev SentLine : ContAnswer → List ContEntry → Line
  SentLine given = cont_line to Sent (cont_events.Changed at change given)

  pub heard-took : (r : Result ContAnswer Lost) (lines : List RunLine) → EndsAsHeard SentLine is_wanting_cont r lines → TookAs to at change r lines
  heard-took (Ok answer) lines (inl is) = λ made. (
    answer,
    record {
      came = SentLine answer is.1;
      entries = is.1;
      among = subst (λ (ls : List RunLine). Contains ls (Came (SentLine answer is.1))) (sym is.2) (Contains-push is.0 (Came (SentLine answer is.1)));
      device_is = refl;
      event_is = refl;
    },
    made,
  )
  heard-took (Ok answer) lines (inr wants) = λ made. absurd (made-wants (cont_ending answer) made wants)
  heard-took (Err lost) lines ends = tt

-- ---- runs

module _ (secrets : Secrets) (replicas : Place → List ℕ) where
  -- a run that is honest behind lines of which the first is so, and behind it the second is so
  abbrev pub RunsFrom : Fact → Fact → Sight → Sight → Type 0
  RunsFrom so next s t =
      (m : Machine) → StandsFor s m
      → (lines : List RunLine) × ((done : List RunLine) → so done → AreHonest secrets replicas done lines × next (done ++ lines)) × GoesOn s m lines t

  abbrev pub GoesFrom : Fact → Fact → Sight → Sight → Type 0
  GoesFrom so next = GoesBy (RunsFrom so next)

  pub runs-join : (so mid next : Fact) (s t u : Sight) → RunsFrom so mid s t → RunsFrom mid next t u → RunsFrom so next s u
  runs-join so mid next s t u first second m stands =
      let one = first m stands in
      let two = second one.2.after one.2.stands in (
        one.0 ++ two.0,
        λ done is.
            let before = one.1 done is in
            let behind = two.1 (done ++ one.0) before.1 in (
              honest-append secrets replicas done one.0 two.0 before.0 behind.0,
              subst next (append_assoc done one.0 two.0) behind.1,
            ),
        (going-joins s m one.0 t two.0 u one.2 two.2).0,
      )

  pub from-join : (so mid next : Fact) (a b c : Sight) → GoesFrom so mid a b → GoesFrom mid next b c → GoesFrom so next a c
  from-join so mid next = goes-then (RunsFrom so mid) (RunsFrom mid next) (RunsFrom so next) (runs-join so mid next)

  runs-weaker : (more so next less : Fact) → ((done : List RunLine) → more done → so done) → ((done : List RunLine) → next done → less done)
      → (s t : Sight) → RunsFrom so next s t → RunsFrom more less s t
  runs-weaker more so next less before behind s t runs m stands =
      let one = runs m stands in (
        one.0,
        λ done is. let goes = one.1 done (before done is) in (goes.0, behind (done ++ one.0) goes.1),
        one.2,
      )

  -- where more is so before, or less is asked behind
  pub from-weaker : (more so next less : Fact) → ((done : List RunLine) → more done → so done) → ((done : List RunLine) → next done → less done)
      → (a b : Sight) → GoesFrom so next a b → GoesFrom more less a b
  from-weaker more so next less before behind = goes-as (RunsFrom so next) (RunsFrom more less) (runs-weaker more so next less before behind)

  -- where less is asked behind
  pub from-any : (so next : Fact) (a b : Sight) → GoesFrom so next a b → GoesFrom so Any a b
  from-any so next = from-weaker so so next Any (λ done is. is) (λ done is. tt)

  runs-beside : (also : Fact) → Lasts also → (so next : Fact) (s t : Sight) → RunsFrom so next s t → RunsFrom (Both also so) (Both also next) s t
  runs-beside also lasts so next s t runs m stands =
      let one = runs m stands in (
        one.0,
        λ done is. let goes = one.1 done is.1 in (goes.0, (lasts done one.0 is.0, goes.1)),
        one.2,
      )

  -- what lasts stays beside it
  pub from-beside : (also : Fact) → Lasts also → (so next : Fact) (a b : Sight) → GoesFrom so next a b → GoesFrom (Both also so) (Both also next) a b
  from-beside also lasts so next = goes-as (RunsFrom so next) (RunsFrom (Both also so) (Both also next)) (runs-beside also lasts so next)

  pub from-honestly : (so : Fact) (s t : Sight) → ((done : List RunLine) → so done) → RunsFrom so Any s t → RunsHonestly secrets replicas s t
  from-honestly so s t is runs m stands = let one = runs m stands in (one.0, λ done. (one.1 done (is done)).0, one.2)

  pub honestly-from : (so : Fact) (s t : Sight) → RunsHonestly secrets replicas s t → RunsFrom so Any s t
  honestly-from so s t runs m stands = let one = runs m stands in (one.0, λ done is. (one.1 done, tt), one.2)

  -- lines that leave records, points and ranges are honest behind all
  pub leaving-from : (so : Fact) → Lasts so → (s t : Sight) → RunsOnLeaving s t → RunsFrom so so s t
  leaving-from so lasts s t runs m stands =
      let one = runs m stands in (one.0, λ done is. (leaving-honest secrets replicas done one.0 one.1, lasts done one.0 is), one.2)

  runs-still : (so next : Fact) → ((done : List RunLine) → so done → next done) → (a : Sight) → RunsFrom so next a a
  runs-still so next keep a m stands =
      ([], λ done is. (tt, subst next (sym (append-nil done)) (keep done is)), (same-goes a m a stands (same-refl a)).0)

  pub from-same : (so next : Fact) → ((done : List RunLine) → so done → next done) → (a b : Sight) → b ≡ a → GoesFrom so next a b
  from-same so next keep = still-goes (RunsFrom so next) (runs-still so next keep)

  -- ---- calls at the device itself

  -- it goes on by one such line, or by none where that wanted memory
  one-from : {E : Type 0} (so next : Fact) (line : List E → Line) (wanting : Bool)
      → ((done : List RunLine) (added : List E) → so done → IsHonest secrets replicas done (Came (line added)) × next (done ++ Came (line added) ∷ []))
      → ((done : List RunLine) → wanting ≡ true → so done → next done) → (lines : List RunLine)
      → ((added : List E) × (lines ≡ Came (line added) ∷ [])) ⊎ ((wanting ≡ true) × (lines ≡ [])) → (done : List RunLine) → so done
      → AreHonest secrets replicas done lines × next (done ++ lines)
  one-from {E} so next line wanting one none lines (inl is) done so_done =
      let goes = one done is.0 so_done in
      subst (λ (ls : List RunLine). AreHonest secrets replicas done ls × next (done ++ ls)) (sym is.1) ((goes.0, tt), goes.1)
  one-from {E} so next line wanting one none lines (inr is) done so_done =
      subst (λ (ls : List RunLine). AreHonest secrets replicas done ls × next (done ++ ls)) (sym is.1)
      (tt, subst next (sym (append-nil done)) (none done is.0 so_done))

  module _ {A : Type 0} (device : ℕ) (place : Place) (reading : Option Tables → ℕ → Result A ContAnswer) (event : Result A ContAnswer → ContEvent) where
    -- a read of a container, which is honest
    pub looked-from : LooksGoOn device place reading event → (so next : Fact) (got : Result A ContAnswer)
        → ((done : List RunLine) (entries : List ContEntry) → so done
        → IsHonest secrets replicas done (Came (cont_line device Local (event got) entries))
        × next (done ++ Came (cont_line device Local (event got) entries) ∷ []))
        → ((done : List RunLine) → is_wanting_look got ≡ true → so done → next done) → (a b : Sight)
        → Calls (Looks device place reading event) a Local (Ok got) b → GoesFrom so next a b
    looked-from goes so next got one none a b call =
        let moves : ContMoves (IsIn device place) a b =
        calls-moves (ContMoves (IsIn device place)) (Looks device place reading event) (look-step Local device place reading event) a Local (Ok got) b call in
        record {
          nodes = moves.nodes;
          alone = moves.alone;
          runs = λ alone m stands.
              let came = goes.call a got b alone call m stands in
              (came.0, one-from so next (cont_line device Local (event got)) (is_wanting_look got) one none came.0 came.1, came.2);
        }

  -- a step at a container of the device itself, behind lines that let it be honest
  pub made-from : (device : ℕ) (place : Place) (change : ContChange) (so next : Fact)
      → ((done : List RunLine) → so done → IsHonestChange secrets replicas done device place change)
      → ((done lines : List RunLine) → so done → next (done ++ lines)) → (a : Sight) (answer : ContAnswer) (b : Sight)
      → Calls (IsContMade Local device place change) a Local (Ok answer) b → GoesFrom so next a b
  made-from device place change so next honest lasts a answer b call =
      let moves : ContMoves (IsIn device place) a b = change-moves Local device place change a (Ok answer) b call in
      record {
        nodes = moves.nodes;
        alone = moves.alone;
        runs = λ alone m stands.
            let came = (container-changes device place change).call a answer b alone call m stands in (
              came.0,
              one-from so next (cont_line device Local (cont_events.Changed place change answer)) (is_wanting_cont answer)
                  (λ done added is. (λ own. honest done is, lasts done (Came (cont_line device Local (cont_events.Changed place change answer) added) ∷ []) is))
                  (λ done wants is. subst next (append-nil done) (lasts done [] is)) came.0 came.1,
              came.2,
            );
      }

  -- ---- messages

  module _ (from to : ℕ) (at : Place) (change : ContChange) (message : Message) where
    -- what comes in a message is its sender's to be honest of
    sent-honest : (lines : List RunLine) → AreLinesOf (SentLine to at change) is_wanting_cont lines → (done : List RunLine)
        → AreHonest secrets replicas done lines
    sent-honest [] are done = tt
    sent-honest (Came one ∷ lines) are done =
        let line = are.0 in (
          subst (λ (l : Line). IsHonest secrets replicas done (Came l)) (sym line.2) (λ own. absurd (other own)),
          sent-honest lines are.1 (done ++ Came one ∷ []),
        )
      where
        other : Sent ≡ Local → ⊥
        other own = cc
    sent-honest (Went sender other ∷ lines) are done = absurd are

    -- a message goes that a device may send as things are, and that is honest; what is so behind it may rest on what was heard of it
    pub sent-from : ((answer : ContAnswer) (entries : List ContEntry) → Arrives message to (AtContainer (cont_events.Changed at change answer) entries))
        → (so next : Fact) → ((done : List RunLine) → so done → IsHonestMessage secrets replicas done from message) → (r : Result ContAnswer Lost)
        → ((done lines : List RunLine) → so done → TookAs to at change r lines → next (done ++ lines)) → (a b : Sight)
        → Calls (IsContMade Sent to at change) a Sent r b → (b.alone ≡ true → (m : Machine) → StandsFor a m → Carries a.nodes m from message)
        → GoesFrom so next a b
    sent-from arrives so next honest r took a b call carried =
        let moves : ContMoves (IsIn to at) a b = change-moves Sent to at change a r b call in
        record {
          nodes = moves.nodes;
          alone = moves.alone;
          runs = λ alone m stands.
              let went = sends-on (container-changes to at change) from message arrives a r b call alone m stands (carried alone m stands) in (
                Went from message ∷ went.0,
                λ done is. (
                  (honest done is, sent-honest went.0 went.1 (done ++ Went from message ∷ [])),
                  took done (Went from message ∷ went.0) is (behind-took r went.0 (heard-took to at change r went.0 went.2)),
                ),
                went.3,
              );
        }
      where
        behind-took : (heard : Result ContAnswer Lost) (lines : List RunLine) → TookAs to at change heard lines
            → TookAs to at change heard (Went from message ∷ lines)
        behind-took (Ok answer) lines is = λ made. taken-remains to at change (Went from message ∷ []) lines (is made)
        behind-took (Err lost) lines is = tt

-- What bears out a reply does so after a run too.
use Rattle.std.proofs.Common.{◌≡◌, ℕ, true, false, nat_eq, List, [], ◌∷◌, ◌++◌, Option, refl, sym, ◌∙◌, ap, subst, ◌⊎◌, inl, inr, true≢false}
use Rattle.std.proofs.lemmas.Bool.{cases_Bool, eqb-false, eqb-true}
use Rattle.sw_container_steps.proofs.Ruling.{are-rules as cont-rules}
use Rattle.sw_container_steps.specs.Entries.{is_same_place}
use Rattle.sw_container_steps.specs.declared.cont_answer.ContAnswer.{ContAnswer}
use Rattle.sw_container_steps.specs.declared.cont_change.ContChange.{ContChange}
use Rattle.sw_container_steps.specs.declared.cont_change.ContChange.TheVariants.{Create, Remove, MergeRow, MergeRows, SetRanges, Ack}
use Rattle.sw_container_steps.specs.declared.cont_change.ContChange.TheVariants.{CloseRange, EmptyOut, SetSync}
use Rattle.sw_container_steps.specs.declared.cont_entry.ContEntry.{ContEntry}
use Rattle.sw_hashpath.specs.declared.place.Place.{Place}
use Rattle.sw_keeper.specs.declared.tables.Tables.{Tables}
use Rattle.sw_machine.proofs.Runs.{hashes-stand, keeps-the-greatest, rows-are-merged}
use Rattle.sw_machine.specs.Machine.{Came, Comes, ContComes, ContMakes, ContSide, Machine, RunLine, Runs, Steps, Went, is_emptied, rows_among, writes_among}
use Rattle.sw_machine.specs.Sides.{SideRestarts, TellsAt}
use Rattle.sw_object_steps.specs.Journals.{Hash}
use Rattle.sw_object_steps.specs.declared.entry.ObjEntry.{ObjEntry}
use Rattle.sw_peer.specs.Sights.{Nodes, cont_lock}
use Rattle.sw_peer.specs.declared.cont_event.ContEvent.{ContEvent}
use Rattle.sw_peer.specs.declared.cont_event.ContEvent.TheVariants as cont_events
use Rattle.sw_peer.specs.declared.line.Event.{Event}
use Rattle.sw_peer.specs.declared.line.Event.TheVariants.{AtContainer, Changed, Listed, Read, ReadPart, Restarted}
use Rattle.sw_state.proofs.JoinLaws.{join_is_at_least}
use Rattle.sw_state.proofs.StateLaws.{joins_lists, state_of-writes_of}
use Rattle.sw_state.specs.States.{IsAtLeast, state_of, together, writes_of}
use Rattle.sw_state.specs.declared.state.State.{State}
use Rattle.sw_state.specs.declared.write.Write.{Write}
use Rattle.sw_reply_laws.proofs.Changing.{KeepsTimes, step-keeps, times-on, times-same}
use Rattle.sw_reply_laws.proofs.Greatest.{stands-on}
use Rattle.sw_reply_laws.proofs.Lateness.{bears-still}
use Rattle.sw_reply_laws.specs.Containers.{HasChange, IsLateFor}
use Rattle.sw_reply_laws.specs.Laws.{ChangesStandOn, WritesStandOn}

-- ---- objects

-- a state with more writes is at least it
more-is-at-least : (s : State) (ws : List Write) → IsAtLeast (state_of (writes_of s ++ ws)) s
more-is-at-least s ws =
    subst (λ (x : State). IsAtLeast x s)
    (ap (λ (x : State). together x (state_of ws)) (sym (state_of-writes_of s)) ∙ joins_lists (writes_of s) ws)
    (join_is_at_least s (state_of ws)).0

pub hash-grows : (nodes : Nodes) (m : Machine) (lines : List RunLine) (after : Machine) → Runs nodes m lines after → (device : ℕ) (hash : Hash)
    → TellsAt nodes.lock m.objects device hash
    → IsAtLeast (after.objects.half.holds device hash).state (m.objects.half.holds device hash).state
hash-grows nodes m lines after run device hash told =
    let goes = hashes-stand nodes m lines after run in
    subst (λ (x : State). IsAtLeast x (m.objects.half.holds device hash).state) (sym (goes.hash device hash told).stands)
    (more-is-at-least (m.objects.half.holds device hash).state (writes_among goes.more device hash))

pub writes-stand-on : WritesStandOn
writes-stand-on nodes m lines after run device hash told response w bears =
    bears-still (after.objects.half.holds device hash).state (m.objects.half.holds device hash).state
    (hash-grows nodes m lines after run device hash told) response w bears

-- ---- containers

module _ (nodes : Nodes) where
  abbrev Tells : ContSide → ℕ → Place → Type 0
  Tells m device place = TellsAt (cont_lock nodes) m device place

  abbrev Keep : ContSide → ContSide → Type 0
  Keep m after = (device : ℕ) (place : Place) → Tells m device place → KeepsTimes (m.half.holds device place) (after.half.holds device place)

  all-same : (m after : ContSide) → ((device : ℕ) (place : Place) → after.half.holds device place ≡ m.half.holds device place) → Keep m after
  all-same m after same device place told = times-same (m.half.holds device place) (after.half.holds device place) (same device place)

  side-same : (m after : ContSide) → after ≡ m → Keep m after
  side-same m after same = all-same m after (λ device place. ap (λ (x : ContSide). x.half.holds device place) same)

  made-keeps : (m : ContSide) (device : ℕ) (place : Place) (change : ContChange) (answer : ContAnswer) (added : List ContEntry) (after : ContSide)
      → ContMakes nodes m device place change answer added after → Keep m after
  made-keeps m device place change answer added after makes d other told = by (cases_Bool (nat_eq d device)) (cases_Bool (is_same_place other place))
    where
      Wanted : ℕ → Place → Type 0
      Wanted e p = Tells m e p → KeepsTimes (m.half.holds e p) (after.half.holds e p)

      here : Wanted device place
      here tells =
          subst (λ (x : Option Tables). KeepsTimes x (after.half.holds device place)) (makes.is_held place refl)
          (step-keeps true refl (m.half.seen (cont_lock nodes device place)) makes.held place change answer
          (after.half.seen (cont_lock nodes device place)) (after.half.holds device place) makes.step tells)

      away : ((d ≡ device) × (other ≡ place) → ⊥) → KeepsTimes (m.half.holds d other) (after.half.holds d other)
      away isnt = times-same (m.half.holds d other) (after.half.holds d other) (makes.moves.others refl d other isnt)

      by : (nat_eq d device ≡ true) ⊎ (nat_eq d device ≡ false) → (is_same_place other place ≡ true) ⊎ (is_same_place other place ≡ false)
          → KeepsTimes (m.half.holds d other) (after.half.holds d other)
      by (inl one) (inl two) =
          subst (λ (e : ℕ). Wanted e other) (sym (eqb-true d device one))
          (subst (λ (p : Place). Wanted device p) (sym (cont-rules.keys other place two)) here) told
      by (inr one) two = away (λ is. eqb-false d device one is.0)
      by (inl one) (inr two) = away (λ is. not-itself is.1)
        where
          not-itself : other ≡ place → ⊥
          not-itself is =
              let same : is_same_place other place ≡ true = subst (λ (p : Place). is_same_place other p ≡ true) is (cont-rules.itself other) in cc

  comes-keeps : (m : ContSide) (device : ℕ) (event : ContEvent) (added : List ContEntry) (after : ContSide) → ContComes nodes m device event added after
      → Keep m after
  comes-keeps m device (cont_events.Changed place change answer) added after step = made-keeps m device place change answer added after step
  comes-keeps m device (cont_events.Timed place got) added after step = all-same m after step.holds
  comes-keeps m device (cont_events.Informed place got) added after step = all-same m after step.holds
  comes-keeps m device (cont_events.Listed place query got) added after step = all-same m after step.holds
  comes-keeps m device (cont_events.Parceled place to got) added after step = all-same m after step.holds
  comes-keeps m device (cont_events.Sharded place got) added after step = all-same m after step.holds
  comes-keeps m device (cont_events.Cleft place range above got) added after step = all-same m after step.holds

  restart-keeps : (m : ContSide) (device : ℕ) (after : ContSide) → SideRestarts (cont_lock nodes) m device after → Keep m after
  restart-keeps m device after anew d place told = by (cases_Bool (nat_eq d device))
    where
      by : (nat_eq d device ≡ true) ⊎ (nat_eq d device ≡ false) → KeepsTimes (m.half.holds d place) (after.half.holds d place)
      by (inl here) =
          subst (λ (e : ℕ). Tells m e place → KeepsTimes (m.half.holds e place) (after.half.holds e place)) (sym (eqb-true d device here))
          (λ tells. times-same (m.half.holds device place) (after.half.holds device place) (anew.half.holds refl place tells)) told
      by (inr away) = times-same (m.half.holds d place) (after.half.holds d place) (anew.half.elsewhere refl d place (eqb-false d device away))

  event-keeps : (m : Machine) (device : ℕ) (event : Event) (added : List ObjEntry) (after : Machine) → Comes nodes m device event added after
      → Keep m.containers after.containers
  event-keeps m device (Changed name change answer) added after step = side-same m.containers after.containers step.1
  event-keeps m device (Read name got) added after step = side-same m.containers after.containers step.1
  event-keeps m device (ReadPart read) added after step = side-same m.containers after.containers step.1
  event-keeps m device (Listed failed) added after step = side-same m.containers after.containers step.1.1
  event-keeps m device (AtContainer event entries) added after step = comes-keeps m.containers device event entries after.containers step.1
  event-keeps m device Restarted added after step = restart-keeps m.containers device after.containers step.2

  line-keeps : (m : Machine) (line : RunLine) (after : Machine) → Steps nodes m line after → Keep m.containers after.containers
  line-keeps m (Came line) after step = event-keeps m line.device line.event line.added after step.1
  line-keeps m (Went from message) after step = side-same m.containers after.containers (ap (λ (x : Machine). x.containers) step.1)

  run-keeps : (m : Machine) (lines : List RunLine) (after : Machine) → Runs nodes m lines after → Keep m.containers after.containers
  run-keeps m [] after same = side-same m.containers after.containers (ap (λ (x : Machine). x.containers) same)
  run-keeps m (line ∷ lines) after run = λ device place told.
      let mid_told = (rows-are-merged nodes m (line ∷ []) run.0 (run.0, run.1, refl)).place device place told in
      times-on (m.containers.half.holds device place) ((run.0).containers.half.holds device place) (after.containers.half.holds device place)
      (line-keeps m line run.0 run.1 device place told) (run-keeps run.0 lines after run.2 device place mid_told.told)

pub changes-stand-on : ChangesStandOn
changes-stand-on nodes m lines after run device place told response change bears = record {
  made = λ is. has change (bears.made is);
  late = λ is. late change (bears.late is);
}
  where
    keeps : KeepsTimes (m.containers.half.holds device place) (after.containers.half.holds device place)
    keeps = run-keeps nodes m lines after run device place told

    -- what isn't taken away behind the run wasn't before it
    kept-before : is_emptied (after.containers.half.holds device place) ≡ false
        → (is_emptied (m.containers.half.holds device place) ≡ true) ⊎ (is_emptied (m.containers.half.holds device place) ≡ false)
        → is_emptied (m.containers.half.holds device place) ≡ false
    kept-before kept (inl gone) =
        absurd (true≢false (sym (((rows-are-merged nodes m lines after run).place device place told).emptied gone) ∙ kept))
    kept-before kept (inr isnt) = isnt

    has : (c : ContChange) → HasChange c (m.containers.half.holds device place) → HasChange c (after.containers.half.holds device place)
    has (Create time) since = keeps.put time since
    has (Remove time) since = keeps.deleted time since
    has (MergeRow row) stands = λ kept.
        let goes = rows-are-merged nodes m lines after run in
        stands-on row.name _ (rows_among goes.more device place) _ row
        (keeps-the-greatest nodes m lines after run goes.more goes.known device place told kept row.name)
        (stands (kept-before kept (cases_Bool (is_emptied (m.containers.half.holds device place)))))
    has (MergeRows rows) is = tt
    has (SetRanges ranges) is = tt
    has (Ack range by rowid) is = tt
    has (CloseRange range devices) is = tt
    has EmptyOut is = tt
    has (SetSync by rowid) is = tt

    late : (c : ContChange) → IsLateFor response c (m.containers.half.holds device place) → IsLateFor response c (after.containers.half.holds device place)
    late (Create time) is = (is.0, is.1, is.2, keeps.deleted is.0 is.3)
    late (Remove time) (inl full) = inl full
    late (Remove time) (inr is) = inr (is.0, is.1, is.2, keeps.put is.0 is.3)
    late (MergeRow row) is = absurd is
    late (MergeRows rows) is = absurd is
    late (SetRanges ranges) is = (is.0, keeps.split is.1)
    late (Ack range by rowid) is = absurd is
    late (CloseRange range devices) is = absurd is
    late EmptyOut is = absurd is
    late (SetSync by rowid) is = absurd is

-- Honest runs, one behind the other, and runs that leave records as they are.
use Rattle.std.proofs.Common.{◌≡◌, ℕ, true, List, [], ◌∷◌, ◌++◌, inl, sym, subst, append_assoc}
use Rattle.std.proofs.lemmas.List.{append-nil}
use Rattle.sw_container_steps.specs.declared.cont_change.ContChange.{ContChange}
use Rattle.sw_container_steps.specs.declared.cont_change.ContChange.TheVariants.{Ack, CloseRange, Create, EmptyOut, MergeRow, MergeRows, Remove}
use Rattle.sw_container_steps.specs.declared.cont_change.ContChange.TheVariants.{SetRanges, SetSync}
use Rattle.sw_hashpath.specs.declared.place.Place.{Place}
use Rattle.sw_hashpath.specs.declared.secrets.Secrets.{Secrets}
use Rattle.sw_machine.specs.Honest.{AreHonest, IsHonest, IsHonestChange, IsHonestEvent, IsHonestMessage, IsHonestStep, RunsHonestly}
use Rattle.sw_machine.proofs.Going.{going-joins, leaving-same}
use Rattle.sw_machine.specs.Doors.{IsDirect, LeaveRecords, LeavesRecords, RunsOn, RunsOnLeaving, leaves_points, leaves_records}
use Rattle.sw_machine.specs.Messages.{Creation_of, Message, Ranges_of, Row_of, Rows_of, Update_of, Write_of}
use Rattle.sw_machine.specs.Machine.{Came, RunLine, Went}
use Rattle.sw_object_steps.specs.Recorded.{is_write}
use Rattle.sw_object_steps.specs.declared.change.Change.{Change}
use Rattle.sw_object_steps.specs.declared.change.Change.TheVariants.{Delete, DropRecord, MarkRecord, Post, Put, Receive}
use Rattle.sw_peer.specs.Sights.{IsSame, Sight}
use Rattle.sw_peer.specs.declared.cont_event.ContEvent.TheVariants as cont_events
use Rattle.sw_peer.specs.declared.line.Event.{Event}
use Rattle.sw_peer.specs.declared.line.Event.TheVariants.{AtContainer, Changed, Listed, Read, ReadPart, Restarted}
use Rattle.sw_peer.specs.declared.link.Link.{Link}

module _ (secrets : Secrets) (replicas : Place → List ℕ) where
  pub honest-append : (done xs ys : List RunLine) → AreHonest secrets replicas done xs → AreHonest secrets replicas (done ++ xs) ys
      → AreHonest secrets replicas done (xs ++ ys)
  honest-append done [] ys are more = subst (λ (before : List RunLine). AreHonest secrets replicas before ys) (append-nil done) more
  honest-append done (line ∷ xs) ys are more = (
    are.0,
    honest-append (done ++ line ∷ []) xs ys are.1
        (subst (λ (before : List RunLine). AreHonest secrets replicas before ys) (sym (append_assoc done (line ∷ []) xs)) more),
  )

  pub honest-join : (s t u : Sight) → RunsHonestly secrets replicas s t → RunsHonestly secrets replicas t u → RunsHonestly secrets replicas s u
  honest-join s t u first next m stands =
      let one = first m stands in
      let two = next one.2.after one.2.stands in (
        one.0 ++ two.0,
        λ done. honest-append done one.0 two.0 (one.1 done) (two.1 (done ++ one.0)),
        (going-joins s m one.0 t two.0 u one.2 two.2).0,
      )

  step-honest : (done : List RunLine) (device : ℕ) (change : Change) → is_write change ≡ true → IsHonestStep secrets replicas done device change
  step-honest done device (Put time content none_match) is = tt
  step-honest done device (Post time heads) is = tt
  step-honest done device (Delete time if_delete_at) is = tt
  step-honest done device (Receive write) is = tt
  step-honest done device (MarkRecord filed to) is = cc
  step-honest done device (DropRecord filed all) is = cc

  change-honest : (done : List RunLine) (device : ℕ) (place : Place) (change : ContChange) → leaves_points change ≡ true
      → IsHonestChange secrets replicas done device place change
  change-honest done device place (Create time) is = tt
  change-honest done device place (Remove time) is = tt
  change-honest done device place (MergeRow row) is = tt
  change-honest done device place (MergeRows rows) is = tt
  change-honest done device place (SetRanges ranges) is = cc
  change-honest done device place (Ack range to rowid) is = cc
  change-honest done device place (CloseRange range devices) is = cc
  change-honest done device place EmptyOut is = tt
  change-honest done device place (SetSync to rowid) is = cc

  event-honest : (done : List RunLine) (link : Link) (device : ℕ) (event : Event) → leaves_records event ≡ true
      → IsHonestEvent secrets replicas done link device event
  event-honest done link device (Changed name change answer) is = step-honest done device change is
  event-honest done link device (Read name got) is = tt
  event-honest done link device (ReadPart read) is = tt
  event-honest done link device (Listed failed) is = tt
  event-honest done link device (AtContainer (cont_events.Changed place change answer) entries) is = λ own. change-honest done device place change is
  event-honest done link device (AtContainer (cont_events.Timed place got) entries) is = tt
  event-honest done link device (AtContainer (cont_events.Informed place got) entries) is = tt
  event-honest done link device (AtContainer (cont_events.Listed place query got) entries) is = tt
  event-honest done link device (AtContainer (cont_events.Parceled place to got) entries) is = tt
  event-honest done link device (AtContainer (cont_events.Sharded place got) entries) is = tt
  event-honest done link device (AtContainer (cont_events.Cleft place range above got) entries) is = tt
  event-honest done link device Restarted is = tt

  message-honest : (done : List RunLine) (from : ℕ) (message : Message) → IsDirect message → IsHonestMessage secrets replicas done from message
  message-honest done from (Write_of to name write) is = tt
  message-honest done from (Row_of to place at row) is = inl is
  message-honest done from (Rows_of to place at rows) is = inl is
  message-honest done from (Update_of to filed place at row) is = inl is
  message-honest done from (Creation_of to place time) is = tt
  message-honest done from (Ranges_of to place ranges) is = tt

  line-honest : (done : List RunLine) (line : RunLine) → LeavesRecords line → IsHonest secrets replicas done line
  line-honest done (Came line) leaves = event-honest done line.link line.device line.event leaves
  line-honest done (Went from message) leaves = message-honest done from message leaves

  pub leaving-honest : (done lines : List RunLine) → LeaveRecords lines → AreHonest secrets replicas done lines
  leaving-honest done [] leave = tt
  leaving-honest done (line ∷ lines) leave = (line-honest done line leave.0, leaving-honest (done ++ line ∷ []) lines leave.1)

  pub honest-leaving : (s t : Sight) → RunsOnLeaving s t → RunsHonestly secrets replicas s t
  honest-leaving s t runs m stands = let one = runs m stands in (one.0, λ done. leaving-honest done one.0 one.1, one.2)

  pub honest-runs : (s t : Sight) → RunsHonestly secrets replicas s t → RunsOn s t
  honest-runs s t runs m stands = let one = runs m stands in (one.0, one.2)

  pub honest-same : (s t : Sight) → IsSame s t → RunsHonestly secrets replicas s t
  honest-same s t same = honest-leaving s t (leaving-same s t same)

-- What the line of a step came to stands behind the run in which it came.
use Rattle.std.proofs.Common.{true, List, [], ◌∷◌, ◌++◌, refl, subst}
use Rattle.sw_machine.proofs.Runs.{hashes-stand, rows-are-merged}
use Rattle.sw_machine.specs.Machine.{Came, Comes, Machine, RunLine, Runs}
use Rattle.sw_machine.specs.Sides.{TellsAt}
use Rattle.sw_object_steps.specs.Steps.{write_of}
use Rattle.sw_peer.specs.Sights.{Nodes, cont_lock}
use Rattle.sw_peer.specs.declared.cont_event.ContEvent.TheVariants as cont_events
use Rattle.sw_peer.specs.declared.line.Event.{Event}
use Rattle.sw_peer.specs.declared.line.Event.TheVariants.{AtContainer, Changed}
use Rattle.sw_reply_laws.proofs.Changing.{bears as tables-bear}
use Rattle.sw_reply_laws.proofs.Making.{bears}
use Rattle.sw_reply_laws.proofs.Running.{changes-stand-on, writes-stand-on}
use Rattle.sw_reply_laws.specs.Laws.{LinesOfChangesStand, LinesOfWritesStand}

-- a run of two lists is one of the first and then one of the second
cut : (nodes : Nodes) (m : Machine) (xs ys : List RunLine) (after : Machine) → Runs nodes m (xs ++ ys) after
    → (mid : Machine) × Runs nodes m xs mid × Runs nodes mid ys after
cut nodes m [] ys after run = (m, refl, run)
cut nodes m (x ∷ xs) ys after run =
    let rest = cut nodes run.0 xs ys after run.2 in (rest.0, (run.0, run.1, rest.1), rest.2)

pub lines-of-writes-stand : LinesOfWritesStand
lines-of-writes-stand nodes m lines line more after run name change answer is writes told =
    writes-stand-on nodes next more after parts.2.2 line.device name.hash told_next _ (write_of change)
    (bears true refl (mid.objects.half.seen (nodes.lock line.device name.hash)) step.0.held name change writes answer
    (next.objects.half.seen (nodes.lock line.device name.hash)) (next.objects.half.holds line.device name.hash) step.0.step told_mid)
  where
    parts : (mid : Machine) × Runs nodes m lines mid × Runs nodes mid (Came line ∷ more) after
    parts = cut nodes m lines (Came line ∷ more) after run

    mid : Machine
    mid = parts.0

    next : Machine
    next = parts.2.0

    step : Comes nodes mid line.device (Changed name change answer) line.added next
    step = subst (λ (e : Event). Comes nodes mid line.device e line.added next) is parts.2.1.1

    told_mid : TellsAt nodes.lock mid.objects line.device name.hash
    told_mid = ((hashes-stand nodes m lines mid parts.1).hash line.device name.hash told).told

    told_next : TellsAt nodes.lock next.objects line.device name.hash
    told_next = ((hashes-stand nodes mid (Came line ∷ []) next (next, parts.2.1, refl)).hash line.device name.hash told_mid).told

pub lines-of-changes-stand : LinesOfChangesStand
lines-of-changes-stand nodes m lines line more after run place change answer entries is told =
    changes-stand-on nodes next more after parts.2.2 line.device place told_next _ change
    (tables-bear true refl (mid.containers.half.seen (cont_lock nodes line.device place)) step.1.held place change answer
    (next.containers.half.seen (cont_lock nodes line.device place)) (next.containers.half.holds line.device place) step.1.step told_mid)
  where
    parts : (mid : Machine) × Runs nodes m lines mid × Runs nodes mid (Came line ∷ more) after
    parts = cut nodes m lines (Came line ∷ more) after run

    mid : Machine
    mid = parts.0

    next : Machine
    next = parts.2.0

    step : Comes nodes mid line.device (AtContainer (cont_events.Changed place change answer) entries) line.added next
    step = subst (λ (e : Event). Comes nodes mid line.device e line.added next) is parts.2.1.1

    told_mid : TellsAt (cont_lock nodes) mid.containers line.device place
    told_mid = ((rows-are-merged nodes m lines mid parts.1).place line.device place told).told

    told_next : TellsAt (cont_lock nodes) next.containers line.device place
    told_next = ((rows-are-merged nodes mid (Came line ∷ []) next (next, parts.2.1, refl)).place line.device place told_mid).told

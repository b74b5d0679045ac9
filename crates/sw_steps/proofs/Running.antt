-- A push is a run of the machine, and leaves records as they are.
use Rattle.std.proofs.Common.{◌≡◌, ◌≢◌, ℕ, true, false, ◌∙◌, ap, Result, Ok, Err}
use Rattle.sw_machine.specs.Doors.{RunsOnLeaving}
use Rattle.sw_lossy.specs.Losses.{around, begun}
use Rattle.sw_lossy.specs.declared.acts.Acts.{Acts}
use Rattle.sw_outside.specs.declared.errors.NoMemory.{NoMemory}
use Rattle.sw_pass.specs.declared.outcome.Outcome.{Outcome}
use Rattle.sw_peer.specs.Sights.{Sight}
use Rattle.sw_replicator.proofs.Keeping.{run-keeps}
use Rattle.sw_replicator.specs.Meeting.{PairMoves}
use Rattle.sw_replicator.specs.Pushing.{IsPush}
use Rattle.sw_steps.proofs.Along.{run-goes}
use Rattle.sw_steps.proofs.Within.{leaving-within}
use Rattle.sw_steps.specs.Laws.{PushingRuns}
use Rattle.sw_steps.specs.Passing.{IsPushedOver}

-- at nodes that nobody else changes the run goes on by a push
push-runs : (from to part : ℕ) → from ≢ to → (s : Sight) (result : Result Outcome NoMemory) (t : Sight) → IsPush from to part s result t → t.alone ≡ true
    → RunsOnLeaving s t
push-runs from to part apart s (Ok outcome) t push = (run-goes from to part apart s t push.0 true push.1).runs
push-runs from to part apart s (Err wanting) t push = (run-goes from to part apart s t push.0 false push.1).runs

-- a door that begins a pass
pub begun-as : {D : Type 0} (sight : D → Sight) (old new : D) (acts now : Acts) (messages faults asks : ℕ) → new ≡ old → now ≡ acts → messages ≡ 0
    → faults ≡ 0 → asks ≡ 0 → around (sight new) now messages faults asks ≡ begun acts (sight old)
begun-as {D} sight old new acts now messages faults asks door are no_message no_fault none_asked =
    ap (λ (d : D). around (sight d) now messages faults asks) door
    ∙ (ap (λ (a : Acts). around (sight old) a messages faults asks) are
    ∙ (ap (λ (n : ℕ). around (sight old) acts n faults asks) no_message
    ∙ (ap (λ (n : ℕ). around (sight old) acts 0 n asks) no_fault ∙ ap (λ (n : ℕ). around (sight old) acts 0 0 n) none_asked)))

-- the nodes and the door around them after a push
abbrev pub sight_after : {from to part : ℕ} {acts : Acts} {s : Sight} {result : Result Outcome NoMemory} {t : Sight} →
    IsPushedOver from to part acts s result t → Sight
sight_after {t = t} over = around t over.acts_behind over.messages over.faults over.asks

pub pushing_runs : PushingRuns
pushing_runs from to part acts s result t over apart alone =
    leaving-within s t acts over.acts_behind 0 0 0 over.messages over.faults over.asks
    (push-runs from to part apart (begun acts s) result (sight_after over) over.pushes alone)

-- where it moves
pub over-moves : (from to part : ℕ) (acts : Acts) (s : Sight) (result : Result Outcome NoMemory) (t : Sight) (over : IsPushedOver from to part acts s result t)
    → PairMoves from to part (begun acts s) (sight_after over)
over-moves from to part acts s result t over = by result over.pushes
  where
    by : (r : Result Outcome NoMemory) → IsPush from to part (begun acts s) r (sight_after over)
        → PairMoves from to part (begun acts s) (sight_after over)
    by (Ok outcome) push = (run-keeps from to part (begun acts s) (sight_after over) push.0 true push.1).moves
    by (Err wanting) push = (run-keeps from to part (begun acts s) (sight_after over) push.0 false push.1).moves

pub over-nodes : (from to part : ℕ) (acts : Acts) (s : Sight) (result : Result Outcome NoMemory) (t : Sight) → IsPushedOver from to part acts s result t
    → t.nodes ≡ s.nodes
over-nodes from to part acts s result t over = (over-moves from to part acts s result t over).nodes

-- What a read of a container told, where its lock tells its contents.
use Rattle.std.proofs.Common.{◌≡◌, ℕ, List, length, Option, Result, Ok, refl, sym, ◌∙◌, ap}
use Rattle.sw_container_steps.specs.Rules.{cont_look}
use Rattle.sw_container_steps.specs.declared.cont_answer.ContAnswer.{ContAnswer}
use Rattle.sw_container_steps.specs.declared.cont_entry.ContEntry.{ContEntry}
use Rattle.sw_hashpath.specs.declared.place.Place.{Place}
use Rattle.sw_keeper.specs.declared.tables.Tables.{Tables}
use Rattle.sw_machine.specs.Machine.{ContReads, ContSide}
use Rattle.sw_machine.specs.Sides.{TellsAt}
use Rattle.sw_peer.specs.Sights.{Nodes, cont_lock}
use Rattle.sw_step.specs.Steps.{Tells}

-- what it got is what is told of what stands
pub read-told : {A : Type 0} (nodes : Nodes) (m : ContSide) (device : ℕ) (place : Place) (reading : Option Tables → ℕ → Result A ContAnswer)
    (got : Result A ContAnswer) (added : List ContEntry) (after : ContSide) → ContReads nodes m device place reading got added after
    → TellsAt (cont_lock nodes) m device place → (x : A) → got ≡ Ok x → (front : ℕ) × (Ok x ≡ reading (m.half.holds device place) front)
read-told {A} nodes m device place reading got added after reads told x is =
    let tells : cont_look got ≡ Tells = ap (λ (r : Result A ContAnswer). cont_look r) is in
    let stood : reads.step.read place ≡ m.half.holds device place =
    reads.step.held refl (reads.step.follows.told ∙ told) tells place refl ∙ (reads.is_held place refl ∙ reads.holds device place) in
    let front : ℕ = length (after.half.seen (cont_lock nodes device place)).journal.entries in
    (front, sym is ∙ (reads.step.shown tells ∙ ap (λ (t : Option Tables). reading t front) stood))

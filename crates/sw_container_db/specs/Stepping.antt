-- What a step at the containers of a lock is: one by the rules of containers. (This project's own.)
use Rattle.std.specs.Prelude.{◌≡◌, ◌≢◌, ℕ, Bool, true, List, ◌++◌, Option, Result}
use Rattle.sw_hashpath.specs.declared.place.Place.{Place}
use Rattle.sw_keeper.specs.declared.tables.Tables.{Tables}
use Rattle.sw_container_steps.specs.Rules.{ChangesContainer, ReadsContainer}
use Rattle.sw_container_steps.specs.declared.cont_answer.ContAnswer.{ContAnswer}
use Rattle.sw_container_steps.specs.declared.cont_change.ContChange.{ContChange}
use Rattle.sw_container_steps.specs.declared.cont_entry.ContEntry.{ContEntry}
use Rattle.sw_container_db.specs.ContDirs.{ContKept, cont_history_of}

module _ {K : Type 0} (tells : K → Bool) (holds : K → Place → Option Tables) (faults : K → ℕ) where
  -- what no step changes; and what it enters is kept to be taken
  pub record IsSameDir (k n : ContKept K) : Type 0 where
    pub began : n.began ≡ k.began
    pub told : tells n.keeper ≡ tells k.keeper
    pub fresh : (added : List ContEntry) → n.journal.entries ≡ k.journal.entries ++ added → n.fresh ≡ k.fresh ++ added

  -- a step that may change what stands at the place; at every other place is held what was held there
  pub record IsStep (k : ContKept K) (place : Place) (change : ContChange) (answer : ContAnswer) (n : ContKept K) : Type 0 where
    pub same : IsSameDir k n
    pub others : tells k.keeper ≡ true → (p : Place) → p ≢ place → holds n.keeper p ≡ holds k.keeper p
    pub made : ChangesContainer true (cont_history_of tells holds faults k) (holds k.keeper) place change answer (cont_history_of tells holds faults n)
        (holds n.keeper place)

  -- a step that reads what stands at the place; at every place is held what was held there
  pub record IsReadStep {A : Type 0} (k : ContKept K) (place : Place) (reading : Option Tables → ℕ → Result A ContAnswer) (got : Result A ContAnswer)
      (n : ContKept K) : Type 0 where
    pub same : IsSameDir k n
    pub all : tells k.keeper ≡ true → (p : Place) → holds n.keeper p ≡ holds k.keeper p
    pub read : ReadsContainer true (cont_history_of tells holds faults k) place reading got (cont_history_of tells holds faults n) (holds n.keeper)

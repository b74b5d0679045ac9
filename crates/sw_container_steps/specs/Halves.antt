-- One step at a container of a device, as what is known of all locks tells it. (This project's own.)
use Rattle.std.specs.Prelude.{ℕ, Bool, List, Option, Result}
use Rattle.sw_container_steps.specs.Rules.{ChangesUnder, ReadsUnder}
use Rattle.sw_container_steps.specs.declared.cont_answer.ContAnswer.{ContAnswer}
use Rattle.sw_container_steps.specs.declared.cont_change.ContChange.{ContChange}
use Rattle.sw_container_steps.specs.declared.cont_entry.ContEntry.{ContEntry}
use Rattle.sw_hashpath.specs.declared.place.Place.{Place}
use Rattle.sw_history.specs.Halves.{Half}
use Rattle.sw_keeper.specs.declared.tables.Tables.{Tables}

abbrev pub ContHalf : Type 0
ContHalf = Half Place (Option Tables) ContEntry (List ContEntry)

module _ (lock : ℕ → Place → ℕ) where
  -- a step that may change it, at the lock of its place
  abbrev pub ChangesAt : Bool → ℕ → Place → ContChange → ContHalf → ContAnswer → ContHalf → Type 0
  ChangesAt alone device place change old answer new =
      ChangesUnder (lock device) alone (old.seen (lock device place)) (old.holds device) place change answer (new.seen (lock device place))
      (new.holds device place)

  -- a step that reads it
  abbrev pub ReadsAt : {A : Type 0} → Bool → ℕ → Place → (Option Tables → ℕ → Result A ContAnswer) → ContHalf → Result A ContAnswer → ContHalf → Type 0
  ReadsAt alone device place reading old got new =
      ReadsUnder (lock device) alone (old.seen (lock device place)) place reading got (new.seen (lock device place)) (new.holds device)

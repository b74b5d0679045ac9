-- A step at a record has no entry of its own write.
use Rattle.std.proofs.Common.{◌≡◌, Bool, true, false, if◌then◌else◌, length, refl, ◌∙◌, ap}
use Rattle.sw_hashpath.specs.declared.name.Name.{Name}
use Rattle.sw_object_steps.specs.Histories.{ChangesObject}
use Rattle.sw_object_steps.specs.Journals.{Hash}
use Rattle.sw_object_steps.specs.Outlines.{outline_of}
use Rattle.sw_object_steps.specs.Recorded.{is_taken, is_write}
use Rattle.sw_object_steps.specs.Rules.{ObjHistory, Writes, obj_rules}
use Rattle.sw_object_steps.specs.Steps.{is_entered, made_answer}
use Rattle.sw_object_steps.specs.Values.{ObjValue}
use Rattle.sw_object_steps.specs.declared.answer.Answer.{Answer}
use Rattle.sw_object_steps.specs.declared.answer.Answer.TheVariants as answers
use Rattle.sw_object_steps.specs.declared.change.Change.{Change}
use Rattle.sw_object_steps.specs.Steps.{own_by}
use Rattle.sw_step.specs.Steps.{Answers, IsDone}

module _ (alone : Bool) (h : ObjHistory) (s : Hash → ObjValue) (name : Name) (change : Change) (answer : Answer) (g : ObjHistory) (t : ObjValue)
    (step : ChangesObject alone h s name change answer g t) (records : is_write change ≡ false) where
  -- one that is made is answered by what it took
  took : (a : Answer) → IsDone obj_rules step.read step.before.journal name.hash (Writes name change) a step.made g.journal → is_entered a ≡ false
  took a done =
      ap is_entered
      (done.answer_is
      ∙ ap (λ (b : Bool). if b then made_answer (outline_of step.read.state) change (length g.journal.entries)
      else answers.Took (is_taken step.read name.hash change)) records)

  entered : (a : Answer) (looked : Bool)
      → Answers obj_rules looked step.read step.before.journal name.hash (Writes name change) a step.made g.journal → is_entered a ≡ false
  entered (answers.Done front) true q = took (answers.Done front) q
  entered (answers.Buried front) true q = took (answers.Buried front) q
  entered (answers.Done front) false q = absurd q
  entered (answers.Buried front) false q = absurd q
  entered (answers.Took is) looked q = refl
  entered (answers.Conflict time) looked q = refl
  entered (answers.NotFound time) looked q = refl
  entered (answers.Mismatch second) looked q = refl
  entered answers.Exists looked q = refl
  entered answers.JournalFull looked q = refl
  entered (answers.Damaged bad) looked q = refl
  entered answers.Failed looked q = refl
  entered answers.NoMemory looked q = refl

  pub none-own : own_by answer ≡ 0
  none-own = ap (λ (b : Bool). if b then 1 else 0) (entered answer step.looked step.answered)

-- A step that marks a device at a record leaves the state that stands under the record's name.
use Rattle.std.proofs.Common.{◌≡◌, Bool, true, false, List, [], ◌∷◌, ◌++◌, refl, sym, ◌∙◌, ap, inl, inr, ◌⊎◌, ℕ}
use Rattle.sw_hashpath.specs.declared.name.Name.{Name}
use Rattle.sw_object_steps.proofs.RecordSteps.{marking-writes}
use Rattle.sw_object_steps.proofs.Recording.{state-kept, state-left}
use Rattle.sw_object_steps.specs.Histories.{ChangesObject}
use Rattle.sw_object_steps.specs.Journals.{Hash}
use Rattle.sw_object_steps.specs.Recorded.{doubts_write, found, marking_entries}
use Rattle.sw_object_steps.specs.Rules.{ObjHistory, ObjJournal, Writes, at_once, obj_ending, obj_rules}
use Rattle.sw_object_steps.specs.Values.{ObjValue}
use Rattle.sw_object_steps.specs.declared.answer.Answer.{Answer}
use Rattle.sw_object_steps.specs.declared.change.Change.TheVariants.{MarkRecord}
use Rattle.sw_object_steps.specs.declared.entry.ObjEntry.{ObjEntry}
use Rattle.sw_pending.specs.declared.filed.Filed.{Filed}
use Rattle.sw_step.specs.Journals.{flat}
use Rattle.sw_step.specs.Rules.{Damages, Ending, Fails, Makes, Overflows, Refuses, Wants}
use Rattle.sw_step.specs.Steps.{Answers, EndsSeen, EndsUnseen, Stops}

-- a step of one change at most stopped at that one
once-cut : (es : List ObjEntry) (first : List (List ObjEntry)) (here : List ObjEntry) (behind : List (List ObjEntry)) → at_once es ≡ first ++ here ∷ behind
    → (first ≡ []) × (here ≡ es)
once-cut [] [] here behind is = cc
once-cut [] (f ∷ first) here behind is = cc
once-cut (e ∷ es) [] here behind is = (refl, cc)
once-cut (e ∷ es) (f ∷ first) here behind is = absurd (none first cc)
  where
    none : (xs : List (List ObjEntry)) → [] ≡ xs ++ here ∷ behind → ⊥
    none [] never = cc
    none (x ∷ xs) never = cc

module _ (read : ObjValue) (j : ObjJournal) (name : Name) (filed : Filed) (to : ℕ) (answer : Answer) (made : List ObjEntry) (after : ObjJournal) where
  no-write : doubts_write (marking_entries name.hash (found read name.hash filed) to) ≡ false
  no-write = marking-writes name.hash (found read name.hash filed) to

  -- whatever was made of it has no write
  nothing : made ≡ [] → doubts_write made ≡ false
  nothing none = ap doubts_write none

  stopped : (failed : Bool) → Stops obj_rules failed read j name.hash (Writes name (MarkRecord filed to)) made after → doubts_write made ≡ false
  stopped failed st = by st.is_made
    where
      cut : (st.first ≡ []) × (st.here ≡ marking_entries name.hash (found read name.hash filed) to)
      cut = once-cut (marking_entries name.hash (found read name.hash filed) to) st.first st.here st.behind st.cut

      by : (made ≡ flat st.first) ⊎ ((st.doubted ≡ true) × (made ≡ flat st.first ++ st.here)) → doubts_write made ≡ false
      by (inl none) = nothing (none ∙ ap flat cut.0)
      by (inr so) =
          ap doubts_write (so.1 ∙ (ap (λ (x : List (List ObjEntry)). flat x ++ st.here) cut.0 ∙ cut.1)) ∙ no-write

  seen : (ending : Ending) → EndsSeen obj_rules ending read j name.hash (Writes name (MarkRecord filed to)) answer made after → doubts_write made ≡ false
  seen Makes d = ap doubts_write d.is_made ∙ no-write
  seen Refuses d = nothing d.leaves.not_made
  seen Overflows d = nothing d.leaves.not_made
  seen Fails st = stopped true st
  seen Wants st = stopped false st
  seen Damages never = absurd never

  unseen : (ending : Ending) → EndsUnseen obj_rules ending j made after → doubts_write made ≡ false
  unseen Fails l = nothing l.not_made
  unseen Wants l = nothing l.not_made
  unseen Damages l = nothing l.not_made
  unseen Makes never = absurd never
  unseen Refuses never = absurd never
  unseen Overflows never = absurd never

  mark-writes : (looked : Bool) → Answers obj_rules looked read j name.hash (Writes name (MarkRecord filed to)) answer made after → doubts_write made ≡ false
  mark-writes true answered = seen (obj_ending answer) answered
  mark-writes false answered = unseen (obj_ending answer) answered

-- where nobody else changes the device, and its lock tells its contents
pub mark-leaves : (alone : Bool) (h : ObjHistory) (s : Hash → ObjValue) (name : Name) (filed : Filed) (to : ℕ) (answer : Answer) (g : ObjHistory)
    (t : ObjValue) → ChangesObject alone h s name (MarkRecord filed to) answer g t → alone ≡ true → g.told ≡ true → t.state ≡ (s name.hash).state
mark-leaves alone h s name filed to answer g t step is told =
    ap (λ (v : ObjValue). v.state) (step.leaves is (sym step.after.told ∙ told))
    ∙ (state-left (s name.hash) step.made
    ∙ state-kept step.made (mark-writes step.read step.before.journal name filed to answer step.made g.journal step.looked step.answered) (s name.hash).state)

-- What a step at a container leaves, and what its answer says, where its lock tells its contents.
use Rattle.std.proofs.Common.{◌≡◌, ℕ, Bool, true, false, List, [], Option, None, Some, ◌⊎◌, inl, inr, refl, ◌∙◌, ap, subst}
use Rattle.std.specs.List.{fold}
use Rattle.sw_container_steps.proofs.Ruling.{made-whole}
use Rattle.sw_container_steps.specs.Entries.{entered}
use Rattle.sw_container_steps.specs.Laws.{left}
use Rattle.sw_container_steps.specs.Rules.{ContJournal, cont_ending, cont_rules}
use Rattle.sw_container_steps.specs.Steps.{cont_refusal, entries_for}
use Rattle.sw_container_steps.specs.declared.cont_answer.ContAnswer.{ContAnswer}
use Rattle.sw_container_steps.specs.declared.cont_change.ContChange.{ContChange}
use Rattle.sw_container_steps.specs.declared.cont_entry.ContEntry.{ContEntry}
use Rattle.sw_hashpath.specs.declared.place.Place.{Place}
use Rattle.sw_keeper.specs.declared.tables.Tables.{Tables}
use Rattle.sw_machine.specs.Machine.{ContMakes, ContSide}
use Rattle.sw_machine.specs.Sides.{TellsAt}
use Rattle.sw_peer.specs.Sights.{Nodes, cont_lock}
use Rattle.sw_step.specs.Rules.{Damages, Ending, Fails, Makes, Overflows, Refuses, Wants, has_made}
use Rattle.sw_step.specs.Steps.{Answers, EndsSeen, EndsUnseen}

-- nothing changed, and the answer doesn't say that it was made; or it wasn't refused, and all of it was made
abbrev pub Outcome : Option Tables → Place → ContChange → ContAnswer → Option Tables → Type 0
Outcome t place change answer after =
    ((has_made (cont_ending answer) ≡ false) × (after ≡ t)) ⊎ ((cont_refusal t place change ≡ None) × (after ≡ left t place change))

module _ (read : Option Tables) (j : ContJournal) (place : Place) (change : ContChange) (answer : ContAnswer) (made : List ContEntry) (after : ContJournal)
  where
    abbrev IsAll : Type 0
    IsAll = (cont_refusal read place change ≡ None) × (made ≡ entries_for read place change)

    abbrev WasSo : Bool → Type 0
    WasSo looked = ((has_made (cont_ending answer) ≡ false) × (made ≡ [])) ⊎ ((looked ≡ true) × IsAll)

    seen : (e : Ending) → cont_ending answer ≡ e → EndsSeen cont_rules e read j place change answer made after
        → (made ≡ []) ⊎ ((true ≡ true) × (made ≡ entries_for read place change)) → WasSo true
    seen Makes is so whole = inr (refl, (so.not_refused, so.is_made))
    seen Refuses is so whole = inl (ap has_made is, so.leaves.not_made)
    seen Overflows is so whole = inl (ap has_made is, so.leaves.not_made)
    seen Fails is so (inl none) = inl (ap has_made is, none)
    seen Fails is so (inr all) = inr (refl, (so.not_refused, all.1))
    seen Wants is so (inl none) = inl (ap has_made is, none)
    seen Wants is so (inr all) = inr (refl, (so.not_refused, all.1))
    seen Damages is so whole = absurd so

    unseen : (e : Ending) → cont_ending answer ≡ e → EndsUnseen cont_rules e j made after → WasSo false
    unseen Makes is so = absurd so
    unseen Refuses is so = absurd so
    unseen Overflows is so = absurd so
    unseen Fails is so = inl (ap has_made is, so.not_made)
    unseen Wants is so = inl (ap has_made is, so.not_made)
    unseen Damages is so = inl (ap has_made is, so.not_made)

    was-so : (looked : Bool) → Answers cont_rules looked read j place change answer made after → WasSo looked
    was-so true so = seen (cont_ending answer) refl so (made-whole true read j place change answer made after so)
    was-so false so = unseen (cont_ending answer) refl so

    was-refused : (looked : Bool) → Answers cont_rules looked read j place change answer made after → cont_ending answer ≡ Refuses
        → (looked ≡ true) × (cont_refusal read place change ≡ Some answer)
    was-refused true so is = (refl, (subst (λ (e : Ending). EndsSeen cont_rules e read j place change answer made after) is so).refused)
    was-refused false so is = absurd (subst (λ (e : Ending). EndsUnseen cont_rules e j made after) is so)

module _ (nodes : Nodes) (m : ContSide) (device : ℕ) (place : Place) (change : ContChange) (answer : ContAnswer) (added : List ContEntry) (after : ContSide)
    (makes : ContMakes nodes m device place change answer added after) (told : TellsAt (cont_lock nodes) m device place) where
  abbrev here : Option Tables
  here = m.half.holds device place

  told-before : makes.step.before.told ≡ true
  told-before = makes.step.follows.told ∙ told

  held : makes.held place ≡ here
  held = makes.is_held place refl

  read-is : makes.step.looked ≡ true → makes.step.read ≡ here
  read-is looked = makes.step.held refl told-before looked ∙ held

  leaves : after.half.holds device place ≡ fold entered here makes.step.made
  leaves = makes.step.leaves refl told-before ∙ ap (λ (t : Option Tables). fold entered t makes.step.made) held

  pub outcome : Outcome here place change answer (after.half.holds device place)
  outcome =
      by (was-so makes.step.read makes.step.before.journal place change answer makes.step.made (after.half.seen (cont_lock nodes device place)).journal
      makes.step.looked makes.step.answered)
    where
      by : WasSo makes.step.read makes.step.before.journal place change answer makes.step.made (after.half.seen (cont_lock nodes device place)).journal
          makes.step.looked
          → Outcome here place change answer (after.half.holds device place)
      by (inl none) = inl (none.0, leaves ∙ ap (λ (es : List ContEntry). fold entered here es) none.1)
      by (inr all) =
          let is = read-is all.0 in
          inr (
            subst (λ (t : Option Tables). cont_refusal t place change ≡ None) is all.1.0,
            leaves
                ∙ (ap (λ (es : List ContEntry). fold entered here es) all.1.1
                ∙ ap (λ (t : Option Tables). fold entered here (entries_for t place change)) is),
          )

  -- an answer that refuses is that of what stands
  pub refused : cont_ending answer ≡ Refuses → cont_refusal here place change ≡ Some answer
  refused is =
      let was = was-refused makes.step.read makes.step.before.journal place change answer makes.step.made
      (after.half.seen (cont_lock nodes device place)).journal makes.step.looked makes.step.answered is in
      subst (λ (t : Option Tables). cont_refusal t place change ≡ Some answer) (read-is was.0) was.1

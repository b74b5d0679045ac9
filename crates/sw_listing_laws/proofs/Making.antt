-- What was made of a step at an object: nothing, its entries, or its first changes.
use Rattle.std.proofs.Common.{◌≡◌, ℕ, Bool, true, false, List, [], ◌∷◌, ◌++◌, map, None, ◌⊎◌, inl, inr, refl, sym, ◌∙◌, ap, subst}
use Rattle.std.proofs.Common.{append_assoc}
use Rattle.std.proofs.lemmas.List.{append-nil}
use Rattle.std.specs.List.{fold}
use Rattle.sw_hashpath.specs.declared.name.Name.{Name}
use Rattle.sw_machine.specs.Machine.{ObjMakes, ObjSide, made_writes}
use Rattle.sw_machine.specs.Sides.{TellsAt}
use Rattle.sw_object_steps.specs.Journals.{Hash}
use Rattle.sw_object_steps.specs.Rules.{Writes, obj_applied, obj_rules}
use Rattle.sw_object_steps.specs.Values.{ObjValue}
use Rattle.sw_object_steps.specs.declared.answer.Answer.{Answer}
use Rattle.sw_object_steps.specs.declared.change.Change.{Change}
use Rattle.sw_object_steps.specs.declared.entry.ObjEntry.{ObjEntry}
use Rattle.sw_peer.specs.Sights.{Nodes}
use Rattle.sw_step.specs.Journals.{StepJournal, flat}
use Rattle.sw_step.specs.Rules.{Damages, Ending, Fails, Makes, Overflows, Refuses, RulesOf, Wants}
use Rattle.sw_step.specs.Steps.{Answers, EndsSeen, EndsUnseen, Stops}

flat-push : {E : Type 0} (first : List (List E)) (here : List E) → flat first ++ here ≡ flat (first ++ here ∷ [])
flat-push [] here = sym (append-nil here)
flat-push (x ∷ first) here = append_assoc x (flat first) here ∙ ap (λ es. x ++ es) (flat-push first here)

-- it is what the first of these changes enter
pub record IsFirst {E : Type 0} (changes : List (List E)) (made : List E) : Type 0 where
  pub first : List (List E)
  pub behind : List (List E)
  pub cut : changes ≡ first ++ behind
  pub made_is : made ≡ flat first

module _ {K V E C A : Type 0} (r : RulesOf K V E C A) where
  -- made over what was read, which doesn't refuse it
  pub record IsMadeOf (read : V) (key : K) (change : C) (made : List E) : Type 0 where
    pub allowed : r.refusal read key change ≡ None
    pub part : (made ≡ r.entries_for read key change) ⊎ IsFirst (r.changes_for read key change) made

  module _ (read : V) (j : StepJournal E) (key : K) (change : C) (answer : A) (made : List E) (after : StepJournal E) where
    abbrev Outcome : Bool → Type 0
    Outcome looked = (made ≡ []) ⊎ ((looked ≡ true) × IsMadeOf read key change made)

    stopped : (failed : Bool) → Stops r failed read j key change made after → Outcome true
    stopped failed st = by st.is_made
      where
        by : (made ≡ flat st.first) ⊎ ((st.doubted ≡ true) × (made ≡ flat st.first ++ st.here)) → Outcome true
        by (inl front) =
            inr (
              refl,
              record {
                allowed = st.not_refused;
                part = inr (record { first = st.first; behind = st.here ∷ st.behind; cut = st.cut; made_is = front });
              },
            )
        by (inr also) =
            inr (
              refl,
              record {
                allowed = st.not_refused;
                part = inr (record {
                  first = st.first ++ st.here ∷ [];
                  behind = st.behind;
                  cut = st.cut ∙ sym (append_assoc st.first (st.here ∷ []) st.behind);
                  made_is = also.1 ∙ flat-push st.first st.here;
                });
              },
            )

    seen : (ending : Ending) → EndsSeen r ending read j key change answer made after → Outcome true
    seen Makes d = inr (refl, record { allowed = d.not_refused; part = inl d.is_made })
    seen Refuses d = inl d.leaves.not_made
    seen Overflows d = inl d.leaves.not_made
    seen Fails st = stopped true st
    seen Wants st = stopped false st
    seen Damages d = absurd d

    unseen : (ending : Ending) → EndsUnseen r ending j made after → Outcome false
    unseen Makes d = absurd d
    unseen Refuses d = absurd d
    unseen Overflows d = absurd d
    unseen Fails leaves = inl leaves.not_made
    unseen Wants leaves = inl leaves.not_made
    unseen Damages leaves = inl leaves.not_made

    pub outcome : (looked : Bool) → Answers r looked read j key change answer made after → Outcome looked
    outcome true so = seen (r.ending answer) so
    outcome false so = unseen (r.ending answer) so

-- ---- at an object

-- the device's own value turned by what was made of a step, and no other one did
pub record Turns (m : ObjSide) (device : ℕ) (name : Name) (change : Change) (after : ObjSide) : Type 0 where
  pub made : List ObjEntry
  pub outcome : (made ≡ []) ⊎ IsMadeOf obj_rules (m.half.holds device name.hash) name.hash (Writes name change) made
  pub here : after.half.holds device name.hash ≡ fold obj_applied (m.half.holds device name.hash) made
  pub others : (d : ℕ) (hash : Hash) → ((d ≡ device) × (hash ≡ name.hash) → ⊥) → after.half.holds d hash ≡ m.half.holds d hash
  pub known : after.known ≡ m.known ++ map (λ n. (device, n)) (made_writes name made)

module _ (nodes : Nodes) (m : ObjSide) (device : ℕ) (name : Name) (change : Change) (answer : Answer) (added : List ObjEntry) (after : ObjSide)
    (makes : ObjMakes nodes m device name change answer added after) (tells : TellsAt nodes.lock m device name.hash) where
  v : ObjValue
  v = m.half.holds device name.hash

  told : makes.step.before.told ≡ true
  told = makes.step.follows.told ∙ tells

  held : makes.held name.hash ≡ m.half.holds device name.hash
  held = makes.is_held name.hash refl

  pub turns : Turns m device name change after
  turns = record {
    made = makes.step.made;
    outcome = by (outcome obj_rules makes.step.read makes.step.before.journal name.hash (Writes name change) answer makes.step.made
        (after.half.seen (nodes.lock device name.hash)).journal makes.step.looked makes.step.answered);
    here = makes.step.leaves refl told ∙ ap (λ (x : ObjValue). fold obj_applied x makes.step.made) held;
    others = λ d hash away. makes.moves.others refl d hash away;
    known = makes.known;
  }
    where
      by : (makes.step.made ≡ []) ⊎ ((makes.step.looked ≡ true) × IsMadeOf obj_rules makes.step.read name.hash (Writes name change) makes.step.made)
          → (makes.step.made ≡ []) ⊎ IsMadeOf obj_rules (m.half.holds device name.hash) name.hash (Writes name change) makes.step.made
      by (inl none) = inl none
      by (inr so) =
          inr (subst (λ (x : ObjValue). IsMadeOf obj_rules x name.hash (Writes name change) makes.step.made)
          (makes.step.held refl told so.0 ∙ held) so.1)
